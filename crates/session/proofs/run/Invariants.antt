use Rattle.std.proofs.Common.{◌-◌, ◌≤◌, ◌≡◌, length}
use Rattle.transcript.specs.Held.{most_messages}
use Rattle.session.proofs.run.Given as goal

abbrev pub invariant-loop-number : goal.invariant-loop-number
invariant-loop-number g l =
    (l.at ≤ l.held) × (l.held ≤ length l.input) × (length l.input ≡ length l.initial.input) × (length l.out ≡ length l.initial.out)

abbrev pub decreases-loop-number : goal.decreases-loop-number
decreases-loop-number g l = most_messages - l.number
