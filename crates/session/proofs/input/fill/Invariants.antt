use Rattle.std.proofs.Common.{◌-◌, ◌≤◌, ◌≡◌, length, take}
use Rattle.session.proofs.input.fill.Given as goal

abbrev pub invariant-loop-held : goal.invariant-loop-held
invariant-loop-held g l =
    (l.held ≤ length l.bytes)
    × (length l.bytes ≡ length l.initial.bytes)
    × (l.count ≤ l.held)
    × (take l.count l.bytes ≡ take l.count l.initial.bytes)

abbrev pub decreases-loop-held : goal.decreases-loop-held
decreases-loop-held g l = l.wanted - l.held
