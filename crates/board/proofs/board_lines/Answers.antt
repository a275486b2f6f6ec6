use Prim.Native.Nat.{ℕ, ◌≤◌}
use mathlib.Core.List.{List}
use mathlib.Core.Path.{sym, subst, ◌∙◌}
use native.Mathlib.Omega.{arith}
use borrow.Author.Rules.{rules}
use lib.ListN.{length}
use lib.Seq.{length-take-le}
use Rattle.io.specs.Counts.{IsPrefixLen}
use Rattle.lines.proofs.BufferLaws.{put-length}
use Rattle.board.proofs.BoardLaws.{not-printed, printed-room, is-printed}
use Rattle.board.proofs.board_lines.Goals as goal

pub returns-then-not-is_roomy : goal.returns-then-not-is_roomy
returns-then-not-is_roomy c =
    let a = c.args in
    let both = not-printed c.resting-n.ensures a.out.now a.at a.number (sym c.is_roomy.ensures ∙ c.if-not-is_roomy.true) in
    record { value = both.0; out_after = both.1.0; prefix_len = both.1.1 }

pub put_entries-requires : goal.put_entries-requires
put_entries-requires c =
    let a = c.args in
    let r = c.resting-n.ensures in
    let n = length-take-le c.resting-n.result a.b.entries r.places in
    (omega (arith, n, r.few), omega (arith, n, printed-room r a.out.now a.at a.number (sym c.is_roomy.ensures ∙ c.if-not-is_roomy.false)))

pub returns : goal.returns
returns c =
    let a = c.args in
    let r = c.resting-n.ensures in
    let room = sym c.is_roomy.ensures ∙ c.if-not-is_roomy.false in
    let put = c.put_entries.new.text in
    let p = c.put_entries.ensures in
    let n = length-take-le c.resting-n.result a.b.entries r.places in
    let within : put.end ≤ length put.out.now = omega (arith, n, printed-room r a.out.now a.at a.number room, p.upper_bound, put-length p.puts.put) in
    let both = is-printed r a.out.now a.at a.number room (rw r.are at p.puts.put) within in
    record {
      value = both.0;
      out_after = rw (← both.1.0) (search rules);
      prefix_len = (subst (λ (l : List ℕ). IsPrefixLen put.end l) (search rules) both.1.1.0, both.1.1.1);
    }
