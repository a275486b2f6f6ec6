use mir.Val.{bool_byte}
use Prim.Native.Nat.{ℕ, ◌+◌, ◌≤◌}
use mathlib.Core.Bool.{Bool, true, false, cond}
use mathlib.Core.Path.{◌≡◌, refl, sym, ap, ◌∙◌}
use native.Mathlib.Omega.{arith}
use lib.ListN.{get_or}
use Rattle.std.proofs.lemmas.List.{take_all}
use Rattle.lists.specs.Choose.{scan, counting}
use Rattle.lists.proofs.LoopLaws.{scan-more}
use Rattle.book.specs.Shape.{zero_entry}
use Rattle.board.specs.Board.{before_at, place_of}
use Rattle.board.proofs.place_of.Goals as goal

one-more : (b : Bool) (n : ℕ) → (n + bool_byte b ≡ cond b (n + 1) n) × (bool_byte b ≤ 1)
one-more true n = (refl, omega arith)
one-more false n = (omega arith, omega arith)

pub loop-j-init : goal.loop-j-init
unfolding scan
loop-j-init c = (refl, omega arith)

pub loop-j-preserved : goal.loop-j-preserved
loop-j-preserved c =
    let a = c.args in
    let test = before_at a.i (get_or a.all.now a.i zero_entry) in
    let more = one-more (test c.loop-j.j (get_or a.all.now c.loop-j.j zero_entry)) c.loop-j.place in
    let one : c.from-place.result ≡ bool_byte (test c.loop-j.j (get_or a.all.now c.loop-j.j zero_entry)) =
    c.from-place.ensures ∙ ap bool_byte c.is_before.ensures in (
      ap (λ (n : ℕ). c.loop-j.place + n) one ∙ more.0
          ∙ ap (λ (n : ℕ). counting test n c.loop-j.j (get_or a.all.now c.loop-j.j zero_entry)) c.loop-j.invariant.0
          ∙ sym (scan-more (counting test) 0 a.all.now c.loop-j.j zero_entry c.loop-j-test.true),
      omega (arith, one, more.1, c.loop-j.invariant.1),
    )

pub returns : goal.returns
unfolding place_of
returns c =
    c.loop-j.invariant.0
    ∙ ap (scan (counting (before_at c.args.i (get_or c.args.all.now c.args.i zero_entry))) 0 0) (take_all c.loop-j.j c.args.all.now c.loop-j-test.false)
