use Prim.Native.Nat.{ℕ, min}
use mathlib.Core.Bool.{Bool, true, false}
use mathlib.Core.List.{List}
use mathlib.Core.Path.{◌≡◌, refl, sym, ap, ◌∙◌}
use native.Mathlib.Omega.{arith}
use borrow.Author.Tests.{leb-true, leb-false}
use lib.Dec.{leb}
use lib.ListN.{length, take}
use lib.Seq.{take_all}
use Rattle.book.specs.Shape.{entries_of}
use Rattle.book.specs.declared.Entry.{Entry}
use Rattle.board.proofs.resting.Goals as goal

all-there : (n k : ℕ) (l : List Entry) → k ≡ min n 64 → length l ≡ 64 → take k l ≡ take n l
all-there n k l e h = by (leb n 64) refl
  where
    by : (b : Bool) → leb n 64 ≡ b → take k l ≡ take n l
    by true q = ap (λ (m : ℕ). take m l) (omega (arith, e, leb-true n 64 q))
    by false q =
        take_all k l (omega (arith, e, h, leb-false n 64 q)) ∙ sym (take_all n l (omega (arith, h, leb-false n 64 q)))

pub returns : goal.returns
unfolding entries_of
returns c = record {
  few = omega (arith, c.min.ensures);
  places = omega (arith, c.min.ensures);
  are = all-there c.args.b.count c.min.result c.args.b.entries c.min.ensures (omega arith);
}
