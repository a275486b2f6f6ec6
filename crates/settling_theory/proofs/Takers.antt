-- A quote whose kind minds the contra price, MMALO, is never the taker of a trade in settling: "Letting MMALO take while settling" is among the things that
-- students try and the code may not.
-- Assumes nothing.
use Prim.Native.Nat.{ℕ, ◌≤◌}
use mathlib.Core.Path.{◌≡◌, refl, sym, subst}
use mathlib.Core.Bool.{Bool, true, false}
use mathlib.Core.List.{List}
use native.Mathlib.Omega.{arith}
use lib.Dec.{eqb}
use borrow.Author.Tests.{eqb-true, eqb-false}
use Rattle.prices.specs.declared.Market.{Market}
use Rattle.kinds.specs.Kinds.{minds}
use Rattle.prices.proofs.QuoteLaws.{minding-rests}
use Rattle.lists.specs.Places.{At}
use Rattle.lists.specs.Tests.{All}
use Rattle.lists.proofs.Bools.{clash}
use Rattle.lists.proofs.PlaceLaws.{at_same}
use Rattle.lists.proofs.TestLaws.{all-at, all_of}
use Rattle.packing.specs.declared.report.Report.{Report}
use Rattle.book.specs.declared.Entry.{Entry}
use Rattle.book.specs.Look.{contra}
use Rattle.soundness_theory.proofs.Facts.{Sound}
use Rattle.soundness_theory.proofs.KeepLaws.{each_two}
use Rattle.telling.specs.Tell.{taker_of}
use Rattle.settling_theory.specs.Settle.{aims_in}
use Rattle.settling_theory.proofs.Shapes.{EaseStep, eased-at, StirStep, traded-at, moved_at}
use Rattle.settling_theory.proofs.Keeps.{Kept, all-kept}

-- two entries of one number are one entry
pub one_number : {m top : ℕ} {l : List Entry} → Sound m top l → (i j : ℕ) (x y : Entry) → At l i x → At l j y → x.number ≡ y.number → x ≡ y
one_number {l = l} so i j x y a b q = go (eqb i j) refl
  where
    go : (t : Bool) → eqb i j ≡ t → x ≡ y
    go true e = at_same l j x y (subst (λ (n : ℕ). At l n x) (eqb-true i j e) a) b
    go false e = absurd ((each_two so i j x y a b (eqb-false i j e)).other q)

-- an entry of that number minds the contra price, as an MMALO does
abbrev pub Minding : ℕ → Entry → Type 0
Minding n e = e.number ≡ n → minds e.kind ≡ true

pub minding-all : {m top : ℕ} {l : List Entry} → Sound m top l → (i : ℕ) (x : Entry) → At l i x → minds x.kind ≡ true → All (Minding x.number) l
minding-all {l = l} so i x at mi =
    all_of (Minding x.number) l (λ j z h q. subst (λ (y : Entry). minds y.kind ≡ true) (one_number so i j x z at h (sym q)) mi)

module _ (n : ℕ) (some : 1 ≤ n) where
  pub minding-kept : Kept (All (Minding n))
  minding-kept = all-kept (Minding n) (λ p e d h q. h q) (λ q e h z. h z)

  pub ease-spares : {k : Market} {l t : List Entry} {r : Report} → EaseStep k l r t → taker_of r ≡ n → ⊥
  ease-spares (eased-at c) e = omega (arith, some)

  pub stir-spares : {k : Market} {l t : List Entry} {r : Report} → All (Minding n) l → StirStep k l r t → taker_of r ≡ n → ⊥
  stir-spares {k} {l} a (traded-at {i = j} {e = e} c h b) q =
      clash h (minding-rests e.kind e.sell (contra e.sell l) (aims_in k l e) (all-at (Minding n) l j e a c.there q))
  stir-spares a (moved_at c h) q = omega (arith, some)
