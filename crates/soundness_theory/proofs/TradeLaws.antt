-- What a trade does to the list of entries: facts that do not go by quantity stay, and of two parties to a trade one at least is gone.
-- Assumes nothing.
use Prim.Native.Nat.{ℕ, zero, suc, ◌≤◌, ◌<◌, min}
use mathlib.Core.Path.{◌≡◌, refl}
use mathlib.Core.Bool.{Bool, true, false, cond}
use mathlib.Core.List.{List, [], ◌∷◌}
use mathlib.Core.Logic.{◌⊎◌, inl, inr}
use native.Mathlib.Omega.{arith}
use lib.Dec.{leb, ltb}
use lib.ListN.{length}
use borrow.Author.Tests.{leb-true, leb-false, le-leb, ltb-true, ltb-false}
use Rattle.lists.specs.Places.{At}
use Rattle.lists.specs.Tests.{All}
use Rattle.book.specs.declared.Entry.{Entry}
use Rattle.book.specs.Entries.{lessened}
use Rattle.book.specs.Change.{hit, hit_both}
use Rattle.book.proofs.ChangeLaws.{length-hit}

pub all-hit : (P : Entry → Type 0) (i q : ℕ) (l : List Entry) → ((x : Entry) → q < x.quantity → P x → P (lessened q x)) → All P l → All P (hit i q l)
unfolding hit
all-hit P i q [] f a = tt
all-hit P zero q (x ∷ l) f a = pick (leb x.quantity q) refl
  where
    pick : (b : Bool) → leb x.quantity q ≡ b → All P (cond b l (lessened q x ∷ l))
    pick true e = a.1
    pick false e = (f x (leb-false x.quantity q e) a.0, a.1)
all-hit P (suc i) q (x ∷ l) f a = (a.0, all-hit P i q l f a.1)

-- what each of the two orders of two hits has, both have
pub both-either : (P : List Entry → Type 0) (i j q : ℕ) (l : List Entry) → P (hit i q (hit j q l)) → P (hit j q (hit i q l)) → P (hit_both i j q l)
unfolding hit_both
both-either P i j q l a b = pick (ltb i j)
  where
    pick : (c : Bool) → P (cond c (hit i q (hit j q l)) (hit j q (hit i q l)))
    pick true = a
    pick false = b

pub all_both : (P : Entry → Type 0) (i j q : ℕ) (l : List Entry) → ((x : Entry) → q < x.quantity → P x → P (lessened q x)) → All P l → All P (hit_both i j q l)
all_both P i j q l f a = both-either (All P) i j q l (all-hit P i q (hit j q l) f (all-hit P j q l f a)) (all-hit P j q (hit i q l) f (all-hit P i q l f a))

-- an entry with no more than q contracts goes
pub hit-out : (i q : ℕ) (l : List Entry) (e : Entry) → At l i e → e.quantity ≤ q → length (hit i q l) < length l
unfolding hit
hit-out i q [] e h k = absurd h
hit-out zero q (x ∷ l) e h k = let n : x.quantity ≤ q = rw h k in rw (le-leb x.quantity q n) (omega arith)
hit-out (suc i) q (x ∷ l) e h k = omega (arith, hit-out i q l e h k)

-- a hit at a later place leaves the earlier ones
pub at-hit : (i j q : ℕ) (l : List Entry) (e : Entry) → i < j → At l i e → At (hit j q l) i e
unfolding hit
at-hit i j q [] e n h = h
at-hit i zero q (x ∷ l) e n h = absurd (omega arith)
at-hit zero (suc j) q (x ∷ l) e n h = h
at-hit (suc i) (suc j) q (x ∷ l) e n h = at-hit i j q l e (omega arith) h

hit-two : (i j q : ℕ) (l : List Entry) (x y : Entry) → i < j → At l i x → At l j y → (x.quantity ≤ q) ⊎ (y.quantity ≤ q)
    → length (hit i q (hit j q l)) < length l
hit-two i j q l x y n a b (inl h) = omega (arith, hit-out i q (hit j q l) x (at-hit i j q l x n a) h, (length-hit j q l).0)
hit-two i j q l x y n a b (inr h) = omega (arith, hit-out j q l y b h, (length-hit i q (hit j q l)).0)

-- A TRADE LEAVES FEWER ENTRIES
pub trade-shorter : (i j : ℕ) (l : List Entry) (x y : Entry) → At l i x → At l j y → (i ≡ j → ⊥)
    → length (hit_both i j (min x.quantity y.quantity) l) < length l
unfolding hit_both
trade-shorter i j l x y a b d = pick (ltb i j) refl
  where
    q : ℕ
    q = min x.quantity y.quantity

    spent : (c : Bool) → leb x.quantity y.quantity ≡ c
        → (x.quantity ≤ min x.quantity y.quantity) ⊎ (y.quantity ≤ min x.quantity y.quantity)
    spent true e = inl (omega (arith, leb-true x.quantity y.quantity e))
    spent false e = inr (omega (arith, leb-false x.quantity y.quantity e))

    spent' : (c : Bool) → leb x.quantity y.quantity ≡ c
        → (y.quantity ≤ min x.quantity y.quantity) ⊎ (x.quantity ≤ min x.quantity y.quantity)
    spent' true e = inr (omega (arith, leb-true x.quantity y.quantity e))
    spent' false e = inl (omega (arith, leb-false x.quantity y.quantity e))

    pick : (c : Bool) → ltb i j ≡ c → length (cond c (hit i q (hit j q l)) (hit j q (hit i q l))) < length l
    pick true e = hit-two i j q l x y (ltb-true i j e) a b (spent (leb x.quantity y.quantity) refl)
    pick false e = hit-two j i q l y x (omega (arith, ltb-false i j e, d)) b a (spent' (leb x.quantity y.quantity) refl)
