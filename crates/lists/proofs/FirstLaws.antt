-- THE FIRST OF SEVERAL TESTS THAT HOLDS. Each has a number; where each decides what a claim says of its number, the number told is that of the first of which
-- the claim holds, exactly.
-- Assumes nothing.
use Prim.Native.Nat.{ℕ, ◌≤◌}
use mathlib.Core.Path.{◌≡◌, refl, sym, ap, subst}
use mathlib.Core.Bool.{Bool, true, false, cond, ◌&&◌, ◌||◌}
use mathlib.Core.List.{List, [], ◌∷◌, ◌++◌}
use native.Mathlib.Omega.{arith}
use lib.Dec.{eqb}
use borrow.Author.Tests.{eqb-true, eq-eqb}
use Rattle.lists.specs.Tests.{All, any, first_holding}
use Rattle.lists.proofs.Bools.{clash, and_left, and_right, and_both}

-- ---- the tests alone ----

-- it is 0 exactly when none holds
pub first-none : (ts : List (ℕ × Bool)) → All (λ (t : ℕ × Bool). 1 ≤ t.0) ts → first_holding ts ≡ 0 → All (λ (t : ℕ × Bool). t.1 ≡ false) ts
first-none [] n h = tt
first-none (t ∷ ts) n h = by t.1 refl h (λ k. first-none ts n.1 k)
  where
    by : (b : Bool) → t.1 ≡ b → cond b t.0 (first_holding ts) ≡ 0 → (first_holding ts ≡ 0 → All (λ (u : ℕ × Bool). u.1 ≡ false) ts)
        → (t.1 ≡ false) × All (λ (u : ℕ × Bool). u.1 ≡ false) ts
    by true q k more = absurd (omega (arith, n.0))
    by false q k more = (q, more k)

pub none_first : (ts : List (ℕ × Bool)) → All (λ (t : ℕ × Bool). t.1 ≡ false) ts → first_holding ts ≡ 0
none_first [] a = refl
none_first (t ∷ ts) a = rw a.0 (none_first ts a.1)

-- a number that none of the tests has is not that of the first
pub first-other : (ts : List (ℕ × Bool)) (n : ℕ) → All (λ (t : ℕ × Bool). t.0 ≡ n → ⊥) ts → (n ≡ 0 → ⊥) → first_holding ts ≡ n → ⊥
first-other [] n a z h = z (sym h)
first-other (t ∷ ts) n a z h = by t.1 h (first-other ts n a.1 z)
  where
    by : (b : Bool) → cond b t.0 (first_holding ts) ≡ n → (first_holding ts ≡ n → ⊥) → ⊥
    by true k more = a.0 k
    by false k more = more k

-- the first of a list and more behind it
pub first-front : (ts us : List (ℕ × Bool)) → (first_holding ts ≡ 0 → ⊥) → first_holding (ts ++ us) ≡ first_holding ts
first-front [] us h = absurd (h refl)
first-front (t ∷ ts) us h = by t.1 h (first-front ts us)
  where
    by : (b : Bool) → (cond b t.0 (first_holding ts) ≡ 0 → ⊥) → ((first_holding ts ≡ 0 → ⊥) → first_holding (ts ++ us) ≡ first_holding ts)
        → cond b t.0 (first_holding (ts ++ us)) ≡ cond b t.0 (first_holding ts)
    by true k more = refl
    by false k more = more k

pub first-behind : (ts us : List (ℕ × Bool)) → All (λ (t : ℕ × Bool). t.1 ≡ false) ts → first_holding (ts ++ us) ≡ first_holding us
first-behind [] us a = refl
first-behind (t ∷ ts) us a = rw a.0 (first-behind ts us a.1)

-- ---- tests that decide a claim ----

-- the answer is true exactly if the claim holds
abbrev pub Decides : Bool → Type 0 → Type 0
Decides b P = (b ≡ true → P) × (P → b ≡ true)

undecided : {P : Type 0} (b : Bool) → Decides b P → b ≡ false → P → ⊥
undecided b d q p = clash (d.1 p) q

refuted : {P : Type 0} (b : Bool) → Decides b P → (P → ⊥) → b ≡ false
refuted true d n = absurd (n (d.0 refl))
refuted false d n = refl

-- each test of a list decides what P says of its number
abbrev pub AllDecide : (ℕ → Type 0) → List (ℕ × Bool) → Type 0
AllDecide P ts = All (λ (t : ℕ × Bool). Decides t.1 (P t.0)) ts

-- the numbers of a list of tests, in their order; of a list of numbers those that stand before n
abbrev pub numbers : List (ℕ × Bool) → List ℕ
numbers [] = []
numbers (t ∷ ts) = t.0 ∷ numbers ts

abbrev pub earlier : ℕ → List ℕ → List ℕ
earlier n [] = []
earlier n (k ∷ ks) = cond (eqb n k) [] (k ∷ earlier n ks)

-- tests that are put only where b holds
abbrev pub only_if : Bool → List (ℕ × Bool) → List (ℕ × Bool)
only_if b [] = []
only_if b (t ∷ ts) = (t.0, b && t.1) ∷ only_if b ts

-- the first of them is the first where b holds, and else there is none
pub only-first : (b : Bool) (ts : List (ℕ × Bool)) → first_holding (only_if b ts) ≡ cond b (first_holding ts) 0
only-first true [] = refl
only-first false [] = refl
only-first true (t ∷ ts) = ap (cond t.1 t.0) (only-first true ts)
only-first false (t ∷ ts) = only-first false ts

-- decide what P says and that b holds, which is what Q says of the numbers of their sort
pub only-if-decides : (b : Bool) (P Q Sort : ℕ → Type 0) → ((n : ℕ) → b ≡ true → P n → Q n) → ((n : ℕ) → Sort n → Q n → (b ≡ true) × P n)
    → (ts : List (ℕ × Bool)) → All (λ (t : ℕ × Bool). Sort t.0) ts → AllDecide P ts → AllDecide Q (only_if b ts)
only-if-decides b P Q Sort to from [] sorts d = tt
only-if-decides b P Q Sort to from (t ∷ ts) sorts d = (
  (
    λ h. to t.0 (and_left b t.1 h) (d.0.0 (and_right b t.1 h)),
    λ q. let p = from t.0 sorts.0 q in and_both b t.1 p.0 (d.0.1 p.1),
  ),
  only-if-decides b P Q Sort to from ts sorts.1 d.1,
)

-- P holds of no number of a list
abbrev pub NoneOf : (ℕ → Type 0) → List ℕ → Type 0
NoneOf P ks = All (λ (k : ℕ). P k → ⊥) ks

-- N IS THE FIRST OF WHICH P HOLDS: it is one of the numbers, P holds of it, and of none before it
pub record FirstOf (P : ℕ → Type 0) (order : List ℕ) (n : ℕ) : Type 0 where
  pub among : any (eqb n) order ≡ true
  pub holds : P n
  pub none_before : NoneOf P (earlier n order)

-- A NUMBER TELLS THE FIRST: it is n, from 1 on, exactly if n is the first of which P holds, and 0 exactly if P holds of none
pub record TellsFirst (P : ℕ → Type 0) (order : List ℕ) (why : ℕ) : Type 0 where
  pub told : (n : ℕ) → 1 ≤ n → why ≡ n → FirstOf P order n
  pub tells : (n : ℕ) → FirstOf P order n → why ≡ n
  pub told_none : why ≡ 0 → NoneOf P order
  pub tells_none : NoneOf P order → why ≡ 0

module _ (P : ℕ → Type 0) where
  -- one more in front, of which P does not hold
  behind : (n k : ℕ) (ks : List ℕ) → (P k → ⊥) → FirstOf P ks n → FirstOf P (k ∷ ks) n
  unfolding any
  behind n k ks out f = record { among = listed (eqb n k) f.among; holds = f.holds; none_before = by (eqb n k) }
    where
      listed : (b : Bool) → any (eqb n) ks ≡ true → (b || any (eqb n) ks) ≡ true
      listed true h = refl
      listed false h = h

      by : (b : Bool) → NoneOf P (cond b [] (k ∷ earlier n ks))
      by true = tt
      by false = (out, f.none_before)

  told-first : (ts : List (ℕ × Bool)) → AllDecide P ts → (n : ℕ) → 1 ≤ n → first_holding ts ≡ n → FirstOf P (numbers ts) n
  unfolding any
  told-first [] d n some h = absurd (omega arith)
  told-first (t ∷ ts) d n some h = by t.1 refl h (λ k. told-first ts d.1 n some k)
    where
      by : (b : Bool) → t.1 ≡ b → cond b t.0 (first_holding ts) ≡ n → (first_holding ts ≡ n → FirstOf P (numbers ts) n) → FirstOf P (numbers (t ∷ ts)) n
      by true q k more = subst (FirstOf P (numbers (t ∷ ts))) k (record {
        among = rw (eq-eqb t.0 t.0 refl);
        holds = d.0.0 q;
        none_before = rw (eq-eqb t.0 t.0 refl) tt;
      })
      by false q k more = behind n t.0 (numbers ts) (undecided t.1 d.0 q) (more k)

  first-told : (ts : List (ℕ × Bool)) → AllDecide P ts → (n : ℕ) → FirstOf P (numbers ts) n → first_holding ts ≡ n
  unfolding any
  first-told [] d n f = clash f.among refl
  first-told (t ∷ ts) d n f = by (eqb n t.0) refl f.among f.none_before (λ g. first-told ts d.1 n g)
    where
      by : (b : Bool) → eqb n t.0 ≡ b → (b || any (eqb n) (numbers ts)) ≡ true → NoneOf P (cond b [] (t.0 ∷ earlier n (numbers ts)))
          → (FirstOf P (numbers ts) n → first_holding ts ≡ n) → cond t.1 t.0 (first_holding ts) ≡ n
      by true q a none more = let same : n ≡ t.0 = eqb-true n t.0 q in rw (d.0.1 (subst P same f.holds)) (sym same)
      by false q a none more = rw (refuted t.1 d.0 none.0) (more (record { among = a; holds = f.holds; none_before = none.1 }))

  -- no test holds exactly if P holds of no number
  none-holds : (ts : List (ℕ × Bool)) → AllDecide P ts → All (λ (t : ℕ × Bool). t.1 ≡ false) ts → NoneOf P (numbers ts)
  none-holds [] d a = tt
  none-holds (t ∷ ts) d a = (undecided t.1 d.0 a.0, none-holds ts d.1 a.1)

  holds-none : (ts : List (ℕ × Bool)) → AllDecide P ts → NoneOf P (numbers ts) → All (λ (t : ℕ × Bool). t.1 ≡ false) ts
  holds-none [] d a = tt
  holds-none (t ∷ ts) d a = (refuted t.1 d.0 a.0, holds-none ts d.1 a.1)

  -- THE FIRST TEST THAT HOLDS TELLS THE FIRST NUMBER OF WHICH P HOLDS
  pub tells_first : (ts : List (ℕ × Bool)) → AllDecide P ts → All (λ (t : ℕ × Bool). 1 ≤ t.0) ts → TellsFirst P (numbers ts) (first_holding ts)
  tells_first ts d some = record {
    told = told-first ts d;
    tells = first-told ts d;
    told_none = λ h. none-holds ts d (first-none ts some h);
    tells_none = λ a. none_first ts (holds-none ts d a);
  }
