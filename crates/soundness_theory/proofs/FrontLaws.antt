-- The price that a side faces in the book, in its frame: what document 01 calls C is the nearest of the contra side's working prices, and to be clear of every
-- entry is to be short of it.
-- Assumes nothing.
use Prim.Native.Nat.{ℕ, zero, suc, ◌≤◌, ◌<◌, min}
use mathlib.Core.Path.{◌≡◌, refl, subst, ap, ◌∙◌}
use mathlib.Core.Bool.{Bool, true, false, cond, not, beq}
use mathlib.Core.List.{List, [], ◌∷◌, ◌++◌}
use mathlib.Core.Logic.{inl, inr}
use native.Mathlib.Omega.{arith}
use lib.Dec.{eqb}
use borrow.Author.Tests.{eqb-true}
use Rattle.prices.proofs.FrameLaws.{seen, seen-high}
use Rattle.prices.proofs.StepLaws.{Legal, LegalIfAny, if-any-none, given-legal, present}
use Rattle.prices.proofs.AimLaws.{unbound, faced}
use Rattle.lists.specs.Places.{At, without, requeue}
use Rattle.lists.specs.Tests.{All}
use Rattle.lists.proofs.Bools.{clash, and_left, and_both}
use Rattle.lists.proofs.TestLaws.{all_map, all-at, all_of}
use Rattle.book.specs.declared.Entry.{Entry}
use Rattle.book.specs.Entries.{against}
use Rattle.book.specs.Look.{cost, working, nearest, contra}
use Rattle.book.proofs.OfferLaws.{AsGood, best_none, positive}
use Rattle.book.proofs.LookLaws.{BestContra, Offered, OnOffer, nearest-tells, contra-price-tells}
use Rattle.soundness_theory.proofs.Facts.{EntryFacts, Clear, Sound}

-- ---- the nearest price, of whatever kind ----

-- the nearest of prices that are none or legal is one
pub if-any-nearest : {m : ℕ} (price : Entry → ℕ) (s : Bool) (q : ℕ) (l : List Entry) → LegalIfAny m q → All (λ (e : Entry). LegalIfAny m (price e)) l
    → LegalIfAny m (nearest price s q l)
if-any-nearest {m} price s q l g a = record { legal = λ e. by e ((nearest-tells price s q l).some (positive (nearest price s q l) e)) }
  where
    by : eqb (nearest price s q l) 0 ≡ false → OnOffer price s q l (nearest price s q l) → Legal m (nearest price s q l)
    by e (inl h) = (subst (LegalIfAny m) h.0 g).legal e
    by e (inr o) = (subst (LegalIfAny m) o.asks (all-at (λ (z : Entry). LegalIfAny m (price z)) l o.place o.entry a o.there)).legal e

-- ---- the nearest working price, with no scan in it ----

abbrev pub closer : Bool → ℕ → ℕ → ℕ
closer false p q = q
closer true p q = min p q

abbrev pub front : Bool → List Entry → ℕ
front s [] = unbound
front s (e ∷ l) = closer (against s e) (seen s e.working) (front s l)

pub front-high : (s : Bool) (l : List Entry) → front s l ≤ unbound
front-high s [] = omega arith
front-high s (e ∷ l) = more (against s e) (front-high s l)
  where
    more : (b : Bool) → front s l ≤ unbound → closer b (seen s e.working) (front s l) ≤ unbound
    more true h = omega arith
    more false h = h

front_below : (s : Bool) (l : List Entry) (i : ℕ) (y : Entry) → At l i y → against s y ≡ true → front s l ≤ seen s y.working
front_below s [] i y h a = absurd h
front_below s (x ∷ l) zero y h a =
    subst (λ (z : Entry). closer (against s x) (seen s x.working) (front s l) ≤ seen s z.working) h (low (against s x) (ap (against s) h ∙ a))
  where
    low : (b : Bool) → b ≡ true → closer b (seen s x.working) (front s l) ≤ seen s x.working
    low true e = omega arith
    low false e = clash e refl
front_below s (x ∷ l) (suc i) y h a = more (against s x) (front_below s l i y h a)
  where
    more : (b : Bool) → front s l ≤ seen s y.working → closer b (seen s x.working) (front s l) ≤ seen s y.working
    more true k = omega arith
    more false k = k

front_above : (s : Bool) (n : ℕ) (l : List Entry) → n ≤ unbound → All (λ (z : Entry). against s z ≡ true → n ≤ seen s z.working) l → n ≤ front s l
front_above s n [] h a = h
front_above s n (x ∷ l) h a = more (against s x) refl (front_above s n l h a.1)
  where
    more : (b : Bool) → against s x ≡ b → n ≤ front s l → n ≤ closer b (seen s x.working) (front s l)
    more true e k = omega (arith, a.0 e)
    more false e k = k

pub seen-good : (s : Bool) (p q : ℕ) → AsGood s p q → seen s p ≤ seen s q
unfolding seen
seen-good false p q h = h
seen-good true p q h = omega arith

module _ {m top : ℕ} {l : List Entry} (s : Bool) (so : Sound m top l) where
  -- C IS THE NEAREST
  pub front-is : faced s (contra s l) ≡ front s l
  unfolding faced
  front-is = go (eqb (contra s l) 0) refl
    where
      works : (k : ℕ) (z : Entry) → At l k z → Legal m z.working
      works k z h = (all-at (EntryFacts m top) l k z so.entries h).works

      offers : (k : ℕ) (z : Entry) → At l k z → against s z ≡ true → Offered working s l z.working
      offers k z h f = record { place = k; entry = z; there = h; faces = f; asks = refl; some = positive z.working (present so.step (works k z h)) }

      go : (b : Bool) → eqb (contra s l) 0 ≡ b → cond b unbound (seen s (contra s l)) ≡ front s l
      go true e =
          let nobody : All (λ (z : Entry). against s z ≡ true → unbound ≤ seen s z.working) l =
          all_of (λ (z : Entry). against s z ≡ true → unbound ≤ seen s z.working) l
          (λ k z h f. absurd ((contra-price-tells s l).none (eqb-true (contra s l) 0 e) z.working (offers k z h f))) in
          omega (arith, front-high s l, front_above s unbound l (omega arith) nobody)
      go false e =
          let o = (contra-price-tells s l).some (positive (contra s l) e) in
          omega (
            arith,
            ap (seen s) o.asks,
            front_below s l o.place o.entry o.there o.faces,
            front_above s (seen s (contra s l)) l
                (omega (arith, seen-high s (contra s l) (omega (arith, o.asks, (works o.place o.entry o.there).high))))
                (all_of (λ (z : Entry). against s z ≡ true → seen s (contra s l) ≤ seen s z.working) l
                (λ k z h f. seen-good s (contra s l) z.working ((contra-price-tells s l).best z.working (offers k z h f)))),
          )

  pub if-any-contra : LegalIfAny m (contra s l)
  if-any-contra = if-any-nearest working s 0 l if-any-none (all_map (λ e f. given-legal f.works) l so.entries)

-- nobody faces the side: there is no C
pub no-contra : (s : Bool) (l : List Entry) → All (λ (e : Entry). against s e ≡ false) l → contra s l ≡ 0
no-contra s l a =
    best_none (contra-price-tells s l) (λ q o. clash o.faces (all-at (λ (e : Entry). against s e ≡ false) l o.place o.entry a o.there))

-- ---- clear of all is short of the nearest ----

pub clear-front : (x : Entry) (l : List Entry) → seen x.sell x.working < unbound → All (Clear x) l → seen x.sell x.working < front x.sell l
clear-front x [] n a = n
clear-front x (y ∷ l) n a = more (against x.sell y) refl (clear-front x l n a.1)
  where
    more : (b : Bool) → against x.sell y ≡ b → seen x.sell x.working < front x.sell l
        → seen x.sell x.working < closer b (seen x.sell y.working) (front x.sell l)
    more true e h = omega (arith, a.0.clear e)
    more false e h = h

pub front-clear : (x : Entry) (l : List Entry) → seen x.sell x.working < front x.sell l → All (Clear x) l
front-clear x [] h = tt
front-clear x (y ∷ l) h = (record { clear = λ f. one (against x.sell y) f h }, front-clear x l (rest (against x.sell y) h))
  where
    one : (b : Bool) → b ≡ true → seen x.sell x.working < closer b (seen x.sell y.working) (front x.sell l)
        → seen x.sell x.working < seen x.sell y.working
    one true e k = omega arith
    one false e k = clash e refl

    rest : (b : Bool) → seen x.sell x.working < closer b (seen x.sell y.working) (front x.sell l)
        → seen x.sell x.working < front x.sell l
    rest true k = omega arith
    rest false k = k

-- ---- changes of the book ----

pub front-snoc : (s : Bool) (l : List Entry) (e : Entry) → seen s e.working ≤ unbound
    → front s (l ++ (e ∷ [])) ≡ closer (against s e) (seen s e.working) (front s l)
front-snoc s [] e h = refl
front-snoc s (x ∷ l) e h = ap (closer (against s x) (seen s x.working)) (front-snoc s l e h) ∙ swap (against s x) (against s e)
  where
    swap : (a b : Bool) → closer a (seen s x.working) (closer b (seen s e.working) (front s l))
        ≡ closer b (seen s e.working) (closer a (seen s x.working) (front s l))
    swap true true = omega arith
    swap true false = refl
    swap false true = refl
    swap false false = refl

closer-le : (a b : Bool) (p' p f : ℕ) → a ≡ b → (b ≡ true → p' ≤ p) → closer a p' f ≤ closer b p f
closer-le true true p' p f e c = omega (arith, c refl)
closer-le true false p' p f e c = clash refl e
closer-le false true p' p f e c = clash e refl
closer-le false false p' p f e c = omega arith

-- an entry that comes closer, at whatever rank, brings what is faced no further off
pub front-requeue : (s : Bool) (i : ℕ) (l : List Entry) (e e' : Entry) → At l i e → e'.sell ≡ e.sell → seen s e'.working ≤ unbound
    → (against s e ≡ true → seen s e'.working ≤ seen s e.working) → front s (requeue i e' l) ≤ front s l
unfolding without
front-requeue s i [] e e' h q n c = absurd h
front-requeue s zero (x ∷ l) e e' h q n c =
    rw (front-snoc s l e' n, ap (against s) h, ap Entry.working h)
    (closer-le (against s e') (against s e) (seen s e'.working) (seen s e.working) (front s l) (ap (λ (t : Bool). beq t (not s)) q) c)
front-requeue s (suc i) (x ∷ l) e e' h q n c = more (against s x) (front-requeue s i l e e' h q n c)
  where
    more : (b : Bool) → front s (requeue i e' l) ≤ front s l
        → closer b (seen s x.working) (front s (requeue i e' l)) ≤ closer b (seen s x.working) (front s l)
    more true k = omega arith
    more false k = k

-- ---- who trades first stands at the nearest price ----

pub cost-is : (s : Bool) (p : ℕ) → cost s p ≡ seen s p
unfolding cost seen
cost-is false p = refl
cost-is true p = refl

pub best-front : {m top : ℕ} {s : Bool} {l : List Entry} {j : ℕ} {y : Entry} → Sound m top l → BestContra s false l j y
    → faced s (contra s l) ≡ seen s y.working
best-front {s = s} {l = l} {j = j} {y = y} so c =
    front-is s so
    ∙ omega (
      arith,
      front_below s l j y c.chosen.there (and_left (against s y) true c.chosen.passes),
      front_above s (seen s y.working) l
          (omega (arith, seen-high s y.working (omega (arith, (all-at (EntryFacts _ _) l j y so.entries c.chosen.there).works.high))))
          (all_of (λ (z : Entry). against s z ≡ true → seen s y.working ≤ seen s z.working) l
          (λ k z h a. omega (arith, c.price k z h (and_both (against s z) true a refl), cost-is s y.working, cost-is s z.working))),
    )
