-- WHO TRADES BEFORE WHOM, in plain words: the better price; at one price who is displayed, if the other is not; else the older rank.
-- Assumes nothing.
use Prim.Native.Nat.{ℕ, ◌+◌, ◌*◌, ◌≤◌, ◌<◌}
use mathlib.Core.Bool.{Bool, true, false, cond, not, ◌&&◌, ◌||◌, beq}
use mathlib.Core.Logic.{◌⊎◌, inl, inr}
use mathlib.Core.Path.{◌≡◌, refl, sym, ap, ◌∙◌}
use native.Mathlib.Omega.{arith}
use borrow.Author.Tests.{ltb-true, ltb-false, lt-ltb, eqb-true, eq-eqb}
use lib.Dec.{eqb, ltb}
use Rattle.lists.proofs.Bools.{clash, and_left, and_right, beq-true, eq-beq}
use Rattle.book.specs.declared.Entry.{Entry}
use Rattle.book.specs.Entries.{displayed}
use Rattle.book.specs.Look.{cost, priority}
use Rattle.board.specs.Board.{key, before, before_at}

-- ---- by the number that decides ----

pub record Ahead (i : ℕ) (e : Entry) (j : ℕ) (f : Entry) : Type 0 where
  pub side : f.sell ≡ e.sell
  pub sooner : key f ≤ key e
  pub older : key f ≡ key e → j < i

pub ahead-says : (i : ℕ) (e : Entry) (j : ℕ) (f : Entry) → before_at i e j f ≡ true → Ahead i e j f
unfolding before
ahead-says i e j f h = by (ltb (key f) (key e)) refl
  where
    same : beq f.sell e.sell ≡ true
    same = and_left (beq f.sell e.sell) (ltb (key f) (key e) || (ltb j i && eqb (key f) (key e))) h

    rest : (ltb (key f) (key e) || (ltb j i && eqb (key f) (key e))) ≡ true
    rest = and_right (beq f.sell e.sell) (ltb (key f) (key e) || (ltb j i && eqb (key f) (key e))) h

    by : (b : Bool) → ltb (key f) (key e) ≡ b → Ahead i e j f
    by true t =
        let less = ltb-true (key f) (key e) t in
        record { side = beq-true f.sell e.sell same; sooner = omega arith; older = λ q. absurd (omega arith) }
    by false t =
        let both : (ltb j i && eqb (key f) (key e)) ≡ true = rw t at rest in
        let q = eqb-true (key f) (key e) (and_right (ltb j i) (eqb (key f) (key e)) both) in
        record {
          side = beq-true f.sell e.sell same;
          sooner = omega arith;
          older = λ z. ltb-true j i (and_left (ltb j i) (eqb (key f) (key e)) both);
        }

pub says-ahead : (i : ℕ) (e : Entry) (j : ℕ) (f : Entry) → Ahead i e j f → before_at i e j f ≡ true
unfolding before
says-ahead i e j f b = rw (eq-beq f.sell e.sell b.side) (by (ltb (key f) (key e)) refl)
  where
    by : (t : Bool) → ltb (key f) (key e) ≡ t → (t || (ltb j i && eqb (key f) (key e))) ≡ true
    by true t = refl
    by false t =
        let q : key f ≡ key e = omega (arith, ltb-false (key f) (key e) t, b.sooner) in
        rw (lt-ltb j i (b.older q), eq-eqb (key f) (key e) q) refl

-- it is an order: nobody trades before itself, whoever trades before one that does so does so too, and of two on a side one does
pub not-ahead : (i : ℕ) (e : Entry) → Ahead i e i e → ⊥
not-ahead i e b = omega (arith, b.older refl)

pub through : {i j k : ℕ} {e f g : Entry} → Ahead j f k g → Ahead i e j f → Ahead i e k g
through {i} {j} {k} {e} {f} {g} a b = record {
  side = a.side ∙ b.side;
  sooner = omega (arith, a.sooner, b.sooner);
  older = λ q. omega (arith, a.older (omega (arith, a.sooner, b.sooner, q)), b.older (omega (arith, a.sooner, b.sooner, q)));
}

pub either : {i j : ℕ} {e f : Entry} → e.sell ≡ f.sell → i < j → Ahead j f i e ⊎ Ahead i e j f
either {i} {j} {e} {f} side h = by (ltb (key f) (key e)) refl
  where
    by : (t : Bool) → ltb (key f) (key e) ≡ t → Ahead j f i e ⊎ Ahead i e j f
    by true t =
        let less = ltb-true (key f) (key e) t in
        inr (record { side = sym side; sooner = omega arith; older = λ q. absurd (omega arith) })
    by false t = inl (record { side = side; sooner = ltb-false (key f) (key e) t; older = λ q. h })

-- ---- in plain words ----

-- f, of rank j, trades before e, of rank i: on e's side it costs a taker no more; where it costs the same, it is displayed if e is; where that is the same too,
-- its rank is older
pub record Before (i : ℕ) (e : Entry) (j : ℕ) (f : Entry) : Type 0 where
  pub side : f.sell ≡ e.sell
  pub price : cost (not e.sell) f.working ≤ cost (not e.sell) e.working
  pub shown : cost (not e.sell) f.working ≡ cost (not e.sell) e.working → displayed e ≡ true → displayed f ≡ true
  pub rank : cost (not e.sell) f.working ≡ cost (not e.sell) e.working → displayed f ≡ displayed e → j < i

-- the number is made of a price and of whether it is displayed
module _ (a b : ℕ) where
  number-price : (x y : Bool) → 2 * a + cond x 0 1 ≤ 2 * b + cond y 0 1 → a ≤ b
  number-price true true h = omega arith
  number-price true false h = omega arith
  number-price false true h = omega arith
  number-price false false h = omega arith

  number-shown : (x y : Bool) → 2 * a + cond x 0 1 ≤ 2 * b + cond y 0 1 → a ≡ b → y ≡ true → x ≡ true
  number-shown true y h e t = refl
  number-shown false true h e t = absurd (omega arith)
  number-shown false false h e t = t

  number-least : (x y : Bool) → a ≤ b → (a ≡ b → y ≡ true → x ≡ true) → 2 * a + cond x 0 1 ≤ 2 * b + cond y 0 1
  number-least true true h f = omega arith
  number-least true false h f = omega arith
  number-least false false h f = omega arith
  number-least false true h f = by (ltb a b) refl
    where
      by : (t : Bool) → ltb a b ≡ t → 2 * a + 1 ≤ 2 * b + 0
      by true t = omega (arith, ltb-true a b t)
      by false t = let same : a ≡ b = omega (arith, ltb-false a b t, h) in clash (f same refl) refl

  number_same : (x y : Bool) → 2 * a + cond x 0 1 ≡ 2 * b + cond y 0 1 → (a ≡ b) × (x ≡ y)
  number_same true true h = (omega arith, refl)
  number_same true false h = absurd (omega arith)
  number_same false true h = absurd (omega arith)
  number_same false false h = (omega arith, refl)

module _ (i : ℕ) (e : Entry) (j : ℕ) (f : Entry) where
  first-number : f.sell ≡ e.sell → key f ≡ 2 * cost (not e.sell) f.working + cond (displayed f) 0 1
  unfolding priority
  first-number side = ap (λ (s : Bool). 2 * cost (not s) f.working + cond (displayed f) 0 1) side

  own-number : key e ≡ 2 * cost (not e.sell) e.working + cond (displayed e) 0 1
  unfolding priority
  own-number = refl

  pub ahead_before : Ahead i e j f → Before i e j f
  ahead_before a =
      let p = cost (not e.sell) f.working in
      let q = cost (not e.sell) e.working in
      let least : 2 * p + cond (displayed f) 0 1 ≤ 2 * q + cond (displayed e) 0 1 = omega (arith, a.sooner, first-number a.side, own-number) in
      record {
        side = a.side;
        price = number-price p q (displayed f) (displayed e) least;
        shown = number-shown p q (displayed f) (displayed e) least;
        rank = λ same d. a.older (first-number a.side ∙ (rw (same, d) refl) ∙ sym own-number);
      }

  pub before-ahead : Before i e j f → Ahead i e j f
  before-ahead b =
      let p = cost (not e.sell) f.working in
      let q = cost (not e.sell) e.working in
      record {
        side = b.side;
        sooner = omega (arith, number-least p q (displayed f) (displayed e) b.price b.shown, first-number b.side, own-number);
        older = λ h.
            let both = number_same p q (displayed f) (displayed e) (sym (first-number b.side) ∙ h ∙ own-number) in
            b.rank both.0 both.1;
      }

  -- WHAT THE DEFINITION SAYS, BOTH WAYS
  pub before-says : before_at i e j f ≡ true → Before i e j f
  before-says h = ahead_before (ahead-says i e j f h)

  pub says-before : Before i e j f → before_at i e j f ≡ true
  says-before b = says-ahead i e j f (before-ahead b)
