-- ONE SEAT A MAKER AND SIDE decides "one quote at most per maker and side".
-- Assumes nothing.
use Prim.Native.Nat.{ℕ, zero, suc, ◌≤◌, ◌<◌}
use mathlib.Core.Path.{◌≡◌, refl, sym, ap, ◌∙◌}
use mathlib.Core.Bool.{Bool, true, false, cond, not, ◌&&◌, ◌||◌, beq, or-false, or-true}
use mathlib.Core.List.{List, [], ◌∷◌, ◌++◌}
use native.Mathlib.Omega.{arith}
use borrow.Author.Tests.{eqb-true, eqb-false, ne_eqb}
use lib.Dec.{eqb}
use lib.ListN.{get_or, set, replicate, length-set}
use lib.Seq.{get_or-set_same, get_or-set_other}
use Rattle.lists.specs.Tests.{all, any}
use Rattle.lists.proofs.Bools.{not-either, beq-true, beq-false}
use Rattle.book.specs.declared.Entry.{Entry}
use Rattle.book.specs.Entries.{quote, quote_of}
use Rattle.soundness_theory.specs.Sound.{one_quote}
use Rattle.soundness.specs.Summary.{seat, seat_of, Seated}
use Rattle.soundness.proofs.PairLaws.{any-snoc-is}
use Rattle.soundness.proofs.ClauseLaws.{Clauses, maker}

-- no two makers, and no two sides, share a seat
seat-own : (p q : ℕ) (s t : Bool) → 1 ≤ p → p ≤ 16 → 1 ≤ q → q ≤ 16 → seat p s ≡ seat q t → (p ≡ q) × (s ≡ t)
seat-own p q false false a b c d h = (h, refl)
seat-own p q true true a b c d h = (omega arith, refl)
seat-own p q false true a b c d h = absurd (omega arith)
seat-own p q true false a b c d h = absurd (omega arith)

seat-some : (p : ℕ) (s : Bool) → 1 ≤ p → seat p s ≡ 0 → ⊥
seat-some p false h e = omega arith
seat-some p true h e = omega arith

pub seat-within : (p : ℕ) (s : Bool) → p ≤ 16 → seat p s < 33
seat-within p false h = omega arith
seat-within p true h = omega arith

-- nobody sits where there are no entries
pub seated-none : Seated [] (replicate 33 false)
unfolding any
seated-none = record { places = refl; nobody = refl; makers = λ p s low high. empty p s }
  where
    all-free : (n k : ℕ) → get_or (replicate n false) k false ≡ false
    all-free zero k = refl
    all-free (suc n) zero = refl
    all-free (suc n) (suc k) = all-free n k

    empty : (p : ℕ) (s : Bool) → get_or (replicate 33 false) (seat p s) false ≡ false
    empty p s = all-free 33 (seat p s)

module _ {m given : ℕ} (l : List Entry) (e : Entry) (seats : List Bool) (c : Clauses m given e) (d : Seated l seats) where
  -- an entry that is no quote stands against no quote
  unquoted : (l : List Entry) → quote e ≡ false → all (λ (y : Entry). one_quote y e) l ≡ true
  unfolding all
  unquoted [] q = refl
  unquoted (y ∷ l) q = rw (one (quote y) (quote e) (eqb y.party e.party && beq y.sell e.sell) q, unquoted l q)
    where
      one : (a b z : Bool) → b ≡ false → not (a && (b && z)) ≡ true
      one true b z h = rw h
      one false b z h = refl

  -- one that is a quote stands against those of its maker and side
  quoted : (l : List Entry) → quote e ≡ true → all (λ (y : Entry). one_quote y e) l ≡ not (any (quote_of e.party e.sell) l)
  unfolding all any
  quoted [] q = refl
  quoted (y ∷ l) q =
      rw (one (quote y) (quote e) (eqb y.party e.party && beq y.sell e.sell) q, quoted l q)
      (not-either (quote_of e.party e.sell y) (any (quote_of e.party e.sell) l))
    where
      one : (a b z : Bool) → b ≡ true → not (a && (b && z)) ≡ not (a && z)
      one true b z h = rw h
      one false b z h = refl

  pub seat-decides : all (λ (y : Entry). one_quote y e) l ≡ not (get_or seats (seat_of e) false)
  seat-decides = by (quote e) refl
    where
      by : (b : Bool) → quote e ≡ b → all (λ (y : Entry). one_quote y e) l ≡ not (get_or seats (cond b (seat e.party e.sell) 0) false)
      by true q = let w = maker m given e c q in quoted l q ∙ ap not (sym (d.makers e.party e.sell w.0 w.1))
      by false q = unquoted l q ∙ ap not (sym d.nobody)

  -- the entry sits down
  abbrev Next : ℕ → Type 0
  Next k = Seated (l ++ (e ∷ [])) (set seats k (not (eqb k 0)))

  others : (p : ℕ) (s b : Bool) → 1 ≤ p → p ≤ 16 → quote_of p s e ≡ b → any (quote_of p s) (l ++ (e ∷ [])) ≡ (get_or seats (seat p s) false || b)
  others p s b low high h = any-snoc-is (quote_of p s) l e ∙ rw (h, d.makers p s low high)

  free : quote e ≡ false → Next 0
  free q = record {
    places = length-set seats 0 false ∙ d.places;
    nobody = get_or-set_same seats 0 false false (omega (arith, d.places));
    makers = λ p s low high. get_or-set_other seats 0 (seat p s) false false (seat-some p s low)
        ∙ sym (others p s false low high (rw q) ∙ or-false (get_or seats (seat p s) false));
  }

  taken : quote e ≡ true → Next (seat e.party e.sell)
  taken q =
      let w = maker m given e c q in
      let k = seat e.party e.sell in
      let some : not (eqb k 0) ≡ true = rw (ne_eqb k 0 (seat-some e.party e.sell w.0)) in
      rw some (record {
        places = length-set seats k true ∙ d.places;
        nobody = get_or-set_other seats k 0 true false (λ h. seat-some e.party e.sell w.0 (sym h)) ∙ d.nobody;
        makers = λ p s low high. at p s low high (eqb e.party p) refl (beq e.sell s) refl;
      })
    where
      k : ℕ
      k = seat e.party e.sell

      at : (p : ℕ) (s : Bool) → 1 ≤ p → p ≤ 16 → (a : Bool) → eqb e.party p ≡ a → (b : Bool) → beq e.sell s ≡ b
          → get_or (set seats (seat e.party e.sell) true) (seat p s) false ≡ any (quote_of p s) (l ++ (e ∷ []))
      at p s low high true f true g =
          let here : seat p s ≡ seat e.party e.sell = rw (eqb-true e.party p f, beq-true e.sell s g) in
          ap (λ (j : ℕ). get_or (set seats (seat e.party e.sell) true) j false) here
          ∙ get_or-set_same seats (seat e.party e.sell) true false (omega (arith, seat-within e.party e.sell (maker m given e c q).1, d.places))
          ∙ sym (others p s true low high (rw (q, f, g)) ∙ or-true (get_or seats (seat p s) false))
      at p s low high true f false g =
          get_or-set_other seats (seat e.party e.sell) (seat p s) true false
          (λ h. beq-false e.sell s g (sym (seat-own p e.party s e.sell low high (maker m given e c q).0 (maker m given e c q).1 h).1))
          ∙ sym (others p s false low high (rw (q, f, g)) ∙ or-false (get_or seats (seat p s) false))
      at p s low high false f b g =
          get_or-set_other seats (seat e.party e.sell) (seat p s) true false
          (λ h. eqb-false e.party p f (sym (seat-own p e.party s e.sell low high (maker m given e c q).0 (maker m given e c q).1 h).0))
          ∙ sym (others p s false low high (rw (q, f)) ∙ or-false (get_or seats (seat p s) false))

  pub seated-more : Next (seat_of e)
  seated-more = by (quote e) refl
    where
      by : (b : Bool) → quote e ≡ b → Next (cond b (seat e.party e.sell) 0)
      by true q = taken q
      by false q = free q
