-- The answer in the words of the rules: who has a quote, the price that a side faces, NBO and NBB; and that there is only one answer.
-- Assumes nothing.
use Prim.Native.Nat.{ℕ, zero, suc, ◌+◌, ◌-◌, ◌≤◌, ◌<◌}
use mathlib.Core.Path.{◌≡◌, refl, sym, ap, ◌∙◌}
use mathlib.Core.Bool.{Bool, true, false, ◌||◌}
use mathlib.Core.List.{List, [], ◌∷◌}
use native.Mathlib.Omega.{arith}
use borrow.Author.Tests.{leb-true, leb-false, eqb-true, eqb-false}
use lib.Dec.{eqb, leb}
use lib.ListN.{get_or}
use lib.Seq.{ext_get_or}
use Rattle.prices.specs.Side.{nearer}
use Rattle.std.specs.Prelude.{Option, None, Some, is_some}
use Rattle.lists.specs.Tests.{any}
use Rattle.lists.proofs.Bools.{clash}
use Rattle.lists.specs.Choose.{scan, nowhere, consider, choosing, first, never}
use Rattle.lists.proofs.ChooseLaws.{found-stays}
use Rattle.book.specs.declared.Entry.{Entry}
use Rattle.book.specs.declared.Book.{Book}
use Rattle.book.specs.Entries.{quote_of, display}
use Rattle.book.specs.Look.{quote_in, contra, national}
use Rattle.soundness.specs.declared.Check.{Check}
use Rattle.soundness.specs.Summary.{seat, Seated, is_found, faced, faced_shown, Summary, Passed, Checked}
use Rattle.soundness.proofs.BestLaws.{nearest-away}

-- ---- a maker has a quote just if a search finds it ----

module _ {A : Type 0} (test : A → Bool) where
  found_some : (i : ℕ) (l : List A) → any test l ≡ is_found (scan (choosing test never) nowhere i l)
  unfolding any scan
  found_some i [] = refl
  found_some i (x ∷ l) = go (test x) (found_some (i + 1) l)
    where
      go : (b : Bool) → any test l ≡ is_found (scan (choosing test never) nowhere (i + 1) l)
          → (b || any test l) ≡ is_found (scan (choosing test never) (consider never b i x nowhere) (i + 1) l)
      go true later = sym (ap is_found (found-stays test i (i + 1) x l))
      go false later = later

pub any-quote : (party : ℕ) (s : Bool) (l : List Entry) → any (quote_of party s) l ≡ is_found (quote_in party s l)
unfolding quote_in first
any-quote party s l = found_some (quote_of party s) 0 l

pub seat-tells : {l : List Entry} {r : Check} → Summary l r → (party : ℕ) (s : Bool) → 1 ≤ party → party ≤ 16
    → get_or r.seats (seat party s) false ≡ is_found (quote_in party s l)
seat-tells {l} h party s low high = h.seats.makers party s low high ∙ any-quote party s l

-- ---- the prices, by the side that faces them; with the away price, NBO or NBB ----

module _ {l : List Entry} {r : Check} (h : Summary l r) where
  pub faced-contra : (s : Bool) → faced r s ≡ contra s l
  faced-contra false = h.offer
  faced-contra true = h.bid

  pub shown-national : (s : Bool) (a : ℕ) → nearer s a (faced_shown r s) ≡ national s a l
  shown-national false a = ap (nearer false a) h.shownoffer ∙ sym (nearest-away display false a l)
  shown-national true a = ap (nearer true a) h.shownbid ∙ sym (nearest-away display true a l)

-- ---- there is only one answer ----

same_check : (x y : Check) → x.bid ≡ y.bid → x.offer ≡ y.offer → x.shownbid ≡ y.shownbid → x.shownoffer ≡ y.shownoffer → x.quoted ≡ y.quoted
    → x.seats ≡ y.seats → x ≡ y
same_check x y b c d e q f = λ i. record { bid = b i; offer = c i; shownbid = d i; shownoffer = e i; quoted = q i; seats = f i }

seats-one : (l : List Entry) (p q : List Bool) → Seated l p → Seated l q → p ≡ q
seats-one l p q a b = ext_get_or false p q (a.places ∙ sym b.places) (λ k h. at k (omega (arith, a.places)))
  where
    at : (k : ℕ) → k < 33 → get_or p k false ≡ get_or q k false
    at k h = go (eqb k 0) refl (leb k 16) refl
      where
        go : (x : Bool) → eqb k 0 ≡ x → (y : Bool) → leb k 16 ≡ y → get_or p k false ≡ get_or q k false
        go true e y f = let z : k ≡ 0 = eqb-true k 0 e in rw z (a.nobody ∙ sym b.nobody)
        go false e true f =
            let some : 1 ≤ k = positive k (eqb-false k 0 e) in
            let high : k ≤ 16 = leb-true k 16 f in
            a.makers k false some high ∙ sym (b.makers k false some high)
          where
            positive : (k : ℕ) → (k ≡ 0 → ⊥) → 1 ≤ k
            positive zero n = absurd (n refl)
            positive (suc j) n = omega arith
        go false e false f =
            let past : 16 < k = leb-false k 16 f in
            let some : 1 ≤ k - 16 = omega arith in
            let high : k - 16 ≤ 16 = omega arith in
            let there : k ≡ k - 16 + 16 = omega arith in
            rw there (a.makers (k - 16) true some high ∙ sym (b.makers (k - 16) true some high))

summary-one : {l : List Entry} {x y : Check} → Summary l x → Summary l y → x ≡ y
summary-one {l} {x} {y} p q =
    same_check x y (p.bid ∙ sym q.bid) (p.offer ∙ sym q.offer) (p.shownbid ∙ sym q.shownbid) (p.shownoffer ∙ sym q.shownoffer) (p.quoted ∙ sym q.quoted)
    (seats-one l x.seats y.seats p.seats q.seats)

-- two answers with one verdict are the same, where what a sound verdict comes with is fixed
pub one_answer : {x y : Option Check} → is_some x ≡ is_some y → ((a b : Check) → x ≡ Some a → y ≡ Some b → a ≡ b) → x ≡ y
one_answer {x = None} {y = None} same_verdict same = refl
one_answer {x = None} {y = Some b} same_verdict same = clash same_verdict refl
one_answer {x = Some a} {y = None} same_verdict same = clash refl same_verdict
one_answer {x = Some a} {y = Some b} same_verdict same = ap Some (same a b refl refl)

pub no_answer : {x : Option Check} → is_some x ≡ false → x ≡ None
no_answer {x = None} h = refl
no_answer {x = Some a} h = clash refl h

-- THEOREM. THE PROMISE OF `check_book` FIXES ITS ANSWER, and so does that of `check_resting`: "Two outcomes allowed by one promise are proved equal"
pub checked-one : {m given : ℕ} {b : Book} {x y : Option Check} → Checked m given b x → Checked m given b y → x ≡ y
checked-one c d = one_answer (c.verdict ∙ sym d.verdict) (λ a b h k. summary-one (c.summary a h) (d.summary b k))

pub passed-one : {m given : ℕ} {l : List Entry} {x y : Option Check} → Passed m given l x → Passed m given l y → x ≡ y
passed-one c d = one_answer (c.verdict ∙ sym d.verdict) (λ a b h k. summary-one (c.summary a h) (d.summary b k))
