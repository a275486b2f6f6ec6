-- Test and fact, clause by clause.
-- Assumes nothing.
use Prim.Native.Nat.{ℕ, zero, suc, ◌+◌, ◌-◌, ◌≤◌, ◌<◌}
use mathlib.Core.Path.{◌≡◌, refl, sym, subst, ap, ◌∙◌}
use mathlib.Core.Bool.{Bool, true, false, not, ◌&&◌, ◌||◌, beq}
use mathlib.Core.Logic.{◌⊎◌, inl, inr, ⊎_elim}
use mathlib.Core.List.{List, [], ◌∷◌}
use native.Mathlib.Nat.{sub-zero, suc-sub-suc}
use native.Mathlib.Omega.{arith}
use borrow.Author.Tests.{leb-true, le-leb, eqb-true, eqb-false, eq-eqb, ne_eqb, ltb-true, ltb-false, lt-ltb, not-true}
use lib.Dec.{eqb, leb, ltb}
use lib.ListN.{drop}
use Rattle.prices.specs.Step.{steps_of, up, down, legal, back}
use Rattle.prices.specs.Side.{reaches}
use Rattle.kinds.specs.Kinds.{sliding, dark}
use Rattle.kinds.proofs.KindLaws.{dark-rigid}
use Rattle.prices.specs.Rest.{slides}
use Rattle.prices.proofs.FrameLaws.{decides-reaches}
use Rattle.prices.proofs.GridLaws.{below-or-from, to-or-past, up-fine, up-coarse, down-fine, down-coarse}
use Rattle.prices.proofs.StepLaws.{is-legal, legal-is}
use Rattle.lists.specs.Places.{At}
use Rattle.lists.specs.Tests.{all, pairs}
use Rattle.lists.proofs.Bools.{clash, and_left, and_right, and_both, beq-true, eq-beq}
use Rattle.lists.proofs.TestLaws.{all_true, true-all, all-at, all_of}
use Rattle.book.specs.declared.Entry.{Entry}
use Rattle.book.specs.declared.Pricing.{Pricing}
use Rattle.book.specs.declared.Pricing.TheVariants.{Fixed, Dark, Sliding}
use Rattle.book.specs.Entries.{quote}
use Rattle.soundness_theory.specs.Sound.{between, priced_as, sound_entry, distinct, one_quote, uncrossed, uncrossed_as, sound_pair}
use Rattle.soundness_theory.proofs.SoundFacts.{between-both, both-between}
use Rattle.soundness.specs.SoundBook.{LegalPrice, AtMostOneStep, SoundSlide, Quote, SlidingKind, DarkKind, FixedKind}
use Rattle.soundness.specs.SoundBook.{Numbered, LegalFigures, SoundPrices, Distinct, OneQuote, Uncrossed}
use Rattle.soundness.proofs.ClauseLaws.{clauses-of, of-clauses}

-- ---- prices ----

pub legal-price : (m p : ℕ) → legal m p ≡ true → LegalPrice m p
legal-price m p h = let a = is-legal m p h in record { from = a.low; to = a.high; under = a.grid.fine; upward = a.grid.coarse }

pub price-legal : (m p : ℕ) → LegalPrice m p → legal m p ≡ true
price-legal m p a = legal-is (record { low = a.from; high = a.to; grid = record { fine = a.under; coarse = a.upward } })

-- at most one step, as a test: q is no less aggressive than one step back from p
one-step : (m : ℕ) (s : Bool) (p q : ℕ) → reaches s q (back m s p) ≡ true → AtMostOneStep m s p q
unfolding back
one-step m false p q h =
    let k = (decides-reaches false q (down (steps_of m) p)).0 h in
    (λ c. omega (arith, k, down-fine (steps_of m) p c), λ c. omega (arith, k, down-coarse (steps_of m) p c))
one-step m true p q h =
    let k = (decides-reaches true q (up (steps_of m) p)).0 h in
    (λ c. omega (arith, k, up-fine (steps_of m) p c), λ c. omega (arith, k, up-coarse (steps_of m) p c))

step-one : (m : ℕ) (s : Bool) (p q : ℕ) → AtMostOneStep m s p q → reaches s q (back m s p) ≡ true
unfolding back
step-one m false p q f =
    (decides-reaches false q (down (steps_of m) p)).1
    (⊎_elim (λ c. omega (arith, f.0 c, down-fine (steps_of m) p c)) (λ c. omega (arith, f.1 c, down-coarse (steps_of m) p c)) (to-or-past p))
step-one m true p q f =
    (decides-reaches true q (up (steps_of m) p)).1
    (⊎_elim (λ c. omega (arith, f.0 c, up-fine (steps_of m) p c)) (λ c. omega (arith, f.1 c, up-coarse (steps_of m) p c)) (below-or-from p))

module _ (m l d w : ℕ) where
  slide-facts : (s : Bool) → slides m s l d w ≡ true → SoundSlide m s l d w
  unfolding slides
  slide-facts s h =
      let far = reaches s w d && (reaches s d (back m s w) && reaches s l w) in
      let h₁ = and_right (legal m d) (legal m w && far) h in
      let h₂ = and_right (legal m w) far h₁ in
      let h₃ = and_right (reaches s w d) (reaches s d (back m s w) && reaches s l w) h₂ in
      record {
        shown = legal-price m d (and_left (legal m d) (legal m w && far) h);
        works = legal-price m w (and_left (legal m w) far h₁);
        aggressive = (decides-reaches s w d).0 (and_left (reaches s w d) (reaches s d (back m s w) && reaches s l w) h₂);
        near = one-step m s w d (and_left (reaches s d (back m s w)) (reaches s l w) h₃);
        inside = (decides-reaches s l w).0 (and_right (reaches s d (back m s w)) (reaches s l w) h₃);
      }

  facts-slide : (s : Bool) → SoundSlide m s l d w → slides m s l d w ≡ true
  unfolding slides
  facts-slide s f = rw (
    price-legal m d f.shown,
    price-legal m w f.works,
    (decides-reaches s w d).1 f.aggressive,
    step-one m s w d f.near,
    (decides-reaches s l w).1 f.inside,
  )

-- ---- kinds ----

-- the three sorts of kinds: there is no fourth
sorts : (k : ℕ) → FixedKind k ⊎ (SlidingKind k ⊎ DarkKind k)
sorts k = by (sliding k) refl (dark k) refl
  where
    by : (a : Bool) → sliding k ≡ a → (b : Bool) → dark k ≡ b → FixedKind k ⊎ (SlidingKind k ⊎ DarkKind k)
    by true p b q = inr (inl p)
    by false p true q = inr (inr q)
    by false p false q = inl (p, q)

-- ---- one entry ----

module _ (m kind : ℕ) (s : Bool) (limit w : ℕ) where
  at-limit : (p : Pricing) → priced_as m kind s limit w p ≡ true → FixedKind kind → (p ≡ Fixed) × (w ≡ limit)
  unfolding priced_as
  at-limit Fixed h k = (refl, eqb-true w limit (and_right (not (sliding kind) && not (dark kind)) (eqb w limit) h))
  at-limit Dark h k = clash (and_left (dark kind) (eqb w limit) h) k.1
  at-limit (Sliding d) h k = clash (and_left (sliding kind) (slides m s limit d w) h) k.0

  -- what is fixed neither slides nor is dark
  fixed-sort : priced_as m kind s limit w Fixed ≡ true → FixedKind kind
  unfolding priced_as
  fixed-sort h =
      let k = and_left (not (sliding kind) && not (dark kind)) (eqb w limit) h in
      (not-true (sliding kind) (and_left (not (sliding kind)) (not (dark kind)) k), not-true (dark kind) (and_right (not (sliding kind)) (not (dark kind)) k))

  in-the-dark : (p : Pricing) → priced_as m kind s limit w p ≡ true → DarkKind kind → (p ≡ Dark) × (w ≡ limit)
  unfolding priced_as
  in-the-dark Fixed h k = clash k (fixed-sort h).1
  in-the-dark Dark h k = (refl, eqb-true w limit (and_right (dark kind) (eqb w limit) h))
  in-the-dark (Sliding d) h k = clash (and_left (sliding kind) (slides m s limit d w) h) (dark-rigid kind k)

  on-the-slide : (p : Pricing) → priced_as m kind s limit w p ≡ true → SlidingKind kind → (d : ℕ) × ((p ≡ Sliding d) × SoundSlide m s limit d w)
  unfolding priced_as
  on-the-slide Fixed h k = clash k (fixed-sort h).0
  on-the-slide Dark h k = clash k (dark-rigid kind (and_left (dark kind) (eqb w limit) h))
  on-the-slide (Sliding d) h k = (d, (refl, slide-facts m limit d w s (and_right (sliding kind) (slides m s limit d w) h)))

  limit-priced : FixedKind kind → w ≡ limit → priced_as m kind s limit w Fixed ≡ true
  unfolding priced_as
  limit-priced k e = rw (k.0, k.1) (eq-eqb w limit e)

  dark-priced : DarkKind kind → w ≡ limit → priced_as m kind s limit w Dark ≡ true
  unfolding priced_as
  dark-priced k e = rw k (eq-eqb w limit e)

  slide-priced : (d : ℕ) → SlidingKind kind → SoundSlide m s limit d w → priced_as m kind s limit w (Sliding d) ≡ true
  unfolding priced_as
  slide-priced d k f = and_both (sliding kind) (slides m s limit d w) k (facts-slide m limit d w s f)

-- all that is asked of one entry
pub record SoundEntry (m given : ℕ) (e : Entry) : Type 0 where
  pub number : Numbered given e
  pub figures : LegalFigures m e
  pub prices : SoundPrices m e

pub entry-facts : (m given : ℕ) (e : Entry) → sound_entry m given e ≡ true → SoundEntry m given e
entry-facts m given e h =
    let c = clauses-of m given e h in
    record {
      number = between-both 1 given e.number c.number;
      figures = record {
        limit = legal-price m e.limit (and_left (legal m e.limit) (between 1 99999 e.quantity) c.size);
        quantity = between-both 1 99999 e.quantity (and_right (legal m e.limit) (between 1 99999 e.quantity) c.size);
        party = between-both 1 99 e.party (and_left (between 1 99 e.party) (not (quote e) || leb e.party 16) c.party);
        maker = λ q. leb-true e.party 16 (quoted (quote e) q
            (and_right (between 1 99 e.party) (not (quote e) || leb e.party 16) c.party));
      };
      prices = record {
        kind = c.kind;
        plain = at-limit m e.kind e.sell e.limit e.working e.pricing c.price;
        dark = in-the-dark m e.kind e.sell e.limit e.working e.pricing c.price;
        slides = on-the-slide m e.kind e.sell e.limit e.working e.pricing c.price;
      };
    }
  where
    quoted : (q : Bool) → q ≡ true → (not q || leb e.party 16) ≡ true → leb e.party 16 ≡ true
    quoted q k g = rw k at g

pub facts-entry : (m given : ℕ) (e : Entry) → SoundEntry m given e → sound_entry m given e ≡ true
facts-entry m given e f = of-clauses m given e (record {
  number = both-between 1 given e.number f.number;
  kind = f.prices.kind;
  party = and_both (between 1 99 e.party) (not (quote e) || leb e.party 16) (both-between 1 99 e.party f.figures.party) (quoted (quote e) refl);
  size =
      and_both (legal m e.limit) (between 1 99999 e.quantity) (price-legal m e.limit f.figures.limit)
      (both-between 1 99999 e.quantity f.figures.quantity);
  price = by (sorts e.kind);
})
  where
    quoted : (q : Bool) → quote e ≡ q → (not q || leb e.party 16) ≡ true
    quoted false k = refl
    quoted true k = le-leb e.party 16 (f.figures.maker k)

    by : FixedKind e.kind ⊎ (SlidingKind e.kind ⊎ DarkKind e.kind) → priced_as m e.kind e.sell e.limit e.working e.pricing ≡ true
    by (inl k) = rw (f.prices.plain k).0 (limit-priced m e.kind e.sell e.limit e.working k (f.prices.plain k).1)
    by (inr (inl k)) =
        let z = f.prices.slides k in
        rw z.1.0 (slide-priced m e.kind e.sell e.limit e.working z.0 k z.1.1)
    by (inr (inr k)) = rw (f.prices.dark k).0 (dark-priced m e.kind e.sell e.limit e.working k (f.prices.dark k).1)

-- ---- two entries, in either order ----

-- all that is asked of two
pub record SoundTwo (x y : Entry) : Type 0 where
  pub numbers : Distinct x y
  pub quotes : OneQuote x y
  pub uncrossed : Uncrossed x y

module _ (x y : Entry) where
  pair-facts : sound_pair x y ≡ true → (distinct x y ≡ true) × ((one_quote x y ≡ true) × (uncrossed x y ≡ true))
  unfolding sound_pair
  pair-facts h =
      let h₁ = and_right (distinct x y) (one_quote x y && uncrossed x y) h in
      (and_left (distinct x y) (one_quote x y && uncrossed x y) h, (and_left (one_quote x y) (uncrossed x y) h₁, and_right (one_quote x y) (uncrossed x y) h₁))

  two-quotes : one_quote x y ≡ true → Quote x → Quote y → x.party ≡ y.party → x.sell ≡ y.sell → ⊥
  two-quotes h a b c d =
      let both : (quote x && (quote y && (eqb x.party y.party && beq x.sell y.sell))) ≡ true =
      and_both (quote x) (quote y && (eqb x.party y.party && beq x.sell y.sell)) a
      (and_both (quote y) (eqb x.party y.party && beq x.sell y.sell) b
      (and_both (eqb x.party y.party) (beq x.sell y.sell) (eq-eqb x.party y.party c) (eq-beq x.sell y.sell d))) in
      clash both (not-true (quote x && (quote y && (eqb x.party y.party && beq x.sell y.sell))) h)

  two_facts : sound_pair x y ≡ true → SoundTwo x y
  two_facts h =
      let f = pair-facts h in
      record {
        numbers = λ e. eqb-false x.number y.number (not-true (eqb x.number y.number) f.0) e;
        quotes = two-quotes f.1.0;
        uncrossed = λ a b. ltb-true x.working y.working (rw (a, b) at f.1.1);
      }

  pub facts-two : SoundTwo x y → SoundTwo y x → sound_pair x y ≡ true
  unfolding sound_pair
  facts-two f g =
      and_both (distinct x y) (one_quote x y && uncrossed x y) (rw (ne_eqb x.number y.number f.numbers))
      (and_both (one_quote x y) (uncrossed x y)
      (one (quote x) refl (quote y) refl (eqb x.party y.party) refl (beq x.sell y.sell) refl) (sides x.sell refl y.sell refl))
    where
      one : (a : Bool) → quote x ≡ a → (b : Bool) → quote y ≡ b → (c : Bool) → eqb x.party y.party ≡ c
          → (d : Bool) → beq x.sell y.sell ≡ d → not (a && (b && (c && d))) ≡ true
      one true p true q true r true t =
          absurd (f.quotes p q (eqb-true x.party y.party r) (beq-true x.sell y.sell t))
      one true p true q true r false t = refl
      one true p true q false r d t = refl
      one true p false q c r d t = refl
      one false p b q c r d t = refl

      sides : (s : Bool) → x.sell ≡ s → (t : Bool) → y.sell ≡ t → uncrossed_as s t x.working y.working ≡ true
      sides false p false q = refl
      sides false p true q = lt-ltb x.working y.working (f.uncrossed p q)
      sides true p false q = lt-ltb y.working x.working (g.uncrossed q p)
      sides true p true q = refl

two_back : {x y : Entry} → SoundTwo x y → (x.sell ≡ true → y.sell ≡ false → y.working < x.working) → SoundTwo y x
two_back f cross = record {
  numbers = λ e. f.numbers (sym e);
  quotes = λ a b c d. f.quotes b a (sym c) (sym d);
  uncrossed = λ a b. cross b a;
}

two-crossed : (x y : Entry) → sound_pair x y ≡ true → x.sell ≡ true → y.sell ≡ false → y.working < x.working
two-crossed x y h a b = ltb-true y.working x.working (rw (a, b) at (pair-facts x y h).1.1)

-- ---- lists: tests on every element and on every two, as facts of places ----

module _ {A : Type 0} where
  pairs-at : (test : A → A → Bool) (l : List A) → pairs test l ≡ true → (i j : ℕ) (x y : A) → i < j → At l i x → At l j y → test x y ≡ true
  unfolding pairs
  pairs-at test [] h i j x y o a b = absurd a
  pairs-at test (z ∷ l) h zero zero x y o a b = absurd (omega arith)
  pairs-at test (z ∷ l) h zero (suc j) x y o a b =
      ap (λ (w : A). test w y) (sym a)
      ∙ all-at (λ (w : A). test z w ≡ true) l j y (all_true (test z) l (and_left (all (test z) l) (pairs test l) h)) b
  pairs-at test (z ∷ l) h (suc i) zero x y o a b = absurd (omega arith)
  pairs-at test (z ∷ l) h (suc i) (suc j) x y o a b = pairs-at test l (and_right (all (test z) l) (pairs test l) h) i j x y (omega arith) a b

  pub at-pairs : (test : A → A → Bool) (l : List A) → ((i j : ℕ) (x y : A) → i < j → At l i x → At l j y → test x y ≡ true) → pairs test l ≡ true
  unfolding pairs
  at-pairs test [] f = refl
  at-pairs test (z ∷ l) f =
      and_both (all (test z) l) (pairs test l)
      (true-all (test z) l (all_of (λ (w : A). test z w ≡ true) l (λ j y b. f 0 (suc j) z y (omega arith) refl b)))
      (at-pairs test l (λ i j x y o a b. f (suc i) (suc j) x y (omega arith) a b))

  -- what stands behind the first n
  pub behind : (n : ℕ) (l : List A) (i : ℕ) (x : A) → n ≤ i → At l i x → At (drop n l) (i - n) x
  behind zero l i x h a = rw sub-zero a
  behind (suc n) [] i x h a = absurd a
  behind (suc n) (y ∷ l) zero x h a = absurd (omega arith)
  behind (suc n) (y ∷ l) (suc i) x h a = rw suc-sub-suc (behind n l i x (omega arith) a)

  pub before : (n : ℕ) (l : List A) (k : ℕ) (x : A) (i : ℕ) → i ≡ n + k → At (drop n l) k x → At l i x
  before zero l k x i e a = let same : k ≡ i = omega arith in subst (λ (j : ℕ). At l j x) same a
  before (suc n) [] k x i e a = absurd a
  before (suc n) (y ∷ l) k x zero e a = absurd (omega arith)
  before (suc n) (y ∷ l) k x (suc i) e a = before n l k x i (omega arith) a

  pub test_at : (test : A → Bool) (l : List A) → all test l ≡ true → (i : ℕ) (x : A) → At l i x → test x ≡ true
  test_at test l h i x a = all-at (λ (y : A). test y ≡ true) l i x (all_true test l h) a

  pub at_test : (test : A → Bool) (l : List A) → ((i : ℕ) (x : A) → At l i x → test x ≡ true) → all test l ≡ true
  at_test test l f = true-all test l (all_of (λ (x : A). test x ≡ true) l f)

either_way : (i j : ℕ) → (i ≡ j → ⊥) → (i < j) ⊎ (j < i)
either_way i j apart = go (ltb i j) refl (ltb j i) refl
  where
    go : (s : Bool) → ltb i j ≡ s → (t : Bool) → ltb j i ≡ t → (i < j) ⊎ (j < i)
    go true e t f = inl (ltb-true i j e)
    go false e true f = inr (ltb-true j i f)
    go false e false f = absurd (apart (omega (arith, ltb-false i j e, ltb-false j i f)))

-- any two at different places, whichever stands first
pub two_at : (l : List Entry) → pairs sound_pair l ≡ true → (i j : ℕ) (x y : Entry) → (i ≡ j → ⊥) → At l i x → At l j y → SoundTwo x y
two_at l h i j x y apart p q =
    ⊎_elim (λ o. two_facts x y (pairs-at sound_pair l h i j x y o p q)) (λ o. turned (pairs-at sound_pair l h j i y x o q p)) (either_way i j apart)
  where
    turned : sound_pair y x ≡ true → SoundTwo x y
    turned g = two_back (two_facts y x g) (two-crossed y x g)
