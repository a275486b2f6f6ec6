-- THE TESTS ARE THE FACTS: the entries that rest pass every test of specs/Sound exactly where the facts hold of them.
-- Assumes nothing.
use Prim.Native.Nat.{ℕ, ◌≤◌, ◌<◌}
use mathlib.Core.Path.{◌≡◌, refl}
use mathlib.Core.Bool.{Bool, true, false, not, ◌&&◌, ◌||◌, beq}
use mathlib.Core.List.{List, [], ◌∷◌}
use native.Mathlib.Omega.{arith}
use lib.Dec.{eqb, leb}
use borrow.Author.Tests.{leb-true, le-leb, ltb-true, lt-ltb, eqb-true, eqb-false, eq-eqb, ne_eqb, not-true}
use Rattle.prices.specs.Step.{mpv, legal, top_price}
use Rattle.kinds.specs.Kinds.{sliding, dark}
use Rattle.prices.specs.Rest.{slides}
use Rattle.prices.proofs.FrameLaws.{seen, Facing}
use Rattle.prices.proofs.StepLaws.{Mpv, Legal, is-mpv, is-legal, legal-is}
use Rattle.prices.proofs.RestLaws.{is-slides, slides-is}
use Rattle.lists.specs.Tests.{All, all, pairs}
use Rattle.lists.proofs.Bools.{clash, and_left, and_right, and_parts, and_both, beq-true, eq-beq}
use Rattle.lists.proofs.TestLaws.{all_map, all-zip, all_true, true-all, pairs-true}
use Rattle.book.specs.declared.Entry.{Entry}
use Rattle.book.specs.declared.Pricing.{Pricing}
use Rattle.book.specs.declared.Pricing.TheVariants.{Fixed, Dark, Sliding}
use Rattle.book.specs.Entries.{quote}
use Rattle.soundness_theory.specs.Sound.{between, numbered, kinded, partied, sized, priced_as, priced_well, sound_entry}
use Rattle.soundness_theory.specs.Sound.{distinct, one_quote, uncrossed_as, uncrossed, sound_pair, sound_entries}
use Rattle.soundness_theory.proofs.Facts.{PricedAs, EntryFacts, PairFacts, EachTwo, Sound}

-- from low to high
pub between-both : (low high x : ℕ) → between low high x ≡ true → (low ≤ x) × (x ≤ high)
between-both low high x h = (leb-true low x (and_left (leb low x) (leb x high) h), leb-true x high (and_right (leb low x) (leb x high) h))

pub both-between : (low high x : ℕ) → (low ≤ x) × (x ≤ high) → between low high x ≡ true
both-between low high x h = and_both (leb low x) (leb x high) (le-leb low x h.0) (le-leb x high h.1)

-- ---- the prices of an entry ----

module _ (m kind : ℕ) (s : Bool) (limit w : ℕ) (a : Legal m limit) where
  priced-facts : (p : Pricing) → priced_as m kind s limit w p ≡ true → PricedAs m kind s limit w p
  unfolding priced_as
  priced-facts Fixed h =
      let x = and_parts (not (sliding kind) && not (dark kind)) (eqb w limit) h in
      let y = and_parts (not (sliding kind)) (not (dark kind)) x.0 in
      record { rigid = not-true (sliding kind) y.0; shown = not-true (dark kind) y.1; at = eqb-true w limit x.1 }
  priced-facts Dark h = let x = and_parts (dark kind) (eqb w limit) h in record { dark = x.0; at = eqb-true w limit x.1 }
  priced-facts (Sliding d) h = let x = and_parts (sliding kind) (slides m s limit d w) h in record { able = x.0; slides = is-slides s limit d w a x.1 }

  facts-priced : Mpv m → (p : Pricing) → PricedAs m kind s limit w p → priced_as m kind s limit w p ≡ true
  unfolding priced_as
  facts-priced v Fixed f = rw (f.rigid, f.shown, eq-eqb w limit f.at)
  facts-priced v Dark f = rw (f.dark, eq-eqb w limit f.at)
  facts-priced v (Sliding d) f = rw (f.able, slides-is s v f.slides)

  works-legal : (p : Pricing) → PricedAs m kind s limit w p → Legal m w
  works-legal Fixed f = rw f.at a
  works-legal Dark f = rw f.at a
  works-legal (Sliding d) f = f.slides.works

-- ---- one entry ----

module _ (m top : ℕ) (e : Entry) where
  pub entry-facts : sound_entry m top e ≡ true → EntryFacts m top e
  unfolding sound_entry
  entry-facts h =
      let a = and_parts (numbered top e) (kinded e && (partied e && (sized m e && priced_well m e))) h in
      let b = and_parts (kinded e) (partied e && (sized m e && priced_well m e)) a.1 in
      let c = and_parts (partied e) (sized m e && priced_well m e) b.1 in
      let d = and_parts (sized m e) (priced_well m e) c.1 in
      let n = between-both 1 top e.number a.0 in
      let p = and_parts (between 1 99 e.party) (not (quote e) || leb e.party 16) c.0 in
      let q = between-both 1 99 e.party p.0 in
      let z = and_parts (legal m e.limit) (between 1 99999 e.quantity) d.0 in
      let u = between-both 1 99999 e.quantity z.1 in
      let l : Legal m e.limit = is-legal m e.limit z.0 in
      let f : PricedAs m e.kind e.sell e.limit e.working e.pricing =
      priced-facts m e.kind e.sell e.limit e.working l e.pricing d.1 in
      record {
        counted = n.0;
        given = n.1;
        entering = b.0;
        party_low = q.0;
        party_high = q.1;
        maker = λ t. leb-true e.party 16 (rw t at p.1);
        limit = l;
        some = u.0;
        most = u.1;
        works = works-legal m e.kind e.sell e.limit e.working l e.pricing f;
        prices = f;
      }

  pub facts-entry : Mpv m → EntryFacts m top e → sound_entry m top e ≡ true
  unfolding sound_entry
  facts-entry v f = rw (
    both-between 1 top e.number (f.counted, f.given),
    f.entering,
    both-between 1 99 e.party (f.party_low, f.party_high),
    maker (quote e) refl,
    legal-is f.limit,
    both-between 1 99999 e.quantity (f.some, f.most),
    facts-priced m e.kind e.sell e.limit e.working f.limit v e.pricing f.prices,
  )
    where
      maker : (b : Bool) → quote e ≡ b → (not (quote e) || leb e.party 16) ≡ true
      maker true q = rw q (le-leb e.party 16 (f.maker q))
      maker false q = rw q

-- ---- two entries ----

clear-facts : (s t : Bool) (p q : ℕ) → p ≤ top_price → q ≤ top_price → uncrossed_as s t p q ≡ true → Facing s t → seen s p < seen s q
unfolding seen
clear-facts false false p q a b h f = clash f refl
clear-facts false true p q a b h f = ltb-true p q h
clear-facts true false p q a b h f = omega (arith, ltb-true q p h)
clear-facts true true p q a b h f = clash f refl

facts-clear : (s t : Bool) (p q : ℕ) → (Facing s t → seen s p < seen s q) → uncrossed_as s t p q ≡ true
unfolding seen
facts-clear false false p q c = refl
facts-clear false true p q c = lt-ltb p q (c refl)
facts-clear true false p q c = lt-ltb q p (omega (arith, c refl))
facts-clear true true p q c = refl

module _ (x y : Entry) where
  pub pair-facts : x.working ≤ top_price → y.working ≤ top_price → sound_pair x y ≡ true → PairFacts x y
  unfolding sound_pair
  pair-facts wx wy h =
      let a = and_parts (distinct x y) (one_quote x y && uncrossed x y) h in
      let b = and_parts (one_quote x y) (uncrossed x y) a.1 in
      record {
        other = eqb-false x.number y.number (not-true (eqb x.number y.number) a.0);
        one-quote = λ u v p s. clash
            (and_both (quote x) (quote y && (eqb x.party y.party && beq x.sell y.sell)) u
            (and_both (quote y) (eqb x.party y.party && beq x.sell y.sell) v
            (and_both (eqb x.party y.party) (beq x.sell y.sell) (eq-eqb x.party y.party p) (eq-beq x.sell y.sell s))))
            (not-true (quote x && (quote y && (eqb x.party y.party && beq x.sell y.sell))) b.0);
        apart = record { clear = clear-facts x.sell y.sell x.working y.working wx wy b.1 };
      }

  pub facts-pair : PairFacts x y → sound_pair x y ≡ true
  unfolding sound_pair
  facts-pair f = rw (
    ne_eqb x.number y.number f.other,
    facts-clear x.sell y.sell x.working y.working f.apart.clear,
    one (quote x) refl (quote y) refl (eqb x.party y.party) refl (beq x.sell y.sell) refl,
  )
    where
      one : (a : Bool) → quote x ≡ a → (b : Bool) → quote y ≡ b → (c : Bool) → eqb x.party y.party ≡ c
          → (d : Bool) → beq x.sell y.sell ≡ d → one_quote x y ≡ true
      one true p true q true r true t = absurd (f.one-quote p q (eqb-true x.party y.party r) (beq-true x.sell y.sell t))
      one false p b q c r d t = rw p
      one true p false q c r d t = rw (p, q)
      one true p true q false r d t = rw (p, q, r)
      one true p true q true r false t = rw (p, q, r, t)

-- ---- the entries that rest ----

module _ (m top : ℕ) where
  two_facts : (l : List Entry) → All (EntryFacts m top) l → pairs sound_pair l ≡ true → EachTwo PairFacts l
  two_facts [] a h = tt
  two_facts (x ∷ l) a h =
      let p = pairs-true sound_pair x l h in
      (all-zip (λ y f t. pair-facts x y a.0.works.high f.works.high t) l a.1 (all_true (sound_pair x) l p.0), two_facts l a.1 p.1)

  facts-two : (l : List Entry) → EachTwo PairFacts l → pairs sound_pair l ≡ true
  unfolding pairs
  facts-two [] f = refl
  facts-two (x ∷ l) f =
      and_both (all (sound_pair x) l) (pairs sound_pair l) (true-all (sound_pair x) l (all_map (λ y g. facts-pair x y g) l f.0)) (facts-two l f.1)

  -- SOUND ENTRIES, BY THE TESTS AND BY THE FACTS
  pub is-sound : (l : List Entry) → mpv m ≡ true → sound_entries m top l ≡ true → Sound m top l
  unfolding sound_entries
  is-sound l v h =
      let p = and_parts (all (sound_entry m top) l) (pairs sound_pair l) h in
      let a : All (EntryFacts m top) l = all_map (λ e t. entry-facts m top e t) l (all_true (sound_entry m top) l p.0) in
      record { step = is-mpv m v; entries = a; pairs = two_facts l a p.1 }

  pub sound-is : {l : List Entry} → Sound m top l → sound_entries m top l ≡ true
  unfolding sound_entries
  sound-is {l} so =
      and_both (all (sound_entry m top) l) (pairs sound_pair l)
      (true-all (sound_entry m top) l (all_map (λ e f. facts-entry m top e so.step f) l so.entries)) (facts-two l so.pairs)
