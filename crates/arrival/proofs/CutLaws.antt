-- What cancelling keeps: a sound book, all the other entries; at most one report, which packs; and that a quote which is cut is gone.
-- Assumes nothing.
use Prim.Native.Nat.{ℕ, ◌+◌, ◌≤◌}
use mathlib.Core.Path.{◌≡◌, refl, sym, ◌∙◌}
use mathlib.Core.Bool.{Bool, true, false, ◌&&◌, beq}
use mathlib.Core.List.{List}
use native.Mathlib.Omega.{arith}
use lib.Dec.{eqb}
use lib.ListN.{length}
use borrow.Author.Tests.{eqb-true, eq-eqb}
use Rattle.lists.specs.Places.{without}
use Rattle.lists.specs.Tests.{All}
use Rattle.lists.specs.Choose.{Found, nowhere, found}
use Rattle.lists.specs.Run.{still}
use Rattle.lists.proofs.Bools.{and_left, and_right, beq-true, eq-beq}
use Rattle.lists.proofs.PlaceLaws.{at-inside, length_without}
use Rattle.lists.proofs.TestLaws.{all_map, all_of, all_without}
use Rattle.lists.proofs.ChooseLaws.{Tells}
use Rattle.packing.specs.Room.{AllPack}
use Rattle.packing.proofs.ReportLaws.{cancelled-packs}
use Rattle.book.specs.declared.Entry.{Entry}
use Rattle.book.specs.Entries.{quote, own_entry, quote_of, last_number}
use Rattle.book.specs.Look.{entry_of, quote_in}
use Rattle.book.proofs.LookLaws.{entry-tells, quote-tells}
use Rattle.soundness_theory.proofs.Facts.{EntryFacts, PairFacts, Sound}
use Rattle.soundness_theory.proofs.KeepLaws.{here-facts, others, sound-without}
use Rattle.arrival.specs.Cancel.{cut, cut_quote, cancel_entry, cancel_quote}

-- ---- one that is found goes, whatever the search ----

module _ (why : ℕ) (l : List Entry) where
  pub cut-few : (f : Found Entry) → length (cut why l f).records ≤ 1
  unfolding cut still
  cut-few nowhere = omega arith
  cut-few (found i e) = omega arith

  pub cut_all : (P : Entry → Type 0) (f : Found Entry) → All P l → All P (cut why l f).final
  unfolding cut still
  cut_all P nowhere a = a
  cut_all P (found i e) a = all_without P i l a

  pub cut-sound : {m top : ℕ} (f : Found Entry) → Sound m top l → Sound m top (cut why l f).final
  unfolding cut still
  cut-sound nowhere so = so
  cut-sound (found i e) so = sound-without so i

  module _ (test : Entry → Bool) (key : Entry → ℕ) where
    -- what goes is reported, one for one
    pub cut-length : (f : Found Entry) → Tells test key l f → length (cut why l f).final + length (cut why l f).records ≡ length l
    unfolding cut still
    cut-length nowhere c = omega arith
    cut-length (found i e) c = omega (arith, length_without i l (at-inside l i e c.there))

    pub cut-packs : {m top : ℕ} (f : Found Entry) → Tells test key l f → why ≤ 31 → top ≤ last_number → Sound m top l → AllPack (cut why l f).records
    unfolding cut still
    cut-packs nowhere c h low so = tt
    cut-packs (found i e) c h low so =
        let f : EntryFacts _ _ e = here-facts so i e c.there in (
          cancelled-packs e.sell e.party e.number e.quantity (omega (arith, f.party_high)) (omega (arith, f.given)) (omega (arith, f.most))
              why e.limit (omega arith) (omega (arith, f.limit.high)),
          tt,
        )

-- ---- a maker's quote on a side ----

-- x is no quote of that maker and side
abbrev pub OtherThan : ℕ → Bool → Entry → Type 0
OtherThan party s x = quote_of party s x ≡ false

pub record OfMaker (maker : ℕ) (s : Bool) (x : Entry) : Type 0 where
  pub quotes : quote x ≡ true
  pub party : x.party ≡ maker
  pub side : x.sell ≡ s

pub of-maker : (party : ℕ) (s : Bool) (x : Entry) → quote_of party s x ≡ true → OfMaker party s x
of-maker party s x h =
    let r : (eqb x.party party && beq x.sell s) ≡ true = and_right (quote x) (eqb x.party party && beq x.sell s) h in
    record {
      quotes = and_left (quote x) (eqb x.party party && beq x.sell s) h;
      party = eqb-true x.party party (and_left (eqb x.party party) (beq x.sell s) r);
      side = beq-true x.sell s (and_right (eqb x.party party) (beq x.sell s) r);
    }

pub maker-of : (party : ℕ) (s : Bool) (x : Entry) → OfMaker party s x → quote_of party s x ≡ true
maker-of party s x o = rw (o.quotes, eq-eqb x.party party o.party, eq-beq x.sell s o.side) refl

module _ (why party : ℕ) (s : Bool) (l : List Entry) where
  pub quote-few : length (cut_quote why party s l).records ≤ 1
  quote-few = cut-few why l (quote_in party s l)

  pub quote-length : length (cut_quote why party s l).final + length (cut_quote why party s l).records ≡ length l
  quote-length = cut-length why l (quote_of party s) (λ _. 0) (quote_in party s l) (quote-tells l party s)

  pub quote-all : (P : Entry → Type 0) → All P l → All P (cut_quote why party s l).final
  quote-all P a = cut_all why l P (quote_in party s l) a

  module _ {m top : ℕ} (so : Sound m top l) where
    pub quote-sound : Sound m top (cut_quote why party s l).final
    quote-sound = cut-sound why l (quote_in party s l) so

    pub quote-packs : why ≤ 31 → top ≤ last_number → AllPack (cut_quote why party s l).records
    quote-packs h low = cut-packs why l (quote_of party s) (λ _. 0) (quote_in party s l) (quote-tells l party s) h low so

    -- A QUOTE THAT IS CUT IS GONE: "one quote at most per maker and side"
    pub quote-gone : All (OtherThan party s) (cut_quote why party s l).final
    unfolding cut still
    quote-gone = at (quote_in party s l) (quote-tells l party s)
      where
        alone : (i : ℕ) (e x : Entry) → OfMaker party s e → PairFacts e x → (b : Bool) → quote_of party s x ≡ b → b ≡ false
        alone i e x o p false q = refl
        alone i e x o p true q =
            let u : OfMaker party s x = of-maker party s x q in
            absurd (p.one-quote o.quotes u.quotes (o.party ∙ sym u.party) (o.side ∙ sym u.side))

        at : (f : Found Entry) → Tells (quote_of party s) (λ _. 0) l f → All (OtherThan party s) (cut why l f).final
        at nowhere c = all_of (OtherThan party s) l (λ i x h. c.nobody i x h)
        at (found i e) c =
            all_map (λ x p. alone i e x (of-maker party s e c.passes) p (quote_of party s x) refl) (without i l) (others so i e c.there)

-- ---- kinds 7 and 8 ----

module _ (party : ℕ) (l : List Entry) {m top : ℕ} (so : Sound m top l) where
  pub cancel-entry-sound : (number : ℕ) → Sound m top (cancel_entry party number l).final
  cancel-entry-sound number = cut-sound 28 l (entry_of party number l) so

  pub cancel-entry-packs : (number : ℕ) → top ≤ last_number → AllPack (cancel_entry party number l).records
  cancel-entry-packs number low = cut-packs 28 l (own_entry party number) (λ _. 0) (entry_of party number l) (entry-tells l party number) (omega arith) low so

  pub cancel-quote-sound : (s : Bool) → Sound m top (cancel_quote party s l).final
  cancel-quote-sound s = quote-sound 28 party s l so

  pub cancel-quote-packs : (s : Bool) → top ≤ last_number → AllPack (cancel_quote party s l).records
  cancel-quote-packs s low = quote-packs 28 party s l so (omega arith) low

pub cancel-entry-few : (party number : ℕ) (l : List Entry) → length (cancel_entry party number l).records ≤ 1
cancel-entry-few party number l = cut-few 28 l (entry_of party number l)

pub cancel-entry-length : (party number : ℕ) (l : List Entry)
    → length (cancel_entry party number l).final + length (cancel_entry party number l).records ≡ length l
cancel-entry-length party number l = cut-length 28 l (own_entry party number) (λ _. 0) (entry_of party number l) (entry-tells l party number)
