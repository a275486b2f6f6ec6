-- The whole book: its entries, and the places that are not used.
-- Assumes nothing.
use Prim.Native.Nat.{ℕ, ◌-◌, ◌≤◌, ◌<◌}
use mathlib.Core.Path.{◌≡◌, refl, sym, ap, ◌∙◌}
use mathlib.Core.Bool.{Bool, true, false, not, ◌&&◌, and-true, and-false}
use mathlib.Core.List.{List, [], ◌∷◌}
use borrow.Author.Tests.{eqb-true, not-true, leb-true, le-leb, lt-leb}
use lib.Dec.{eqb, leb}
use lib.ListN.{length, drop, replicate, length-drop}
use Rattle.std.specs.Prelude.{Option, None}
use Rattle.std.proofs.lemmas.Option.{none-some}
use Rattle.prices.specs.Step.{mpv}
use Rattle.lists.specs.Tests.{all}
use Rattle.lists.proofs.Bools.{clash, and_left, and_right}
use Rattle.book.specs.declared.Entry.{Entry}
use Rattle.book.specs.declared.Book.{Book}
use Rattle.book.specs.declared.Pricing.{Pricing}
use Rattle.book.specs.declared.Pricing.TheVariants.{Fixed, Dark, Sliding}
use Rattle.book.specs.Shape.{zero_entry, entries_of, WellFormed}
use Rattle.soundness_theory.specs.Sound.{fixed_pricing, unused_entry, sound_entries, sound_book}
use Rattle.soundness.specs.declared.Check.{Check}
use Rattle.soundness.specs.Summary.{Passed, Checked}

-- ---- an unused place holds the zero entry ----

fixed : (p : Pricing) → fixed_pricing p ≡ true → p ≡ Fixed
fixed Fixed h = refl
fixed Dark h = clash h refl
fixed (Sliding d) h = clash h refl

pub unused-zero : (e : Entry) → unused_entry e ≡ true → e ≡ zero_entry
unused-zero e h =
    let working = eqb e.working 0 in
    let quantity = eqb e.quantity 0 && working in
    let limit = eqb e.limit 0 && quantity in
    let side = not e.sell && limit in
    let kind = eqb e.kind 0 && side in
    let party = eqb e.party 0 && kind in
    let number = eqb e.number 0 && party in
    let h₁ = and_right (fixed_pricing e.pricing) number h in
    let h₂ = and_right (eqb e.number 0) party h₁ in
    let h₃ = and_right (eqb e.party 0) kind h₂ in
    let h₄ = and_right (eqb e.kind 0) side h₃ in
    let h₅ = and_right (not e.sell) limit h₄ in
    let h₆ = and_right (eqb e.limit 0) quantity h₅ in
    let h₇ = and_right (eqb e.quantity 0) working h₆ in
    same (eqb-true e.number 0 (and_left (eqb e.number 0) party h₁)) (eqb-true e.party 0 (and_left (eqb e.party 0) kind h₂))
    (eqb-true e.kind 0 (and_left (eqb e.kind 0) side h₃)) (not-true e.sell (and_left (not e.sell) limit h₄))
    (eqb-true e.limit 0 (and_left (eqb e.limit 0) quantity h₅)) (eqb-true e.quantity 0 (and_left (eqb e.quantity 0) working h₆))
    (eqb-true e.working 0 h₇) (fixed e.pricing (and_left (fixed_pricing e.pricing) number h))
  where
    same : e.number ≡ 0 → e.party ≡ 0 → e.kind ≡ 0 → e.sell ≡ false → e.limit ≡ 0 → e.quantity ≡ 0 → e.working ≡ 0 → e.pricing ≡ Fixed
        → e ≡ zero_entry
    same a b c d f g k p =
        λ i. record { number = a i; party = b i; kind = c i; sell = d i; limit = f i; quantity = g i; working = k i; pricing = p i }

pub zeros : (l : List Entry) → all unused_entry l ≡ true → l ≡ replicate (length l) zero_entry
unfolding all
zeros [] h = refl
zeros (x ∷ l) h =
    let x-zero : x ≡ zero_entry = unused-zero x (and_left (unused_entry x) (all unused_entry l) h) in
    let l-zeros : l ≡ replicate (length l) zero_entry = zeros l (and_right (unused_entry x) (all unused_entry l) h) in
    λ i. x-zero i ∷ l-zeros i

-- a book of 64 places whose unused ones hold nothing is well-formed
pub clean-well : {b : Book} → b.count ≤ 64 → length b.entries ≡ 64 → all unused_entry (drop b.count b.entries) ≡ true → WellFormed b
clean-well {b} few places unused = record {
  few = few;
  places = places;
  unused = zeros (drop b.count b.entries) unused
      ∙ ap (λ (n : ℕ). replicate n zero_entry) (length-drop b.count b.entries ∙ ap (λ (n : ℕ). n - b.count) places);
}

-- and so is a sound one; that it has 64 places is the array's type
pub sound-well : (m given : ℕ) (b : Book) → sound_book m given b ≡ true → length b.entries ≡ 64 → WellFormed b
unfolding sound_book
sound-well m given b h places =
    let rest = all unused_entry (drop b.count b.entries) in
    let resting = sound_entries m given (entries_of b) in
    clean-well (leb-true b.count 64 (and_left (leb b.count 64) (resting && rest) h)) places
    (and_right resting rest (and_right (leb b.count 64) (resting && rest) h))

-- ---- the answer for the whole book ----

module _ (m given : ℕ) (b : Book) where
  pub no_step : mpv m ≡ false → (mpv m && sound_book m given b) ≡ false
  no_step h = rw h

  pub too_many : 64 < b.count → (mpv m && sound_book m given b) ≡ false
  unfolding sound_book
  too_many h = rw (lt-leb b.count 64 h) (and-false (mpv m))

  pub leftover : all unused_entry (drop b.count b.entries) ≡ false → (mpv m && sound_book m given b) ≡ false
  unfolding sound_book
  leftover h = rw h (never (mpv m) (leb b.count 64) (sound_entries m given (entries_of b)))
    where
      never : (x y z : Bool) → (x && (y && (z && false))) ≡ false
      never true true z = and-false z
      never true false z = refl
      never false y z = refl

module _ {m given : ℕ} {b : Book} where
  pub turned_down : (mpv m && sound_book m given b) ≡ false → Checked m given b None
  turned_down h = record { verdict = sym h; well = λ t. clash t refl; summary = λ check t. absurd (none-some check t) }

  pub judged : {r : Option Check} → mpv m ≡ true → b.count ≤ 64 → length b.entries ≡ 64 → all unused_entry (drop b.count b.entries) ≡ true
      → Passed m given (entries_of b) r → Checked m given b r
  unfolding sound_book
  judged v few places unused p = record {
    verdict = p.verdict ∙ sym (rw (v, le-leb b.count 64 few, unused) (and-true (sound_entries m given (entries_of b))));
    well = λ _. clean-well few places unused;
    summary = p.summary;
  }
