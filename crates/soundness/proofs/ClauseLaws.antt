-- What the test of a single entry says, part by part.
-- Assumes nothing.
use Prim.Native.Nat.{ℕ, ◌≤◌, ◌<◌}
use mathlib.Core.Path.{◌≡◌, refl, ap, ◌∙◌}
use mathlib.Core.Bool.{Bool, true, false, cond, not, ◌&&◌, ◌||◌}
use native.Mathlib.Omega.{arith}
use borrow.Author.Tests.{leb-true, eqb-true}
use lib.Dec.{eqb, leb}
use Rattle.prices.specs.Step.{mpv, legal, back, top_price}
use Rattle.prices.specs.Side.{reaches}
use Rattle.kinds.specs.Kinds.{sliding, dark}
use Rattle.prices.specs.Rest.{slides}
use Rattle.prices.proofs.StepLaws.{is-mpv, is-legal, positive}
use Rattle.lists.proofs.Bools.{and_left, and_right, and_both}
use Rattle.book.specs.declared.Entry.{Entry}
use Rattle.book.specs.declared.Pricing.{Pricing}
use Rattle.book.specs.declared.Pricing.TheVariants.{Fixed, Dark, Sliding}
use Rattle.book.specs.Entries.{quote, shown_as, display}
use Rattle.soundness_theory.specs.Sound.{between, numbered, kinded, partied, sized, priced_as, priced_well, sound_entry}
use Rattle.soundness_theory.proofs.SoundFacts.{between-both}
use Rattle.soundness.specs.Summary.{seat, seat_of}

pub record Clauses (m given : ℕ) (e : Entry) : Type 0 where
  pub number : numbered given e ≡ true
  pub kind : kinded e ≡ true
  pub party : partied e ≡ true
  pub size : sized m e ≡ true
  pub price : priced_well m e ≡ true

pub clauses-of : (m given : ℕ) (e : Entry) → sound_entry m given e ≡ true → Clauses m given e
unfolding sound_entry
clauses-of m given e h =
    let a = and_right (numbered given e) (kinded e && (partied e && (sized m e && priced_well m e))) h in
    let b = and_right (kinded e) (partied e && (sized m e && priced_well m e)) a in
    let c = and_right (partied e) (sized m e && priced_well m e) b in
    record {
      number = and_left (numbered given e) (kinded e && (partied e && (sized m e && priced_well m e))) h;
      kind = and_left (kinded e) (partied e && (sized m e && priced_well m e)) a;
      party = and_left (partied e) (sized m e && priced_well m e) b;
      size = and_left (sized m e) (priced_well m e) c;
      price = and_right (sized m e) (priced_well m e) c;
    }

pub of-clauses : (m given : ℕ) (e : Entry) → Clauses m given e → sound_entry m given e ≡ true
unfolding sound_entry
of-clauses m given e c =
    and_both (numbered given e) (kinded e && (partied e && (sized m e && priced_well m e))) c.number
    (and_both (kinded e) (partied e && (sized m e && priced_well m e)) c.kind
    (and_both (partied e) (sized m e && priced_well m e) c.party (and_both (sized m e) (priced_well m e) c.size c.price)))

-- the party of a quote is a maker
pub maker : (m given : ℕ) (e : Entry) → Clauses m given e → quote e ≡ true → (1 ≤ e.party) × (e.party ≤ 16)
maker m given e c q =
    let low = between-both 1 99 e.party (and_left (between 1 99 e.party) (not (quote e) || leb e.party 16) c.party) in
    let high : (not true || leb e.party 16) ≡ true = rw q at (and_right (between 1 99 e.party) (not (quote e) || leb e.party 16) c.party) in
    (low.0, leb-true e.party 16 high)

-- it works at a legal price, so at no less than a cent, and shows none or a legal one
module _ (m given : ℕ) (e : Entry) (c : Clauses m given e) where
  limit-legal : legal m e.limit ≡ true
  limit-legal = and_left (legal m e.limit) (between 1 99999 e.quantity) c.size

  works-legal : legal m e.working ≡ true
  unfolding priced_as slides
  works-legal = by e.pricing c.price
    where
      at-limit : (b : Bool) → (b && eqb e.working e.limit) ≡ true → legal m e.working ≡ true
      at-limit b h = ap (legal m) (eqb-true e.working e.limit (and_right b (eqb e.working e.limit) h)) ∙ limit-legal

      by : (p : Pricing) → priced_as m e.kind e.sell e.limit e.working p ≡ true → legal m e.working ≡ true
      by Fixed h = at-limit (not (sliding e.kind) && not (dark e.kind)) h
      by Dark h = at-limit (dark e.kind) h
      by (Sliding d) h =
          let z = reaches e.sell e.working d && (reaches e.sell d (back m e.sell e.working) && reaches e.sell e.limit e.working) in
          and_left (legal m e.working) z (and_right (legal m d) (legal m e.working && z)
          (and_right (sliding e.kind) (slides m e.sell e.limit d e.working) h))

  pub works : mpv m ≡ true → 1 ≤ e.working
  works v = positive (is-mpv m v) (is-legal m e.working works-legal)

  pub works-high : e.working ≤ top_price
  works-high = (is-legal m e.working works-legal).high

  pub shows-high : display e ≤ top_price
  unfolding priced_as slides
  shows-high = by e.pricing c.price
    where
      by : (p : Pricing) → priced_as m e.kind e.sell e.limit e.working p ≡ true → shown_as e.limit p ≤ top_price
      by Fixed h = (is-legal m e.limit limit-legal).high
      by Dark h = omega arith
      by (Sliding d) h =
          let z = reaches e.sell e.working d && (reaches e.sell d (back m e.sell e.working) && reaches e.sell e.limit e.working) in
          (is-legal m d (and_left (legal m d) (legal m e.working && z) (and_right (sliding e.kind) (slides m e.sell e.limit d e.working) h))).high

-- every seat is one of the 33
pub seat-low : (m given : ℕ) (e : Entry) → Clauses m given e → seat_of e < 33
seat-low m given e c = by (quote e) refl
  where
    side : (s : Bool) → e.party ≤ 16 → seat e.party s < 33
    side false h = omega arith
    side true h = omega arith

    by : (b : Bool) → quote e ≡ b → cond b (seat e.party e.sell) 0 < 33
    by true q = side e.sell (maker m given e c q).1
    by false q = omega arith
