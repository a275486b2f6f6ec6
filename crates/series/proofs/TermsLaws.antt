-- A series' numbers and its phase: test and fact, clause by clause.
-- Assumes nothing.
use Prim.Native.Nat.{ℕ, ◌≤◌}
use mathlib.Core.Path.{◌≡◌, refl}
use mathlib.Core.Bool.{Bool, true, false, cond, not, ◌&&◌, ◌||◌}
use mathlib.Core.List.{List}
use mathlib.Core.Logic.{◌⊎◌, inl, inr}
use native.Mathlib.Omega.{arith}
use lib.Dec.{eqb, leb}
use lib.ListN.{length}
use borrow.Author.Tests.{leb-true, le-leb, eqb-true, not-true}
use Rattle.prices.specs.Step.{mpv, legal, none_or_legal}
use Rattle.prices.proofs.StepLaws.{Named, cent, nickel, is-named}
use Rattle.lists.specs.Tests.{any}
use Rattle.lists.proofs.Bools.{and_parts}
use Rattle.lists.proofs.PlaceLaws.{length_none}
use Rattle.lists.proofs.TestLaws.{any_false, false-any}
use Rattle.book.specs.declared.Entry.{Entry}
use Rattle.book.specs.Entries.{quote, last_number}
use Rattle.soundness_theory.specs.Sound.{between}
use Rattle.soundness_theory.proofs.SoundFacts.{between-both, both-between}
use Rattle.soundness.proofs.DecideLaws.{legal-price, price-legal}
use Rattle.terms.specs.declared.Terms.{Terms}
use Rattle.terms.specs.Terms.{top_underlying}
use Rattle.series.specs.Series.{sound_terms, sound_phase}
use Rattle.series.specs.SoundSeries.{NoneOrLegal, LegalTerms, SoundPhase}
use Rattle.packing.specs.Setup.{top_strike}

-- ---- a series' numbers ----

pub mpv-step : {m : ℕ} → Named m → (m ≡ 1) ⊎ (m ≡ 5)
mpv-step cent = inl refl
mpv-step nickel = inr refl

pub step-mpv : {m : ℕ} → (m ≡ 1) ⊎ (m ≡ 5) → mpv m ≡ true
unfolding mpv
step-mpv (inl e) = rw e
step-mpv (inr e) = rw e

pub if-any-price : (m p : ℕ) → none_or_legal m p ≡ true → NoneOrLegal m p
unfolding none_or_legal
if-any-price m p h = go (eqb p 0) refl h
  where
    go : (b : Bool) → eqb p 0 ≡ b → (b || legal m p) ≡ true → NoneOrLegal m p
    go true e g = inl (eqb-true p 0 e)
    go false e g = inr (legal-price m p g)

pub price-if-any : (m p : ℕ) → NoneOrLegal m p → none_or_legal m p ≡ true
unfolding none_or_legal
price-if-any m p (inl e) = rw e
price-if-any m p (inr l) = go (eqb p 0)
  where
    go : (b : Bool) → (b || legal m p) ≡ true
    go true = refl
    go false = price-legal m p l

module _ (t : Terms) where
  pub terms-facts : sound_terms t ≡ true → LegalTerms t × (t.given ≤ last_number)
  unfolding sound_terms
  terms-facts h =
      let h₇ : Bool = leb t.underlying top_underlying && leb t.given last_number in
      let h₆ : Bool = none_or_legal t.m t.offer && h₇ in
      let h₅ : Bool = none_or_legal t.m t.bid && h₆ in
      let h₄ : Bool = leb t.phase 2 && h₅ in
      let h₃ : Bool = between 1 top_strike t.strike && h₄ in
      let a = and_parts (mpv t.m) (leb t.k 100 && h₃) h in
      let b = and_parts (leb t.k 100) h₃ a.1 in
      let c = and_parts (between 1 top_strike t.strike) h₄ b.1 in
      let d = and_parts (leb t.phase 2) h₅ c.1 in
      let e = and_parts (none_or_legal t.m t.bid) h₆ d.1 in
      let f = and_parts (none_or_legal t.m t.offer) h₇ e.1 in
      let g = and_parts (leb t.underlying top_underlying) (leb t.given last_number) f.1 in (
        record {
          step = mpv-step (is-named t.m a.0);
          steps = leb-true t.k 100 b.0;
          strike = between-both 1 top_strike t.strike c.0;
          phase = leb-true t.phase 2 d.0;
          bid = if-any-price t.m t.bid e.0;
          offer = if-any-price t.m t.offer f.0;
          underlying = leb-true t.underlying top_underlying g.0;
        },
        leb-true t.given last_number g.1,
      )

  pub facts-terms : LegalTerms t → t.given ≤ last_number → sound_terms t ≡ true
  unfolding sound_terms
  facts-terms f most = rw (
    step-mpv f.step,
    le-leb t.k 100 f.steps,
    both-between 1 top_strike t.strike f.strike,
    le-leb t.phase 2 f.phase,
    price-if-any t.m t.bid f.bid,
    price-if-any t.m t.offer f.offer,
    le-leb t.underlying top_underlying f.underlying,
    le-leb t.given last_number most,
  )

-- ---- the phase ----

pub phase-facts : (phase : ℕ) (l : List Entry) → sound_phase phase l ≡ true → SoundPhase phase l
unfolding sound_phase
phase-facts phase l h = record {
  closed = λ p. length_none l (eqb-true (length l) 0 (rw p at h));
  halted = λ p. any_false quote l (not-true (any quote l) (rw p at h));
}

pub facts-phase : (phase : ℕ) (l : List Entry) → SoundPhase phase l → sound_phase phase l ≡ true
unfolding sound_phase
facts-phase phase l f = go (eqb phase 0) refl (eqb phase 2) refl
  where
    go : (a : Bool) → eqb phase 0 ≡ a → (b : Bool) → eqb phase 2 ≡ b → cond a (eqb (length l) 0) (cond b (not (any quote l)) true) ≡ true
    go true p b q = rw (f.closed (eqb-true phase 0 p)) refl
    go false p true q = rw (false-any quote l (f.halted (eqb-true phase 2 q))) refl
    go false p false q = refl

-- an open series may hold anything
pub phase-open : (l : List Entry) → SoundPhase 1 l
phase-open l = record { closed = λ p. absurd (omega arith); halted = λ p. absurd (omega arith) }
