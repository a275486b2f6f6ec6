-- A SOUND SERIES: document 01's "A state is sound if: ..", in its words and in its order, as plain facts. `sound_series` is a test of just these
-- (proofs/SoundSeriesDecides). What a clause asks of an entry, and of two, is in crate soundness (specs/SoundBook); ranks are places, and so are distinct.
-- Assumes nothing.
use Rattle.std.specs.Prelude.{ℕ, ◌≤◌, ◌≡◌, false, List, [], ◌⊎◌}
use Rattle.lists.specs.Tests.{All}
use Rattle.book.specs.declared.Entry.{Entry}
use Rattle.book.specs.Entries.{quote, last_number}
use Rattle.book.specs.Shape.{entries_of}
use Rattle.soundness.specs.SoundBook.{LegalPrice, Each, EachTwo, Distinct, Numbered, LegalFigures, OneQuote, Uncrossed, SoundPrices, UnusedZero}
use Rattle.terms.specs.declared.Terms.{Terms}
use Rattle.terms.specs.Terms.{top_underlying}
use Rattle.series.specs.declared.Series.{Series}
use Rattle.packing.specs.Setup.{top_strike}

-- "An away bid, away offer .. of 0 means none"
abbrev pub NoneOrLegal : ℕ → ℕ → Type 0
NoneOrLegal m p = (p ≡ 0) ⊎ LegalPrice m p

-- "setup, phase and prices are legal"
pub record LegalTerms (t : Terms) : Type 0 where
  -- "Setup M 10 is refused; 1 and 5 name the pairs."; "K, the configurable number of MPVs, is 0 to 100. Strike 1 to 100,000."
  pub step : (t.m ≡ 1) ⊎ (t.m ≡ 5)
  pub steps : t.k ≤ 100
  pub strike : (1 ≤ t.strike) × (t.strike ≤ top_strike)
  -- "phase: 0 closed, 1 open, 2 halted"
  pub phase : t.phase ≤ 2
  -- the away prices; "underlying price, 0 to 100,000, any cent"
  pub bid : NoneOrLegal t.m t.bid
  pub offer : NoneOrLegal t.m t.offer
  pub underlying : t.underlying ≤ top_underlying

-- "closed means nothing rests, halted means no quote rests"
pub record SoundPhase (phase : ℕ) (l : List Entry) : Type 0 where
  pub closed : phase ≡ 0 → l ≡ []
  pub halted : phase ≡ 2 → All (λ (x : Entry). quote x ≡ false) l

pub record SoundSeries (s : Series) : Type 0 where
  -- "setup, phase and prices are legal;"
  pub terms : LegalTerms s.terms
  -- "entry numbers are distinct and among those given, at most 1,000,000;"
  pub distinct : EachTwo s.book Distinct
  pub numbered : Each s.book (Numbered s.terms.given)
  pub most : s.terms.given ≤ last_number
  -- "limits, quantities and parties are legal;"
  pub figures : Each s.book (LegalFigures s.terms.m)
  -- "one quote at most per maker and side;"
  pub quotes : EachTwo s.book OneQuote
  -- "closed means nothing rests, halted means no quote rests;"
  pub phase : SoundPhase s.terms.phase (entries_of s.book)
  -- "every buy's working price is below every sell's;"
  pub uncrossed : EachTwo s.book Uncrossed
  -- "plain, MMLO and displayed orders display and work at the limit, dark ones work at the limit; for MMALO and MMRP, display and working price are legal,
  -- working is no less aggressive than display, by at most M [one step], and not beyond the limit;"
  pub prices : Each s.book (SoundPrices s.terms.m)
  -- "unused places are zero"; "At most 64 resting entries."
  pub unused : UnusedZero s.book
  pub few : s.book.count ≤ 64
