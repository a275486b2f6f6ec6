-- A SOUND BOOK, in the words of document 01 ("A state is sound if: .."), as plain facts. `sound_book` of crate soundness_theory is a test of just
-- these (proofs/SoundBookDecides). What the list says of the series, its setup, phase and prices, is in crate series (specs/SoundSeries).
-- Assumes nothing.
use Rattle.std.specs.Prelude.{ℕ, ◌+◌, ◌≤◌, ◌<◌, ◌%◌, ◌≡◌, Bool, true, false}
use Rattle.prices.specs.Side.{Aggressive}
use Rattle.prices.specs.Step.{top_price, change, steps_of}
use Rattle.kinds.specs.Kinds.{enters, quotes, sliding, dark}
use Rattle.lists.specs.Places.{At}
use Rattle.book.specs.declared.Entry.{Entry}
use Rattle.book.specs.declared.Book.{Book}
use Rattle.book.specs.declared.Pricing.TheVariants.{Fixed, Dark, Sliding}
use Rattle.book.specs.Shape.{zero_entry, entries_of}

-- "Prices are cents, from M to 100,000"; "Under 3.00 a series moves by the small step and from 3.00 up by the large one", M being the small one
pub record LegalPrice (m p : ℕ) : Type 0 where
  pub from : m ≤ p
  pub to : p ≤ top_price
  pub under : p < change → p % (steps_of m).small ≡ 0
  pub upward : change ≤ p → p % (steps_of m).large ≡ 0

-- p is more aggressive than q by at most one step: for a buy the one that leads down from p, for a sell the one that leads up
abbrev pub AtMostOneStep : ℕ → Bool → ℕ → ℕ → Type 0
AtMostOneStep m false p q = (p ≤ change → p ≤ q + (steps_of m).small) × (change < p → p ≤ q + (steps_of m).large)
AtMostOneStep m true p q = (p < change → q ≤ p + (steps_of m).small) × (change ≤ p → q ≤ p + (steps_of m).large)

-- "for MMALO and MMRP, display and working price are legal, working is no less aggressive than display, by at most M, and not beyond the limit"; "a working
-- price is at most one step past its display"
pub record SoundSlide (m : ℕ) (s : Bool) (limit display working : ℕ) : Type 0 where
  pub shown : LegalPrice m display
  pub works : LegalPrice m working
  pub aggressive : Aggressive s working display
  pub near : AtMostOneStep m s working display
  pub inside : Aggressive s limit working

-- the kinds, by the table of crate kinds: quotes; and by what is asked of their prices, those that slide, MMALO and MMRP, those that are dark, and the others,
-- which are plain, MMLO and displayed orders
abbrev pub Quote : Entry → Type 0
Quote e = quotes e.kind ≡ true

abbrev pub SlidingKind : ℕ → Type 0
SlidingKind kind = sliding kind ≡ true

abbrev pub DarkKind : ℕ → Type 0
DarkKind kind = dark kind ≡ true

abbrev pub FixedKind : ℕ → Type 0
FixedKind kind = (sliding kind ≡ false) × (dark kind ≡ false)

-- ---- what is asked of each entry that rests ----

-- "entry numbers are .. among those given"
abbrev pub Numbered : ℕ → Entry → Type 0
Numbered given e = (1 ≤ e.number) × (e.number ≤ given)

-- "limits, quantities and parties are legal": "Quantity 1 to 99,999. Parties 1 to 99; only 1 to 16 are makers", and quotes are makers'
pub record LegalFigures (m : ℕ) (e : Entry) : Type 0 where
  pub limit : LegalPrice m e.limit
  pub quantity : (1 ≤ e.quantity) × (e.quantity ≤ 99999)
  pub party : (1 ≤ e.party) × (e.party ≤ 99)
  pub maker : Quote e → e.party ≤ 16

-- it is of a kind that enters, and its prices are as its kind has them
pub record SoundPrices (m : ℕ) (e : Entry) : Type 0 where
  pub kind : enters e.kind ≡ true
  -- "plain, MMLO and displayed orders display and work at the limit"
  pub plain : FixedKind e.kind → (e.pricing ≡ Fixed) × (e.working ≡ e.limit)
  -- "dark ones work at the limit"
  pub dark : DarkKind e.kind → (e.pricing ≡ Dark) × (e.working ≡ e.limit)
  -- "for MMALO and MMRP, .."
  pub slides : SlidingKind e.kind → (d : ℕ) × ((e.pricing ≡ Sliding d) × SoundSlide m e.sell e.limit d e.working)

-- ---- what is asked of each two ----

-- "entry numbers are distinct"
abbrev pub Distinct : Entry → Entry → Type 0
Distinct x y = x.number ≡ y.number → ⊥

-- "one quote at most per maker and side"
abbrev pub OneQuote : Entry → Entry → Type 0
OneQuote x y = Quote x → Quote y → x.party ≡ y.party → x.sell ≡ y.sell → ⊥

-- "every buy's working price is below every sell's"
abbrev pub Uncrossed : Entry → Entry → Type 0
Uncrossed x y = x.sell ≡ false → y.sell ≡ true → x.working < y.working

-- ---- the book ----

-- P of each entry that rests; of each two, at different places
abbrev pub Each : Book → (Entry → Type 0) → Type 0
Each b P = (i : ℕ) (e : Entry) → At (entries_of b) i e → P e

abbrev pub EachTwo : Book → (Entry → Entry → Type 0) → Type 0
EachTwo b P = (i j : ℕ) (x y : Entry) → (i ≡ j → ⊥) → At (entries_of b) i x → At (entries_of b) j y → P x y

-- "unused places are zero"
abbrev pub UnusedZero : Book → Type 0
UnusedZero b = (i : ℕ) (e : Entry) → b.count ≤ i → At b.entries i e → e ≡ zero_entry

-- A SOUND BOOK; "At most 64 resting entries."
pub record SoundBook (m given : ℕ) (b : Book) : Type 0 where
  pub few : b.count ≤ 64
  pub distinct : EachTwo b Distinct
  pub numbered : Each b (Numbered given)
  pub figures : Each b (LegalFigures m)
  pub quotes : EachTwo b OneQuote
  pub uncrossed : EachTwo b Uncrossed
  pub prices : Each b (SoundPrices m)
  pub unused : UnusedZero b
