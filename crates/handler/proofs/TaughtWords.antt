-- WHAT THE CLASS IS TAUGHT, IN RECORDS: what is said of the handler's answer h to a message a that was put to a series s. Taught proves them of every accepted
-- message; the reports are those that stand in the room, and the book is that of the series left.
-- Assumes nothing.
use Prim.Native.Nat.{ℕ, ◌+◌, ◌≤◌}
use mathlib.Core.Path.{◌≡◌}
use mathlib.Core.Bool.{Bool, true, false, not}
use mathlib.Core.List.{◌∷◌, ◌++◌, map}
use mathlib.Core.Logic.{◌⊎◌}
use Rattle.std.specs.Prelude.{Some}
use lib.ListN.{length}
use Rattle.lists.specs.Places.{At}
use Rattle.lists.specs.Tests.{All}
use Rattle.packing.specs.declared.report.Report.{Report}
use Rattle.packing.specs.declared.report.Report.TheVariants.{Noted, Rejected, Traded, Rested, Repriced, Cancelled}
use Rattle.book.specs.declared.Entry.{Entry}
use Rattle.book.specs.Entries.{display, quote_of, with_quantity}
use Rattle.book.specs.Shape.{entries_of}
use Rattle.book.specs.Look.{quote_in}
use Rattle.telling.specs.Tell.{rejected, cancelled}
use Rattle.telling.proofs.Staying.{Numbered, TradeNames}
use Rattle.settling_theory.proofs.Stays.{TradesOrMoves}
use Rattle.arrival.specs.Arrive.{none_traded, trades_of}
use Rattle.arrival.proofs.CutLaws.{OtherThan}
use Rattle.arrival.proofs.Leaves.{cancels}
use Rattle.series.specs.declared.Series.{Series}
use Rattle.handler.specs.declared.Ask.{Ask}
use Rattle.handler.specs.Accept.{comer_of}
use Rattle.handler.specs.Handle.{Handled}
use Rattle.handler.proofs.Blocks.{is_blocked_in}
use Rattle.handler.proofs.Demands.{settling_of, reports_in, EachReport}

-- ---- what became of an entry that rested ----

-- one of the counted reports is of a trade that names the entry of number n
pub record TradeIn (h : Handled) (n : ℕ) : Type 0 where
  pub place : ℕ
  pub report : Report
  pub there : At (reports_in h) place (Some report)
  pub names : TradeNames n report

-- it still rests, under its number, in the series left; or a report of a trade names it
abbrev pub Stays : Handled → ℕ → Type 0
Stays h n = Numbered (entries_of h.answer.series.book) n ⊎ TradeIn h n

-- ---- "A quote so stopped with nothing traded is rejected, and the maker's resting same-side quote is cancelled"; "24 cancels the same side" ----

-- what the message a brought to the series s was rejected with such a reason, and h is the answer
pub record TakesSame (s : Series) (a : Ask) (why : ℕ) (h : Handled) : Type 0 where
  -- the reports: its rejection; the cancellation of its maker's quote on the same side, with 30, if there was one; then those of settling,
  pub reports : reports_in h
      ≡ map Some (rejected why (comer_of s a) ∷ (cancels 30 (quote_in a.party a.sell (entries_of s.book)) ++ (settling_of s a).records))
  -- which are trades and moves alone;
  pub settling : All TradesOrMoves (settling_of s a).records
  -- that quote is gone;
  pub gone : All (OtherThan a.party a.sell) (entries_of h.answer.series.book)
  -- everything else stays, or is named by a trade,
  pub others : (i : ℕ) (y : Entry) → At (entries_of s.book) i y → quote_of a.party a.sell y ≡ false → Stays h y.number
  -- and so does the maker's quote on the opposite side;
  pub opposite : (i : ℕ) (y : Entry) → At (entries_of s.book) i y → quote_of a.party (not a.sell) y ≡ true → Stays h y.number
  -- and nobody is blocked for it
  pub unblocked : h.answer.series.blocked ≡ s.blocked

-- ---- "25 and 26 cancel both of the maker's quotes and block that maker until kind 12" ----

pub record TakesBoth (s : Series) (a : Ask) (why : ℕ) (h : Handled) : Type 0 where
  -- the reports: its rejection; the cancellation of its maker's quotes, with 30, the buy first, where there were any; then those of settling,
  pub reports : reports_in h
      ≡ map Some (rejected why (comer_of s a) ∷ ((cancels 30 (quote_in a.party false (entries_of s.book))
      ++ cancels 30 (quote_in a.party true (entries_of s.book))) ++ (settling_of s a).records))
  -- which are trades and moves alone;
  pub settling : All TradesOrMoves (settling_of s a).records
  -- no quote of that maker is left on either side;
  pub gone : (side : Bool) → All (OtherThan a.party side) (entries_of h.answer.series.book)
  -- everything else stays, or is named by a trade;
  pub others : (i : ℕ) (y : Entry) → At (entries_of s.book) i y → ((side : Bool) → quote_of a.party side y ≡ false) → Stays h y.number
  -- the maker is blocked, and every other maker is as it was
  pub unblocked : length s.blocked ≡ 16 → (maker : ℕ) → 1 ≤ maker → (maker ≡ a.party → ⊥)
      → is_blocked_in h.answer.series maker ≡ is_blocked_in s maker
  pub blocked : length s.blocked ≡ 16 → is_blocked_in h.answer.series a.party ≡ true

-- ---- "With something traded, the rest is cancelled and the maker's opposite quote too." ----

pub record TakesOpposite (s : Series) (a : Ask) (why : ℕ) (h : Handled) : Type 0 where
  -- something was traded, and something was left of it;
  pub traded : none_traded (trades_of s.terms (comer_of s a) (entries_of s.book)).records ≡ false
  pub left : 1 ≤ (trades_of s.terms (comer_of s a) (entries_of s.book)).final.left
  -- the reports: the same-side quote that it replaced, with 27, if there was one; the trades; the rest, cancelled for this reason; its maker's quote on the
  -- opposite side, with 29, if there is one after the trades; then those of settling,
  pub reports : reports_in h
      ≡ map Some ((cancels 27 (quote_in a.party a.sell (entries_of s.book))
      ++ ((trades_of s.terms (comer_of s a) (entries_of s.book)).records
      ++ (cancelled why (with_quantity (trades_of s.terms (comer_of s a) (entries_of s.book)).final.left (comer_of s a))
      ∷ cancels 29 (quote_in a.party (not a.sell) (trades_of s.terms (comer_of s a) (entries_of s.book)).final.book))))
      ++ (settling_of s a).records)
  -- which are trades and moves alone;
  pub settling : All TradesOrMoves (settling_of s a).records
  -- no quote of that maker is left on either side;
  pub gone : (side : Bool) → All (OtherThan a.party side) (entries_of h.answer.series.book)
  -- everything else stays, or is named by a trade;
  pub others : (i : ℕ) (y : Entry) → At (entries_of s.book) i y → ((side : Bool) → quote_of a.party side y ≡ false) → Stays h y.number
  -- and nobody is blocked for it
  pub unblocked : h.answer.series.blocked ≡ s.blocked

-- ---- "An order's rest is just cancelled." ----

-- a report rejects nothing, and what it cancels is the order's own rest
abbrev pub SparesQuotes : ℕ → Report → Type 0
SparesQuotes n Noted = Unit {0}
SparesQuotes n (Rejected why s party number limit quantity) = ⊥
SparesQuotes n (Traded s party number other price quantity) = Unit {0}
SparesQuotes n (Rested s party number display working quantity) = Unit {0}
SparesQuotes n (Repriced s party number display working quantity) = Unit {0}
SparesQuotes n (Cancelled why s party number limit quantity) = number ≡ n

-- of an order that the message a brought to the series s, and the answer h
pub record LeavesQuotes (s : Series) (a : Ask) (h : Handled) : Type 0 where
  -- no report rejects anything, or cancels anything but its own rest;
  pub reports : EachReport (SparesQuotes (s.terms.given + 1)) h
  -- everything that rested stays, or is named by a trade, every quote among it;
  pub others : (i : ℕ) (y : Entry) → At (entries_of s.book) i y → Stays h y.number
  -- and nobody is blocked for it
  pub unblocked : h.answer.series.blocked ≡ s.blocked
