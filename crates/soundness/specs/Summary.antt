-- What one pass over a book answers: whether the book is sound, and what the pass has seen on its way: best prices, displays, who has a quote. The handler asks
-- for them where document 01 speaks of C, of NBO and NBB, and of the quote that another replaces.
-- No rule of document 01 stands here, only words for contracts.
-- Assumes nothing.
use Rattle.std.specs.Prelude.{ℕ, ◌+◌, ◌≤◌, ◌≡◌, min, max, Bool, true, false, cond, ◌&&◌, ◌||◌, List, eqb, ltb, length, get_or, Option, None, Some, is_some}
use Rattle.prices.specs.Step.{mpv}
use Rattle.lists.specs.Tests.{any}
use Rattle.lists.specs.Choose.{Found, nowhere, found}
use Rattle.book.specs.declared.Entry.{Entry}
use Rattle.book.specs.declared.Book.{Book}
use Rattle.book.specs.Entries.{quote, quote_of, display}
use Rattle.book.specs.Shape.{entries_of, WellFormed}
use Rattle.book.specs.Look.{contra, national}
use Rattle.soundness_theory.specs.Sound.{sound_book, sound_entries}
use Rattle.soundness.specs.declared.Check.{Check}
use Rattle.soundness.specs.declared.Best.{Best}

-- ---- seats: one for each maker and side; 1 to 16 are those of buy quotes, 17 to 32 those of sell quotes, and 0 is nobody's ----

abbrev pub seat : ℕ → Bool → ℕ
seat party false = party
seat party true = party + 16

-- a quote sits in its maker's seat, and nothing else sits
abbrev pub seat_of : Entry → ℕ
seat_of e = cond (quote e) (seat e.party e.sell) 0

-- who sits, of the entries of a list
pub record Seated (l : List Entry) (seats : List Bool) : Type 0 where
  pub places : length seats ≡ 33
  pub nobody : get_or seats 0 false ≡ false
  pub makers : (party : ℕ) (s : Bool) → 1 ≤ party → party ≤ 16 → get_or seats (seat party s) false ≡ any (quote_of party s) l

-- whether a search has found anything: a maker sits just if there is a quote to be found (proofs/SummaryLaws)
abbrev pub is_found : {A : Type 0} → Found A → Bool
is_found nowhere = false
is_found (found i x) = true

-- ---- prices: the best of each side, 0 for none ----

-- while the entries are read, a number above all prices stands for no offer, so that the lowest is a minimum; and back
abbrev pub no_offer : ℕ
no_offer = 1000000

unfoldable pub offer_key : ℕ → ℕ
offer_key p = cond (eqb p 0) no_offer p

unfoldable pub offer_of : ℕ → ℕ
offer_of p = cond (eqb p no_offer) 0 p

-- the price of an entry of side s, for the highest buy and the lowest sell
abbrev pub buys_at : Bool → ℕ → ℕ
buys_at s p = cond s 0 p

abbrev pub sells_at : Bool → ℕ → ℕ
sells_at s p = cond s p no_offer

-- one more entry: the highest number, the best prices, the displays without the dark ones, and whether a quote was met
abbrev pub better : Best → Entry → Best
better best e = record {
  top = max best.top e.number;
  bid = max best.bid (buys_at e.sell e.working);
  offer = min best.offer (sells_at e.sell e.working);
  shownbid = max best.shownbid (buys_at e.sell (display e));
  shownoffer = min best.shownoffer (sells_at e.sell (offer_key (display e)));
  quoted = best.quoted || quote e;
}

-- "every buy's working price is below every sell's", of the highest and the lowest; an offer of 0 is none
abbrev pub best_apart : ℕ → ℕ → Bool
best_apart bid offer = eqb offer 0 || ltb bid offer

-- ---- the answer ----

-- what it says of the entries of a sound book
pub record Summary (l : List Entry) (r : Check) : Type 0 where
  pub bid : r.bid ≡ contra true l
  pub offer : r.offer ≡ contra false l
  pub shownbid : r.shownbid ≡ national true 0 l
  pub shownoffer : r.shownoffer ≡ national false 0 l
  pub quoted : r.quoted ≡ any quote l
  pub seats : Seated l r.seats

-- the best price that side s faces, and the best that it is shown
abbrev pub faced : Check → Bool → ℕ
faced r false = r.offer
faced r true = r.bid

abbrev pub faced_shown : Check → Bool → ℕ
faced_shown r false = r.shownoffer
faced_shown r true = r.shownbid

-- of any other: nothing
abbrev pub unsound : Option Check
unsound = None

-- what the pass over the entries finds once all have been read
abbrev pub finding : Best → List Bool → Option Check
finding best seats = cond (best_apart best.bid (offer_of best.offer)) (Some (record {
  bid = best.bid;
  offer = offer_of best.offer;
  shownbid = best.shownbid;
  shownoffer = offer_of best.shownoffer;
  quoted = best.quoted;
  seats = seats;
})) unsound

-- what it asks: an MPV, and a book with no more entries than places
pub record Few (m : ℕ) (b : Book) : Type 0 where
  pub step : mpv m ≡ true
  pub few : b.count ≤ 64
  pub places : length b.entries ≡ 64

-- of entries, whatever stands behind them
pub record Passed (m given : ℕ) (l : List Entry) (r : Option Check) : Type 0 where
  pub verdict : is_some r ≡ sound_entries m given l
  pub summary : (check : Check) → r ≡ Some check → Summary l check

-- of a whole book, and a series with this MPV
pub record Checked (m given : ℕ) (b : Book) (r : Option Check) : Type 0 where
  pub verdict : is_some r ≡ (mpv m && sound_book m given b)
  pub well : is_some r ≡ true → WellFormed b
  pub summary : (check : Check) → r ≡ Some check → Summary (entries_of b) check
