-- "What is left posts, unless, first that applies: 20, .. 21, .. 23, .. 22".
-- Assumes nothing.
use Rattle.std.specs.Prelude.{ℕ, ◌≡◌, true, cond, List}
use Rattle.prices.specs.declared.Posting.{Posting}
use Rattle.prices.specs.declared.Prices.{Prices}
use Rattle.prices.specs.Side.{away}
use Rattle.kinds.specs.Kinds.{sliding, minds, dark, light}
use Rattle.prices.specs.Aims.{aims, Bounds}
use Rattle.prices.specs.Test.{Test, reason_of}
use Rattle.prices.specs.Post.{stops}
use Rattle.book.specs.declared.Entry.{Entry}
use Rattle.book.specs.declared.Pricing.{Pricing}
use Rattle.book.specs.declared.Pricing.TheVariants.{Fixed, Dark, Sliding}
use Rattle.book.specs.declared.Book.{Book}
use Rattle.book.specs.Entries.{with_quantity, with_prices}
use Rattle.book.specs.Shape.{entries_of, WellFormed}
use Rattle.book.specs.Look.{contra, best_hidden}
use Rattle.terms.specs.declared.Terms.{Terms}
use Rattle.terms.specs.Terms.{market_of}

-- "On arrival it takes the aims"; what does not slide displays (or not) and works at the limit
abbrev pub prices_before : Terms → Entry → ℕ → Prices
prices_before t e c =
    cond (sliding e.kind) (aims t.m e.kind e.sell e.limit (away (market_of t) e.sell) c) (record { display = e.limit; working = e.limit })

-- before the C of the book
abbrev pub prices_of : Terms → Entry → List Entry → Prices
prices_of t e l = prices_before t e (contra e.sell l)

abbrev pub pricing_of : ℕ → ℕ → Pricing
pricing_of kind display = cond (sliding kind) (Sliding display) (cond (dark kind) Dark Fixed)

-- the entry as it rests, with what is left
abbrev pub as_posted : Entry → ℕ → Prices → Entry
as_posted e left p = with_quantity left (with_prices p.working (pricing_of e.kind p.display) e)

-- the best price at which undisplayed interest works against it, 0 for none: asked for an MMLO alone
abbrev pub hidden_for : Entry → List Entry → ℕ
hidden_for e l = cond (light e.kind) (best_hidden e.sell l) 0

-- what is left, as it would rest in this book with display d
abbrev pub posting_of : Terms → Entry → List Entry → ℕ → Posting
posting_of t e l d = record { m = t.m; k = t.k; away = away (market_of t) e.sell; hidden = hidden_for e l; display = d }

-- the tests put to what is left, in the book in which it would post
abbrev pub stops_in : Terms → Entry → List Entry → List Test
stops_in t e l =
    stops t.m t.k e.kind e.sell e.limit (away (market_of t) e.sell) (hidden_for e l) (prices_of t e l).display

-- why it may not rest; 0 if it may
unfoldable pub stop_for : Terms → Entry → List Entry → ℕ
stop_for t e l = reason_of e.sell (stops_in t e l)

-- what the functions ask of their callers: a well-formed book, an M that is listed, and an away price and a contra price c that are none or legal; c is the C
-- of the book for a kind that minds it, and any other kind may have traded since c was seen
pub record Posts (t : Terms) (e : Entry) (b : Book) (c : ℕ) : Type 0 where
  pub well : WellFormed b
  pub bounds : Bounds t.m (away (market_of t) e.sell) c
  pub known : minds e.kind ≡ true → c ≡ contra e.sell (entries_of b)
