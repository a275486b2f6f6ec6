-- What the handler has seen to before a quote or an order arrives: the tests of its refusals, and the soundness of the series.
-- No rule of document 01 stands here, only words for contracts.
-- Assumes nothing.
use Rattle.std.specs.Prelude.{ℕ, Option, Some, None, ◌+◌, ◌-◌, ◌≤◌, ◌<◌, min, ◌≡◌, Bool, true, false, not, ◌&&◌, List, eqb, length}
use Rattle.kinds.specs.Kinds.{enters}
use Rattle.prices.specs.Step.{legal}
use Rattle.prices.specs.Side.{reaches, away}
use Rattle.prices.specs.Protect.{Cents}
use Rattle.lists.specs.Choose.{Found, nowhere, found}
use Rattle.lists.specs.Run.{Step, stop, go, Ran}
use Rattle.telling.specs.Tell.{traded}
use Rattle.book.specs.Change.{hit}
use Rattle.packing.specs.declared.report.Report.{Report}
use Rattle.packing.specs.Room.{written}
use Rattle.book.specs.declared.Entry.{Entry}
use Rattle.book.specs.declared.Book.{Book}
use Rattle.book.specs.Shape.{entries_of, book_of, WellFormed}
use Rattle.book.specs.Entries.{quote, last_number}
use Rattle.book.specs.Look.{best_contra, contra, national}
use Rattle.soundness_theory.specs.Sound.{sound_entries}
use Rattle.soundness_theory.specs.SoundMarket.{sound_market}
use Rattle.telling.specs.Stage.{Roomy}
use Rattle.terms.specs.declared.Terms.{Terms}
use Rattle.terms.specs.Terms.{market_of}
use Rattle.arrival.specs.Take.{Taking, shown_only, took}
use Rattle.arrival.specs.Post.{stop_for, Posts}
use Rattle.arrival.specs.declared.take.Trade.{Trade}
use Rattle.arrival.specs.declared.Facing.{Facing}
use Rattle.arrival.specs.Arrive.{replaced, book_left, posted, finished, none_traded, entered, arrived}

pub record Arriving (t : Terms) (e : Entry) (l : List Entry) : Type 0 where
  pub market : sound_market (market_of t) ≡ true
  pub entries : sound_entries t.m t.given l ≡ true
  -- the next number, if there is one
  pub number : e.number ≡ t.given + 1
  pub fresh : t.given < last_number
  pub entering : enters e.kind ≡ true
  pub party_low : 1 ≤ e.party
  pub party_high : e.party ≤ 99
  pub maker : quote e ≡ true → e.party ≤ 16
  pub limit : legal t.m e.limit ≡ true
  pub some : 1 ≤ e.quantity
  pub most : e.quantity ≤ 99999
  -- "64 entries rest, not counting the quote this one replaces"
  pub space : length (replaced e l).final < 64

-- ---- taking: the book, what is left of the taker, the room and the count ----

pub record Takes (x : Ran Taking Report) (b : Book) (room : List ℕ) (n : ℕ) : Type 0 where
  pub well : WellFormed b
  pub roomy : Roomy room n x.records

pub record TookAs (x : Ran Taking Report) (room : List ℕ) (n : ℕ) (after : Book) (left' : ℕ) (room' : List ℕ) (n' : ℕ) : Type 0 where
  pub book : after ≡ book_of x.final.book
  pub well : WellFormed after
  pub left : left' ≡ x.final.left
  pub bytes : room' ≡ written room n x.records
  pub count : n' ≡ n + length x.records

-- where the taker stands
abbrev pub taking_of : ℕ → Book → Taking
taking_of left b = record { left = left; book = entries_of b }

-- THE NEXT TRADE, as code answers it: the place of the best contra entry, the entry, and for how many contracts; or nothing
abbrev pub trade_if : Taking → ℕ → Entry → Bool → Option Trade
trade_if t j y false = None
trade_if t j y true = Some (record { at = j; entry = y; quantity = min t.left y.quantity })

abbrev pub trade_at : ℕ → Entry → Taking → Found Entry → Option Trade
trade_at cap e t nowhere = None
trade_at cap e t (found j y) = trade_if t j y (not (eqb t.left 0) && reaches e.sell cap y.working)

unfoldable pub next_trade : ℕ → Entry → Taking → Option Trade
next_trade cap e t = trade_at cap e t (best_contra e.sell (shown_only e) t.book)

-- what each case of the answer is in the rule (`next_take` is just that, by `next-take` of proofs/TradeLaws): nothing ends it, and a trade is told by its
-- report and leaves so much
abbrev pub trade_as : Entry → Taking → Option Trade → Step Taking Report
trade_as e t None = stop
trade_as e t (Some x) = go (traded e x.entry x.quantity) (record { left = t.left - x.quantity; book = hit x.at x.quantity t.book })

-- ---- an arrival, in its parts ----

-- whether it trades anything
abbrev pub trades : Terms → Entry → List Entry → Bool
trades t e l = not (none_traded (took (market_of t) e l).records)

-- what has been seen of the entries against it
pub record Faces (t : Terms) (e : Entry) (l : List Entry) (f : Facing) : Type 0 where
  pub contra : f.contra ≡ contra e.sell l
  pub national : f.national ≡ national e.sell (away (market_of t) e.sell) l

pub record Enters (t : Terms) (e : Entry) (f : Facing) (b : Book) : Type 0 where
  pub well : WellFormed b
  pub arriving : Arriving t e (entries_of b)
  pub faces : Faces t e (entries_of b) f

-- and whether it would trade
pub record EntersTrading (t : Terms) (e : Entry) (f : Facing) (trading : Bool) (b : Book) : Type 0 where
  pub enters : Enters t e f b
  pub trades : trading ≡ trades t e (entries_of b)

-- an arrival, with room for its reports
pub record Arrives (t : Terms) (e : Entry) (f : Facing) (b : Book) (room : List ℕ) (n : ℕ) : Type 0 where
  pub enters : Enters t e f b
  pub roomy : Roomy room n (arrived t e (entries_of b)).records

-- one that goes on, with room for it; that it is not rejected is the caller's to know
pub record Goes (t : Terms) (e : Entry) (f : Facing) (trading : Bool) (b : Book) (room : List ℕ) (n : ℕ) : Type 0 where
  pub decides : EntersTrading t e f trading b
  pub roomy : Roomy room n (entered t e (entries_of b)).records

pub record TakesOn (t : Terms) (e : Entry) (trading : Bool) (b : Book) (left : ℕ) (room : List ℕ) (n : ℕ) : Type 0 where
  pub well : WellFormed b
  pub whole : left ≡ e.quantity
  pub trades : trading ≡ trades t e (entries_of b)
  pub roomy : Roomy room n (took (market_of t) e (entries_of b)).records

pub record Rests (t : Terms) (e : Entry) (c : ℕ) (b : Book) (left : ℕ) (room : List ℕ) (n : ℕ) : Type 0 where
  pub posts : Posts t e b c
  pub space : b.count < 64
  pub roomy : Roomy room n (posted t e left (entries_of b)).records

pub record Finishes (t : Terms) (e : Entry) (c : ℕ) (b : Book) (left : ℕ) (room : List ℕ) (n : ℕ) : Type 0 where
  pub posts : Posts t e b c
  pub space : b.count < 64
  pub roomy : Roomy room n (finished t e left (stop_for t e (entries_of b)) (entries_of b)).records

-- what its tests are measured by: an NBO or NBB of at most 100,000, and a book in which it would post
pub record Measures (t : Terms) (e : Entry) (f : Facing) (b : Book) : Type 0 where
  pub posts : Posts t e b f.contra
  pub cents : Cents f.national e.limit

-- the book in which what is left would post, and that its tests may be put to it
pub record LeftIn (t : Terms) (e : Entry) (f : Facing) (b : Book) (d : Book) : Type 0 where
  pub left : entries_of d ≡ book_left t e (entries_of b)
  pub posts : Posts t e d f.contra
