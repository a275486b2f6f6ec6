-- Trades on arrival: "Others trade with sells at or below the lesser of L and A."
-- Assumes nothing.
use Rattle.std.specs.Prelude.{ℕ, ◌-◌, min, Bool, true, false, cond, not, ◌&&◌, List, eqb, length}
use Rattle.prices.specs.declared.Market.{Market}
use Rattle.prices.specs.Side.{reaches, away}
use Rattle.kinds.specs.Kinds.{minds, light}
use Rattle.prices.specs.Aims.{up_to}
use Rattle.lists.specs.Choose.{Found, nowhere, found}
use Rattle.lists.specs.Run.{Step, stop, go, Ran, still, ran}
use Rattle.packing.specs.declared.report.Report.{Report}
use Rattle.book.specs.declared.Entry.{Entry}
use Rattle.book.specs.Change.{hit}
use Rattle.book.specs.Look.{best_contra}
use Rattle.telling.specs.Tell.{traded}

-- what is left of the taker, and the entries that rest
pub record Taking : Type 0 where
  pub left : ℕ
  pub book : List Entry

-- "the lesser of L and A": "It never trades above A (a sell never below the away bid). The NBBO rule of 000 is measured on the away price, since the own book
-- is served in price order."
abbrev pub bound : Market → Entry → ℕ
bound k e = up_to e.sell (away k e.sell) e.limit

-- "MMLO arriving passes over undisplayed interest."
abbrev pub shown_only : Entry → Bool
shown_only e = light e.kind

-- a price, 0 for none, and within a bound: a word for the code, which asks it of C before it looks for anybody
abbrev pub offered : Bool → ℕ → ℕ → Bool
offered s cap p = not (eqb p 0) && reaches s cap p

-- one trade, with the best contra entry if the bound reaches it
abbrev pub trade_with : Entry → Taking → ℕ → Entry → Bool → Step Taking Report
trade_with e t j y false = stop
trade_with e t j y true =
    go (traded e y (min t.left y.quantity))
    (record { left = t.left - min t.left y.quantity; book = hit j (min t.left y.quantity) t.book })

abbrev pub take_at : ℕ → Entry → Taking → Found Entry → Step Taking Report
take_at cap e t nowhere = stop
take_at cap e t (found j y) = trade_with e t j y (not (eqb t.left 0) && reaches e.sell cap y.working)

unfoldable pub next_take : ℕ → Entry → Taking → Step Taking Report
next_take cap e t = take_at cap e t (best_contra e.sell (shown_only e) t.book)

-- what falls with each trade: it uses up the taker, or an entry that rests
unfoldable pub chances : Taking → ℕ
chances t = cond (eqb t.left 0) 0 (length t.book)

unfoldable pub taken : ℕ → Entry → Taking → Ran Taking Report
taken cap e t = ran (next_take cap e) chances t

-- "Then MMALO: aims, no trade. Others trade .."
unfoldable pub took : Market → Entry → List Entry → Ran Taking Report
took k e l = cond (minds e.kind) (still (record { left = e.quantity; book = l })) (taken (bound k e) e (record { left = e.quantity; book = l }))
