-- The next trade as code finds it, and the loop over it.
-- Assumes nothing.
use Prim.Native.Nat.{ℕ, ◌+◌, ◌-◌, ◌≤◌, ◌<◌, min}
use mathlib.Core.Path.{◌≡◌, refl, sym, ap, subst, ◌∙◌}
use mathlib.Core.Bool.{Bool, true, false, not, ◌&&◌, ◌||◌}
use mathlib.Core.List.{List, [], ◌∷◌}
use native.Mathlib.Omega.{arith}
use lib.Dec.{eqb}
use lib.ListN.{length, get_or}
use Rattle.prices.specs.Side.{reaches}
use Rattle.lists.specs.Choose.{Found, nowhere, found}
use Rattle.lists.specs.Run.{stop, go}
use Rattle.book.specs.declared.Entry.{Entry}
use Rattle.packing.specs.Room.{written}
use Rattle.book.specs.declared.Book.{Book}
use Rattle.book.specs.Shape.{zero_entry, entries_of, book_of, WellFormed, Place}
use Rattle.book.specs.Change.{hit}
use Rattle.book.proofs.ShapeLaws.{length-entries, book-of-entries, holds}
use Rattle.book.proofs.ChangeLaws.{hit-fits}
use Rattle.telling.specs.Tell.{traded}
use Rattle.telling.specs.Stage.{Roomy}
use Rattle.book.specs.Look.{best_contra}
use Rattle.arrival.specs.declared.take.Trade.{Trade}
use Rattle.std.specs.Prelude.{Option, Some, None}
use Rattle.arrival.specs.Take.{Taking, shown_only, trade_with, take_at, next_take, chances, taken}
use Rattle.arrival.specs.Asks.{Takes, TookAs, taking_of, trade_if, trade_at, next_trade, trade_as}
use Rattle.book.proofs.RankLaws.{Ranked}
use Rattle.book.proofs.LookLaws.{ContraTells, contra-tells}
use Rattle.lists.proofs.PlaceLaws.{at-inside}
use Rattle.telling.proofs.GoingLaws.{Going, going_start, going_end, going_less, going-room, going_on}
use Rattle.arrival.proofs.TakeLaws.{take-falls}

module _ (cap : ℕ) (e : Entry) (t : Taking) where
  -- THE RULE'S STEP IS WHAT THE NEXT TRADE SAYS, in each case of the answer
  pub next-take : next_take cap e t ≡ trade_as e t (next_trade cap e t)
  unfolding next_take next_trade
  next-take = at (best_contra e.sell (shown_only e) t.book)
    where
      pick : (j : ℕ) (y : Entry) (b : Bool) → trade_with e t j y b ≡ trade_as e t (trade_if t j y b)
      pick j y false = refl
      pick j y true = refl

      at : (f : Found Entry) → take_at cap e t f ≡ trade_as e t (trade_at cap e t f)
      at nowhere = refl
      at (found j y) = pick j y (not (eqb t.left 0) && reaches e.sell cap y.working)

  -- a trade is with an entry of the book, for no more than is left
  abbrev Within : Option Trade → Type 0
  Within None = Unit {0}
  Within (Some x) = (x.at < length t.book) × (x.quantity ≤ t.left)

  pub trade-within : (x : Trade) → Some x ≡ next_trade cap e t → Within (Some x)
  unfolding next_trade
  trade-within x h = subst Within (sym h) (at (best_contra e.sell (shown_only e) t.book) (contra-tells e.sell (shown_only e) t.book))
    where
      pick : (j : ℕ) (y : Entry) → j < length t.book → (b : Bool) → Within (trade_if t j y b)
      pick j y c false = tt
      pick j y c true = (c, omega arith)

      at : (f : Found Entry) → ContraTells e.sell (shown_only e) t.book f → Within (trade_at cap e t f)
      at nowhere c = tt
      at (found j y) c = pick j y (at-inside t.book j y c.chosen.there) (not (eqb t.left 0) && reaches e.sell cap y.working)

  -- nobody to trade with
  pub no-contra-left : best_contra e.sell (shown_only e) t.book ≡ nowhere → None ≡ next_trade cap e t
  unfolding next_trade
  no-contra-left b = rw b refl

  module _ (i : ℕ) (b : Ranked t.book (best_contra e.sell (shown_only e) t.book) i) where
    -- nothing is left, or the best is beyond the bound
    pub out-of-bound : (eqb t.left 0 || not (reaches e.sell cap (get_or t.book i zero_entry).working)) ≡ true → None ≡ next_trade cap e t
    unfolding next_trade
    out-of-bound h = rw (b.is, apart (eqb t.left 0) (reaches e.sell cap (get_or t.book i zero_entry).working) h) refl
      where
        apart : (a c : Bool) → (a || not c) ≡ true → (not a && c) ≡ false
        apart true c k = refl
        apart false true k = sym k
        apart false false k = refl

    -- the trade
    pub in-bound : (y : Entry) (q : ℕ) → y ≡ get_or t.book i zero_entry → q ≡ min t.left y.quantity
        → (eqb t.left 0 || not (reaches e.sell cap y.working)) ≡ false
        → Some (record { at = i; entry = y; quantity = q }) ≡ next_trade cap e t
    unfolding next_trade
    in-bound y q s w h = rw (b.is, ← s, both (eqb t.left 0) (reaches e.sell cap y.working) h, w) refl
      where
        both : (a c : Bool) → (a || not c) ≡ false → (not a && c) ≡ true
        both true c k = sym k
        both false true k = refl
        both false false k = sym k

-- ---- the loop ----

-- a taker at work: what rests is a well-formed book, and what is still to be told is what was to be told
pub record TakingOn (cap : ℕ) (e : Entry) (left₀ : ℕ) (b₀ : Book) (room₀ : List ℕ) (n₀ left : ℕ) (b : Book) (room : List ℕ) (n : ℕ) : Type 0 where
  pub well : WellFormed b
  pub going : Going (next_take cap e) chances (λ _. Unit {0}) (taking_of left₀ b₀) room₀ n₀ (taking_of left b) room n

pub take-start : (cap : ℕ) (e : Entry) (left : ℕ) (b : Book) (room : List ℕ) (n : ℕ) → Takes (taken cap e (taking_of left b)) b room n
    → TakingOn cap e left b room n left b room n
unfolding taken
take-start cap e left b room n t = record { well = t.well; going = going_start tt t.roomy }

module _ {cap : ℕ} {e : Entry} {left₀ : ℕ} {b₀ : Book} {room₀ : List ℕ} {n₀ left : ℕ} {b : Book} {room : List ℕ} {n : ℕ}
    (v : TakingOn cap e left₀ b₀ room₀ n₀ left b room n) where
  pub take_done : None ≡ next_trade cap e (taking_of left b) → TookAs (taken cap e (taking_of left₀ b₀)) room₀ n₀ b left room n
  unfolding taken
  take_done h =
      let stops : next_take cap e (taking_of left b) ≡ stop = next-take cap e (taking_of left b) ∙ ap (trade_as e (taking_of left b)) (sym h) in
      let z = going_end v.going stops in
      record {
        book = book-of-entries b v.well ∙ ap (λ (t : Taking). book_of t.book) z.final;
        well = v.well;
        left = ap (λ (t : Taking). t.left) z.final;
        bytes = z.bytes;
        count = z.count;
      }

  module _ (x : Trade) (h : Some x ≡ next_trade cap e (taking_of left b)) where
    goes : next_take cap e (taking_of left b)
        ≡ go (traded e x.entry x.quantity) (record { left = left - x.quantity; book = hit x.at x.quantity (entries_of b) })
    goes = next-take cap e (taking_of left b) ∙ ap (trade_as e (taking_of left b)) (sym h)

    pub take-room : Roomy room n (traded e x.entry x.quantity ∷ [])
    take-room =
        going-room v.going (take-falls cap e) (traded e x.entry x.quantity)
        (record { left = left - x.quantity; book = hit x.at x.quantity (entries_of b) }) goes

    pub take-place : Place b x.at
    take-place = record { well = v.well; inside = omega (arith, (trade-within cap e (taking_of left b) x h).0, length-entries b v.well) }

    pub take-most : x.quantity ≤ left
    take-most = (trade-within cap e (taking_of left b) x h).1

    module _ (c : Book) (q : c ≡ book_of (hit x.at x.quantity (entries_of b))) where
      same : record { left = left - x.quantity; book = hit x.at x.quantity (entries_of b) } ≡ taking_of (left - x.quantity) c
      same = ap (λ (l : List Entry). record { left = left - x.quantity; book = l }) (sym (holds q (hit-fits b x.at x.quantity v.well)).list)

      pub take_less : chances (taking_of (left - x.quantity) c) < chances (taking_of left b)
      take_less =
          rw same at (going_less v.going (take-falls cap e) (traded e x.entry x.quantity)
          (record { left = left - x.quantity; book = hit x.at x.quantity (entries_of b) }) goes)

      pub take_on : (room' : List ℕ) (n' : ℕ) → room' ≡ written room n (traded e x.entry x.quantity ∷ []) → n' ≡ n + 1
          → TakingOn cap e left₀ b₀ room₀ n₀ (left - x.quantity) c room' n'
      take_on room' n' w k = record {
        well = (holds q (hit-fits b x.at x.quantity v.well)).well;
        going =
            rw same at (going_on v.going (take-falls cap e) (traded e x.entry x.quantity)
            (record { left = left - x.quantity; book = hit x.at x.quantity (entries_of b) }) goes w k);
      }
