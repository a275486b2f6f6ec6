-- What the functions of settling ask and ensure, turn by turn.
-- No rule of document 01 stands here, only words for contracts.
-- Assumes nothing.
use Rattle.std.specs.Prelude.{ℕ, min, ◌≡◌, Bool, false, List, [], ◌∷◌, get_or}
use Rattle.prices.specs.declared.Against.{Against}
use Rattle.prices.specs.declared.Market.{Market}
use Rattle.prices.specs.Side.{away}
use Rattle.prices.specs.Aims.{Bounds}
use Rattle.lists.specs.Choose.{found}
use Rattle.lists.specs.Run.{Step, stop}
use Rattle.packing.specs.declared.report.Report.{Report}
use Rattle.book.specs.declared.Entry.{Entry}
use Rattle.book.specs.declared.Book.{Book}
use Rattle.book.specs.declared.Front.{Front}
use Rattle.book.specs.Shape.{zero_entry, entries_of, WellFormed, Place, TwoPlaces}
use Rattle.book.specs.Look.{best_contra, front_of, contra_in}
use Rattle.telling.specs.Tell.{traded}
use Rattle.telling.specs.Stage.{Roomy, alone}
use Rattle.soundness_theory.specs.SoundMarket.{SoundFor}
use Rattle.settling_theory.specs.Settle.{next_ease, ease_at, stirring_as, trade_at, stir_at, eased, stirred, settled}

-- ---- places of the book ----

abbrev pub entry_in : Book → ℕ → Entry
entry_in b i = get_or b.entries i zero_entry

-- ---- an entry judged by the book's front ----

-- what a side faces
abbrev pub against_of : Market → Front → Bool → Against
against_of k front s = record { m = k.m; away = away k s; contra = contra_in front s }

abbrev pub stirring_by : Market → Front → Entry → Bool
stirring_by k front e = stirring_as k (contra_in front e.sell) e e.pricing

pub record Judged (k : Market) (front : Front) : Type 0 where
  pub bounds : (s : Bool) → Bounds k.m (away k s) (contra_in front s)

pub record Judgeable (k : Market) (front : Front) (b : Book) : Type 0 where
  pub well : WellFormed b
  pub judged : Judged k front

-- a front that is the book's
pub record Watched (k : Market) (front : Front) (b : Book) : Type 0 where
  pub well : WellFormed b
  pub sound : SoundFor k (entries_of b)
  pub known : front ≡ front_of (entries_of b)

-- ---- a turn at a place, with room for what it reports ----

pub record Turn (b : Book) (i : ℕ) (room : List ℕ) (n : ℕ) (rs : List Report) : Type 0 where
  pub place : Place b i
  pub roomy : Roomy room n rs

abbrev pub EaseTurn : Market → Book → ℕ → List ℕ → ℕ → Type 0
EaseTurn k b i room n = Turn b i room n (alone (entries_of b) (ease_at k (entries_of b) (found i (entry_in b i)))).records

-- a trade between two places
abbrev pub dealt : Book → ℕ → ℕ → ℕ
dealt b i j = min (entry_in b i).quantity (entry_in b j).quantity

pub record DealTurn (b : Book) (i j : ℕ) (room : List ℕ) (n : ℕ) : Type 0 where
  pub two : TwoPlaces b i j
  pub roomy : Roomy room n (traded (entry_in b i) (entry_in b j) (dealt b i j) ∷ [])

abbrev pub trade_step : Book → ℕ → Step (List Entry) Report
trade_step b i = trade_at (entries_of b) i (entry_in b i) (best_contra (entry_in b i).sell false (entries_of b))

pub record StirTurn (k : Market) (front : Front) (b : Book) (i : ℕ) (room : List ℕ) (n : ℕ) : Type 0 where
  pub turn : Turn b i room n (alone (entries_of b) (stir_at k (entries_of b) (found i (entry_in b i)))).records
  pub watched : Watched k front b

-- ---- the stages of settling ----

pub record Easeable (k : Market) (b : Book) (room : List ℕ) (n : ℕ) : Type 0 where
  pub well : WellFormed b
  pub sound : SoundFor k (entries_of b)
  pub roomy : Roomy room n (eased k (entries_of b)).records

pub record Stirable (k : Market) (b : Book) (room : List ℕ) (n : ℕ) : Type 0 where
  pub well : WellFormed b
  pub sound : SoundFor k (entries_of b)
  pub uneased : next_ease k (entries_of b) ≡ stop
  pub roomy : Roomy room n (stirred k (entries_of b)).records

pub record Settleable (k : Market) (b : Book) (room : List ℕ) (n : ℕ) : Type 0 where
  pub well : WellFormed b
  pub sound : SoundFor k (entries_of b)
  pub roomy : Roomy room n (settled k (entries_of b)).records

pub record Askable (k : Market) (b : Book) : Type 0 where
  pub well : WellFormed b
  pub sound : SoundFor k (entries_of b)
