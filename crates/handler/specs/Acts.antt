-- What the functions of the handler ask of their callers, once the tests are passed.
-- No rule of document 01 stands here, only words for contracts.
-- Assumes nothing.
use Rattle.std.specs.Prelude.{ℕ, ◌-◌, ◌≤◌, ◌≡◌, Bool, true, false, cond, ◌&&◌, List, length, set}
use Rattle.prices.specs.Side.{away, nearer}
use Rattle.book.specs.declared.Entry.{Entry}
use Rattle.book.specs.declared.Book.{Book}
use Rattle.book.specs.Shape.{entries_of, WellFormed}
use Rattle.telling.specs.Stage.{Roomy}
use Rattle.soundness_theory.specs.SoundMarket.{SoundFor}
use Rattle.soundness.specs.declared.Check.{Check}
use Rattle.soundness.specs.Summary.{Summary, faced, faced_shown}
use Rattle.terms.specs.declared.Terms.{Terms}
use Rattle.arrival.specs.declared.Facing.{Facing}
use Rattle.terms.specs.Terms.{market_of}
use Rattle.arrival.specs.Arrive.{blocks}
use Rattle.series.specs.declared.Series.{Series}
use Rattle.series.specs.Series.{sound_series}
use Rattle.handler.specs.declared.Ask.{Ask}
use Rattle.kinds.specs.Kinds.{quotes, enables}
use Rattle.handler.specs.Refuse.{bad_party, refusal_of}
use Rattle.handler.specs.Accept.{comer, settled_if}

-- a sound series, with its arrays of 64 and 16 places, and what the test of it has seen
pub record Whole (s : Series) (check : Check) : Type 0 where
  pub sound : sound_series s ≡ true
  pub well : WellFormed s.book
  pub blocks : length s.blocked ≡ 16
  pub seen : Summary (entries_of s.book) check

-- what an event asks is accepted: the series is sound, and no test refuses it
pub record Accepted (s : Series) (a : Ask) : Type 0 where
  pub sound : sound_series s ≡ true
  pub kind : 1 ≤ a.kind
  pub passes : refusal_of s a ≡ 0

-- and an event that no test refuses
pub record Acts (s : Series) (check : Check) (a : Ask) : Type 0 where
  pub whole : Whole s check
  pub kind : 1 ≤ a.kind
  pub passes : refusal_of s a ≡ 0

-- what side s faces, by what the test has seen
abbrev pub facing_by : Check → Terms → Bool → Facing
facing_by check t s = record { contra = faced check s; national = nearer s (away (market_of t) s) (faced_shown check s) }

-- settling, in an open series
pub record SettlesIf (t : Terms) (b : Book) (room : List ℕ) (n : ℕ) : Type 0 where
  pub well : WellFormed b
  pub sound : SoundFor (market_of t) (entries_of b)
  pub roomy : Roomy room n (settled_if t (entries_of b)).records

-- whether a message is a quote that is rejected for a reason that blocks its maker, whatever rests
abbrev pub BlocksFor : Bool → Terms → Ask → Type 0
BlocksFor blocking t a = (l : List Entry) → blocking ≡ (quotes a.kind && blocks t (comer t.given a) l)

-- the block list afterwards, where it is known whether the maker is blocked by it
abbrev pub blocked_by : Bool → Ask → List Bool → List Bool
blocked_by blocking a blocked =
    cond (enables a.kind) (set blocked (a.party - 1) false) (cond blocking (set blocked (a.party - 1) true) blocked)

pub record Marks (blocking : Bool) (a : Ask) (s : Series) : Type 0 where
  pub maker : blocking ≡ true → quotes a.kind ≡ true
  pub party : bad_party a ≡ false
  pub blocks : length s.blocked ≡ 16
