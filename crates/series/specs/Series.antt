-- A series from its setup, and which series are sound: document 01's "A state is sound if: ..", clause by clause.
-- Assumes nothing.
use Rattle.std.specs.Prelude.{ℕ, Bool, true, false, cond, not, ◌&&◌, List, [], eqb, leb, length, replicate, Result, Ok, Err, Option, None, Some}
use Rattle.prices.specs.Step.{mpv, none_or_legal}
use Rattle.lists.specs.Tests.{any}
use Rattle.kinds.specs.declared.refusal.Refusal.{Refusal}
use Rattle.kinds.specs.declared.refusal.Refusal.TheVariants.{Nothing}
use Rattle.packing.specs.declared.setup.Setup.{Setup}
use Rattle.packing.specs.Setup.{top_strike}
use Rattle.book.specs.declared.Entry.{Entry}
use Rattle.book.specs.Entries.{quote, last_number}
use Rattle.book.specs.Shape.{entries_of, book_of}
use Rattle.soundness_theory.specs.Sound.{between, sound_book}
use Rattle.terms.specs.declared.Terms.{Terms}
use Rattle.terms.specs.Terms.{top_underlying}
use Rattle.series.specs.declared.Series.{Series}

-- "A new series is closed, empty, unblocked, with no away or underlying price."
abbrev pub new_series : Setup → Series
new_series s = record {
  terms = record {
    put = s.put;
    exempt = s.exempt;
    m = s.m;
    k = s.k;
    strike = s.strike;
    phase = 0;
    bid = 0;
    offer = 0;
    underlying = 0;
    given = 0;
  };
  blocked = replicate 16 false;
  book = book_of [];
}

-- where there is no series, one of zeros may stand for it, which is unsound
abbrev pub no_series : Series
no_series = new_series (record { put = false; exempt = false; m = 0; k = 0; strike = 0 })

-- "Setup of other length or values is refused (1, no series)."
abbrev pub opened : Option Setup → Result Series Refusal
opened None = Err Nothing
opened (Some s) = Ok (new_series s)

-- ---- soundness ----

-- "setup, phase and prices are legal"; "K .. is 0 to 100. Strike 1 to 100,000."; phases 0, 1, 2; "underlying price, 0 to 100,000, any cent"; entry numbers
-- given "at most 1,000,000"
unfoldable pub sound_terms : Terms → Bool
sound_terms t =
    mpv t.m && (leb t.k 100 && (between 1 top_strike t.strike && (leb t.phase 2
    && (none_or_legal t.m t.bid && (none_or_legal t.m t.offer && (leb t.underlying top_underlying && leb t.given last_number))))))

-- "closed means nothing rests, halted means no quote rests"
unfoldable pub sound_phase : ℕ → List Entry → Bool
sound_phase phase l = cond (eqb phase 0) (eqb (length l) 0) (cond (eqb phase 2) (not (any quote l)) true)

-- A SOUND SERIES
unfoldable pub sound_series : Series → Bool
sound_series s =
    sound_terms s.terms && (sound_book s.terms.m s.terms.given s.book && sound_phase s.terms.phase (entries_of s.book))
