-- A place of the book, for the code that packs: an entry's bytes are a place's.
-- Assumes nothing.
use Rattle.std.specs.Prelude.{refl}
use Rattle.std.specs.Prelude.{Some}
use Rattle.std.proofs.Common.{lit≤}
use Rattle.bits.specs.Fields.{Narrow}
use Rattle.packing.specs.Codec.{Codec, Tabled}
use Rattle.series_buffer.specs.declared.places.Place.{Place}
use Rattle.series_buffer.specs.Entry.{entry_size, widths, entries, entry_by}

abbrev pub places : Codec Place
places = record {
  widths = entries.widths;
  size = entries.size;
  code = λ p. entries.code p.entry;
  claimed = λ l. Some (record { entry = entry_by l });
  admitted = λ p. entries.admitted p.entry;
}

-- the code has this table
pub tabled : Tabled places widths 9 entry_size
tabled =
    let narrow : Narrow widths = (lit≤ tt, (lit≤ tt, (lit≤ tt, (lit≤ tt, (lit≤ tt, (lit≤ tt, (lit≤ tt, (lit≤ tt, (lit≤ tt, tt))))))))) in
    record { widths = refl; size = refl; few = lit≤ tt; layout = record { fills = refl; narrow = narrow; fields = refl; small = lit≤ tt } }
