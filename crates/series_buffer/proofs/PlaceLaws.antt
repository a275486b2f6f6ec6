-- An entry packs as a place does that holds it.
-- Assumes nothing.
use Prim.Native.Nat.{ℕ}
use mathlib.Core.Bool.{Bool, true, false}
use mathlib.Core.List.{List}
use mathlib.Core.Path.{◌≡◌, refl, ap, ◌∙◌}
use Rattle.std.specs.Prelude.{Option, None, Some}
use Rattle.packing.specs.Codec.{only_if, fields_in, thing_of, unpack_of}
use Rattle.book.specs.declared.Entry.{Entry}
use Rattle.series_buffer.specs.declared.places.Place.{Place}
use Rattle.series_buffer.specs.Entry.{entries, entry_by}
use Rattle.series_buffer.specs.Place.{places}

-- the entry of a place, if there is one
abbrev pub entry_in : Option Place → Option Entry
entry_in None = None
entry_in (Some p) = Some p.entry

module _ (s : List ℕ) where
  abbrev said : Entry
  said = entry_by (fields_in entries s)

  by_tests : (long same : Bool) → entry_in (only_if long (only_if same (Some (record { entry = said })))) ≡ only_if long (only_if same (Some said))
  by_tests false same = refl
  by_tests true false = refl
  by_tests true true = refl

  -- what bytes say of an entry, they say of its place
  pub place-read : (u : Option Place) → u ≡ unpack_of places s → entry_in u ≡ unpack_of entries s
  unfolding unpack_of thing_of
  place-read u h = ap entry_in h ∙ by_tests _ _
