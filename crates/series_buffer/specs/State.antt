-- A series in 1,564 bytes: 28 of its header, and 24 for each of the 64 places of its book.
-- Assumes nothing.
use Rattle.std.specs.Prelude.{ℕ, zero, suc, ◌+◌, ◌*◌, Bool, cond, ◌&&◌, List, [], ◌∷◌, ◌++◌, eqb, length, take, drop}
use Rattle.std.specs.Prelude.{Option, None, Some}
use Rattle.lists.specs.Tests.{all}
use Rattle.packing.specs.Codec.{only_if, bytes_of, packs, unpack_of}
use Rattle.book.specs.declared.Entry.{Entry}
use Rattle.series.specs.declared.Series.{Series}
use Rattle.series_buffer.specs.declared.Header.{Header}
use Rattle.series_buffer.specs.Header.{headers, header_size}
use Rattle.series_buffer.specs.Entry.{entries, entry_size}

-- how many bytes all places have, and the whole
abbrev pub places_size : ℕ
places_size = 64 * entry_size

abbrev pub state_size : ℕ
state_size = header_size + places_size

-- what stands in the header, and a series of a header and its entries
abbrev pub header_of : Series → Header
header_of s = record { terms = s.terms; count = s.book.count; blocked = s.blocked }

abbrev pub series_of : Header → List Entry → Series
series_of h es = record { terms = h.terms; blocked = h.blocked; book = record { entries = es; count = h.count } }

-- ---- out of bytes ----

-- n entries in a row, or none where one of them unpacks to nothing
abbrev pub joined : Option Entry → Option (List Entry) → Option (List Entry)
joined None more = None
joined (Some e) None = None
joined (Some e) (Some es) = Some (e ∷ es)

unfoldable pub entries_in : ℕ → List ℕ → Option (List Entry)
entries_in zero s = Some []
entries_in (suc n) s = joined (unpack_of entries (take entry_size s)) (entries_in n (drop entry_size s))

abbrev pub made : Option Header → Option (List Entry) → Option Series
made None es = None
made (Some h) None = None
made (Some h) (Some es) = Some (series_of h es)

-- WHAT BYTES UNPACK TO: another length, or a header or an entry that unpacks to nothing: no series
unfoldable pub unpack_series : List ℕ → Option Series
unpack_series s = only_if (eqb (length s) state_size) (made (unpack_of headers (take header_size s)) (entries_in 64 (drop header_size s)))

-- ---- into bytes ----

unfoldable pub entries_bytes : List Entry → List ℕ
entries_bytes [] = []
entries_bytes (e ∷ es) = bytes_of entries (entries.code e) ++ entries_bytes es

unfoldable pub series_bytes : Series → List ℕ
series_bytes s = bytes_of headers (headers.code (header_of s)) ++ entries_bytes s.book.entries

-- a series packs if its header does (so that it has 16 makers) and so does each of 64 entries
unfoldable pub packs_series : Series → Bool
packs_series s = packs headers (header_of s) && (eqb (length s.book.entries) 64 && all (packs entries) s.book.entries)

-- WHAT A SERIES PACKS TO
unfoldable pub pack_series : Series → Option (List ℕ)
pack_series s = only_if (packs_series s) (Some (series_bytes s))

-- a series is put into a buffer of the right length if it packs, and otherwise the buffer stays as it was
unfoldable pub is_stored : List ℕ → Series → Bool
is_stored out s = eqb (length out) state_size && packs_series s

abbrev pub buffer_after : List ℕ → Series → List ℕ
buffer_after out s = cond (is_stored out s) (series_bytes s) out
