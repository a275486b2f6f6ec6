-- PACKING AND UNPACKING A SERIES ARE INVERSE, BOTH WAYS, for all bytes and all series.
-- Assumes nothing.
use Prim.Native.Nat.{ℕ, zero, suc, ◌*◌}
use mathlib.Core.Path.{◌≡◌, refl, sym, ap, ap₂, ◌∙◌}
use mathlib.Core.Bool.{Bool, true, ◌&&◌}
use mathlib.Core.List.{List, [], ◌∷◌, ◌++◌}
use Rattle.std.specs.Prelude.{Option, None, Some}
use native.Mathlib.Omega.{arith}
use lib.Dec.{eqb}
use lib.ListN.{length, take, drop, length-append, length-drop, take-append-drop}
use lib.Seq.{take_at, drop_at}
use borrow.Author.Tests.{eqb-true, eq-eqb}
use Rattle.lists.specs.Tests.{all}
use Rattle.lists.proofs.Bools.{and_left, and_right}
use Rattle.lists.proofs.PlaceLaws.{length_none}
use Rattle.bits.specs.Fields.{Bytes}
use Rattle.bits.proofs.ByteLaws.{bytes_take, bytes_drop}
use Rattle.packing.specs.Codec.{only_if, bytes_of, packs, unpack_of}
use Rattle.packing.proofs.CodecLaws.{only_if-some, unpack-pack, pack-unpack, packed-bytes, pack-packs, length-bytes}
use Rattle.book.specs.declared.Entry.{Entry}
use Rattle.series.specs.declared.Series.{Series}
use Rattle.series_buffer.specs.declared.Header.{Header}
use Rattle.series_buffer.specs.Header.{header_size, headers}
use Rattle.series_buffer.specs.Entry.{entry_size, entries}
use Rattle.series_buffer.specs.State.{state_size, header_of, series_of, joined, made, entries_in}
use Rattle.series_buffer.specs.State.{entries_bytes, unpack_series, series_bytes, packs_series, pack_series}
use Rattle.series_buffer.proofs.HeaderLaws as of-header
use Rattle.series_buffer.proofs.EntryLaws as of_entry
use Rattle.series_buffer.proofs.PlacesLaws.{length-entry, length-entries}
use Rattle.series_buffer.proofs.StateLaws.{fit_parts}

-- ---- what an answer that is none or some tells ----

record Joined (u : Option Entry) (v : Option (List Entry)) (es : List Entry) : Type 0 where
  one : Entry
  more : List Entry
  is_one : u ≡ Some one
  is-more : v ≡ Some more
  whole : es ≡ one ∷ more

joined-some : (u : Option Entry) (v : Option (List Entry)) (es : List Entry) → joined u v ≡ Some es → Joined u v es
joined-some None v es h = absurd (let z : ◌≡◌ {A = ℕ} 0 1 = cc in omega arith)
joined-some (Some e) None es h = absurd (let z : ◌≡◌ {A = ℕ} 0 1 = cc in omega arith)
joined-some (Some e) (Some l) es h = let q : e ∷ l ≡ es = cc in record { one = e; more = l; is_one = refl; is-more = refl; whole = sym q }

record Made (u : Option Header) (v : Option (List Entry)) (s : Series) : Type 0 where
  header : Header
  places : List Entry
  is-header : u ≡ Some header
  is-places : v ≡ Some places
  whole : s ≡ series_of header places

made_some : (u : Option Header) (v : Option (List Entry)) (s : Series) → made u v ≡ Some s → Made u v s
made_some None v s h = absurd (let z : ◌≡◌ {A = ℕ} 0 1 = cc in omega arith)
made_some (Some h) None s q = absurd (let z : ◌≡◌ {A = ℕ} 0 1 = cc in omega arith)
made_some (Some h) (Some l) s q = let w : series_of h l ≡ s = cc in record { header = h; places = l; is-header = refl; is-places = refl; whole = sym w }

-- ---- entries ----

pub record Placed (n : ℕ) (s : List ℕ) (es : List Entry) : Type 0 where
  pub number : length es ≡ n
  pub pack : all (packs entries) es ≡ true
  pub bytes : entries_bytes es ≡ s

entries-pack : (n : ℕ) (s : List ℕ) (es : List Entry) → Bytes s → length s ≡ entry_size * n → entries_in n s ≡ Some es → Placed n s es
unfolding entries_in entries_bytes all
entries-pack zero s es b l h =
    let q : ◌≡◌ {A = List Entry} [] es = cc in
    record { number = ap length (sym q); pack = ap (all (packs entries)) (sym q); bytes = ap entries_bytes (sym q) ∙ sym (length_none s (omega (arith, l))) }
entries-pack (suc n) s es b l h =
    let j = joined-some (unpack_of entries (take entry_size s)) (entries_in n (drop entry_size s)) es h in
    let p =
    packed-bytes entries j.one (take entry_size s)
    (unpack-pack entries of_entry.lawful (take entry_size s) j.one (bytes_take entry_size s b) j.is_one) in
    let more = entries-pack n (drop entry_size s) j.more (bytes_drop entry_size s b) (omega (arith, length-drop entry_size s, l)) j.is-more in
    record {
      number = ap length j.whole ∙ omega (arith, more.number);
      pack = ap (all (packs entries)) j.whole ∙ ap₂ ◌&&◌ p.0 more.pack;
      bytes = ap entries_bytes j.whole ∙ ap₂ ◌++◌ (sym p.1) more.bytes ∙ take-append-drop entry_size s;
    }

entries-unpack : (es : List Entry) → all (packs entries) es ≡ true → entries_in (length es) (entries_bytes es) ≡ Some es
unfolding entries_in entries_bytes all
entries-unpack [] h = refl
entries-unpack (e ∷ es) h =
    let b : List ℕ = bytes_of entries (entries.code e) in
    ap₂ joined
    (ap (unpack_of entries) (take_at b (entries_bytes es) entry_size (length-entry e))
    ∙ pack-unpack entries of_entry.lawful e b (pack-packs entries e (and_left (packs entries e) (all (packs entries) es) h)))
    (ap (entries_in (length es)) (drop_at b (entries_bytes es) entry_size (length-entry e))
    ∙ entries-unpack es (and_right (packs entries e) (all (packs entries) es) h))

-- ---- series ----

-- THEOREM. Bytes that unpack to a series are what that series packs to
pub series-pack : (s : List ℕ) (x : Series) → Bytes s → unpack_series s ≡ Some x → pack_series x ≡ Some s
unfolding unpack_series pack_series series_bytes
series-pack s x b h =
    let p = only_if-some (eqb (length s) state_size) (made (unpack_of headers (take header_size s)) (entries_in 64 (drop header_size s))) x h in
    let long : length s ≡ state_size = eqb-true (length s) state_size p.0 in
    let m = made_some (unpack_of headers (take header_size s)) (entries_in 64 (drop header_size s)) x p.1 in
    let f =
    packed-bytes headers m.header (take header_size s)
    (unpack-pack headers of-header.lawful (take header_size s) m.header (bytes_take header_size s b) m.is-header) in
    let r = entries-pack 64 (drop header_size s) m.places (bytes_drop header_size s b) (omega (arith, length-drop header_size s, long)) m.is-places in
    ap pack_series m.whole
    ∙ ap₂ (λ (c : Bool) (l : List ℕ). only_if c (Some l))
    (fit_parts (series_of m.header m.places) f.0 r.number r.pack)
    (ap₂ ◌++◌ (sym f.1) r.bytes ∙ take-append-drop header_size s)

-- THEOREM. What a series packs to unpacks to that series
pub pack-series : (x : Series) (s : List ℕ) → pack_series x ≡ Some s → unpack_series s ≡ Some x
unfolding unpack_series pack_series packs_series series_bytes
pack-series x s h =
    let p = only_if-some (packs_series x) (Some (series_bytes x)) s h in
    let q : Some (series_bytes x) ≡ Some s = p.1 in
    let is : series_bytes x ≡ s = cc in
    let first = and_left (packs headers (header_of x)) _ p.0 in
    let rest = and_right (packs headers (header_of x)) _ p.0 in
    let number : length x.book.entries ≡ 64 =
    eqb-true (length x.book.entries) 64 (and_left (eqb (length x.book.entries) 64) (all (packs entries) x.book.entries) rest) in
    let fit : all (packs entries) x.book.entries ≡ true = and_right (eqb (length x.book.entries) 64) (all (packs entries) x.book.entries) rest in
    let b : List ℕ = bytes_of headers (headers.code (header_of x)) in
    let size : length b ≡ header_size = length-bytes headers of-header.lawful (headers.code (header_of x)) in
    let long : length s ≡ state_size =
    sym (ap length is) ∙ omega (arith, length-append b (entries_bytes x.book.entries), size, length-entries x.book.entries, number) in
    ap₂ (λ (c : Bool) (u : Option Series). only_if c u) (eq-eqb (length s) state_size long)
    (ap₂ made
    (ap (λ (l : List ℕ). unpack_of headers (take header_size l)) (sym is)
    ∙ ap (unpack_of headers) (take_at b (entries_bytes x.book.entries) header_size size)
    ∙ pack-unpack headers of-header.lawful (header_of x) b (pack-packs headers (header_of x) first))
    (ap (λ (l : List ℕ). entries_in 64 (drop header_size l)) (sym is)
    ∙ ap (entries_in 64) (drop_at b (entries_bytes x.book.entries) header_size size)
    ∙ ap (λ (n : ℕ). entries_in n (entries_bytes x.book.entries)) (sym number)
    ∙ entries-unpack x.book.entries fit))

-- THEOREM. A series has one packed form: no two byte strings hold the same series
pub one_state : (s t : List ℕ) (x : Series) → Bytes s → Bytes t → unpack_series s ≡ Some x → unpack_series t ≡ Some x → s ≡ t
one_state s t x b c h k =
    let p = series-pack s x b h in
    let q = series-pack t x c k in
    cc
