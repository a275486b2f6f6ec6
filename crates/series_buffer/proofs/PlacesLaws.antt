-- The places of the book one after the other: what the loops that read and write them keep.
-- Assumes nothing.
use Prim.Native.Nat.{ℕ, suc, ◌+◌, ◌-◌, ◌*◌, ◌≤◌, ◌<◌}
use mathlib.Core.Path.{◌≡◌, refl, sym, ap, ap₂, ◌∙◌}
use mathlib.Core.List.{List, [], ◌∷◌, ◌++◌, append_assoc, append-nil}
use Rattle.std.specs.Prelude.{Option, None, Some}
use native.Mathlib.Numerals.{add-one}
use native.Mathlib.Omega.{arith}
use lib.ListN.{length, take, drop, get_or, set, length-append, length-drop, length-set}
use lib.Seq.{take_all, take_at, take-suc, take-suc-set, drop-drop, length-take-le}
use Rattle.packing.specs.Codec.{bytes_of, unpack_of}
use Rattle.packing.proofs.CodecLaws.{length-bytes}
use Rattle.book.specs.declared.Entry.{Entry}
use Rattle.book.specs.Shape.{zero_entry}
use Rattle.series_buffer.specs.Entry.{entry_size, entries}
use Rattle.series_buffer.specs.State.{places_size, joined, entries_in, entries_bytes}
use Rattle.series_buffer.proofs.EntryLaws.{lawful}

-- ---- reading ----

-- entries that were read, with those that are still to be read behind them
abbrev pub behind : List Entry → Option (List Entry) → Option (List Entry)
behind l None = None
behind l (Some es) = Some (l ++ es)

behind-nothing : (o : Option (List Entry)) → behind [] o ≡ o
behind-nothing None = refl
behind-nothing (Some es) = refl

behind-one : (l : List Entry) (e : Entry) (o : Option (List Entry)) → behind l (joined (Some e) o) ≡ behind (l ++ (e ∷ [])) o
behind-one l e None = refl
behind-one l e (Some es) = ap Some (sym (append_assoc l (e ∷ []) es))

next-entry : (n k : ℕ) (s : List ℕ) → n ≡ suc k → entries_in n s ≡ joined (unpack_of entries (take entry_size s)) (entries_in k (drop entry_size s))
unfolding entries_in
next-entry n k s h = rw h refl

no-entry : (n : ℕ) (s : List ℕ) → n ≡ 0 → entries_in n s ≡ Some []
unfolding entries_in
no-entry n s h = rw h refl

pub record Reading (s : List ℕ) (i : ℕ) (es : List Entry) : Type 0 where
  pub within : i ≤ 64
  pub places : length es ≡ 64
  pub left : behind (take i es) (entries_in (64 - i) (drop (entry_size * i) s)) ≡ entries_in 64 s

pub read-start : (s : List ℕ) (es : List Entry) → length es ≡ 64 → Reading s 0 es
read-start s es h = record { within = omega arith; places = h; left = behind-nothing (entries_in 64 s) }

module _ (s : List ℕ) (i : ℕ) (es : List Entry) (v : Reading s i es) where
  pub read_done : 64 ≤ i → entries_in 64 s ≡ Some es
  read_done h =
      sym v.left
      ∙ ap (behind (take i es)) (no-entry (64 - i) (drop (entry_size * i) s) (omega arith))
      ∙ ap Some (append-nil (take i es) ∙ take_all i es (omega (arith, v.places)))

  module _ (inside : i < 64) (part : List ℕ) (there : part ≡ take (length s - entry_size * i) (drop (entry_size * i) s)) where
    here : behind (take i es) (joined (unpack_of entries (take entry_size part)) (entries_in (64 - (i + 1)) (drop (entry_size * (i + 1)) s))) ≡ entries_in 64 s
    here =
        let whole : part ≡ drop (entry_size * i) s =
        there ∙ take_all (length s - entry_size * i) (drop (entry_size * i) s) (omega (arith, length-drop (entry_size * i) s)) in
        let moved : entry_size * i + entry_size ≡ entry_size * (i + 1) = omega arith in
        let next : drop entry_size (drop (entry_size * i) s) ≡ drop (entry_size * (i + 1)) s =
        drop-drop entry_size (entry_size * i) s ∙ ap (λ (k : ℕ). drop k s) moved in
        ap (behind (take i es))
        (ap₂ joined (ap (λ (t : List ℕ). unpack_of entries (take entry_size t)) whole) (ap (entries_in (64 - (i + 1))) (sym next))
        ∙ sym (next-entry (64 - i) (64 - (i + 1)) (drop (entry_size * i) s) (omega arith)))
        ∙ v.left

    -- what is left, by what this place holds
    abbrev left_by : Option Entry → Option (List Entry)
    left_by o = behind (take i es) (joined o (entries_in (64 - (i + 1)) (drop (entry_size * (i + 1)) s)))

    pub read-fail : unpack_of entries (take entry_size part) ≡ None → entries_in 64 s ≡ None
    read-fail h = sym here ∙ ap left_by h

    pub read_past : (e : Entry) → unpack_of entries (take entry_size part) ≡ Some e → Reading s (i + 1) (set es i e)
    read_past e h = record {
      within = omega arith;
      places = length-set es i e ∙ v.places;
      left =
          ap (λ (l : List Entry). behind l (entries_in (64 - (i + 1)) (drop (entry_size * (i + 1)) s)))
          (ap (λ (k : ℕ). take k (set es i e)) (add-one i) ∙ take-suc-set es i e (omega (arith, v.places)))
          ∙ sym (behind-one (take i es) e (entries_in (64 - (i + 1)) (drop (entry_size * (i + 1)) s)))
          ∙ ap left_by (sym h)
          ∙ here;
    }

-- the part of the bytes from an entry on holds that entry
pub part-read : (s : List ℕ) (i : ℕ) → length s ≡ places_size → i < 64 → entry_size ≤ length (take (length s - entry_size * i) (drop (entry_size * i) s))
part-read s i h k =
    let all : take (length s - entry_size * i) (drop (entry_size * i) s) ≡ drop (entry_size * i) s =
    take_all (length s - entry_size * i) (drop (entry_size * i) s) (omega (arith, length-drop (entry_size * i) s)) in
    omega (arith, ap length all, length-drop (entry_size * i) s, h, k)

-- ---- writing ----

pub part-written : (out : List ℕ) (i : ℕ) → length out ≡ places_size → i < 64
    → length (take (entry_size * i + entry_size - entry_size * i) (drop (entry_size * i) out)) ≡ entry_size
part-written out i h k =
    length-take-le (entry_size * i + entry_size - entry_size * i) (drop (entry_size * i) out) (omega (arith, length-drop (entry_size * i) out, h, k))
    ∙ omega arith

pub length-entry : (e : Entry) → length (bytes_of entries (entries.code e)) ≡ entry_size
length-entry e = length-bytes entries lawful (entries.code e)

pub length-entries : (es : List Entry) → length (entries_bytes es) ≡ entry_size * length es
unfolding entries_bytes
length-entries [] = refl
length-entries (e ∷ es) = omega (arith, length-append (bytes_of entries (entries.code e)) (entries_bytes es), length-entry e, length-entries es)

one_more : (es : List Entry) (e : Entry) → entries_bytes (es ++ (e ∷ [])) ≡ entries_bytes es ++ bytes_of entries (entries.code e)
unfolding entries_bytes
one_more [] e = append-nil (bytes_of entries (entries.code e))
one_more (d ∷ es) e =
    ap (λ (l : List ℕ). bytes_of entries (entries.code d) ++ l) (one_more es e)
    ∙ sym (append_assoc (bytes_of entries (entries.code d)) (entries_bytes es) (bytes_of entries (entries.code e)))

pub record Writing (es : List Entry) (i : ℕ) (out : List ℕ) : Type 0 where
  pub within : i ≤ 64
  pub places : length es ≡ 64
  pub size : length out ≡ places_size
  pub front : take (entry_size * i) out ≡ entries_bytes (take i es)

pub write-start : (es : List Entry) (out : List ℕ) → length es ≡ 64 → length out ≡ places_size → Writing es 0 out
unfolding entries_bytes
write-start es out h k = record { within = omega arith; places = h; size = k; front = refl }

module _ (es : List Entry) (i : ℕ) (out : List ℕ) (v : Writing es i out) where
  pub write_done : 64 ≤ i → out ≡ entries_bytes es
  write_done h =
      sym (take_all (entry_size * i) out (omega (arith, v.size)))
      ∙ v.front
      ∙ ap entries_bytes (take_all i es (omega (arith, v.places)))

  pub write-past : i < 64 → (k : ℕ) → k ≡ entry_size → (new : List ℕ) → new ≡ bytes_of entries (entries.code (get_or es i zero_entry))
      → Writing es (i + 1) (take (entry_size * i) out ++ (new ++ drop k (drop (entry_size * i) out)))
  write-past inside k is new h = record {
    within = omega arith;
    places = v.places;
    size =
        omega (
          arith,
          length-append (take (entry_size * i) out) (new ++ rest),
          length-append new rest,
          before,
          long,
          length-drop k (drop (entry_size * i) out),
          length-drop (entry_size * i) out,
          v.size,
          is,
        );
    front =
        ap (take (entry_size * (i + 1))) (sym (append_assoc (take (entry_size * i) out) new rest))
        ∙ take_at (take (entry_size * i) out ++ new) rest (entry_size * (i + 1)) (omega (arith, length-append (take (entry_size * i) out) new, before, long))
        ∙ ap₂ ◌++◌ v.front h
        ∙ sym (one_more (take i es) (get_or es i zero_entry))
        ∙ ap entries_bytes (sym (take-suc es i zero_entry (omega (arith, v.places))) ∙ ap (λ (n : ℕ). take n es) (sym (add-one i)));
  }
    where
      rest : List ℕ
      rest = drop k (drop (entry_size * i) out)

      before : length (take (entry_size * i) out) ≡ entry_size * i
      before = length-take-le (entry_size * i) out (omega (arith, v.size))

      long : length new ≡ entry_size
      long = ap length h ∙ length-entry (get_or es i zero_entry)
