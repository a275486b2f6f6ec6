-- Whole series: what the functions that pack and unpack cite.
-- Assumes nothing.
use Prim.Native.Nat.{ℕ, ◌-◌, ◌≤◌, ◌<◌}
use mathlib.Core.Path.{◌≡◌, refl, sym, ap, ap₂, ◌∙◌}
use mathlib.Core.Bool.{Bool, true, false, cond, ◌&&◌, and-false}
use mathlib.Core.List.{List, ◌++◌, append-nil}
use Rattle.std.specs.Prelude.{Option, None, Some}
use native.Mathlib.Omega.{arith}
use lib.Dec.{eqb}
use lib.ListN.{length, take, drop, length-append, length-drop, drop_of_length-le}
use lib.Seq.{take_all, take_at}
use borrow.Author.Tests.{eq-eqb, ne_eqb}
use Rattle.lists.specs.Tests.{all}
use Rattle.packing.specs.Codec.{only_if, bytes_of, packs, unpack_of}
use Rattle.packing.proofs.CodecLaws.{packs-fit, length-bytes}
use Rattle.book.specs.declared.Entry.{Entry}
use Rattle.series.specs.declared.Series.{Series}
use Rattle.series_buffer.specs.declared.Header.{Header}
use Rattle.series_buffer.specs.Header.{header_size, headers}
use Rattle.series_buffer.specs.Entry.{entries}
use Rattle.series_buffer.specs.State.{places_size, state_size, header_of, series_of, made, entries_in, unpack_series}
use Rattle.series_buffer.specs.State.{packs_series, entries_bytes, series_bytes, is_stored, buffer_after}
use Rattle.series_buffer.proofs.HeaderLaws.{lawful}
use Rattle.series_buffer.proofs.PlacesLaws.{length-entries}

module _ (s : List ℕ) where
  pub other_length : (length s ≡ state_size → ⊥) → unpack_series s ≡ None
  unfolding unpack_series
  other_length h =
      ap (λ (b : Bool). only_if b (made (unpack_of headers (take header_size s)) (entries_in 64 (drop header_size s)))) (ne_eqb (length s) state_size h)

  module _ (long : length s ≡ state_size) where
    in_parts : unpack_series s ≡ made (unpack_of headers (take header_size s)) (entries_in 64 (drop header_size s))
    unfolding unpack_series
    in_parts =
        ap (λ (b : Bool). only_if b (made (unpack_of headers (take header_size s)) (entries_in 64 (drop header_size s)))) (eq-eqb (length s) state_size long)

    pub no_header : unpack_of headers (take header_size s) ≡ None → unpack_series s ≡ None
    no_header q = in_parts ∙ ap (λ (u : Option Header). made u (entries_in 64 (drop header_size s))) q

    module _ (h : Header) (header : unpack_of headers (take header_size s) ≡ Some h) (part : List ℕ)
        (rest : part ≡ take (length s - header_size) (drop header_size s)) where
      both : (u : Option (List Entry)) → entries_in 64 part ≡ u → unpack_series s ≡ made (Some h) u
      both u read =
          in_parts
          ∙ ap₂ made header
          (ap (entries_in 64) (sym (rest ∙ take_all (length s - header_size) (drop header_size s) (omega (arith, length-drop header_size s)))) ∙ read)

      pub no-entries : entries_in 64 part ≡ None → unpack_series s ≡ None
      no-entries = both None

      pub all_there : (es : List Entry) → entries_in 64 part ≡ Some es → unpack_series s ≡ Some (series_of h es)
      all_there es = both (Some es)

    pub rest-size : length (take (length s - header_size) (drop header_size s)) ≡ places_size
    rest-size =
        ap length (take_all (length s - header_size) (drop header_size s) (omega (arith, length-drop header_size s)))
        ∙ omega (arith, length-drop header_size s, long)

-- ---- what is stored ----

module _ (out : List ℕ) (s : Series) where
  stored-as : (b : Bool) → is_stored out s ≡ b → (b ≡ is_stored out s) × (cond b (series_bytes s) out ≡ buffer_after out s)
  stored-as b h = (sym h, ap (λ (c : Bool). cond c (series_bytes s) out) (sym h))

  pub kept-length : (length out ≡ state_size → ⊥) → (false ≡ is_stored out s) × (out ≡ buffer_after out s)
  unfolding is_stored
  kept-length h = stored-as false (ap (λ (b : Bool). b && packs_series s) (ne_eqb (length out) state_size h))

  pub kept-unfit : packs_series s ≡ false → (false ≡ is_stored out s) × (out ≡ buffer_after out s)
  unfolding is_stored
  kept-unfit h = stored-as false (ap (λ (b : Bool). eqb (length out) state_size && b) h ∙ and-false (eqb (length out) state_size))

  pub put_in : length out ≡ state_size → packs_series s ≡ true → (after : List ℕ) → after ≡ series_bytes s
      → (true ≡ is_stored out s) × (after ≡ buffer_after out s)
  unfolding is_stored
  put_in h k after q =
      let t = stored-as true (ap₂ ◌&&◌ (eq-eqb (length out) state_size h) k) in
      (t.0, q ∙ t.1)

-- ---- which series pack ----

module _ (s : Series) where
  pub unfit-header : packs headers (header_of s) ≡ false → packs_series s ≡ false
  unfolding packs_series
  unfit-header h = ap (λ (b : Bool). b && (eqb (length s.book.entries) 64 && all (packs entries) s.book.entries)) h

  pub unfit-entries : all (packs entries) s.book.entries ≡ false → packs_series s ≡ false
  unfolding packs_series
  unfit-entries h =
      ap (λ (b : Bool). packs headers (header_of s) && (eqb (length s.book.entries) 64 && b)) h
      ∙ ap (λ (b : Bool). packs headers (header_of s) && b) (and-false (eqb (length s.book.entries) 64))
      ∙ and-false (packs headers (header_of s))

  -- a count that fits no byte
  pub unfit-count : 255 < s.book.count → packs_series s ≡ false
  unfit-count h = unfit-header (by (packs headers (header_of s)) refl)
    where
      by : (b : Bool) → packs headers (header_of s) ≡ b → packs headers (header_of s) ≡ false
      by false q = q
      by true q = absurd (omega (arith, h, (packs-fit headers (header_of s) q).0.1.1.1.1.1.1.1.1.1.1.0))

  pub fit_parts : packs headers (header_of s) ≡ true → length s.book.entries ≡ 64 → all (packs entries) s.book.entries ≡ true → packs_series s ≡ true
  unfolding packs_series
  fit_parts h l e = ap₂ ◌&&◌ h (ap₂ ◌&&◌ (eq-eqb (length s.book.entries) 64 l) e)

-- ---- header and entries written one after the other ----

module _ (out new : List ℕ) (h : Header) (long : length out ≡ state_size) (first : new ≡ bytes_of headers (headers.code h)) where
  size : length new ≡ header_size
  size = ap length first ∙ length-bytes headers lawful (headers.code h)

  with-header : length (new ++ drop header_size out) ≡ state_size
  with-header = omega (arith, length-append new (drop header_size out), size, length-drop header_size out, long)

  pub rest-left : length (take (length (new ++ drop header_size out) - header_size) (drop header_size (new ++ drop header_size out))) ≡ places_size
  rest-left = rest-size (new ++ drop header_size out) with-header

  module _ (rest : List ℕ) (es : List Entry) (second : rest ≡ entries_bytes es) where
    pub all-written : take header_size (new ++ drop header_size out)
        ++ (rest ++ drop (length (new ++ drop header_size out) - header_size) (drop header_size (new ++ drop header_size out))) ≡ series_bytes (series_of h es)
    unfolding series_bytes
    all-written =
        let nothing_left : length (drop header_size (new ++ drop header_size out)) ≤ length (new ++ drop header_size out) - header_size =
        omega (arith, length-drop header_size (new ++ drop header_size out)) in
        ap₂ ◌++◌ (take_at new (drop header_size out) header_size size ∙ first)
        (ap (λ (l : List ℕ). rest ++ l) (drop_of_length-le (drop header_size (new ++ drop header_size out)) nothing_left) ∙ append-nil rest ∙ second)

    pub all-sized : length es ≡ 64
        → length
        (take header_size (new ++ drop header_size out)
        ++ (rest ++ drop (length (new ++ drop header_size out) - header_size) (drop header_size (new ++ drop header_size out)))) ≡ length out
    unfolding series_bytes
    all-sized l =
        ap length all-written
        ∙ omega (
          arith,
          length-append (bytes_of headers (headers.code h)) (entries_bytes es),
          length-bytes headers lawful (headers.code h),
          length-entries es,
          l,
          long,
        )
