-- The laws of anything packed, once for setups, messages and reports: what the functions that pack and unpack cite, and the round trips.
use Prim.Native.Nat.{ℕ, min, ◌<◌}
use mathlib.Core.Bool.{Bool, true, false, cond, ◌&&◌}
use mathlib.Core.List.{List}
use Rattle.std.specs.Prelude.{Option, None, Some}
use mathlib.Core.Path.{◌≡◌, refl, sym, ap, ap₂, ◌∙◌, subst}
use native.Mathlib.Omega.{arith}
use lib.Dec.{eqb}
use lib.ListN.{length, take, replicate, length-take, length-replicate}
use borrow.Author.Tests.{eqb-true, eq-eqb, ne_eqb}
use Rattle.bits.specs.Fields.{total, join, split, bytes, Bytes, Fit, all_fit, equal}
use Rattle.bits.proofs.FieldLaws.{recode, split-fit, length-split}
use Rattle.bits.proofs.ByteLaws.{fit-bytes}
use Rattle.bits.proofs.TestLaws.{both_left, both_right, equal-true, equal-refl, all_fit-true, fit-all_fit}
use Rattle.packing.specs.Codec.{Codec, FieldsRead, FieldsWritten, fields_read, fields_written, bit, only_if, fields_in}
use Rattle.packing.specs.Codec.{bytes_of, checked, thing_of, unpack_of, answer_of, packs, pack_of}

-- a side or a flag can be told from its bit
pub bit_is : (b : Bool) → eqb (bit b) 1 ≡ b
bit_is true = refl
bit_is false = refl

pub only_if-some : {A : Type 0} (b : Bool) (u : Option A) (a : A) → only_if b u ≡ Some a → (b ≡ true) × (u ≡ Some a)
only_if-some true u a h = (refl, h)
only_if-some false u a h = absurd (let z : ◌≡◌ {A = ℕ} 0 1 = cc in omega arith)

fit-long : (s : List ℕ) (n : ℕ) → Bytes s → length s ≡ n → Fit (bytes n) s
fit-long s n b l = rw (← l) (fit-bytes s b)

-- what the code that unpacks cites
module _ {E : Type 0} (C : Codec E) where
  -- the claimed thing stands if its fields were found to be the same, and it to be admitted
  pub thing-if : (l ys : List ℕ) (e : E) (same ok b : Bool) → C.claimed l ≡ Some e → ys ≡ C.code e → same ≡ equal ys l → ok ≡ C.admitted e
      → (same && ok) ≡ b
      → thing_of C l ≡ only_if b (Some e)
  unfolding thing_of
  thing-if l ys e same ok b h c k a t =
      ap (λ (u : Option E). checked C u l) h
      ∙ ap (λ (z : Bool). only_if z (Some e)) (sym (ap₂ ◌&&◌ (k ∙ ap (λ (u : List ℕ). equal u l) c) a) ∙ t)

  pub unpack-other : (s : List ℕ) → (length s ≡ C.size → ⊥) → unpack_of C s ≡ None
  unfolding unpack_of
  unpack-other s h = ap (λ (b : Bool). only_if b (thing_of C (fields_in C s))) (ne_eqb (length s) C.size h)

  pub unpack-short : (s : List ℕ) → length s < C.size → unpack_of C (take C.size s) ≡ None
  unpack-short s h =
      unpack-other (take C.size s) (λ e. let l : min C.size (length s) ≡ C.size = sym (length-take C.size s) ∙ e in omega arith)

  -- nothing was found to be claimed by the fields
  pub nothing-told : (l : List ℕ) → C.claimed l ≡ None → thing_of C l ≡ None
  unfolding thing_of
  nothing-told l h = ap (λ (u : Option E). checked C u l) h

  -- what the fields say that `codec::read_row` found, if it found any
  abbrev pub said_in : Option (List ℕ) → Option E
  said_in None = None
  said_in (Some xs) = thing_of C xs

  read-said : (s : List ℕ) → said_in (fields_read s C.size C.widths) ≡ unpack_of C s
  unfolding unpack_of
  read-said s = by (eqb (length s) C.size)
    where
      by : (b : Bool) → said_in (only_if b (Some (fields_in C s))) ≡ only_if b (thing_of C (fields_in C s))
      by true = refl
      by false = refl

  -- after `codec::read`, which answered b and left xs
  unpack-read : (s stood xs : List ℕ) (ok b : Bool) → FieldsRead s C.size C.widths stood ok xs → ok ≡ b
      → unpack_of C s ≡ only_if b (thing_of C xs)
  unfolding unpack_of
  unpack-read s stood xs ok true f h =
      ap (λ (b : Bool). only_if b (thing_of C (fields_in C s))) (sym f.long ∙ h)
      ∙ ap (thing_of C) (sym (f.read ∙ ap (λ (b : Bool). cond b (fields_in C s) stood) h))
  unpack-read s stood xs ok false f h = ap (λ (b : Bool). only_if b (thing_of C (fields_in C s))) (sym f.long ∙ h)

  -- WHAT BYTES UNPACK TO: where `codec::read_row` found o, what these fields say
  pub read-told : (ws : List ℕ) (n : ℕ) → ws ≡ C.widths → n ≡ C.size → (s : List ℕ) (o : Option (List ℕ)) → fields_read s n ws ≡ o
      → (r : Option E) → r ≡ said_in o → r ≡ unpack_of C s
  read-told ws n w k s o h r e = e ∙ ap said_in (sym h ∙ ap₂ (fields_read s) k w) ∙ read-said s

  -- WHAT A THING PACKS TO: what `codec::write_row` makes of its fields
  pub pack-row : (ws : List ℕ) (n : ℕ) → ws ≡ C.widths → n ≡ C.size → (e : E) (xs : List ℕ) (admitted : Bool) → xs ≡ C.code e → admitted ≡ C.admitted e
      → (r : Option (List ℕ)) → r ≡ fields_written n ws xs admitted → r ≡ pack_of C e
  unfolding pack_of packs bytes_of
  pack-row ws n w k e xs admitted x a r h =
      h ∙ ap₂ (λ (m : ℕ) (us : List ℕ). fields_written m us xs admitted) k w ∙ ap₂ (fields_written C.size C.widths) x a

  -- the same where `codec::write` answered ok, and left `out` where zeros stood. No proof cites it: `codec::pack` goes by the row
  pub pack-told : (e : E) {xs out : List ℕ} {ok admitted : Bool} → xs ≡ C.code e → admitted ≡ C.admitted e
      → FieldsWritten (replicate C.size 0) C.widths xs admitted ok out
      → only_if ok (Some out) ≡ pack_of C e
  unfolding pack_of packs bytes_of
  pack-told e {ok = true} x a w =
      ap Some (w.written ∙ ap₂ (λ (n : ℕ) (l : List ℕ). split (bytes n) (join C.widths l)) (length-replicate C.size 0) x)
      ∙ ap (λ (b : Bool). only_if b (Some (split (bytes C.size) (join C.widths (C.code e))))) (w.fit ∙ ap₂ ◌&&◌ (ap (all_fit C.widths) x) a)
  pack-told e {ok = false} x a w =
      ap (λ (b : Bool). only_if b (Some (split (bytes C.size) (join C.widths (C.code e))))) (w.fit ∙ ap₂ ◌&&◌ (ap (all_fit C.widths) x) a)

  -- WHETHER A THING PACKS: what `codec::fits` finds of its fields
  pub packs-told : (ws : List ℕ) → ws ≡ C.widths → (e : E) (xs : List ℕ) (few admitted : Bool) → xs ≡ C.code e → few ≡ all_fit ws xs
      → admitted ≡ C.admitted e → (few && admitted) ≡ packs C e
  unfolding packs
  packs-told ws w e xs few admitted x f a = ap₂ ◌&&◌ (f ∙ ap₂ all_fit w x) a

  -- WHAT IS WRITTEN OVER n BYTES: what `codec::write_over` makes of its fields
  pub written-told : (ws : List ℕ) (n : ℕ) → ws ≡ C.widths → n ≡ C.size → (e : E) (xs : List ℕ) → xs ≡ C.code e
      → split (bytes n) (join ws xs) ≡ bytes_of C (C.code e)
  unfolding bytes_of
  written-told ws n w k e xs x = ap₂ (λ (m : ℕ) (v : ℕ). split (bytes m) v) k (ap₂ join w x)

-- the fields that `codec::read_row` found fit their widths
pub read-fit : (s : List ℕ) (n : ℕ) (ws xs : List ℕ) → fields_read s n ws ≡ Some xs → Fit ws xs
read-fit s n ws xs h =
    let p : Some (split ws (join (bytes n) s)) ≡ Some xs = (only_if-some (eqb (length s) n) (Some (split ws (join (bytes n) s))) xs h).1 in
    let o : split ws (join (bytes n) s) ≡ xs = cc in
    subst (Fit ws) o (split-fit ws _)

-- AN UNPACKER'S ANSWER: document 01's number and fields for it
pub record Answer {E : Type 0} (C : Codec E) : Type 0 where
  pub said : Option E → ℕ × List ℕ
  pub says : (u : Option E) → said u ≡ answer_of C u

module _ {E : Type 0} (C : Codec E) (A : Answer C) where
  -- where it is right, so are its number and fields
  pub right : (u r : Option E) → r ≡ u → (r ≡ u) × (A.said r ≡ answer_of C u)
  right u r h = (h, ap A.said h ∙ A.says u)

  -- WHAT BYTES UNPACK TO, and its number and fields: where `codec::read_row` found o, what these fields say
  pub unpack-row : (ws : List ℕ) (n : ℕ) → ws ≡ C.widths → n ≡ C.size → (s : List ℕ) (o : Option (List ℕ)) → fields_read s n ws ≡ o
      → (r : Option E) → r ≡ said_in C o → (r ≡ unpack_of C s) × (A.said r ≡ answer_of C (unpack_of C s))
  unpack-row ws n w k s o h r e = right (unpack_of C s) r (read-told C ws n w k s o h r e)

  -- the same where `codec::read` answered b, and the answer was made of the fields that it read. No proof cites these two: the check finds the
  -- number and fields by itself
  pub unpack-told : {s stood xs : List ℕ} {ok : Bool} (b : Bool) {r : Option E} → FieldsRead s C.size C.widths stood ok xs → ok ≡ b
      → r ≡ only_if b (thing_of C xs)
      → (r ≡ unpack_of C s) × (A.said r ≡ answer_of C (unpack_of C s))
  unpack-told {s} {stood} {xs} {ok} b {r} f h e = right (unpack_of C s) r (e ∙ sym (unpack-read C s stood xs ok b f h))

-- What the table of a codec has to meet
pub record Lawful {E : Type 0} (C : Codec E) : Type 0 where
  -- the fields fill the bytes
  pub whole : total (bytes C.size) ≡ total C.widths
  pub long : length (bytes C.size) ≡ C.size
  -- a thing's own fields say that thing
  pub code-claimed : (e : E) → C.claimed (C.code e) ≡ Some e

module _ {E : Type 0} (C : Codec E) where
  -- THEOREM. A thing packs exactly when each of its fields fits its width and it is admitted
  pub packs-fit : (e : E) → packs C e ≡ true → Fit C.widths (C.code e) × (C.admitted e ≡ true)
  unfolding packs
  packs-fit e h = (
    all_fit-true C.widths (C.code e) (both_left (all_fit C.widths (C.code e)) (C.admitted e) h),
    both_right (all_fit C.widths (C.code e)) (C.admitted e) h,
  )

  pub fit-packs : (e : E) → Fit C.widths (C.code e) → C.admitted e ≡ true → packs C e ≡ true
  unfolding packs
  fit-packs e f a = ap₂ ◌&&◌ (fit-all_fit C.widths (C.code e) f) a

  -- it then packs to the bytes of its fields, and otherwise to nothing
  pub pack-packs : (e : E) → packs C e ≡ true → pack_of C e ≡ Some (bytes_of C (C.code e))
  unfolding pack_of
  pack-packs e h = ap (λ (b : Bool). only_if b (Some (bytes_of C (C.code e)))) h

  pub none-packs : (e : E) → pack_of C e ≡ None → packs C e ≡ false
  none-packs e h = by_cases (packs C e) refl
    where
      by_cases : (b : Bool) → packs C e ≡ b → packs C e ≡ false
      by_cases false k = k
      by_cases true k =
          let y = pack-packs e k in
          absurd (let z : ◌≡◌ {A = ℕ} 0 1 = cc in omega arith)

  -- and if it packs to bytes, it is these
  pub packed-bytes : (e : E) (s : List ℕ) → pack_of C e ≡ Some s → (packs C e ≡ true) × (s ≡ bytes_of C (C.code e))
  unfolding pack_of
  packed-bytes e s h =
      let p = only_if-some (packs C e) (Some (bytes_of C (C.code e))) s h in
      let q : Some (bytes_of C (C.code e)) ≡ Some s = p.1 in
      let o : s ≡ bytes_of C (C.code e) = cc in
      (p.0, o)

module _ {E : Type 0} (C : Codec E) (L : Lawful C) where
  -- the bytes of fields are as many as the codec says
  pub length-bytes : (xs : List ℕ) → length (bytes_of C xs) ≡ C.size
  unfolding bytes_of
  length-bytes xs = length-split (bytes C.size) _ ∙ L.long

  checked-some : (u : Option E) (l : List ℕ) (e : E) → checked C u l ≡ Some e → (C.code e ≡ l) × (C.admitted e ≡ true)
  checked-some None l e h = absurd (let z : ◌≡◌ {A = ℕ} 0 1 = cc in omega arith)
  checked-some (Some d) l e h =
      let p = only_if-some (equal (C.code d) l && C.admitted d) (Some d) e h in
      let q : Some d ≡ Some e = p.1 in
      let s : d ≡ e = cc in (
        ap C.code (sym s) ∙ equal-true (C.code d) l (both_left (equal (C.code d) l) (C.admitted d) p.0),
        ap C.admitted (sym s) ∙ both_right (equal (C.code d) l) (C.admitted d) p.0,
      )

  -- THEOREM. Bytes that unpack to a thing are what that thing packs to
  pub unpack-pack : (s : List ℕ) (e : E) → Bytes s → unpack_of C s ≡ Some e → pack_of C e ≡ Some s
  unfolding unpack_of thing_of bytes_of
  unpack-pack s e b h =
      let p = only_if-some (eqb (length s) C.size) (thing_of C (fields_in C s)) e h in
      let k = checked-some (C.claimed (fields_in C s)) (fields_in C s) e p.1 in
      let f : Fit C.widths (C.code e) = subst (Fit C.widths) (sym k.0) (split-fit C.widths _) in
      let o : bytes_of C (C.code e) ≡ s =
      ap (bytes_of C) k.0 ∙ recode (bytes C.size) C.widths s L.whole (fit-long s C.size b (eqb-true (length s) C.size p.0)) in
      pack-packs C e (fit-packs C e f k.1) ∙ ap Some o

  -- THEOREM. What a thing packs to unpacks to that thing
  pub pack-unpack : (e : E) (s : List ℕ) → pack_of C e ≡ Some s → unpack_of C s ≡ Some e
  unfolding unpack_of thing_of bytes_of
  pack-unpack e s h =
      let p = packed-bytes C e s h in
      let a = packs-fit C e p.0 in
      let f : fields_in C s ≡ C.code e =
      ap (fields_in C) p.1 ∙ recode C.widths (bytes C.size) (C.code e) (sym L.whole) a.0 in
      let l : length s ≡ C.size = ap length p.1 ∙ length-bytes (C.code e) in
      let c : thing_of C (C.code e) ≡ Some e =
      ap (λ (u : Option E). checked C u (C.code e)) (L.code-claimed e)
      ∙ ap (λ (b : Bool). only_if b (Some e)) (ap₂ ◌&&◌ (equal-refl (C.code e)) a.1) in
      ap₂ (λ (b : Bool) (xs : List ℕ). only_if b (thing_of C xs)) (eq-eqb (length s) C.size l) f ∙ c

  -- THEOREM. A thing has one packed form: bytes that unpack to the same thing are the same bytes
  pub one_form : (s t : List ℕ) (e : E) → Bytes s → Bytes t → unpack_of C s ≡ Some e → unpack_of C t ≡ Some e → s ≡ t
  one_form s t e b c h k =
      let p = unpack-pack s e b h in
      let q = unpack-pack t e c k in
      cc

  -- THEOREM. Every other byte string, one to which nothing packs, unpacks to nothing
  pub others-nothing : (s : List ℕ) → Bytes s → ((e : E) → pack_of C e ≡ Some s → ⊥) → unpack_of C s ≡ None
  others-nothing s b h = by_cases (unpack_of C s) refl
    where
      by_cases : (u : Option E) → unpack_of C s ≡ u → unpack_of C s ≡ None
      by_cases None k = k
      by_cases (Some e) k = absurd (h e (unpack-pack s e b k))
