-- What it is to be packed, once for setups, messages and reports: fields in bits, most significant bit first, and a table that says
-- which number and which fields each case has.
use Rattle.std.specs.Prelude.{ℕ, ◌*◌, ◌≤◌, Bool, true, false, cond, ◌&&◌, List, [], ◌∷◌, ◌≡◌, eqb, length}
use Rattle.std.specs.Prelude.{Option, None, Some}
use Rattle.bits.specs.Fields.{total, join, split, bytes, Narrow, all_fit, equal}

-- A sort of packed thing
pub record Codec (E : Type 0) : Type 0 where
  -- the widths of its fields, in bits, and the number of its bytes
  pub widths : List ℕ
  pub size : ℕ
  -- the fields of a thing: the number of its case, the values that its case names, and 0 in every other field
  pub code : E → List ℕ
  -- the thing that the case's number and the fields which it names say, whatever the other fields hold
  pub claimed : List ℕ → Option E
  -- whether a thing's values are such as may be packed at all
  pub admitted : E → Bool

-- a bit of a side or a flag: 0 buy, 1 sell; 0 no, 1 yes
abbrev pub bit : Bool → ℕ
bit false = 0
bit true = 1

-- the answer, if the test holds; otherwise none
abbrev pub only_if : {A : Type 0} → Bool → Option A → Option A
only_if true a = a
only_if false a = None

-- the first, if the test holds; otherwise the other
abbrev pub first_if : {A : Type 0} → Bool → A → Option A → Option A
first_if true a other = Some a
first_if false a other = other

-- what stands beside the number n in a table; none, if no row has that number
abbrev pub look_up : {A : Type 0} → ℕ → List (ℕ × A) → Option A
look_up n [] = None
look_up n (row ∷ rows) = first_if (eqb n row.0) row.1 (look_up n rows)

-- "unpack to none (1)"; a setup "refused (1, no series)"; a message that is none, refusal 1
abbrev pub nothing : ℕ
nothing = 1

-- widths of k fields, none wider than 32 bits, that fill n bytes, at most 64
pub record Layout (ws : List ℕ) (k n : ℕ) : Type 0 where
  pub fills : total ws ≡ 8 * n
  pub narrow : Narrow ws
  pub fields : k ≡ length ws
  pub small : n ≤ 64

-- a codec's table as code has it: the widths of k fields in n bytes
pub record Tabled {E : Type 0} (C : Codec E) (ws : List ℕ) (k n : ℕ) : Type 0 where
  pub widths : ws ≡ C.widths
  pub size : n ≡ C.size
  pub few : k ≤ 64
  pub layout : Layout ws k n

-- fields of the widths ws were asked of s: ok, if s has n bytes, and the fields are then theirs, and otherwise those that stood there
pub record FieldsRead (s : List ℕ) (n : ℕ) (ws stood : List ℕ) (ok : Bool) (fields : List ℕ) : Type 0 where
  pub long : ok ≡ eqb (length s) n
  pub read : fields ≡ cond ok (split ws (join (bytes n) s)) stood

-- fields of the widths ws were to be written where some bytes stood: ok, if each fits and the thing that they say is admitted, and the
-- bytes are then theirs, and otherwise those that stood there
pub record FieldsWritten (stood ws fields : List ℕ) (admitted ok : Bool) (s : List ℕ) : Type 0 where
  pub fit : ok ≡ (all_fit ws fields && admitted)
  pub written : s ≡ cond ok (split (bytes (length stood)) (join ws fields)) stood

-- the fields of the widths ws that s holds, if it has n bytes
abbrev pub fields_read : List ℕ → ℕ → List ℕ → Option (List ℕ)
fields_read s n ws = only_if (eqb (length s) n) (Some (split ws (join (bytes n) s)))

-- the n bytes of these fields of the widths ws, if each fits and the thing that they say is admitted
abbrev pub fields_written : ℕ → List ℕ → List ℕ → Bool → Option (List ℕ)
fields_written n ws fields admitted = only_if (all_fit ws fields && admitted) (Some (split (bytes n) (join ws fields)))

module _ {E : Type 0} (C : Codec E) where
  -- the fields that bytes hold, and the bytes of fields
  abbrev pub fields_in : List ℕ → List ℕ
  fields_in s = split C.widths (join (bytes C.size) s)

  unfoldable pub bytes_of : List ℕ → List ℕ
  bytes_of xs = split (bytes C.size) (join C.widths xs)

  -- a claimed thing stands if the fields are just its own, so that each field which its case does not name is 0
  abbrev pub checked : Option E → List ℕ → Option E
  checked None l = None
  checked (Some e) l = only_if (equal (C.code e) l && C.admitted e) (Some e)

  unfoldable pub thing_of : List ℕ → Option E
  thing_of l = checked (C.claimed l) l

  -- WHAT BYTES UNPACK TO. Another length, an unknown number of a case, a nonzero unused bit or field, a value not admitted: nothing
  unfoldable pub unpack_of : List ℕ → Option E
  unpack_of s = only_if (eqb (length s) C.size) (thing_of (fields_in s))

  -- AN ANSWER BY NUMBER: 0 and the fields of what bytes unpack to; or the number of nothing, and no fields
  abbrev pub answer_of : Option E → ℕ × List ℕ
  answer_of None = (nothing, [])
  answer_of (Some e) = (0, C.code e)

  -- a thing packs if each of its fields fits its width and it is admitted
  unfoldable pub packs : E → Bool
  packs e = all_fit C.widths (C.code e) && C.admitted e

  -- WHAT A THING PACKS TO
  unfoldable pub pack_of : E → Option (List ℕ)
  pack_of e = only_if (packs e) (Some (bytes_of (C.code e)))
