-- A row of fields, each of its own number of bits, most significant first, is one number: each field is a digit of it.
-- Packed bytes are such a row too, each field of 8 bits. So one number stands behind packed bytes and the fields in them.
use Rattle.std.specs.Prelude.{ℕ, ◌+◌, ◌*◌, ◌/◌, ◌%◌, ◌^◌, ◌<◌, ◌≤◌, Bool, true, false, ◌&&◌, List, [], ◌∷◌, eqb, ltb, length, get_or, replicate}

-- how many bits the widths ws have together
abbrev pub total : List ℕ → ℕ
total [] = 0
total (w ∷ ws) = w + total ws

-- the number that fields of the widths ws make
abbrev pub join : List ℕ → List ℕ → ℕ
join [] xs = 0
join (w ∷ ws) [] = 0
join (w ∷ ws) (x ∷ xs) = x * 2 ^ total ws + join ws xs

-- the fields of the widths ws that a number has
abbrev pub split : List ℕ → ℕ → List ℕ
split [] v = []
split (w ∷ ws) v = v / 2 ^ total ws % 2 ^ w ∷ split ws v

-- there are as many fields as widths, and each fits its width
abbrev pub Fit : List ℕ → List ℕ → Type 0
Fit [] [] = Unit {0}
Fit [] (x ∷ xs) = ⊥
Fit (w ∷ ws) [] = ⊥
Fit (w ∷ ws) (x ∷ xs) = (x < 2 ^ w) × Fit ws xs

-- the same as a test
abbrev pub all_fit : List ℕ → List ℕ → Bool
all_fit [] [] = true
all_fit [] (x ∷ xs) = false
all_fit (w ∷ ws) [] = false
all_fit (w ∷ ws) (x ∷ xs) = ltb x (2 ^ w) && all_fit ws xs

-- two rows of fields are the same
abbrev pub equal : List ℕ → List ℕ → Bool
equal [] [] = true
equal [] (y ∷ ys) = false
equal (x ∷ xs) [] = false
equal (x ∷ xs) (y ∷ ys) = eqb x y && equal xs ys

-- the widths of n bytes
abbrev pub bytes : ℕ → List ℕ
bytes n = replicate n 8

-- each element is a byte
abbrev pub Bytes : List ℕ → Type 0
Bytes s = (i : ℕ) → get_or s i 0 < 256

-- the number that all the bytes of a list make
abbrev pub value : List ℕ → ℕ
value s = join (bytes (length s)) s

-- no field is wider than 32 bits
abbrev pub Narrow : List ℕ → Type 0
Narrow [] = Unit {0}
Narrow (w ∷ ws) = (w ≤ 32) × Narrow ws
