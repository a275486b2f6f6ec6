-- Numbers that stand in bytes.
-- Assumes nothing.
use Rattle.std.specs.Prelude.{ℕ, ◌+◌, ◌*◌, cond, List, leb, length, get_or}

-- the byte at a place, 0 beyond the end
abbrev pub byte_at : List ℕ → ℕ → ℕ
byte_at l at = get_or l at 0

-- the number that four bytes make, most significant first
abbrev pub number : ℕ → ℕ → ℕ → ℕ → ℕ
number a b c d = ((a * 256 + b) * 256 + c) * 256 + d

-- the number at a place, 0 where fewer than four bytes are left
unfoldable pub number_at : List ℕ → ℕ → ℕ
number_at l at = cond (leb (at + 4) (length l)) (number (byte_at l at) (byte_at l (at + 1)) (byte_at l (at + 2)) (byte_at l (at + 3))) 0
