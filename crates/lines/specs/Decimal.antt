-- A number as text: its decimal digits as bytes, the most significant first, no zero in front of another digit.
use Rattle.std.specs.Prelude.{ℕ, zero, suc, ◌+◌, ◌/◌, ◌%◌, cond, List, [], ◌∷◌, ◌++◌, ltb}

-- the text of a digit: `0` to `9` are the bytes 48 to 57
abbrev pub digit : ℕ → List ℕ
digit d = (48 + d) ∷ []

-- a number below 10 is one digit; any other is the digits of its tenth, and behind them its last digit. (`turns` counts down, so that it ends)
unfoldable pub spelt : ℕ → ℕ → List ℕ
spelt zero n = digit n
spelt (suc turns) n =
    let longer : List ℕ = spelt turns (n / 10) ++ digit (n % 10) in
    cond (ltb n 10) (digit n) longer

-- A NUMBER IN DECIMAL: as many turns as the number says are enough, since its tenth is less than itself
unfoldable pub decimal : ℕ → List ℕ
decimal n = spelt n n
