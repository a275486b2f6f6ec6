-- A number's decimal text: that it is what the kit's digits are, and how long it is.
use Prim.Native.Nat.{ℕ, zero, suc, ◌+◌, ◌-◌, ◌/◌, ◌%◌, ◌^◌, ◌≤◌, ◌<◌}
use mathlib.Core.Bool.{Bool, true, false, cond}
use mathlib.Core.List.{List, [], ◌∷◌, ◌++◌}
use mathlib.Core.Path.{◌≡◌, refl, sym, ap, ap₂, ◌∙◌}
use native.Mathlib.Nat.{pow-suc, mod-lt, mod-eq_of_lt}
use native.Mathlib.Omega.{arith}
use borrow.Author.Tests.{ltb-true, ltb-false, lt-ltb, le-ltb}
use lib.Dec.{ltb}
use lib.ListN.{length, take, length-append}
use Rattle.io.specs.Counts.{IsPrefixLen}
use Rattle.io.specs.Digits.{hex_digit_ascii, last_digits, IsDigitCount}
use Rattle.lines.specs.Decimal.{digit, spelt, decimal}

-- one digit, and more
spelt-one : (turns n : ℕ) → n < 10 → spelt turns n ≡ digit n
unfolding spelt
spelt-one zero n h = refl
spelt-one (suc turns) n h = ap (λ (b : Bool). cond b (digit n) (spelt turns (n / 10) ++ digit (n % 10))) (lt-ltb n 10 h)

spelt-more : (turns n : ℕ) → 10 ≤ n → spelt (suc turns) n ≡ spelt turns (n / 10) ++ digit (n % 10)
unfolding spelt
spelt-more turns n h = ap (λ (b : Bool). cond b (digit n) (spelt turns (n / 10) ++ digit (n % 10))) (le-ltb n 10 h)

pub decimal-one : (n : ℕ) → n < 10 → decimal n ≡ digit n
unfolding decimal
decimal-one n h = spelt-one n n h

-- a decimal digit is the kit's
glyph-digit : (d : ℕ) → d < 10 → hex_digit_ascii d ∷ [] ≡ digit d
glyph-digit d h = ap (λ (b : Bool). cond b (48 + d) (87 + d) ∷ []) (lt-ltb d 10 h)

-- the fewest digits that hold n are those that are spelt
tenth-fewest : (n k : ℕ) → IsDigitCount 10 1 n (suc (suc k)) → IsDigitCount 10 1 (n / 10) (suc k)
tenth-fewest n k f =
    (omega arith, omega (arith, f.1, pow-suc 10 (suc k)), λ h. omega (arith, f.2 (omega arith), pow-suc 10 k, here, ahead))
  where
    here : 10 ^ (suc k - 1) ≡ 10 ^ k
    here = ap (λ (j : ℕ). 10 ^ j) (omega arith)

    ahead : 10 ^ (suc (suc k) - 1) ≡ 10 ^ suc k
    ahead = ap (λ (j : ℕ). 10 ^ j) (omega arith)

fewest-high : (n k : ℕ) → IsDigitCount 10 1 n (suc (suc k)) → 10 ^ suc k ≤ n
fewest-high n k f = omega (arith, f.2 (omega arith), ap (λ (j : ℕ). 10 ^ j) j)
  where
    j : suc (suc k) - 1 ≡ suc k
    j = omega arith

below_power : (k : ℕ) → k < 10 ^ k
below_power zero = omega arith
below_power (suc k) = omega (arith, below_power k, pow-suc 10 k)

spelt-digits : (turns k n : ℕ) → k ≤ suc turns → IsDigitCount 10 1 n k → last_digits 10 k n ≡ spelt turns n
spelt-digits turns zero n h f = absurd (omega (arith, f.0))
spelt-digits turns (suc zero) n h f =
    let small : n < 10 = omega (arith, f.1) in
    ap (λ (d : ℕ). hex_digit_ascii d ∷ []) (mod-eq_of_lt small) ∙ glyph-digit n small ∙ sym (spelt-one turns n small)
spelt-digits zero (suc (suc k)) n h f = absurd (omega arith)
spelt-digits (suc turns) (suc (suc k)) n h f =
    ap₂ ◌++◌ (spelt-digits turns (suc k) (n / 10) (omega arith) (tenth-fewest n k f)) (glyph-digit (n % 10) (mod-lt n (omega arith)))
    ∙ sym (spelt-more turns n (omega (arith, fewest-high n k f, below_power k, pow-suc 10 k)))

fewest-few : (n k : ℕ) → IsDigitCount 10 1 n k → k ≤ suc n
fewest-few n zero f = omega arith
fewest-few n (suc zero) f = omega arith
fewest-few n (suc (suc k)) f = omega (arith, fewest-high n k f, below_power (suc k))

-- THEOREM. A number's decimal text is what the kit's `decimal` promises: its last k digits, k the fewest that hold it
pub digits_decimal : (n k : ℕ) → IsDigitCount 10 1 n k → last_digits 10 k n ≡ decimal n
unfolding decimal
digits_decimal n k f = spelt-digits n k n (fewest-few n k f) f

-- the same of the bytes that it leaves, and how many there are
pub told-decimal : (n k : ℕ) (bytes : List ℕ) → IsPrefixLen k bytes → IsDigitCount 10 1 n k → take k bytes ≡ last_digits 10 k n
    → (take k bytes ≡ decimal n) × (k ≡ length (decimal n))
told-decimal n k bytes c f e = let t = e ∙ digits_decimal n k f in (t, c.1 ∙ ap length t)

-- HOW LONG A NUMBER'S TEXT IS
spelt-length : (turns k n : ℕ) → n < 10 ^ suc k → length (spelt turns n) ≤ suc k
unfolding spelt
spelt-length zero k n h = omega arith
spelt-length (suc turns) zero n h = let e = ap length (spelt-one (suc turns) n h) in omega arith
spelt-length (suc turns) (suc k) n h = by_cases (ltb n 10) refl (spelt-length turns k (n / 10))
  where
    by_cases : (b : Bool) → ltb n 10 ≡ b → (n / 10 < 10 ^ suc k → length (spelt turns (n / 10)) ≤ suc k) → length (spelt (suc turns) n) ≤ suc (suc k)
    by_cases true e tenth = let l = ap length (spelt-one (suc turns) n (ltb-true n 10 e)) in omega arith
    by_cases false e tenth =
        let l = ap length (spelt-more turns n (ltb-false n 10 e)) in
        omega (arith, l, length-append (spelt turns (n / 10)) (digit (n % 10)), tenth (omega (arith, pow-suc 10 (suc k))))

pub decimal-length : (k n : ℕ) → n < 10 ^ suc k → length (decimal n) ≤ suc k
unfolding decimal
decimal-length k n h = spelt-length n k n h
