-- Numbers that bytes make: what the reader and the writer of packed bytes cite.
use Prim.Native.Nat.{ℕ, zero, suc, ◌+◌, ◌*◌, ◌/◌, ◌-◌, ◌%◌, ◌^◌, ◌<◌, ◌≤◌}
use mathlib.Core.List.{List, [], ◌∷◌, ◌++◌}
use mathlib.Core.Path.{◌≡◌, refl, ap, ◌∙◌}
use lib.ListN.{length, get_or, take, drop, length-drop, replicate-append-replicate, length-replicate}
use lib.Seq.{get_or-drop, length-take-le}
use lib.Pow.{pow_pos, pow-add, pow-lt, high, low, shr-shr, mod-mod-pow, field}
use native.Mathlib.Nat.{not-suc-le-zero, le_of_suc-le-suc, mod-eq_of_lt, one-mul}
use native.Mathlib.Omega.{arith}
use lib.Arith.{digits_lt}
use Rattle.bits.specs.Fields.{total, join, bytes, value, Bytes, Fit}

pub total-bytes : (n : ℕ) → total (bytes n) ≡ 8 * n
total-bytes zero = refl
total-bytes (suc n) = omega (arith, total-bytes n)

-- one byte more at the end
pub join-snoc : (n : ℕ) (s : List ℕ) → n < length s → join (bytes (suc n)) s ≡ join (bytes n) s * 256 + get_or s n 0
join-snoc n [] h = absurd (not-suc-le-zero h)
join-snoc zero (x ∷ s) h = omega arith
join-snoc (suc n) (x ∷ s) h = omega (arith, join-snoc n s (le_of_suc-le-suc h), ap (λ (p : ℕ). x * p) (pow-add 2 8 (total (bytes n))))

-- the number of some bytes, one byte later, is below the next power
pub more_lt : (i acc b : ℕ) → acc < 2 ^ (8 * i) → b < 256 → acc * 256 + b < 2 ^ (8 * (i + 1))
more_lt i acc b h k =
    let e : 8 * (i + 1) ≡ 8 * i + 8 = omega arith in
    rw (e, pow-add) (omega arith)

-- fields of widths us, and then of widths vs
pub total-append : (us vs : List ℕ) → total (us ++ vs) ≡ total us + total vs
total-append [] vs = omega arith
total-append (u ∷ us) vs = omega (arith, total-append us vs)

pub join-append : (us vs s : List ℕ) → length us ≤ length s → join (us ++ vs) s ≡ join us s * 2 ^ total vs + join vs (drop (length us) s)
join-append [] vs s h = omega arith
join-append (u ∷ us) vs [] h = absurd (not-suc-le-zero h)
join-append (u ∷ us) vs (x ∷ s) h =
    let e : 2 ^ total (us ++ vs) ≡ 2 ^ total us * 2 ^ total vs = rw total-append (pow-add 2 (total us) (total vs)) in
    omega (arith, join-append us vs s (le_of_suc-le-suc h), ap (λ (p : ℕ). x * p) e)

-- bytes make a number below the power of their bits
pub bytes_lt : (n : ℕ) (s : List ℕ) → ((i : ℕ) → get_or s i 0 < 256) → join (bytes n) s < 2 ^ total (bytes n)
bytes_lt zero s h = omega arith
bytes_lt (suc n) [] h = pow_pos (total (bytes (suc n)))
bytes_lt (suc n) (x ∷ s) h = rw pow-add (digits_lt (h 0) (bytes_lt n s (λ i. h (suc i))))

pub bytes_take : (n : ℕ) (s : List ℕ) → Bytes s → Bytes (take n s)
bytes_take zero s b i = omega arith
bytes_take (suc n) [] b i = b i
bytes_take (suc n) (x ∷ s) b zero = b 0
bytes_take (suc n) (x ∷ s) b (suc i) = bytes_take n s (λ (k : ℕ). b (suc k)) i

pub bytes_drop : (n : ℕ) (s : List ℕ) → Bytes s → Bytes (drop n s)
bytes_drop n s h i = rw get_or-drop (h (n + i))

-- a list of bytes is a row of fields of 8 bits that fit
pub fit-bytes : (s : List ℕ) → Bytes s → Fit (bytes (length s)) s
fit-bytes [] b = tt
fit-bytes (x ∷ s) b = (b 0, fit-bytes s (λ i. b (suc i)))

-- the number that n bytes make does not look at what stands behind them
pub join-take : (n : ℕ) (s : List ℕ) → join (bytes n) (take n s) ≡ join (bytes n) s
join-take zero s = refl
join-take (suc n) [] = refl
join-take (suc n) (x ∷ s) = ap (λ (z : ℕ). x * 2 ^ total (bytes n) + z) (join-take n s)

-- the number of some bytes in the middle
pub value-part : (s : List ℕ) (start n : ℕ) → start + n ≤ length s → value (take n (drop start s)) ≡ join (bytes n) (drop start s)
value-part s start n h =
    ap (λ (k : ℕ). join (bytes k) (take n (drop start s))) (length-take-le n (drop start s) (rw length-drop (omega arith))) ∙ join-take n (drop start s)

-- n + k bytes as a number: the first n make its upper part, the last k its lower part
module _ (n k : ℕ) (s : List ℕ) (fits : n + k ≤ length s) (h : Bytes s) where
  parts : join (bytes (n + k)) s ≡ join (bytes n) s * 2 ^ total (bytes k) + join (bytes k) (drop n s)
  parts =
      let m : n ≤ length s = omega arith in
      rw (← replicate-append-replicate {A = ℕ} n k 8)
      (rw length-replicate at (join-append (bytes n) (bytes k) s (rw length-replicate m)))

  below : join (bytes k) (drop n s) < 2 ^ total (bytes k)
  below = bytes_lt k (drop n s) (bytes_drop n s h)

  pub first_of : join (bytes n) s ≡ join (bytes (n + k)) s / 2 ^ total (bytes k)
  first_of = rw (parts, high (join (bytes n) s) (total (bytes k)) below)

  pub last_of : join (bytes k) (drop n s) ≡ join (bytes (n + k)) s % 2 ^ total (bytes k)
  last_of = rw (parts, low (join (bytes n) s) (total (bytes k)) below)

-- The field of w bits that has 8 * q + k bits behind it, from the cnt bytes that hold it
pub window : (s : List ℕ) (start cnt q k w : ℕ) → start + cnt + q ≤ length s → Bytes s → w + k ≤ 8 * cnt
    → join (bytes cnt) (drop start s) / 2 ^ k % 2 ^ w ≡ join (bytes (start + cnt + q)) s / 2 ^ (8 * q + k) % 2 ^ w
window s start cnt q k w fits b h =
    let j : ℕ = 8 * cnt - (w + k) in
    let e : 8 * cnt ≡ j + w + k = omega arith in
    let v : ℕ = join (bytes (start + cnt)) s in
    let top : v ≡ join (bytes (start + cnt + q)) s / 2 ^ (8 * q) = rw total-bytes at (first_of (start + cnt) q s fits b) in
    let low' : join (bytes cnt) (drop start s) ≡ v % 2 ^ (8 * cnt) = rw total-bytes at (last_of start cnt s (omega arith) b) in
    rw (low', e, field v (j + w) k, mod-mod-pow (v / 2 ^ k) j w, top, shr-shr)

-- a shifted 1 that fits
pub one_shl : (w : ℕ) → w ≤ 32 → 1 * 2 ^ w % 2 ^ 64 ≡ 2 ^ w
one_shl w h =
    let k : w < 64 = omega arith in
    let l : 2 ^ w < 2 ^ 64 = pow-lt k in
    rw one-mul (mod-eq_of_lt l)
