-- Writing a row of fields: what holds while one field is moved in, byte by byte from the last, and after some fields.
use Prim.Native.Nat.{ℕ, zero, suc, ◌+◌, ◌-◌, ◌*◌, ◌/◌, ◌%◌, ◌^◌, ◌<◌, ◌≤◌}
use mathlib.Core.List.{List, [], ◌∷◌}
use mathlib.Core.Path.{◌≡◌, refl, sym, ap, ap₂, ◌∙◌}
use lib.ListN.{length, get_or, take, drop, set, length-set, length-drop}
use lib.Seq.{drop-cons, drop-length, get_or-set_same, drop-set-lt, take-set-le, take-take, get_or-take}
use lib.Pow.{pow_pos, pow-add, pow_mono, low}
use native.Mathlib.Nat.{mod-lt, mod-eq_of_lt, div-add-mod, add-mul-mod_self_left, mul-add-mod_self_right}
use native.Mathlib.Nat.{sub-zero, mul-le-mul_right, le_refl, le-pred_of_lt, div-add-mod'}
use lib.Dec.{lit<}
use native.Mathlib.Omega.{arith}
use Rattle.bits.specs.Fields.{total, join, split, Fit, Bytes, Narrow, value, bytes}
use Rattle.bits.proofs.ByteLaws.{bytes_lt, total-bytes, fit-bytes}
use Rattle.bits.proofs.FieldLaws.{split-unique, split-mod}

bytes-set : (s : List ℕ) (i v : ℕ) → Bytes s → v < 256 → Bytes (set s i v)
bytes-set [] i v h k j = h j
bytes-set (x ∷ s) zero v h k zero = k
bytes-set (x ∷ s) zero v h k (suc j) = h (suc j)
bytes-set (x ∷ s) (suc i) v h k zero = h 0
bytes-set (x ∷ s) (suc i) v h k (suc j) = bytes-set s i v (λ n. h (suc n)) k j

-- `put`: s₀ is what the bytes were, and from i on they are moved up by w bits, with x added; carry is what goes on to the byte before
pub record Shifting (s₀ : List ℕ) (w x : ℕ) (s : List ℕ) (carry i : ℕ) : Type 0 where
  pub same : length s ≡ length s₀
  pub within : i ≤ length s₀
  pub front : take i s ≡ take i s₀
  pub ok : Bytes s
  pub small : carry < 2 ^ 32
  pub sum : value (drop i s) + carry * 2 ^ (8 * (length s₀ - i)) ≡ value (drop i s₀) * 2 ^ w + x

value-cons : (b : ℕ) (s : List ℕ) → value (b ∷ s) ≡ b * 2 ^ (8 * length s) + value s
value-cons b s = rw (total-bytes (length s))

shift-num : (b m c x v v₀ p t : ℕ) → v + c * p ≡ v₀ * m + x → t ≡ b * m + c
    → t % 256 * p + v + t / 256 * (p * 256) ≡ (b * p + v₀) * m + x
shift-num b m c x v v₀ p t h e = omega (arith, ap (λ (z : ℕ). z * p) (div-add-mod' t 256), ap (λ (z : ℕ). z * p) e)

-- No proof cites it: the check finds by itself that the loop of `put` starts so. It stands as the first of the three laws of a loop.
pub shift-start : (s : List ℕ) (w x : ℕ) → Bytes s → x < 2 ^ 32 → Shifting s w x s x (length s)
shift-start s w x b h =
    let e : length s - length s ≡ 0 = omega arith in
    record {
      same = refl;
      within = omega arith;
      front = refl;
      ok = b;
      small = h;
      sum = rw (drop-length s, e) (omega arith);
    }

pub shift-step : (s₀ : List ℕ) (w x : ℕ) (s : List ℕ) (carry i t : ℕ)
    → Shifting s₀ w x s carry (suc i) → w ≤ 32 → t ≡ get_or s i 0 * 2 ^ w + carry
    → Shifting s₀ w x (set s i (t % 256)) (t / 256) i
shift-step s₀ w x s carry i t h k e =
    let v : ℕ = t % 256 in
    let n : ℕ = length s₀ in
    let below : i < length s = omega (arith, h.same) in
    let up : i < suc i = omega arith in
    let up' : i ≤ suc i = omega arith in
    let same_byte : get_or s i 0 ≡ get_or s₀ i 0 =
    sym (get_or-take (suc i) s i 0 up) ∙ ap (λ (l : List ℕ). get_or l i 0) h.front ∙ get_or-take (suc i) s₀ i 0 up in
    let d : drop i (set s i v) ≡ v ∷ drop (suc i) s =
    drop-cons (set s i v) i 0 (rw length-set below)
    ∙ ap₂ {C = List ℕ} (λ (y : ℕ) (ys : List ℕ). y ∷ ys) (get_or-set_same s i v 0 below) (drop-set-lt (suc i) s i v up) in
    let d₀ : drop i s₀ ≡ get_or s i 0 ∷ drop (suc i) s₀ = rw same_byte (drop-cons s₀ i 0 h.within) in
    let l : length (drop (suc i) s) ≡ n - suc i = rw length-drop (omega arith) in
    let l₀ : length (drop (suc i) s₀) ≡ n - suc i = rw length-drop in
    let p : 2 ^ (8 * (n - i)) ≡ 2 ^ (8 * (n - suc i)) * 256 =
    let q : 8 * (n - i) ≡ 8 * (n - suc i) + 8 = omega arith in
    rw q (pow-add 2 (8 * (n - suc i)) 8) in
    record {
      same = length-set s i v ∙ h.same;
      within = omega arith;
      front = take-set-le i s i v (le_refl i) ∙ sym (take-take i (suc i) s up') ∙ ap (take i) h.front ∙ take-take i (suc i) s₀ up';
      ok = bytes-set s i v h.ok (mod-lt t (lit< tt));
      small = omega (arith, mul-le-mul_right (2 ^ w) (le-pred_of_lt (h.ok i)), pow_mono k);
      sum =
          rw (d, d₀, value-cons v (drop (suc i) s), value-cons (get_or s i 0) (drop (suc i) s₀), l, l₀, p)
          (shift-num (get_or s i 0) (2 ^ w) carry x _ _ (2 ^ (8 * (n - suc i))) t (rw (l, l₀) at h.sum) e);
    }

pub shift-done : (s₀ : List ℕ) (w x : ℕ) (s : List ℕ) (carry : ℕ)
    → Shifting s₀ w x s carry 0 → value s ≡ (value s₀ * 2 ^ w + x) % 2 ^ (8 * length s₀)
shift-done s₀ w x s carry h =
    let l : value s < 2 ^ (8 * length s₀) = rw (← h.same, ← (total-bytes (length s))) (bytes_lt (length s) s h.ok) in
    let e : carry * 2 ^ (8 * length s₀) + value s ≡ value s₀ * 2 ^ w + x = omega (arith, rw sub-zero at h.sum) in
    rw (← e) (sym (low carry (8 * length s₀) l))

-- some fields are moved into out, which was out₀, and what then stands there, moved by the others, ys of widths us, will be the whole
pub record Writing (ws xs out₀ out us ys : List ℕ) : Type 0 where
  pub same : length out ≡ length out₀
  pub ok : Bytes out
  pub small : value out < 2 ^ (8 * length out₀)
  pub narrow : Narrow us
  pub long : length ys ≡ length us
  pub rest : (value out * 2 ^ total us + join us ys) % 2 ^ (8 * length out₀) ≡ (value out₀ * 2 ^ total ws + join ws xs) % 2 ^ (8 * length out₀)

mod-shift : (a p k m : ℕ) → (a % m * p + k) % m ≡ (a * p + k) % m
mod-shift a p k m =
    let e : a * p + k ≡ a % m * p + k + m * (a / m * p) = omega (arith, ap (λ (z : ℕ). z * p) (div-add-mod a m)) in
    rw (e, add-mul-mod_self_left)

pub writing_start : (ws xs out : List ℕ) → Bytes out → Narrow ws → length xs ≡ length ws → Writing ws xs out out ws xs
writing_start ws xs out b n l =
    record {
      same = refl;
      ok = b;
      small = rw (← (total-bytes (length out))) (bytes_lt (length out) out b);
      narrow = n;
      long = l;
      rest = refl;
    }

pub writing_step : (ws xs out₀ out out' : List ℕ) (w x : ℕ) (us ys : List ℕ) → Writing ws xs out₀ out (w ∷ us) (x ∷ ys)
    → length out' ≡ length out
    → value out' ≡ (value out * 2 ^ w + x) % 2 ^ (8 * length out)
    → Bytes out'
    → Writing ws xs out₀ out' us ys
writing_step ws xs out₀ out out' w x us ys h s e b =
    let m : ℕ = 2 ^ (8 * length out₀) in
    let e' : value out' ≡ (value out * 2 ^ w + x) % m = e ∙ ap (λ (n : ℕ). (value out * 2 ^ w + x) % 2 ^ (8 * n)) h.same in
    let q : value out * 2 ^ (w + total us) + (x * 2 ^ total us + join us ys) ≡ (value out * 2 ^ w + x) * 2 ^ total us + join us ys =
    rw pow-add (omega arith) in
    record {
      same = s ∙ h.same;
      ok = b;
      small = rw e' (mod-lt (value out * 2 ^ w + x) (pow_pos (8 * length out₀)));
      narrow = h.narrow.1;
      long = omega (arith, h.long);
      rest = rw (e', mod-shift, ← q) h.rest;
    }

pub writing-done : (ws xs out₀ out us ys : List ℕ) → Writing ws xs out₀ out us ys → length us ≡ 0
    → value out ≡ (value out₀ * 2 ^ total ws + join ws xs) % 2 ^ (8 * length out₀)
writing-done ws xs out₀ out [] ys h z =
    let e : value out * 1 + 0 ≡ value out = omega arith in
    sym (mod-eq_of_lt h.small) ∙ ap (λ (v : ℕ). v % 2 ^ (8 * length out₀)) (sym e) ∙ h.rest
writing-done ws xs out₀ out (u ∷ us) ys h z = absurd (omega (arith, z))

-- what was written is the bytes of the fields' number, whatever stood there before
pub written : (ws xs out : List ℕ) (n v : ℕ) → length out ≡ n → Bytes out → total ws ≡ 8 * n
    → value out ≡ (v * 2 ^ total ws + join ws xs) % 2 ^ (8 * n)
    → out ≡ split (bytes n) (join ws xs)
written ws xs out n v l b t e =
    let p : total (bytes n) ≡ total ws = total-bytes n ∙ sym t in
    let f : Fit (bytes n) out = rw (← l) (fit-bytes out b) in
    let q : value out ≡ join ws xs % 2 ^ total ws =
    e ∙ ap (λ (k : ℕ). (v * 2 ^ total ws + join ws xs) % 2 ^ k) (sym t) ∙ mul-add-mod_self_right v (2 ^ total ws) (join ws xs) in
    let r : join (bytes n) out ≡ join ws xs % 2 ^ total (bytes n) =
    ap (λ (k : ℕ). join (bytes k) out) (sym l) ∙ q ∙ ap (λ (k : ℕ). join ws xs % 2 ^ k) (sym p) in
    split-unique (bytes n) out (join ws xs % 2 ^ total (bytes n)) f r ∙ split-mod (bytes n) (join ws xs)
