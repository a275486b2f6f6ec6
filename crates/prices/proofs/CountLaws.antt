-- HOW MANY STEPS, FOR ANY PAIR OF STEPS: the closed form `rung` is what counting one by one gives, up and down, across the change.
-- Assumes nothing.
use Prim.Native.Nat.{ℕ, zero, suc, ◌+◌, ◌-◌, ◌/◌, ◌≤◌, ◌<◌, min}
use mathlib.Core.Path.{◌≡◌, refl, sym, ap, ◌∙◌}
use mathlib.Core.Bool.{Bool, true, false}
use mathlib.Core.Logic.{◌⊎◌, inl, inr}
use native.Mathlib.Nat.{zero-div, zero-mod, add-div_right, div-mul-le_self, le-div_iff_mul-le}
use native.Mathlib.Omega.{arith}
use borrow.Author.Tests.{ltb-true, ltb-false}
use lib.Dec.{ltb}
use Rattle.prices.specs.Step.{Steps, change, up, down, rung}
use Rattle.prices.proofs.GridLaws.{Grid, OnGrid, below-or-from, up-fine, up-coarse}
use Rattle.prices.proofs.GridLaws.{change-on, up_more, none_above, up-down, up-on, down-on}

-- n steps, one by one
unfoldable pub after : ℕ → (ℕ → ℕ) → ℕ → ℕ
after zero step p = p
after (suc n) step p = after n step (step p)

-- ---- the closed form, by the side of the change ----

module _ {g : Steps} (v : Grid g) where
  pub zero-on : OnGrid g 0
  zero-on = record { fine = λ _. zero-mod g.small; coarse = λ c. absurd (omega (arith, c)) }

  rung-fine : (p : ℕ) → p ≤ change → rung g p ≡ p / g.small
  unfolding rung
  rung-fine p h =
      let e : min p change ≡ p = omega (arith, h) in
      let z : p - change ≡ 0 = omega (arith, h) in
      let n : 0 / g.large ≡ 0 = zero-div g.large in
      rw (e, z, n) (omega arith)

  rung-coarse : (p : ℕ) → change ≤ p → rung g p ≡ change / g.small + (p - change) / g.large
  unfolding rung
  rung-coarse p h = let e : min p change ≡ change = omega (arith, h) in rw e refl

  pub rung-zero : rung g 0 ≡ 0
  rung-zero = rung-fine 0 (omega arith) ∙ zero-div g.small

  -- A STEP UP IS ONE MORE, a step down one less
  pub rung-up : {p : ℕ} → OnGrid g p → rung g (up g p) ≡ rung g p + 1
  rung-up {p} a = go (below-or-from p)
    where
      go : (p < change) ⊎ (change ≤ p) → rung g (up g p) ≡ rung g p + 1
      go (inl k) =
          let to : up g p ≤ change = none_above v a (change-on v) k in
          let more : (p + g.small) / g.small ≡ p / g.small + 1 = add-div_right p v.small-some in
          rung-fine (up g p) to ∙ ap (λ (x : ℕ). x / g.small) (up-fine g p k) ∙ more ∙ ap (λ (x : ℕ). x + 1) (sym (rung-fine p (omega (arith, k))))
      go (inr k) =
          let high : up g p - change ≡ p - change + g.large = omega (arith, k, up-coarse g p k) in
          let more : (p - change + g.large) / g.large ≡ (p - change) / g.large + 1 = add-div_right (p - change) v.large-some in
          let there : (up g p - change) / g.large ≡ (p - change) / g.large + 1 = ap (λ (x : ℕ). x / g.large) high ∙ more in
          omega (arith, rung-coarse (up g p) (omega (arith, k, up_more v p)), there, rung-coarse p k)

  pub rung-down : {p : ℕ} → OnGrid g p → 1 ≤ p → rung g (down g p) + 1 ≡ rung g p
  rung-down {p} a h = sym (rung-up (down-on v a h)) ∙ ap (rung g) (up-down v a h)

  -- ---- more steps lead further ----

  divide-mono : {p q : ℕ} (s : ℕ) → 1 ≤ s → p ≤ q → p / s ≤ q / s
  divide-mono {p} {q} s some h = (le-div_iff_mul-le {k = s} {x = p / s} {y = q} some).1 (omega (arith, div-mul-le_self p s, h))

  pub rung-mono : (p q : ℕ) → p ≤ q → rung g p ≤ rung g q
  unfolding rung
  rung-mono p q h =
      let low : min p change ≤ min q change = omega (arith, h) in
      let high : p - change ≤ q - change = omega (arith, h) in
      omega (arith, divide-mono g.small v.small-some low, divide-mono g.large v.large-some high)

  pub rung-less : {p q : ℕ} → OnGrid g p → OnGrid g q → p < q → rung g p < rung g q
  rung-less {p} {q} a b h = omega (arith, rung-up a, rung-mono (up g p) q (none_above v a b h))

  pub less-rung : (p q : ℕ) → rung g p < rung g q → p < q
  less-rung p q h = go (ltb p q) refl
    where
      go : (b : Bool) → ltb p q ≡ b → p < q
      go true e = ltb-true p q e
      go false e = absurd (omega (arith, rung-mono q p (ltb-false p q e), h))

  pub same-rung : {p q : ℕ} → OnGrid g p → OnGrid g q → rung g p ≡ rung g q → p ≡ q
  same-rung {p} {q} a b h = go (ltb p q) refl (ltb q p) refl
    where
      go : (s : Bool) → ltb p q ≡ s → (t : Bool) → ltb q p ≡ t → p ≡ q
      go true e t f = absurd (omega (arith, rung-less a b (ltb-true p q e), h))
      go false e true f = absurd (omega (arith, rung-less b a (ltb-true q p f), h))
      go false e false f = omega (arith, ltb-false p q e, ltb-false q p f)

  -- ---- COUNTED ONE BY ONE ----

  pub after-up : (n : ℕ) {p : ℕ} → OnGrid g p → OnGrid g (after n (up g) p) × (rung g (after n (up g) p) ≡ rung g p + n)
  unfolding after
  after-up zero {p} a = (a, omega arith)
  after-up (suc n) {p} a = let r = after-up n (up-on v a) in (r.0, omega (arith, r.1, rung-up a))

  pub after-down : (n : ℕ) {p : ℕ} → OnGrid g p → n ≤ rung g p → OnGrid g (after n (down g) p) × (rung g (after n (down g) p) + n ≡ rung g p)
  unfolding after
  after-down zero {p} a h = (a, omega arith)
  after-down (suc n) {p} a h =
      let some : 1 ≤ p = less-rung 0 p (omega (arith, rung-zero, h)) in
      let d = rung-down a some in
      let r = after-down n (down-on v a some) (omega (arith, d, h)) in
      (r.0, omega (arith, r.1, d))

  -- there is nothing below 0
  down-end : (n : ℕ) {p : ℕ} → OnGrid g p → rung g p ≤ n + 1 → OnGrid g (down g p) × (rung g (down g p) ≤ n)
  unfolding down
  down-end n {p} a h = go (ltb 0 p) refl
    where
      go : (b : Bool) → ltb 0 p ≡ b → OnGrid g (down g p) × (rung g (down g p) ≤ n)
      go true e = let some : 1 ≤ p = ltb-true 0 p e in (down-on v a some, omega (arith, rung-down a some, h))
      go false e =
          let none : p ≡ 0 = omega (arith, ltb-false 0 p e) in
          let stays : down g p ≡ 0 = omega (arith, none) in
          rw stays (zero-on, omega (arith, rung-zero))

  pub after-end : (n : ℕ) {p : ℕ} → OnGrid g p → rung g p ≤ n → after n (down g) p ≡ 0
  unfolding after
  after-end zero {p} a h = same-rung a zero-on (omega (arith, rung-zero, h))
  after-end (suc n) {p} a h = let d = down-end n a (omega (arith, h)) in after-end n d.0 d.1
