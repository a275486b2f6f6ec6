-- The one law behind every packed layout: fields of given widths and the number that they make determine each other.
use Prim.Native.Nat.{ℕ, suc, ◌+◌, ◌*◌, ◌/◌, ◌%◌, ◌^◌, ◌<◌}
use mathlib.Core.List.{List, [], ◌∷◌}
use mathlib.Core.Path.{◌≡◌, refl, sym, ap, ap₂, ◌∙◌}
use lib.Pow.{pow_pos, pow-add, high, mod-pow-add}
use native.Mathlib.Nat.{mod-lt, mod-one, mod-eq_of_lt, mul_assoc, mul-add-div_right, mul-add-mod_self_right, div-add-mod'}
use native.Mathlib.Omega.{arith}
use lib.Arith.{digits_lt}
use lib.ListN.{length}
use Rattle.bits.specs.Fields.{total, join, split, Fit}

pub length-split : (ws : List ℕ) (v : ℕ) → length (split ws v) ≡ length ws
length-split [] v = refl
length-split (w ∷ ws) v = ap suc (length-split ws v)

-- fields that fit make a number below the power of their bits
pub join-lt : (ws xs : List ℕ) → Fit ws xs → join ws xs < 2 ^ total ws
join-lt [] [] h = omega arith
join-lt (w ∷ ws) (x ∷ xs) h = rw pow-add (digits_lt h.0 (join-lt ws xs h.1))
join-lt [] (x ∷ xs) h = elim h [ ]
join-lt (w ∷ ws) [] h = elim h [ ]

-- what stands above a layout's bits does not matter to its fields
pub split-low : (ws : List ℕ) (a v : ℕ) → split ws (a * 2 ^ total ws + v) ≡ split ws v
split-low [] a v = refl
split-low (w ∷ ws) a v =
    let t : ℕ = total ws in
    let e : a * 2 ^ (w + t) + v ≡ a * 2 ^ w * 2 ^ t + v = rw (pow-add, mul_assoc) in
    rw e (ap₂ {C = List ℕ} (λ (x : ℕ) (xs : List ℕ). x ∷ xs)
    (rw (mul-add-div_right (pow_pos t) (a * 2 ^ w) v, mul-add-mod_self_right))
    (split-low ws (a * 2 ^ w) v))

-- THE LAW, one way: the fields of the number that fields make are those fields
pub split-join : (ws xs : List ℕ) → Fit ws xs → split ws (join ws xs) ≡ xs
split-join [] [] h = refl
split-join (w ∷ ws) (x ∷ xs) h =
    ap₂ {C = List ℕ} (λ (y : ℕ) (ys : List ℕ). y ∷ ys)
    (rw (high x (total ws) (join-lt ws xs h.1)) (mod-eq_of_lt h.0))
    (split-low ws x (join ws xs) ∙ split-join ws xs h.1)
split-join [] (x ∷ xs) h = elim h [ ]
split-join (w ∷ ws) [] h = elim h [ ]

-- THE LAW, the other way
pub join-split : (ws : List ℕ) (v : ℕ) → join ws (split ws v) ≡ v % 2 ^ total ws
join-split [] v = sym (mod-one v)
join-split (w ∷ ws) v = rw (join-split ws v) (sym (mod-pow-add v w (total ws)))

pub split-fit : (ws : List ℕ) (v : ℕ) → Fit ws (split ws v)
split-fit [] v = tt
split-fit (w ∷ ws) v = (mod-lt (v / 2 ^ total ws) (pow_pos w), split-fit ws v)

-- what a reader shows: the fields that it found fit, and make the number
pub split-unique : (ws xs : List ℕ) (v : ℕ) → Fit ws xs → join ws xs ≡ v → xs ≡ split ws v
split-unique ws xs v h e = rw (← e) (sym (split-join ws xs h))

-- The same bits in two layouts: from one to the other and back
pub recode : (us ws xs : List ℕ) → total us ≡ total ws → Fit us xs → split us (join ws (split ws (join us xs))) ≡ xs
recode us ws xs e h =
    let b : join us xs % 2 ^ total ws ≡ join us xs = mod-eq_of_lt (rw (← e) (join-lt us xs h)) in
    rw (join-split, b) (split-join us xs h)

-- a layout's fields go by the number's lowest bits alone
pub split-mod : (ws : List ℕ) (v : ℕ) → split ws (v % 2 ^ total ws) ≡ split ws v
split-mod ws v =
    sym (split-low ws (v / 2 ^ total ws) (v % 2 ^ total ws)) ∙ ap (split ws) (div-add-mod' v (2 ^ total ws))
