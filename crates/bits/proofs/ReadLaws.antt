-- Reading a row of fields: what holds after some of them are read.
use Prim.Native.Nat.{ℕ, zero, suc, ◌+◌, ◌-◌, ◌/◌, ◌%◌, ◌^◌, ◌<◌, ◌≤◌}
use mathlib.Core.List.{List, [], ◌∷◌}
use mathlib.Core.Path.{◌≡◌, refl, sym, ap, ◌∙◌}
use lib.ListN.{length, get_or, take, drop, set, length-set}
use lib.Seq.{drop-cons, take-suc, take-suc-set, take-length}
use native.Mathlib.Nat.{not-suc-le-zero, le_of_suc-le-suc}
use native.Mathlib.Omega.{arith}
use native.Mathlib.Numerals.{add-one}
use Rattle.bits.specs.Fields.{total, split, Narrow}
use Rattle.bits.proofs.FieldLaws.{length-split}

pub narrow_at : (ws : List ℕ) (j : ℕ) → Narrow ws → j < length ws → get_or ws j 0 ≤ 32
narrow_at [] j h k = absurd (not-suc-le-zero k)
narrow_at (w ∷ ws) zero h k = h.0
narrow_at (w ∷ ws) (suc j) h k = narrow_at ws j h.1 (le_of_suc-le-suc k)

pub get_d-split : (ws : List ℕ) (v j : ℕ) → j < length ws → get_or (split ws v) j 0 ≡ v / 2 ^ total (drop (suc j) ws) % 2 ^ get_or ws j 0
get_d-split [] v j h = absurd (not-suc-le-zero h)
get_d-split (w ∷ ws) v zero h = refl
get_d-split (w ∷ ws) v (suc j) h = get_d-split ws v j (le_of_suc-le-suc h)

pub total-drop : (ws : List ℕ) (j : ℕ) → j < length ws → total (drop j ws) ≡ get_or ws j 0 + total (drop (suc j) ws)
total-drop ws j h = ap total (drop-cons ws j 0 h)

pub total-drop-le : (ws : List ℕ) (j : ℕ) → total (drop j ws) ≤ total ws
total-drop-le ws zero = omega arith
total-drop-le [] (suc j) = omega arith
total-drop-le (w ∷ ws) (suc j) = omega (arith, total-drop-le ws j)

-- j fields of v are read into xs, and the others have `after` bits
pub record Reading (ws : List ℕ) (v : ℕ) (xs : List ℕ) (after j : ℕ) : Type 0 where
  pub same : length xs ≡ length ws
  pub within : j ≤ length ws
  pub done : take j xs ≡ take j (split ws v)
  pub rest : after ≡ total (drop j ws)

-- No proof cites it: the check finds by itself that the loop of `read_all` starts so. It stands as the first of the three laws of a loop.
pub reading-start : (ws : List ℕ) (v : ℕ) (xs : List ℕ) (n : ℕ) → length xs ≡ length ws → total ws ≡ n → Reading ws v xs n 0
reading-start ws v xs n h e = record { same = h; within = omega arith; done = refl; rest = sym e }

pub reading_step : (ws : List ℕ) (v : ℕ) (xs : List ℕ) (after j x : ℕ) → Reading ws v xs after j → j < length ws
    → x ≡ v / 2 ^ (after - get_or ws j 0) % 2 ^ get_or ws j 0
    → Reading ws v (set xs j x) (after - get_or ws j 0) (j + 1)
reading_step ws v xs after j x h k e =
    let a : after - get_or ws j 0 ≡ total (drop (suc j) ws) = omega (arith, h.rest, total-drop ws j k) in
    let b : x ≡ get_or (split ws v) j 0 = rw (get_d-split ws v j k, ← a) e in
    record {
      same = length-set xs j x ∙ h.same;
      within = omega arith;
      done =
          rw (add-one, take-suc-set xs j x (omega (arith, h.same)), take-suc (split ws v) j 0 (rw length-split k), ← b, h.done);
      rest = rw add-one a;
    }

pub reading-done : (ws : List ℕ) (v : ℕ) (xs : List ℕ) (after : ℕ) → Reading ws v xs after (length ws) → xs ≡ split ws v
reading-done ws v xs after h =
    sym (take-length xs) ∙ ap (λ (k : ℕ). take k xs) h.same ∙ h.done ∙ ap (λ (k : ℕ). take k (split ws v)) (sym (length-split ws v))
    ∙ take-length (split ws v)
