-- The bytes and numbers of specs/Number, as the code comes by them.
-- Assumes nothing.
use Prim.Native.Nat.{ℕ, ◌+◌, ◌*◌, ◌≤◌, ◌<◌}
use mathlib.Core.Path.{◌≡◌, sym, ap, ◌∙◌}
use mathlib.Core.List.{List}
use native.Mathlib.Omega.{arith}
use borrow.Author.Tests.{le-leb, lt-leb}
use lib.ListN.{length, take, drop, get_or, length-drop}
use lib.Seq.{get_or-drop, take-length}
use Rattle.std.specs.List.{slice_range}
use Rattle.test_reading.specs.Number.{number_at}

module _ (l : List ℕ) (at : ℕ) where
  pub too_few : length l < at + 4 → 0 ≡ number_at l at
  unfolding number_at
  too_few h = rw (lt-leb (at + 4) (length l) h)

  -- what `get(at..)` lends is what is left from there on
  to_the_end : slice_range l at (length l) ≡ drop at l
  to_the_end = ap (λ (n : ℕ). take n (drop at l)) (sym (length-drop at l)) ∙ take-length (drop at l)

  pub four : at ≤ length l → (rest : List ℕ) → rest ≡ slice_range l at (length l) → 4 ≤ length rest
      → get_or rest 0 0 * 16777216 + get_or rest 1 0 * 65536 + get_or rest 2 0 * 256 + get_or rest 3 0 ≡ number_at l at
  unfolding number_at
  four h rest e long =
      rw (
        le-leb (at + 4) (length l) (omega (arith, ap length (e ∙ to_the_end), length-drop at l)),
        e ∙ to_the_end,
        get_or-drop at l 0 0,
        get_or-drop at l 1 0,
        get_or-drop at l 2 0,
        get_or-drop at l 3 0,
        front,
      )
      (omega arith)
    where
      front : at + 0 ≡ at
      front = omega arith
