-- Easing: "each sliding buy working above A drops to the higher of its display and A (a sell the mirror image ..)".
-- Assumes nothing.
use Rattle.std.specs.Prelude.{ℕ, Bool, cond, not, ◌&&◌, eqb}
use Rattle.prices.specs.Side.{keen, reaches}

-- "working above A"; a missing A does not bind
abbrev pub beyond : Bool → ℕ → ℕ → Bool
beyond s a w = not (eqb a 0) && not (reaches s a w)

-- the working price after easing
unfoldable pub eased_to : Bool → ℕ → ℕ → ℕ → ℕ
eased_to s a d w = cond (beyond s a w) (keen s d a) w

-- "An easing that changes a price"
unfoldable pub eases : Bool → ℕ → ℕ → ℕ → Bool
eases s a d w = not (eqb w (eased_to s a d w))
