-- The aims of a quote that slides, for a buy with limit L, away offer A, and C "the lowest working price of any sell in the book, dark included"; a sell is the
-- mirror image. Kinds are numbered as in messages; which of them slide, and which mind C, the table of crate kinds says.
-- Assumes nothing.
use Rattle.std.specs.Prelude.{ℕ, Bool, true, cond, ◌≡◌, eqb}
use Rattle.kinds.specs.Kinds.{minds}
use Rattle.prices.specs.declared.Prices.{Prices}
use Rattle.prices.specs.Side.{meek}
use Rattle.prices.specs.Step.{mpv, none_or_legal, back}

-- C as the kind has it among its bounds: MMALO minds it; none for MMRP
unfoldable pub minded : ℕ → ℕ → ℕ
minded kind c = cond (minds kind) c 0

-- "A missing A or C does not bind": the lesser of p and x, and of p and one step back from x
unfoldable pub up_to : Bool → ℕ → ℕ → ℕ
up_to s x p = cond (eqb x 0) p (meek s p x)

unfoldable pub short_of : ℕ → Bool → ℕ → ℕ → ℕ
short_of m s x p = cond (eqb x 0) p (meek s p (back m s x))

-- Each "-M" is one step back. "MMALO: aim for display is the least of L, A-M, C-M; for working the least of L, A, C-M."
-- "MMRP: aim for display is the lesser of L, A-M; for working the lesser of L, A."
unfoldable pub aim_display : ℕ → ℕ → Bool → ℕ → ℕ → ℕ → ℕ
aim_display m kind s l a c = short_of m s (minded kind c) (short_of m s a l)

unfoldable pub aim_working : ℕ → ℕ → Bool → ℕ → ℕ → ℕ → ℕ
aim_working m kind s l a c = short_of m s (minded kind c) (up_to s a l)

-- both; "On arrival it takes the aims."
abbrev pub aims : ℕ → ℕ → Bool → ℕ → ℕ → ℕ → Prices
aims m kind s l a c = record { display = aim_display m kind s l a c; working = aim_working m kind s l a c }

-- what a caller has seen to: an MPV, and prices that are none or legal
pub record Bounds (m a c : ℕ) : Type 0 where
  pub step : mpv m ≡ true
  pub away : none_or_legal m a ≡ true
  pub contra : none_or_legal m c ≡ true
