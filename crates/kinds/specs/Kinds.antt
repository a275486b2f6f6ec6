-- THE TABLE OF KINDS. What a rule asks of a message's kind, or of an entry's, it asks here: of the table, so that a new kind is a new row; of kinds that are
-- one of a sort, by their numbers below. (Which bytes a kind has is packing's to say.)
-- Assumes nothing.
use Rattle.std.specs.Prelude.{ℕ, Bool, true, false, cond, List, [], ◌∷◌, eqb}

-- what is so of a kind
pub record Kind : Type 0 where
  -- "kinds 1-6": quotes and orders, which take an entry number and may rest
  pub enters : Bool
  -- "plain, MMLO, MMALO, MMRP quote"
  pub quotes : Bool
  -- "Only a sliding kind carries a display price apart from its limit: MMALO and MMRP."
  pub sliding : Bool
  -- "MMALO: aim for display is the least of L, A-M, C-M": it has C among its bounds; "Then MMALO: aims, no trade."
  pub minds : Bool
  -- "dark order": "dark ones work at the limit", and show no price
  pub dark : Bool
  -- "MMLO arriving passes over undisplayed interest"
  pub light : Bool
  -- it has party among its fields: "Tests on party and the like apply only to kinds that carry the field."
  pub carries : Bool
  -- and one of the makers: "kinds 1-4, 8, 12: outside 1-16"
  pub makers : Bool
  -- its aims may be asked for by number: "refused with 1 for a kind other than 3 and 4"
  pub asked : Bool

abbrev yes : Bool
yes = true

abbrev no : Bool
no = false

abbrev kind : Bool → Bool → Bool → Bool → Bool → Bool → Bool → Bool → Bool → Kind
kind enters quotes sliding minds dark light carries makers asked = record {
  enters = enters;
  quotes = quotes;
  sliding = sliding;
  minds = minds;
  dark = dark;
  light = light;
  carries = carries;
  makers = makers;
  asked = asked;
}

-- the rows, by document 01's numbers: enters, quotes, sliding, minds, dark, light, carries, makers, asked
abbrev pub rows : List (ℕ × Kind)
rows =
    -- plain, MMLO, MMALO, MMRP quote
    (1, kind yes yes no no no no yes yes no)
    ∷ (2, kind yes yes no no no yes yes yes no)
    ∷ (3, kind yes yes yes yes no no yes yes yes)
    ∷ (4, kind yes yes yes no no no yes yes yes)
    -- displayed order, dark order
    ∷ (5, kind yes no no no no no yes no no)
    ∷ (6, kind yes no no no yes no yes no no)
    -- cancel own entry, cancel own quote
    ∷ (7, kind no no no no no no yes no no)
    ∷ (8, kind no no no no no no yes yes no)
    -- away prices, underlying price, phase
    ∷ (9, kind no no no no no no no no no)
    ∷ (10, kind no no no no no no no no no)
    ∷ (11, kind no no no no no no no no no)
    -- enable a maker
    ∷ (12, kind no no no no no no yes yes no)
    ∷ []

-- nothing is so of a number that no row has
abbrev pub unknown : Kind
unknown = kind no no no no no no no no no

abbrev pub row_in : List (ℕ × Kind) → ℕ → Kind
row_in [] n = unknown
row_in (row ∷ more) n = cond (eqb n row.0) row.1 (row_in more n)

unfoldable pub row_of : ℕ → Kind
row_of n = row_in rows n

-- ---- what rules ask of a kind's number ----

abbrev pub enters : ℕ → Bool
enters n = (row_of n).enters

abbrev pub quotes : ℕ → Bool
quotes n = (row_of n).quotes

abbrev pub sliding : ℕ → Bool
sliding n = (row_of n).sliding

abbrev pub minds : ℕ → Bool
minds n = (row_of n).minds

abbrev pub dark : ℕ → Bool
dark n = (row_of n).dark

abbrev pub light : ℕ → Bool
light n = (row_of n).light

abbrev pub carries : ℕ → Bool
carries n = (row_of n).carries

abbrev pub makers : ℕ → Bool
makers n = (row_of n).makers

abbrev pub asked : ℕ → Bool
asked n = (row_of n).asked

-- ---- kinds that are one of a sort, by their numbers ----

abbrev pub cancels_entry : ℕ → Bool
cancels_entry n = eqb n 7

abbrev pub cancels_quote : ℕ → Bool
cancels_quote n = eqb n 8

abbrev pub sets_away : ℕ → Bool
sets_away n = eqb n 9

abbrev pub sets_underlying : ℕ → Bool
sets_underlying n = eqb n 10

abbrev pub sets_phase : ℕ → Bool
sets_phase n = eqb n 11

abbrev pub enables : ℕ → Bool
enables n = eqb n 12
