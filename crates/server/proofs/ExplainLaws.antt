-- Why, on a series in a buffer: what the code cites.
-- Assumes nothing.
use Prim.Native.Nat.{ℕ}
use mathlib.Core.Path.{◌≡◌, sym, ap, ◌∙◌}
use mathlib.Core.Bool.{Bool, true, false, cond}
use mathlib.Core.List.{List}
use Rattle.std.specs.Prelude.{Option, None, Some}
use lib.Dec.{ltb}
use lib.ListN.{length}
use Rattle.std.specs.Prelude.{Result}
use Rattle.packing.specs.declared.message.Event.{Event}
use Rattle.packing.specs.Room.{room_size}
use Rattle.series_buffer.specs.State.{unpack_series}
use Rattle.series.specs.declared.Series.{Series}
use Rattle.why.specs.Reasons.{Why}
use Rattle.why.specs.Why.{Numbers, numbers_of, Explained, in_lent, unexplained, explained_as}
use Rattle.server.specs.Explain.{Reply, in_numbers, explain_in, explain_held}

module _ (state : List ℕ) (event : Option Event) (place : ℕ) (room : List ℕ) where
  pub explain-short : ltb (length room) room_size ≡ true → unexplained 10 room ≡ explain_held state event place room
  unfolding explain_held
  explain-short h = sym (ap (λ (b : Bool). cond b (unexplained 10 room) (explain_in event place room (unpack_series state))) h)

  module _ (space : ltb (length room) room_size ≡ false) where
    inside : explain_held state event place room ≡ explain_in event place room (unpack_series state)
    unfolding explain_held
    inside = ap (λ (b : Bool). cond b (unexplained 10 room) (explain_in event place room (unpack_series state))) space

    pub explain-none : unpack_series state ≡ None → unexplained 11 room ≡ explain_held state event place room
    explain-none h = sym (inside ∙ ap (explain_in event place room) h)

    pub explain-held : (s : Series) → unpack_series state ≡ Some s → explained_as s event place room ≡ explain_held state event place room
    explain-held s h = sym (inside ∙ ap (explain_in event place room) h)

-- what is told, once it stands in numbers
pub told-in-numbers : (w : Result Why ℕ) (after : List ℕ) (n : Numbers) (x : Explained) → n ≡ numbers_of w → in_lent w after ≡ x
    → ◌≡◌ {A = Reply} (record { numbers = n; room = after }) (in_numbers x)
told-in-numbers w after n x is told = ap (λ (k : Numbers). record { numbers = k; room = after }) is ∙ ap in_numbers told
