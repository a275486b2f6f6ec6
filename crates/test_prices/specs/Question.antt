-- A question of the table: nine numbers of four bytes, what is asked and its figures.
-- Assumes nothing.
use Rattle.std.specs.Prelude.{ℕ, ◌*◌, List, map}
use Rattle.std.specs.List.{range_with_len}
use Rattle.test_reading.specs.Number.{number_at}

abbrev pub question_in : List ℕ → List ℕ
question_in l = map (λ i. number_at l (4 * i)) (range_with_len 0 9)
