use Rattle.std.proofs.Common.{ℕ, sym}
use Rattle.std.proofs.lemmas.List.{length-replicate}
use Rattle.test_lessons.proofs.main.Goals as goal

-- a long array's length is cited, and not computed
pub slice_bounds-play_all-end-2 : goal.slice_bounds-play_all-end-2
slice_bounds-play_all-end-2 c = sym (length-replicate {0} {A = ℕ} 547200 0)
