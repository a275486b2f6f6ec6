use Rattle.std.proofs.Common.{◌≡◌, ℕ, ◌≤◌, sym, arith, rules}
use Rattle.std.proofs.lemmas.List.{length-replicate}
use Rattle.lines.specs.Buffer.{longest_answer}
use Rattle.session.proofs.begin.Goals as goal

-- a long array's length is cited, and not computed
enough : {n m : ℕ} → n ≡ m → longest_answer ≤ n → longest_answer ≤ m
enough e h = omega arith

pub slice_bounds-play-end-2 : goal.slice_bounds-play-end-2
slice_bounds-play-end-2 g c = sym (length-replicate {0} {A = ℕ} 547200 0)

pub play-requires : goal.play-requires
play-requires g c = (search rules, enough (slice_bounds-play-end-2 g c) (omega arith))
