-- The loop that sweeps: what it holds from turn to turn.
-- Assumes nothing.
use Prim.Native.Nat.{ℕ, ◌<◌}
use mathlib.Core.Path.{◌≡◌, refl, ap}
use mathlib.Core.List.{List}
use lib.ListN.{get_or}
use Rattle.lists.specs.Tests.{count}
use Rattle.lists.specs.Choose.{found}
use Rattle.book.specs.declared.Book.{Book}
use Rattle.std.specs.Prelude.{Some, None}
use Rattle.book.specs.Look.{rank_of, lowest}
use Rattle.book.specs.Shape.{zero_entry, entries_of}
use Rattle.book.proofs.LookLaws.{lowest-tells, number}
use Rattle.book.proofs.RankLaws.{Ranked, rank-none, rank-at, ranked-place}
use Rattle.telling.specs.Stage.{Staged}
use Rattle.telling.proofs.GoingLaws.{Looping, loop-start, loop-done, loop-free, loop-falls, loop-turn}
use Rattle.arrival.specs.Cancel.{swept, sweep_at, next_sweep, sweep, cut_at, Asks, Cuts}
use Rattle.arrival.proofs.SweepLaws.{sweep-falls}

abbrev pub SweepLoop : ℕ → Book → List ℕ → ℕ → Book → List ℕ → ℕ → Type 0
SweepLoop phase b₀ room₀ n₀ b room n = Looping (next_sweep phase) (count (swept phase)) (λ _. Unit {0}) b₀ room₀ n₀ b room n

pub sweep-start : (phase : ℕ) {b : Book} {room : List ℕ} {n : ℕ} → Asks (sweep phase (entries_of b)) b room n → SweepLoop phase b room n b room n
unfolding sweep
sweep-start phase a = loop-start a.well tt a.roomy

module _ (phase : ℕ) {b₀ b : Book} {room₀ room : List ℕ} {n₀ n : ℕ} (v : SweepLoop phase b₀ room₀ n₀ b room n) where
  pub sweep-end : None ≡ rank_of (lowest (swept phase) (entries_of b)) → Staged (sweep phase (entries_of b₀)) room₀ n₀ b room n
  unfolding sweep next_sweep
  sweep-end e = loop-done v (ap (sweep_at (entries_of b)) (rank-none (lowest (swept phase) (entries_of b)) e))

  module _ (i : ℕ) (e : Some i ≡ rank_of (lowest (swept phase) (entries_of b))) where
    ranked : Ranked (entries_of b) (lowest (swept phase) (entries_of b)) i
    ranked = rank-at (swept phase) number (entries_of b) (lowest (swept phase) (entries_of b)) i (lowest-tells (entries_of b) (swept phase)) e

    is : next_sweep phase (entries_of b) ≡ sweep_at (entries_of b) (found i (get_or (entries_of b) i zero_entry))
    unfolding next_sweep
    is = ap (sweep_at (entries_of b)) ranked.is

    pub sweep-asks : Cuts 31 b i room n
    sweep-asks = record {
      place = ranked-place b v.well (lowest (swept phase) (entries_of b)) i ranked;
      roomy = loop-free v (sweep-falls phase) is (_, (_, refl));
    }

    module _ {b' : Book} {room' : List ℕ} {n' : ℕ} (s : Staged (cut_at 31 (entries_of b) i) room n b' room' n') where
      pub sweep-lower : count (swept phase) (entries_of b') < count (swept phase) (entries_of b)
      sweep-lower = loop-falls v (sweep-falls phase) is (_, (_, refl)) s

      pub sweep-on : SweepLoop phase b₀ room₀ n₀ b' room' n'
      sweep-on = loop-turn v (sweep-falls phase) is (_, (_, refl)) s
