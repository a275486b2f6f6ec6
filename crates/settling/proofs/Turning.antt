-- A turn of each loop of settling: what the next call asks, what falls, and how the invariant goes on.
-- Assumes nothing.
use Prim.Native.Nat.{ℕ, ◌<◌}
use mathlib.Core.Path.{◌≡◌, refl}
use mathlib.Core.List.{List}
use Rattle.prices.specs.declared.Market.{Market}
use Rattle.lists.specs.Choose.{found}
use Rattle.book.specs.declared.Book.{Book}
use Rattle.book.specs.declared.Front.{Front}
use Rattle.std.specs.Prelude.{Some, None}
use Rattle.book.specs.Shape.{entries_of}
use Rattle.book.specs.Look.{rank_of, front_of, lowest}
use Rattle.telling.specs.Stage.{Staged, alone}
use Rattle.soundness_theory.specs.SoundMarket.{SoundFor}
use Rattle.settling_theory.specs.Settle.{easing, ease_at, next_ease, easings, stirring, stir_at, next_stir, stirrings, eased, stirred}
use Rattle.settling.specs.Turns.{entry_in, stirring_by, Judgeable, Watched, EaseTurn, StirTurn, Easeable, Stirable}
use Rattle.settling.proofs.RankLaws.{Lowest, lowest-at, ease-at-is, ease-none-is, stir-lowest, stir-at-is, stir-none-is}
use Rattle.telling.proofs.GoingLaws.{Goes, Looping, loop-start, loop-done, loop-free, loop-falls, loop-turn}
use Rattle.settling.proofs.Rules.{easing-falls, Uneased, stirring-falls, stir-goes}
use Rattle.settling.proofs.Judging.{watched-bounds}

-- ---- easing ----

abbrev pub EaseLoop : Market → Book → List ℕ → ℕ → Book → List ℕ → ℕ → Type 0
EaseLoop k b₀ room₀ n₀ b room n = Looping (next_ease k) (easings k) (SoundFor k) b₀ room₀ n₀ b room n

pub ease-start : {k : Market} {b : Book} {room : List ℕ} {n : ℕ} → Easeable k b room n → EaseLoop k b room n b room n
unfolding eased
ease-start h = loop-start h.well h.sound h.roomy

module _ {k : Market} {b₀ b : Book} {room₀ room : List ℕ} {n₀ n : ℕ} (v : EaseLoop k b₀ room₀ n₀ b room n) where
  pub ease-end : None ≡ rank_of (lowest (easing k) (entries_of b)) → Staged (eased k (entries_of b₀)) room₀ n₀ b room n
  unfolding eased
  ease-end e = loop-done v (ease-none-is k b v.well e)

  module _ (i : ℕ) (e : Some i ≡ rank_of (lowest (easing k) (entries_of b))) where
    pub ease-asks : EaseTurn k b i room n
    ease-asks = record {
      place = (lowest-at (easing k) b v.well i e).place;
      roomy = loop-free v (easing-falls k) (ease-at-is k b v.well i e) (_, (_, refl));
    }

    module _ {b' : Book} {room' : List ℕ} {n' : ℕ}
        (s : Staged (alone (entries_of b) (ease_at k (entries_of b) (found i (entry_in b i)))) room n b' room' n') where
      pub ease-lower : easings k (entries_of b') < easings k (entries_of b)
      ease-lower = loop-falls v (easing-falls k) (ease-at-is k b v.well i e) (_, (_, refl)) s

      pub ease-on : EaseLoop k b₀ room₀ n₀ b' room' n'
      ease-on = loop-turn v (easing-falls k) (ease-at-is k b v.well i e) (_, (_, refl)) s

-- ---- trades and moves ----

abbrev pub StirLoop : Market → Book → List ℕ → ℕ → Book → List ℕ → ℕ → Type 0
StirLoop k b₀ room₀ n₀ b room n = Looping (next_stir k) (stirrings k) (Uneased k) b₀ room₀ n₀ b room n

pub stir-start : {k : Market} {b : Book} {room : List ℕ} {n : ℕ} → Stirable k b room n → StirLoop k b room n b room n
unfolding stirred
stir-start h = loop-start h.well (record { sound = h.sound; uneased = h.uneased }) h.roomy

module _ {k : Market} {front : Front} {b₀ b : Book} {room₀ room : List ℕ} {n₀ n : ℕ} (v : StirLoop k b₀ room₀ n₀ b room n)
    (known : front ≡ front_of (entries_of b)) where
  watched : Watched k front b
  watched = record { well = v.well; sound = v.going.ok.sound; known = known }

  pub stir-judges : Judgeable k front b
  stir-judges = record { well = v.well; judged = watched-bounds watched }

  pub stir-end : None ≡ rank_of (lowest (stirring_by k front) (entries_of b)) → Staged (stirred k (entries_of b₀)) room₀ n₀ b room n
  unfolding stirred
  stir-end e = loop-done v (stir-none-is k front b v.well known e)

  module _ (i : ℕ) (e : Some i ≡ rank_of (lowest (stirring_by k front) (entries_of b))) where
    who : Lowest (stirring k (entries_of b)) b i
    who = stir-lowest k front b v.well known i e

    is : next_stir k (entries_of b) ≡ stir_at k (entries_of b) (found i (entry_in b i))
    is = stir-at-is k front b v.well known i e

    goes : Goes (stir_at k (entries_of b) (found i (entry_in b i)))
    goes = stir-goes k b i who is

    pub stir-asks : StirTurn k front b i room n
    stir-asks = record { turn = record { place = who.place; roomy = loop-free v (stirring-falls k) is goes }; watched = watched }

    module _ {b' : Book} {room' : List ℕ} {n' : ℕ}
        (s : Staged (alone (entries_of b) (stir_at k (entries_of b) (found i (entry_in b i)))) room n b' room' n') where
      pub stir-lower : stirrings k (entries_of b') < stirrings k (entries_of b)
      stir-lower = loop-falls v (stirring-falls k) is goes s

      pub stir-on : StirLoop k b₀ room₀ n₀ b' room' n'
      stir-on = loop-turn v (stirring-falls k) is goes s
