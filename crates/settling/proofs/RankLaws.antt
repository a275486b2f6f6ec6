-- The searches of settling, by the ranks that they answered: who is eased, who stirs, and whom it trades with.
-- Assumes nothing.
use Prim.Native.Nat.{ℕ}
use mathlib.Core.Path.{◌≡◌, refl, sym, subst, ap, ◌∙◌, fun_ext}
use mathlib.Core.Bool.{Bool, true, false, ◌||◌}
use mathlib.Core.List.{List, [], ◌∷◌}
use Rattle.prices.specs.declared.Market.{Market}
use Rattle.lists.specs.Places.{At}
use Rattle.lists.specs.Choose.{found}
use Rattle.lists.specs.Run.{stop}
use Rattle.std.specs.List.{list_any}
use Rattle.lists.proofs.Bools.{and_left}
use Rattle.lists.specs.Tests.{any}
use Rattle.lists.proofs.ChooseLaws.{Chosen, Tells}
use Rattle.book.specs.declared.Entry.{Entry}
use Rattle.book.specs.declared.Book.{Book}
use Rattle.book.specs.declared.Front.{Front}
use Rattle.std.specs.Prelude.{Some, None}
use Rattle.book.specs.Entries.{against}
use Rattle.book.specs.Shape.{entries_of, WellFormed, Place, TwoPlaces}
use Rattle.book.specs.Look.{rank_of, eligible, priority, front_of, best_contra, lowest}
use Rattle.book.proofs.LookLaws.{best-tells, front-faces, lowest-tells, number}
use Rattle.book.proofs.RankLaws.{Ranked, rank-none, rank-at, ranked-place, ranked-found, ranked-chosen}
use Rattle.soundness_theory.proofs.KeepLaws.{never-facing}
use Rattle.settling_theory.specs.Settle.{easing, ease_at, next_ease, stirring_as, stirring, any_stirs, trade_at, stir_at, next_stir}
use Rattle.settling.specs.Turns.{entry_in, stirring_by, trade_step}

-- what a search by entry number tells of the rank that it answered
pub record Lowest (test : Entry → Bool) (b : Book) (i : ℕ) : Type 0 where
  pub place : Place b i
  pub is : lowest test (entries_of b) ≡ found i (entry_in b i)
  pub there : At (entries_of b) i (entry_in b i)
  pub passes : test (entry_in b i) ≡ true

module _ (test : Entry → Bool) (b : Book) (w : WellFormed b) where
  pub lowest-at : (i : ℕ) → Some i ≡ rank_of (lowest test (entries_of b)) → Lowest test b i
  lowest-at i e =
      let r = rank-at test number (entries_of b) (lowest test (entries_of b)) i (lowest-tells (entries_of b) test) e in
      let c = ranked-chosen b w (lowest test (entries_of b)) i r test number (lowest-tells (entries_of b) test) in
      record {
        place = ranked-place b w (lowest test (entries_of b)) i r;
        is = ranked-found b w (lowest test (entries_of b)) i r;
        there = c.there;
        passes = c.passes;
      }

-- ---- easing ----

module _ (k : Market) (b : Book) (w : WellFormed b) where
  pub ease-at-is : (i : ℕ) → Some i ≡ rank_of (lowest (easing k) (entries_of b))
      → next_ease k (entries_of b) ≡ ease_at k (entries_of b) (found i (entry_in b i))
  unfolding next_ease
  ease-at-is i e = ap (ease_at k (entries_of b)) (lowest-at (easing k) b w i e).is

  pub ease-none-is : None ≡ rank_of (lowest (easing k) (entries_of b)) → next_ease k (entries_of b) ≡ stop
  unfolding next_ease
  ease-none-is e = ap (ease_at k (entries_of b)) (rank-none (lowest (easing k) (entries_of b)) e)

-- ---- trades and moves ----

pub stirring-is : (k : Market) (front : Front) (l : List Entry) → front ≡ front_of l → (e : Entry) → stirring_by k front e ≡ stirring k l e
stirring-is k front l h e = ap (λ (c : ℕ). stirring_as k c e e.pricing) (front-faces front l h e.sell)

any-listed : (test : Entry → Bool) (l : List Entry) → list_any test l ≡ any test l
unfolding any
any-listed test [] = refl
any-listed test (x ∷ l) = ap (λ (b : Bool). test x || b) (any-listed test l)

-- whether anything does
pub stirs-any : (k : Market) (front : Front) (l : List Entry) → front ≡ front_of l → list_any (stirring_by k front) l ≡ any_stirs k l
unfolding any_stirs
stirs-any k front l h = ap (λ (t : Entry → Bool). list_any t l) (fun_ext (λ e. stirring-is k front l h e)) ∙ any-listed (stirring k l) l

module _ (k : Market) (front : Front) (b : Book) (w : WellFormed b) (known : front ≡ front_of (entries_of b)) where
  stirring-all : lowest (stirring_by k front) (entries_of b) ≡ lowest (stirring k (entries_of b)) (entries_of b)
  stirring-all = ap (λ (t : Entry → Bool). lowest t (entries_of b)) (fun_ext (λ e. stirring-is k front (entries_of b) known e))

  pub stir-lowest : (i : ℕ) → Some i ≡ rank_of (lowest (stirring_by k front) (entries_of b)) → Lowest (stirring k (entries_of b)) b i
  stir-lowest i e = lowest-at (stirring k (entries_of b)) b w i (e ∙ ap rank_of stirring-all)

  pub stir-at-is : (i : ℕ) → Some i ≡ rank_of (lowest (stirring_by k front) (entries_of b))
      → next_stir k (entries_of b) ≡ stir_at k (entries_of b) (found i (entry_in b i))
  unfolding next_stir
  stir-at-is i e = ap (stir_at k (entries_of b)) (stir-lowest i e).is

  pub stir-none-is : None ≡ rank_of (lowest (stirring_by k front) (entries_of b)) → next_stir k (entries_of b) ≡ stop
  unfolding next_stir
  stir-none-is e =
      ap (stir_at k (entries_of b)) (rank-none (lowest (stirring k (entries_of b)) (entries_of b)) (e ∙ ap rank_of stirring-all))

-- ---- the one best contra entry ----

module _ (b : Book) (i : ℕ) (p : Place b i) where
  module _ (j : ℕ) (e : Some j ≡ rank_of (best_contra (entry_in b i).sell false (entries_of b))) where
    tells : Tells (eligible (entry_in b i).sell false) (priority (entry_in b i).sell) (entries_of b) (best_contra (entry_in b i).sell false (entries_of b))
    tells = best-tells (entry_in b i).sell false (entries_of b)

    ranked : Ranked (entries_of b) (best_contra (entry_in b i).sell false (entries_of b)) j
    ranked = rank-at _ _ (entries_of b) (best_contra (entry_in b i).sell false (entries_of b)) j tells e

    chosen : Chosen (eligible (entry_in b i).sell false) (priority (entry_in b i).sell) (entries_of b) j (entry_in b j)
    chosen = ranked-chosen b p.well (best_contra (entry_in b i).sell false (entries_of b)) j ranked _ _ tells

    pub trade-two : TwoPlaces b i j
    trade-two = record {
      well = p.well;
      one = p.inside;
      two = (ranked-place b p.well (best_contra (entry_in b i).sell false (entries_of b)) j ranked).inside;
      apart = λ h. never-facing (entry_in b i).sell
          (subst (λ (z : Entry). against (entry_in b i).sell z ≡ true) (ap (entry_in b) (sym h))
          (and_left (against (entry_in b i).sell (entry_in b j)) true chosen.passes));
    }

    pub trade-is : trade_step b i ≡ trade_at (entries_of b) i (entry_in b i) (found j (entry_in b j))
    trade-is = ap (trade_at (entries_of b) i (entry_in b i)) (ranked-found b p.well (best_contra (entry_in b i).sell false (entries_of b)) j ranked)

  pub trade-none : None ≡ rank_of (best_contra (entry_in b i).sell false (entries_of b)) → trade_step b i ≡ stop
  trade-none e = ap (trade_at (entries_of b) i (entry_in b i)) (rank-none (best_contra (entry_in b i).sell false (entries_of b)) e)
