-- What one step of settling is, read off the rules once: an easing, a trade or a move of the first by entry number that has something to do; and that a rule
-- which stops has nobody left.
-- Assumes nothing.
use Prim.Native.Nat.{ℕ, min}
use mathlib.Core.Path.{◌≡◌, refl}
use mathlib.Core.Bool.{Bool, true, false, not, ◌&&◌}
use mathlib.Core.List.{List}
use lib.Dec.{eqb}
use Rattle.prices.specs.declared.Prices.{Prices}
use Rattle.prices.specs.declared.Market.{Market}
use Rattle.prices.specs.Side.{reaches}
use Rattle.kinds.specs.Kinds.{minds}
use Rattle.prices.specs.Rest.{marketable, resting_prices}
use Rattle.lists.specs.Places.{requeue}
use Rattle.lists.specs.Choose.{Found, nowhere, found}
use Rattle.lists.specs.Run.{stop, go}
use Rattle.lists.proofs.Bools.{clash, and_left, and_right}
use Rattle.lists.proofs.RunLaws.{never-goes, never-stops, same_step}
use Rattle.lists.proofs.TestLaws.{all_of}
use Rattle.lists.proofs.ChooseLaws.{Nobody, Tells}
use Rattle.packing.specs.declared.report.Report.{Report}
use Rattle.book.specs.declared.Entry.{Entry}
use Rattle.book.specs.Entries.{display, against, priced}
use Rattle.book.specs.Change.{hit_both}
use Rattle.book.specs.Look.{best_contra, eligible, contra, lowest}
use Rattle.book.proofs.LookLaws.{BestContra, ContraTells, contra-tells, lowest-tells, number, First}
use Rattle.soundness_theory.proofs.FrontLaws.{no-contra}
use Rattle.telling.specs.Tell.{traded, repriced}
use Rattle.settling_theory.specs.Settle.{easing, eased_prices, ease_at, next_ease, aims_in, stirring, trade_at, trade_or_move, stir_at, next_stir}

pub data EaseStep (k : Market) (l : List Entry) : Report → List Entry → Type 0 where
  eased-at : {i : ℕ} {e : Entry} → First (easing k) l i e
      → EaseStep k l (repriced (priced (eased_prices k e) e)) (requeue i (priced (eased_prices k e) e) l)

abbrev pub rest_prices : Market → List Entry → Entry → Prices
rest_prices k l e = resting_prices e.sell (display e) (aims_in k l e)

abbrev pub marketable_in : Market → List Entry → Entry → Bool
marketable_in k l e = marketable e.kind e.sell (contra e.sell l) (aims_in k l e)

pub data StirStep (k : Market) (l : List Entry) : Report → List Entry → Type 0 where
  traded-at : {i j : ℕ} {e y : Entry} → First (stirring k l) l i e → marketable_in k l e ≡ true → BestContra e.sell false l j y
      → StirStep k l (traded e y (min e.quantity y.quantity)) (hit_both i j (min e.quantity y.quantity) l)
  moved_at : {i : ℕ} {e : Entry} → First (stirring k l) l i e → marketable_in k l e ≡ false
      → StirStep k l (repriced (priced (rest_prices k l e) e)) (requeue i (priced (rest_prices k l e) e) l)

-- ---- what a step that goes on did ----

module _ (k : Market) (l : List Entry) where
  pub ease-step : {r : Report} {t : List Entry} → next_ease k l ≡ go r t → EaseStep k l r t
  unfolding next_ease
  ease-step {r} {t} h = at (lowest (easing k) l) (lowest-tells l (easing k)) h
    where
      at : (f : Found Entry) → Tells (easing k) number l f → ease_at k l f ≡ go r t → EaseStep k l r t
      at nowhere c e = never-goes e
      at (found i x) c e = same_step (EaseStep k l) (eased-at c) e

  pub stir-step : {r : Report} {t : List Entry} → next_stir k l ≡ go r t → StirStep k l r t
  unfolding next_stir
  stir-step {r} {t} h = at (lowest (stirring k l) l) (lowest-tells l (stirring k l)) h
    where
      trade : (i : ℕ) (x : Entry) → First (stirring k l) l i x → marketable_in k l x ≡ true → (f : Found Entry) → ContraTells x.sell false l f
          → trade_at l i x f ≡ go r t → StirStep k l r t
      trade i x c m nowhere d e = never-goes e
      trade i x c m (found j y) d e = same_step (StirStep k l) (traded-at c m d) e

      choose : (i : ℕ) (x : Entry) → First (stirring k l) l i x → (b : Bool) → marketable_in k l x ≡ b
          → trade_or_move k l i x b ≡ go r t → StirStep k l r t
      choose i x c true m e = trade i x c m (best_contra x.sell false l) (contra-tells x.sell false l) e
      choose i x c false m e = same_step (StirStep k l) (moved_at c m) e

      at : (f : Found Entry) → Tells (stirring k l) number l f → stir_at k l f ≡ go r t → StirStep k l r t
      at nowhere c e = never-goes e
      at (found i x) c e = choose i x c (marketable_in k l x) refl e

-- ---- a rule that stops has nobody left; and the other way round ----

-- who is marketable faces somebody
pub faces-one : (kind : ℕ) (s : Bool) (c : ℕ) (p : Prices) → marketable kind s c p ≡ true → c ≡ 0 → ⊥
unfolding marketable
faces-one kind s c p t e =
    let a : not (eqb c 0) ≡ true =
    and_left (not (eqb c 0)) (reaches s p.working c) (and_right (not (minds kind)) (not (eqb c 0) && reaches s p.working c) t) in
    let b : false ≡ true = rw e at a in
    clash b refl

none-against : (s : Bool) (l : List Entry) → Nobody (eligible s false) l → contra s l ≡ 0
none-against s l n = no-contra s l (all_of (λ (e : Entry). against s e ≡ false) l (λ i e h. alone (against s e) (n.nobody i e h)))
  where
    alone : (b : Bool) → (b && true) ≡ false → b ≡ false
    alone true q = q
    alone false q = refl

module _ (k : Market) (l : List Entry) where
  pub ease-stop : next_ease k l ≡ stop → Nobody (easing k) l
  unfolding next_ease
  ease-stop h = at (lowest (easing k) l) (lowest-tells l (easing k)) h
    where
      at : (f : Found Entry) → Tells (easing k) number l f → ease_at k l f ≡ stop → Nobody (easing k) l
      at nowhere c e = c
      at (found i x) c e = never-stops e

  pub stir-stop : next_stir k l ≡ stop → Nobody (stirring k l) l
  unfolding next_stir
  stir-stop h = at (lowest (stirring k l) l) (lowest-tells l (stirring k l)) h
    where
      trade : (i : ℕ) (x : Entry) → marketable_in k l x ≡ true → (f : Found Entry) → ContraTells x.sell false l f
          → trade_at l i x f ≡ stop → Nobody (stirring k l) l
      trade i x m nowhere d e = absurd (faces-one x.kind x.sell (contra x.sell l) (aims_in k l x) m (none-against x.sell l d))
      trade i x m (found j y) d e = never-stops e

      choose : (i : ℕ) (x : Entry) (b : Bool) → marketable_in k l x ≡ b → trade_or_move k l i x b ≡ stop → Nobody (stirring k l) l
      choose i x true m e = trade i x m (best_contra x.sell false l) (contra-tells x.sell false l) e
      choose i x false m e = never-stops e

      at : (f : Found Entry) → Tells (stirring k l) number l f → stir_at k l f ≡ stop → Nobody (stirring k l) l
      at nowhere c e = c
      at (found i x) c e = choose i x (marketable_in k l x) refl e

  pub nobody-eases : Nobody (easing k) l → next_ease k l ≡ stop
  unfolding next_ease
  nobody-eases n = at (lowest (easing k) l) (lowest-tells l (easing k))
    where
      at : (f : Found Entry) → Tells (easing k) number l f → ease_at k l f ≡ stop
      at nowhere c = refl
      at (found i x) c = clash c.passes (n.nobody i x c.there)

  pub nobody-stirs : Nobody (stirring k l) l → next_stir k l ≡ stop
  unfolding next_stir
  nobody-stirs n = at (lowest (stirring k l) l) (lowest-tells l (stirring k l))
    where
      at : (f : Found Entry) → Tells (stirring k l) number l f → stir_at k l f ≡ stop
      at nowhere c = refl
      at (found i x) c = clash c.passes (n.nobody i x c.there)
