-- Laws of a rule that is put to use until it is done. Where each step lowers the measure: the run computed is complete, it is the only one,
-- and it has at most as many steps as the measure says. Nobody outside this file counts steps down.
-- Assumes nothing.
use Prim.Native.Nat.{ℕ, zero, suc, ◌≤◌, ◌<◌}
use mathlib.Core.Path.{◌≡◌, refl, sym, subst, ap, ◌∙◌}
use mathlib.Core.List.{List}
use native.Mathlib.Omega.{arith}
use lib.ListN.{length}
use Rattle.lists.specs.Tests.{All}
use Rattle.lists.specs.Run.{Step, stop, go, Complete, done, then, Ran, still, leading, run_for, ran}

-- a step is done, or it goes on in one way
module _ {S R : Type 0} where
  pub never-goes : {A : Type 0} {r : R} {t : S} → stop ≡ go r t → A
  never-goes e = let z : ◌≡◌ {A = ℕ} 0 1 = cc in absurd (omega arith)

  pub never-stops : {A : Type 0} {r : R} {t : S} → go r t ≡ stop → A
  never-stops e = let z : ◌≡◌ {A = ℕ} 0 1 = cc in absurd (omega arith)

  pub same_step : (P : R → S → Type 0) {r r' : R} {t t' : S} → P r t → go r t ≡ go r' t' → P r' t'
  same_step P {r} {r'} {t} {t'} p e =
      let a : r ≡ r' = cc in
      let b : t ≡ t' = cc in
      subst (λ (x : R). P x t') a (subst (λ (y : S). P r y) b p)

-- each step keeps what is Ok, and lowers the measure
pub record Falls {S R : Type 0} (step : S → Step S R) (measure : S → ℕ) (Ok : S → Type 0) : Type 0 where
  pub kept : (s : S) (r : R) (t : S) → Ok s → step s ≡ go r t → Ok t
  pub less : (s : S) (r : R) (t : S) → Ok s → step s ≡ go r t → measure t < measure s

module _ {S R : Type 0} (step : S → Step S R) where
  one-stop : (n : ℕ) (s : S) → step s ≡ stop → run_for step n s ≡ still s
  unfolding run_for
  one-stop zero s e = refl
  one-stop (suc n) s e = ap (λ (x : Step S R). elim x as (λ _. Ran S R) [ stop ↦ still s | go r t ↦ leading r (run_for step n t) ]) e

  one-go : (n : ℕ) (s : S) (r : R) (t : S) → step s ≡ go r t → run_for step (suc n) s ≡ leading r (run_for step n t)
  unfolding run_for
  one-go n s r t e = ap (λ (x : Step S R). elim x as (λ _. Ran S R) [ stop ↦ still s | go r t ↦ leading r (run_for step n t) ]) e

  few-for : (n : ℕ) (s : S) → length (run_for step n s).records ≤ n
  unfolding run_for still leading
  few-for zero s = omega arith
  few-for (suc n) s = few-at n (λ t. few-for n t) (step s)
    where
      few-at : (n : ℕ) → ((t : S) → length (run_for step n t).records ≤ n) → (x : Step S R)
          → length (elim x as (λ _. Ran S R) [ stop ↦ still s | go r t ↦ leading r (run_for step n t) ]).records ≤ suc n
      few-at n ih stop = omega arith
      few-at n ih (go r t) = omega (arith, ih t)

  -- a run has at most as many records as the measure says, whatever the rule
  pub few : (measure : S → ℕ) (s : S) → length (ran step measure s).records ≤ measure s
  unfolding ran
  few measure s = few-for (measure s) s

  -- a run whose rule is done
  pub run-stop : (measure : S → ℕ) (s : S) → step s ≡ stop → ran step measure s ≡ still s
  unfolding ran
  run-stop measure s e = one-stop (measure s) s e

module _ {S R : Type 0} (step : S → Step S R) (measure : S → ℕ) (Ok : S → Type 0) (f : Falls step measure Ok) where
  stuck_at : (s : S) → Ok s → measure s ≤ 0 → (x : Step S R) → step s ≡ x → step s ≡ stop
  stuck_at s ok h stop e = e
  stuck_at s ok h (go r t) e = absurd (omega (arith, f.less s r t ok e))

  stuck : (s : S) → Ok s → measure s ≤ 0 → step s ≡ stop
  stuck s ok h = stuck_at s ok h (step s) refl

  complete-at : (n : ℕ) (s : S) → Ok s → measure s ≤ suc n
      → ((t : S) → Ok t → measure t ≤ n → Complete step t (run_for step n t).records (run_for step n t).final)
      → (x : Step S R) → step s ≡ x → Complete step s (run_for step (suc n) s).records (run_for step (suc n) s).final
  unfolding still leading
  complete-at n s ok h ih stop e = rw (one-stop step (suc n) s e) (done e)
  complete-at n s ok h ih (go r t) e = rw (one-go step n s r t e) (then e (ih t (f.kept s r t ok e) (omega (arith, f.less s r t ok e))))

  complete-for : (n : ℕ) (s : S) → Ok s → measure s ≤ n → Complete step s (run_for step n s).records (run_for step n s).final
  unfolding still
  complete-for zero s ok h = rw (one-stop step zero s (stuck s ok h)) (done (stuck s ok h))
  complete-for (suc n) s ok h = complete-at n s ok h (λ t ok' h'. complete-for n t ok' h') (step s) refl

  -- THE RUN COMPUTED IS COMPLETE
  pub ran-complete : (s : S) → Ok s → Complete step s (ran step measure s).records (ran step measure s).final
  unfolding ran
  ran-complete s ok = complete-for (measure s) s ok (omega arith)

-- a complete run keeps what its steps keep, and ends where the rule is done
pub complete-stop : {S R : Type 0} {step : S → Step S R} {s t : S} {rs : List R} → Complete step s rs t → step t ≡ stop
complete-stop (done e) = e
complete-stop (then e c) = complete-stop c

pub complete-keeps : {S R : Type 0} {step : S → Step S R} {s t : S} {rs : List R} (Ok : S → Type 0)
    → ((s : S) (r : R) (t : S) → Ok s → step s ≡ go r t → Ok t) → Ok s → Complete step s rs t → Ok t
complete-keeps Ok kept ok (done e) = ok
complete-keeps Ok kept ok (then {s = s} {t = t} {r = r} e c) = complete-keeps Ok kept (kept s r t ok e) c

-- a state to which a rule comes by steps; each of them keeps what the steps keep
pub data Reached {S R : Type 0} (step : S → Step S R) (s : S) : S → Type 0 where
  start : Reached step s s
  after : {t u : S} {r : R} → Reached step s t → step t ≡ go r u → Reached step s u

pub reached-keeps : {S R : Type 0} {step : S → Step S R} {s u : S} (Ok : S → Type 0)
    → ((s : S) (r : R) (t : S) → Ok s → step s ≡ go r t → Ok t) → Ok s → Reached step s u → Ok u
reached-keeps Ok kept ok start = ok
reached-keeps Ok kept ok (after {t = t} {u = u} {r = r} c e) = kept t r u (reached-keeps Ok kept ok c) e

stop-go : {S R : Type 0} {x : Step S R} {r : R} {t : S} → x ≡ stop → x ≡ go r t → ⊥
stop-go p q = let z : ◌≡◌ {A = ℕ} 0 1 = cc in omega arith

-- THERE IS ONLY ONE
pub complete-one : {S R : Type 0} {step : S → Step S R} {s t t' : S} {rs rs' : List R} → Complete step s rs t → Complete step s rs' t'
    → (rs ≡ rs') × (t ≡ t')
complete-one (done e) (done e') = (refl, refl)
complete-one (done e) (then e' c') = absurd (stop-go e e')
complete-one (then e c) (done e') = absurd (stop-go e' e)
complete-one {S} {R} (then {t = t₁} {r = r₁} e c) (then {t = t₂} {r = r₂} e' c') =
    let q : go r₁ t₁ ≡ go r₂ t₂ = sym e ∙ e' in
    let same : r₁ ≡ r₂ = cc in
    let next : t₁ ≡ t₂ = cc in
    let z = complete-one c (rw (← next) at c') in
    (rw (same, z.0) refl, z.1)

-- what follows the first step of a run is the run from there
module _ {S R : Type 0} (step : S → Step S R) (measure : S → ℕ) (Ok : S → Type 0) (f : Falls step measure Ok) where
  pub run-done : (s : S) → Ok s → step (ran step measure s).final ≡ stop
  run-done s ok = complete-stop (ran-complete step measure Ok f s ok)

  pub run-go : (s : S) (r : R) (t : S) → Ok s → step s ≡ go r t → ran step measure s ≡ leading r (ran step measure t)
  unfolding leading
  run-go s r t ok e =
      let z = complete-one (ran-complete step measure Ok f s ok) (then e (ran-complete step measure Ok f t (f.kept s r t ok e))) in
      λ i. record { final = z.1 i; records = z.0 i }

-- each record of a complete run has what a step's record has
pub complete-tells : {S R : Type 0} {step : S → Step S R} {s t : S} {rs : List R} (Ok : S → Type 0) (P : R → Type 0)
    → ((s : S) (r : R) (t : S) → Ok s → step s ≡ go r t → Ok t) → ((s : S) (r : R) (t : S) → Ok s → step s ≡ go r t → P r)
    → Ok s → Complete step s rs t → All P rs
complete-tells Ok P kept tells ok (done e) = tt
complete-tells Ok P kept tells ok (then {s = s} {t = t} {r = r} e c) = (tells s r t ok e, complete-tells Ok P kept tells (kept s r t ok e) c)
