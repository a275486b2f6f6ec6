-- What a phase cancels: "Phase 0 cancels everything, phase 2 every quote, phase 1 nothing", and "31s by entry". The sweep ends by itself, leaves exactly the
-- entries that the phase spares, as they stood, and reports the others in the order of their numbers.
-- Assumes nothing.
use Prim.Native.Nat.{ℕ, zero, suc, ◌≤◌, ◌<◌}
use mathlib.Core.Path.{◌≡◌, refl, sym, ap, ◌∙◌}
use mathlib.Core.Bool.{Bool, true, false, cond}
use mathlib.Core.List.{List, [], ◌∷◌}
use native.Mathlib.Omega.{arith}
use lib.ListN.{length}
use Rattle.lists.specs.Places.{At, without}
use Rattle.lists.specs.Tests.{All, count}
use Rattle.lists.specs.Choose.{Found, nowhere, found}
use Rattle.lists.specs.Run.{Step, stop, go, Complete, done, then, still}
use Rattle.lists.proofs.TestLaws.{all-zip, all-at, all_of, all_without, count-le, count-without, none-count}
use Rattle.lists.proofs.ChooseLaws.{Tells}
use Rattle.lists.proofs.RunLaws.{Falls, few, run-stop, ran-complete, complete-stop, complete-keeps, never-goes, never-stops, same_step, complete-tells}
use Rattle.packing.specs.declared.report.Report.{Report}
use Rattle.packing.specs.declared.report.Report.TheVariants.{Noted, Rejected, Traded, Rested, Repriced, Cancelled}
use Rattle.packing.specs.Room.{AllPack}
use Rattle.packing.proofs.ReportLaws.{cancelled-packs}
use Rattle.book.specs.declared.Entry.{Entry}
use Rattle.book.specs.Entries.{quote, last_number}
use Rattle.book.specs.Look.{lowest}
use Rattle.book.proofs.LookLaws.{lowest-tells, number, First}
use Rattle.soundness_theory.proofs.Facts.{EntryFacts, Sound}
use Rattle.soundness_theory.proofs.KeepLaws.{here-facts, others, sound-without}
use Rattle.telling.specs.Tell.{cancelled}
use Rattle.telling.proofs.PackLaws.{Packs, all-pack}
use Rattle.arrival.specs.Cancel.{swept, sweep_at, next_sweep, sweep}
use Rattle.arrival.proofs.Leaves.{Rests}

-- ---- what a step is ----

pub data SweepStep (phase : ℕ) (l : List Entry) : Report → List Entry → Type 0 where
  sweeps : {i : ℕ} {e : Entry} → First (swept phase) l i e → SweepStep phase l (cancelled 31 e) (without i l)

module _ (phase : ℕ) (l : List Entry) where
  pub sweep-step : {r : Report} {t : List Entry} → next_sweep phase l ≡ go r t → SweepStep phase l r t
  unfolding next_sweep
  sweep-step {r} {t} h = at (lowest (swept phase) l) (lowest-tells l (swept phase)) h
    where
      at : (f : Found Entry) → Tells (swept phase) number l f → sweep_at l f ≡ go r t → SweepStep phase l r t
      at nowhere c g = never-goes g
      at (found i e) c g = same_step (SweepStep phase l) (sweeps c) g

  -- where it stops, nobody is left to be swept
  pub sweep-stop : next_sweep phase l ≡ stop → All (λ (x : Entry). swept phase x ≡ false) l
  unfolding next_sweep
  sweep-stop h = at (lowest (swept phase) l) (lowest-tells l (swept phase)) h
    where
      at : (f : Found Entry) → Tells (swept phase) number l f → sweep_at l f ≡ stop → All (λ (x : Entry). swept phase x ≡ false) l
      at nowhere c g = all_of (λ (x : Entry). swept phase x ≡ false) l (λ i x a. c.nobody i x a)
      at (found i e) c g = never-stops g

-- ---- it ends ----

sweep-less : {phase : ℕ} {l t : List Entry} {r : Report} → SweepStep phase l r t → count (swept phase) t < count (swept phase) l
sweep-less {phase} {l} (sweeps {i = i} {e = e} c) = omega (arith, count-without (swept phase) i l e c.there c.passes)

pub sweep-falls : (phase : ℕ) → Falls (next_sweep phase) (count (swept phase)) (λ _. Unit {0})
sweep-falls phase = record { kept = λ l r t ok h. tt; less = λ l r t ok h. sweep-less (sweep-step phase l h) }

-- ---- the entries spared, in their order ----

abbrev pub spared : (Entry → Bool) → List Entry → List Entry
spared test [] = []
spared test (x ∷ l) = cond (test x) (spared test l) (x ∷ spared test l)

spared-without : (test : Entry → Bool) (i : ℕ) (l : List Entry) (x : Entry) → At l i x → test x ≡ true → spared test (without i l) ≡ spared test l
unfolding without
spared-without test i [] x h t = absurd h
spared-without test zero (y ∷ l) x h t = let k : test y ≡ true = ap test h ∙ t in rw k refl
spared-without test (suc i) (y ∷ l) x h t = ap (λ (r : List Entry). cond (test y) r (y ∷ r)) (spared-without test i l x h t)

spared-all : (test : Entry → Bool) (l : List Entry) → All (λ (x : Entry). test x ≡ false) l → spared test l ≡ l
spared-all test [] a = refl
spared-all test (x ∷ l) a = rw a.0 (ap (λ (r : List Entry). x ∷ r) (spared-all test l a.1))

spared-none : (l : List Entry) → spared (λ (x : Entry). true) l ≡ []
spared-none [] = refl
spared-none (x ∷ l) = spared-none l

-- a run that leaves nobody to sweep has a report for each that was
counted : (phase : ℕ) {l t : List Entry} {rs : List Report} → Complete (next_sweep phase) l rs t → length rs ≡ count (swept phase) l
counted phase (done {s = s} g) = sym (none-count (swept phase) s (sweep-stop phase s g))
counted phase (then {s = s} {t = t} {r = r} g run) = one_more (sweep-step phase s g) (counted phase run)
  where
    one_more : {s t : List Entry} {r : Report} {n : ℕ} → SweepStep phase s r t → n ≡ count (swept phase) t → suc n ≡ count (swept phase) s
    one_more {s} (sweeps {i = i} {e = e} c) h = omega (arith, count-without (swept phase) i s e c.there c.passes)

module _ (phase : ℕ) (l : List Entry) where
  pub sweep-run : Complete (next_sweep phase) l (sweep phase l).records (sweep phase l).final
  unfolding sweep
  sweep-run = ran-complete (next_sweep phase) (count (swept phase)) (λ _. Unit {0}) (sweep-falls phase) l tt

  -- THE SWEEP LEAVES EXACTLY WHAT THE PHASE SPARES
  pub sweep-leaves : (sweep phase l).final ≡ spared (swept phase) l
  sweep-leaves =
      sym (spared-all (swept phase) (sweep phase l).final (sweep-stop phase (sweep phase l).final (complete-stop sweep-run)))
      ∙ complete-keeps (λ (t : List Entry). spared (swept phase) t ≡ spared (swept phase) l) (λ s r t h g. same (sweep-step phase s g) h) refl sweep-run
    where
      same : {s t : List Entry} {r : Report} → SweepStep phase s r t → spared (swept phase) s ≡ spared (swept phase) l
          → spared (swept phase) t ≡ spared (swept phase) l
      same {s} (sweeps {i = i} {e = e} c) h = spared-without (swept phase) i s e c.there c.passes ∙ h

  -- at most one report for each entry
  pub sweep-few : length (sweep phase l).records ≤ length l
  unfolding sweep
  sweep-few = omega (arith, few (next_sweep phase) (count (swept phase)) l, count-le (swept phase) l)

  -- whatever is true of each entry stays true of those left
  pub sweep-all : (P : Entry → Type 0) → All P l → All P (sweep phase l).final
  sweep-all P a = complete-keeps (All P) (λ s r t h g. more (sweep-step phase s g) h) a sweep-run
    where
      more : {s t : List Entry} {r : Report} → SweepStep phase s r t → All P s → All P t
      more {s} (sweeps {i = i} c) h = all_without P i s h

-- ---- its reports are those of the entries swept ----

-- a report that an entry of the list, one that the phase does not spare, is cancelled with 31
pub record Swept (phase : ℕ) (l : List Entry) (r : Report) : Type 0 where
  pub place : ℕ
  pub entry : Entry
  pub there : At l place entry
  pub passes : swept phase entry ≡ true
  pub report : r ≡ cancelled 31 entry

pub sweep-tells : (phase : ℕ) (l : List Entry) → All (Swept phase l) (sweep phase l).records
sweep-tells phase l =
    complete-tells (All (Rests l)) (Swept phase l) (λ s r t h g. stays (sweep-step phase s g) h) (λ s r t h g. tells (sweep-step phase s g) h)
    (all_of (Rests l) l (λ i x h. record { place = i; there = h })) (sweep-run phase l)
  where
    stays : {s t : List Entry} {r : Report} → SweepStep phase s r t → All (Rests l) s → All (Rests l) t
    stays {s} (sweeps {i = i} c) h = all_without (Rests l) i s h

    tells : {s t : List Entry} {r : Report} → SweepStep phase s r t → All (Rests l) s → Swept phase l r
    tells {s} (sweeps {i = i} {e = e} c) h =
        let z : Rests l e = all-at (Rests l) s i e h c.there in
        record { place = z.place; entry = e; there = z.there; passes = c.passes; report = refl }

-- one for each
pub sweep-count : (phase : ℕ) (l : List Entry) → length (sweep phase l).records ≡ count (swept phase) l
sweep-count phase l = counted phase (sweep-run phase l)

-- "Phase 0 cancels everything", as it must: "closed means nothing rests"
pub sweep-closed : (l : List Entry) → (sweep 0 l).final ≡ []
sweep-closed l = sweep-leaves 0 l ∙ spared-none l

-- "phase 1 nothing"
pub sweep-open : (l : List Entry) → sweep 1 l ≡ still l
unfolding sweep
sweep-open l = run-stop (next_sweep 1) (count (swept 1)) l (at (next_sweep 1 l) refl)
  where
    at : (x : Step (List Entry) Report) → next_sweep 1 l ≡ x → next_sweep 1 l ≡ stop
    at stop q = q
    at (go r t) q = none (sweep-step 1 l q)
      where
        none : {r : Report} {t : List Entry} → SweepStep 1 l r t → next_sweep 1 l ≡ stop
        none (sweeps c) = let z : false ≡ true = c.passes in let y : ◌≡◌ {A = ℕ} 0 1 = cc in absurd (omega arith)

-- "phase 2 every quote": no quote is left; the orders stay as they stood (`sweep-leaves`)
pub sweep-halted : (l : List Entry) → All (λ (x : Entry). quote x ≡ false) (sweep 2 l).final
sweep-halted l = sweep-stop 2 (sweep 2 l).final (complete-stop (sweep-run 2 l))

-- ---- in a sound book ----

-- the entry that a report is about
abbrev pub about : Report → ℕ
about Noted = 0
about (Rejected why s party n limit quantity) = n
about (Traded s party n other price quantity) = n
about (Rested s party n display working quantity) = n
about (Repriced s party n display working quantity) = n
about (Cancelled why s party n limit quantity) = n

-- each is about an entry of a higher number than all that stand before
abbrev pub Rising : List Report → Type 0
Rising [] = Unit {0}
Rising (r ∷ rs) = All (λ (q : Report). about r < about q) rs × Rising rs

sound-step : {m top phase : ℕ} {l t : List Entry} {r : Report} → SweepStep phase l r t → Sound m top l → Sound m top t
sound-step (sweeps {i = i} c) so = sound-without so i

-- what is swept behind an entry has a higher number
behind : {m top phase : ℕ} {l t u : List Entry} {r : Report} {rs : List Report} → Sound m top l → SweepStep phase l r t → Complete (next_sweep phase) t rs u
    → All (λ (q : Report). about r < about q) rs
behind {phase = phase} {l = l} so (sweeps {i = i} {e = e} c) run =
    complete-tells (All Later) (λ (q : Report). e.number < about q) (λ s r t h g. stays (sweep-step phase s g) h) (λ s r t h g. tells (sweep-step phase s g) h)
    (all-zip (λ x p h t. omega (arith, p.other, h t)) (without i l) (others so i e c.there)
    (all_without (λ (x : Entry). swept phase x ≡ true → e.number ≤ x.number) i l
    (all_of (λ (x : Entry). swept phase x ≡ true → e.number ≤ x.number) l (λ k x a t. c.least k x a t)))) run
  where
    Later : Entry → Type 0
    Later x = swept phase x ≡ true → e.number < x.number

    stays : {s t : List Entry} {r : Report} → SweepStep phase s r t → All Later s → All Later t
    stays {s} (sweeps {i = j} d) h = all_without Later j s h

    tells : {s t : List Entry} {r : Report} → SweepStep phase s r t → All Later s → e.number < about r
    tells {s} (sweeps {i = j} {e = x} d) h = all-at Later s j x h d.there d.passes

rising : {m top : ℕ} (phase : ℕ) {l t : List Entry} {rs : List Report} → Sound m top l → Complete (next_sweep phase) l rs t → Rising rs
rising phase so (done g) = tt
rising phase so (then {s = s} {t = t} {r = r} g run) =
    let st : SweepStep phase s r t = sweep-step phase s g in
    (behind so st run, rising phase (sound-step st so) run)

module _ (phase : ℕ) (l : List Entry) {m top : ℕ} (so : Sound m top l) where
  pub sweep_sound : Sound m top (sweep phase l).final
  sweep_sound = complete-keeps (Sound m top) (λ s r t h g. sound-step (sweep-step phase s g) h) so (sweep-run phase l)

  -- "then 31s by entry": THE NUMBERS OF THE REPORTS ASCEND
  pub sweep-rises : Rising (sweep phase l).records
  sweep-rises = rising phase so (sweep-run phase l)

  pub sweep-packs : top ≤ last_number → AllPack (sweep phase l).records
  sweep-packs low =
      all-pack (sweep phase l).records
      (complete-tells (Sound m top) Packs (λ s r t h g. sound-step (sweep-step phase s g) h) (λ s r t h g. fits (sweep-step phase s g) h) so
      (sweep-run phase l))
    where
      fits : {s t : List Entry} {r : Report} → SweepStep phase s r t → Sound m top s → Packs r
      fits (sweeps {i = i} {e = e} c) h =
          let f : EntryFacts m top e = here-facts h i e c.there in
          cancelled-packs e.sell e.party e.number e.quantity (omega (arith, f.party_high)) (omega (arith, f.given)) (omega (arith, f.most))
          31 e.limit (omega arith) (omega (arith, f.limit.high))
