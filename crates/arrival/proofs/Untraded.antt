-- An arrival that trades nothing: when that is so, and that all is as it was.
-- Assumes nothing.
use Prim.Native.Nat.{ℕ}
use mathlib.Core.Path.{◌≡◌, refl, sym, ◌∙◌}
use mathlib.Core.Bool.{Bool, true, false, not, ◌&&◌, ◌||◌}
use mathlib.Core.List.{List}
use native.Mathlib.Omega.{arith}
use lib.Dec.{eqb}
use borrow.Author.Tests.{leb-false, lt-leb, eqb-true}
use Rattle.prices.specs.declared.Market.{Market}
use Rattle.prices.specs.Side.{reaches}
use Rattle.kinds.specs.Kinds.{minds}
use Rattle.prices.proofs.StepLaws.{present}
use Rattle.lists.specs.Choose.{Found, nowhere, found}
use Rattle.lists.specs.Run.{Complete, done, then, Ran, still}
use Rattle.lists.proofs.Bools.{clash, and_left}
use Rattle.packing.specs.declared.report.Report.{Report}
use Rattle.book.specs.declared.Entry.{Entry}
use Rattle.book.specs.Entries.{against}
use Rattle.book.specs.Look.{working, contra, best_contra}
use Rattle.book.proofs.OfferLaws.{AsGood, positive}
use Rattle.book.proofs.LookLaws.{ContraTells, contra-tells, Offered, contra-price-tells}
use Rattle.soundness_theory.proofs.Facts.{Sound}
use Rattle.soundness_theory.proofs.KeepLaws.{here-facts}
use Rattle.arrival.specs.Take.{Taking, bound, shown_only, offered, next_take, took}
use Rattle.arrival.specs.Arrive.{none_traded}
use Rattle.arrival.proofs.TakeLaws.{within_bound, take-run, took-either, takes-now}

-- a price that is worse than one out of reach is out of reach
worse-off : (s : Bool) (cap p q : ℕ) → AsGood s p q → reaches s cap p ≡ false → reaches s cap q ≡ false
unfolding reaches
worse-off false cap p q h n = lt-leb q cap (omega (arith, leb-false p cap n))
worse-off true cap p q h n = lt-leb cap q (omega (arith, leb-false cap p n))

-- where C is not within the bound, nobody is
pub far-off : {m top : ℕ} (e : Entry) (l : List Entry) → Sound m top l → (cap : ℕ) → offered e.sell cap (contra e.sell l) ≡ false
    → within_bound cap e (best_contra e.sell (shown_only e) l) ≡ false
far-off e l so cap h = go (best_contra e.sell (shown_only e) l) (contra-tells e.sell (shown_only e) l)
  where
    some-price : (b : Bool) → eqb (contra e.sell l) 0 ≡ b → (not b && reaches e.sell cap (contra e.sell l)) ≡ false
        → (contra e.sell l ≡ 0 → ⊥) → reaches e.sell cap (contra e.sell l) ≡ false
    some-price true q g n = absurd (n (eqb-true (contra e.sell l) 0 q))
    some-price false q g n = g

    go : (f : Found Entry) → ContraTells e.sell (shown_only e) l f → within_bound cap e f ≡ false
    go nowhere c = refl
    go (found j y) c =
        let best = contra-price-tells e.sell l in
        let on : Offered working e.sell l y.working = record {
          place = j;
          entry = y;
          there = c.chosen.there;
          faces = and_left (against e.sell y) _ c.chosen.passes;
          asks = refl;
          some = positive y.working (present so.step (here-facts so j y c.chosen.there).works);
        } in
        worse-off e.sell cap (contra e.sell l) y.working (best.best y.working on)
        (some-price (eqb (contra e.sell l) 0) refl h (λ z. best.none z y.working on))

-- what trades nothing leaves all as it was
none-run : (cap : ℕ) (e : Entry) {s u : Taking} {rs : List Report} → Complete (next_take cap e) s rs u → none_traded rs ≡ true
    → ◌≡◌ {A = Ran Taking Report} (record { final = u; records = rs }) (still s)
unfolding still
none-run cap e (done g) h = refl
none-run cap e (then g c) h = clash h refl

pub none-took : (k : Market) (e : Entry) (l : List Entry) → none_traded (took k e l).records ≡ true
    → took k e l ≡ still (record { left = e.quantity; book = l })
none-took k e l =
    took-either k e l (λ (x : Ran Taking Report). none_traded x.records ≡ true → x ≡ still (record { left = e.quantity; book = l })) (λ _ h. refl)
    (λ _ h. none-run (bound k e) e (take-run (bound k e) e (record { left = e.quantity; book = l })) h)

-- what trades minds no C
pub takes-minds : (k : Market) (e : Entry) (l : List Entry) → none_traded (took k e l).records ≡ false → minds e.kind ≡ false
takes-minds k e l h = go (minds e.kind) (sym (takes-now k e l) ∙ h)
  where
    go : (b : Bool) → (b || (eqb e.quantity 0 || not (within_bound (bound k e) e (best_contra e.sell (shown_only e) l)))) ≡ false → b ≡ false
    go false g = refl
    go true g = clash refl g
