-- What cancelling leaves alone: every entry that the search does not look for still rests; its one report is that of what was found; and a maker's quote on one
-- side is found as before when the quote on the other side has gone.
-- Assumes nothing.
use Prim.Native.Nat.{ℕ, zero, suc}
use mathlib.Core.Path.{◌≡◌, refl, sym, subst, ap, ◌∙◌}
use mathlib.Core.Bool.{Bool, true, false, not}
use mathlib.Core.List.{List, [], ◌∷◌}
use lib.Dec.{eqb}
use borrow.Author.Tests.{eqb-true, eqb-false}
use Rattle.lists.specs.Places.{At, without}
use Rattle.lists.specs.Choose.{Found, nowhere, found}
use Rattle.lists.specs.Run.{still}
use Rattle.lists.proofs.Bools.{clash}
use Rattle.lists.proofs.PlaceLaws.{at_same}
use Rattle.lists.proofs.ChooseLaws.{Tells}
use Rattle.packing.specs.declared.report.Report.{Report}
use Rattle.book.specs.declared.Entry.{Entry}
use Rattle.book.specs.Entries.{quote_of}
use Rattle.book.specs.Look.{quote_in}
use Rattle.book.proofs.LookLaws.{quote-tells}
use Rattle.soundness_theory.proofs.Facts.{Sound}
use Rattle.soundness_theory.proofs.KeepLaws.{each_two}
use Rattle.telling.specs.Tell.{cancelled}
use Rattle.arrival.specs.Cancel.{cut, cut_quote}
use Rattle.arrival.proofs.CutLaws.{OfMaker, of-maker}

-- x stands somewhere in the list
pub record Rests (l : List Entry) (x : Entry) : Type 0 where
  pub place : ℕ
  pub there : At l place x

later : {l : List Entry} {x : Entry} (y : Entry) → Rests l x → Rests (y ∷ l) x
later y r = record { place = suc r.place; there = r.there }

pub rests-without : (l : List Entry) (i j : ℕ) (x : Entry) → At l i x → (i ≡ j → ⊥) → Rests (without j l) x
unfolding without
rests-without [] i j x h n = absurd h
rests-without (y ∷ l) zero zero x h n = absurd (n refl)
rests-without (y ∷ l) zero (suc j) x h n = record { place = 0; there = h }
rests-without (y ∷ l) (suc i) zero x h n = record { place = i; there = h }
rests-without (y ∷ l) (suc i) (suc j) x h n = later y (rests-without l i j x h (λ e. n (ap suc e)))

pub rests-back : (l : List Entry) (i j : ℕ) (x : Entry) → At (without j l) i x → Rests l x
unfolding without
rests-back [] i j x h = absurd h
rests-back (y ∷ l) i zero x h = later y (record { place = i; there = h })
rests-back (y ∷ l) zero (suc j) x h = record { place = 0; there = h }
rests-back (y ∷ l) (suc i) (suc j) x h = later y (rests-back l i j x h)

-- the report of what was found, if anything was
abbrev pub cancels : ℕ → Found Entry → List Report
cancels why nowhere = []
cancels why (found i x) = cancelled why x ∷ []

pub cut-reports : (why : ℕ) (l : List Entry) (f : Found Entry) → (cut why l f).records ≡ cancels why f
unfolding cut still
cut-reports why l nowhere = refl
cut-reports why l (found i x) = refl

module _ (why : ℕ) (l : List Entry) (test : Entry → Bool) (key : Entry → ℕ) where
  -- who does not pass still rests
  pub cut-leaves : (f : Found Entry) → Tells test key l f → (i : ℕ) (x : Entry) → At l i x → test x ≡ false → Rests (cut why l f).final x
  unfolding cut still
  cut-leaves nowhere c i x h t = record { place = i; there = h }
  cut-leaves (found j y) c i x h t =
      rests-without l i j x h
      (λ e. clash (ap test (at_same l j x y (subst (λ (n : ℕ). At l n x) e h) c.there) ∙ c.passes) t)

-- ---- a maker's two quotes ----

pub quote-leaves : (why party : ℕ) (s : Bool) (l : List Entry) (i : ℕ) (x : Entry) → At l i x → quote_of party s x ≡ false
    → Rests (cut_quote why party s l).final x
quote-leaves why party s l i x h t = cut-leaves why l (quote_of party s) (λ _. 0) (quote_in party s l) (quote-tells l party s) i x h t

never_both : (s t : Bool) → s ≡ t → s ≡ not t → ⊥
never_both s true p q = clash p q
never_both s false p q = clash q p

-- a quote on one side is none on the other
pub other-side : (party : ℕ) (s : Bool) (x : Entry) → quote_of party (not s) x ≡ true → quote_of party s x ≡ false
other-side party s x h = go (quote_of party s x) refl
  where
    go : (b : Bool) → quote_of party s x ≡ b → b ≡ false
    go true q = absurd (never_both x.sell s (of-maker party s x q).side (of-maker party (not s) x h).side)
    go false q = refl

-- one quote at most, so whoever passes is the same
pub one-quote : {m top : ℕ} {l : List Entry} → Sound m top l → (party : ℕ) (s : Bool) (i j : ℕ) (x y : Entry) → At l i x → At l j y
    → quote_of party s x ≡ true → quote_of party s y ≡ true → x ≡ y
one-quote {l = l} so party s i j x y a b p q = go (eqb i j) refl
  where
    go : (t : Bool) → eqb i j ≡ t → x ≡ y
    go true e = at_same l j x y (subst (λ (n : ℕ). At l n x) (eqb-true i j e) a) b
    go false e =
        let u : OfMaker party s x = of-maker party s x p in
        let v : OfMaker party s y = of-maker party s y q in
        absurd ((each_two so i j x y a b (eqb-false i j e)).one-quote u.quotes v.quotes (u.party ∙ sym v.party) (u.side ∙ sym v.side))

-- and it is found as before when the other side's quote has gone
pub still-found : {m top : ℕ} {l : List Entry} → Sound m top l → (why party : ℕ) (s : Bool) (f : Found Entry) → Tells (quote_of party (not s)) (λ _. 0) l f
    → cancels why (quote_in party s (cut why l f).final) ≡ cancels why (quote_in party s l)
unfolding cut still
still-found so why party s nowhere c = refl
still-found {l = l} so why party s (found j z) c =
    go (quote_in party s (without j l)) (quote-tells (without j l) party s) (quote_in party s l) (quote-tells l party s)
  where
    apart : (i : ℕ) (x : Entry) → At l i x → quote_of party s x ≡ true → i ≡ j → ⊥
    apart i x a p e =
        clash p (other-side party s x (ap (quote_of party (not s)) (at_same l j x z (subst (λ (n : ℕ). At l n x) e a) c.there) ∙ c.passes))

    go : (f : Found Entry) → Tells (quote_of party s) (λ _. 0) (without j l) f → (g : Found Entry) → Tells (quote_of party s) (λ _. 0) l g
        → cancels why f ≡ cancels why g
    go nowhere u nowhere v = refl
    go nowhere u (found i x) v =
        let r : Rests (without j l) x = rests-without l i j x v.there (λ e. apart i x v.there v.passes e) in
        clash v.passes (u.nobody r.place x r.there)
    go (found k y) u nowhere v = let r : Rests l y = rests-back l k j y u.there in clash u.passes (v.nobody r.place y r.there)
    go (found k y) u (found i x) v =
        let r : Rests l y = rests-back l k j y u.there in
        ap (λ (w : Entry). cancelled why w ∷ []) (one-quote so party s r.place i y x r.there v.there u.passes v.passes)
