-- Laws of a table of tests: the figures of a rule, and that the reason told is that of the first test that holds, with the figures that it compared.
-- Assumes nothing.
use Prim.Native.Nat.{ℕ, ◌≤◌, ◌<◌}
use mathlib.Core.Path.{◌≡◌, refl, sym, ap, subst, ◌∙◌}
use mathlib.Core.Bool.{Bool, true, false, cond}
use mathlib.Core.List.{List, [], ◌∷◌, ◌++◌}
use native.Mathlib.Omega.{arith}
use lib.Dec.{eqb, leb}
use borrow.Author.Tests.{leb-true, leb-false, ltb-true, le-leb, lt-leb, lt-ltb, eq-eqb, ne_eqb, not-true}
use Rattle.lists.specs.Tests.{All}
use Rattle.lists.proofs.Bools.{clash, and_left, and_right, and_both}
use Rattle.lists.proofs.FirstLaws.{Decides}
use Rattle.prices.specs.declared.Figures.{Figures}
use Rattle.prices.specs.Side.{reaches}
use Rattle.prices.specs.Test.{Comparison, at_least, above, reaching, short, compared, Test, holds, only_for, reason_of, figures_of}
use Rattle.prices.proofs.StopLaws.{decides-both}

-- ---- the figures of a rule ----

module _ (n : ℕ) where
  -- it has no test in these rows
  abbrev pub Elsewhere : List Test → Type 0
  Elsewhere xs = All (λ (x : Test). n ≡ x.rule → ⊥) xs

  pub figures-none : (xs : List Test) → Elsewhere xs → figures_of n xs ≡ record { first = 0; second = 0 }
  unfolding figures_of
  figures-none [] a = refl
  figures-none (x ∷ xs) a = rw (ne_eqb n x.rule a.0) (figures-none xs a.1)

  pub figures-front : (xs ys : List Test) → Elsewhere ys → figures_of n (xs ++ ys) ≡ figures_of n xs
  unfolding figures_of
  figures-front [] ys a = figures-none ys a
  figures-front (x ∷ xs) ys a = ap (cond (eqb n x.rule) x.figures) (figures-front xs ys a)

  pub figures-behind : (xs ys : List Test) → Elsewhere xs → figures_of n (xs ++ ys) ≡ figures_of n ys
  unfolding figures_of
  figures-behind [] ys a = refl
  figures-behind (x ∷ xs) ys a = rw (ne_eqb n x.rule a.0) (figures-behind xs ys a.1)

  -- they are the same whether it is put or not
  pub figures-only : (q : Bool) (xs : List Test) → figures_of n (only_for q xs) ≡ figures_of n xs
  unfolding figures_of
  figures-only q [] = refl
  figures-only q (x ∷ xs) = ap (cond (eqb n x.rule) x.figures) (figures-only q xs)

-- ---- when a test holds of its figures, in plain inequalities ----

abbrev pub Compares : Comparison → Bool → Figures → Type 0
Compares at_least s f = f.second ≤ f.first
Compares above s f = f.second < f.first
Compares reaching s f = (s ≡ false → f.second ≤ f.first) × (s ≡ true → f.first ≤ f.second)
Compares short s f = (s ≡ false → f.first < f.second) × (s ≡ true → f.second < f.first)

pub compared-decides : (c : Comparison) (s : Bool) (f : Figures) → Decides (compared c s f) (Compares c s f)
unfolding reaches
compared-decides at_least s f = (λ h. leb-true f.second f.first h, λ h. le-leb f.second f.first h)
compared-decides above s f = (λ h. ltb-true f.second f.first h, λ h. lt-ltb f.second f.first h)
compared-decides reaching s f = decides-both s f.first f.second
compared-decides short false f = (
  λ h. (λ _. leb-false f.second f.first (not-true (leb f.second f.first) h), λ q. clash q refl),
  λ h. rw (lt-leb f.second f.first (h.0 refl)),
)
compared-decides short true f = (
  λ h. (λ q. clash refl q, λ _. leb-false f.first f.second (not-true (leb f.first f.second) h)),
  λ h. rw (lt-leb f.first f.second (h.1 refl)),
)

-- ---- the reason told ----

-- it fails, if it was put at all
abbrev pub Fails : Bool → Test → Type 0
Fails s x = x.posed ≡ true → Compares x.when s x.figures → ⊥

-- THE FIRST TEST OF A TABLE THAT HOLDS: it has number n, it was put, it compared the figures f, its comparison holds of them, and every test before it that was
-- put fails of its own
pub record FirstTest (s : Bool) (xs : List Test) (n : ℕ) (f : Figures) : Type 0 where
  pub earlier : List Test
  pub test : Test
  pub later : List Test
  pub table : xs ≡ earlier ++ (test ∷ later)
  pub rule : test.rule ≡ n
  pub posed : test.posed ≡ true
  pub figures : test.figures ≡ f
  pub holds : Compares test.when s f
  pub none-earlier : All (Fails s) earlier

-- every rule has one test
abbrev pub Apart : List Test → Type 0
Apart [] = Unit {0}
Apart (x ∷ xs) = All (λ (y : Test). x.rule ≡ y.rule → ⊥) xs × Apart xs

among : (P : Test → Type 0) (before : List Test) (x : Test) (after : List Test) → All P (before ++ (x ∷ after)) → P x
among P [] x after a = a.0
among P (y ∷ before) x after a = among P before x after a.1

pub reason-first : (s : Bool) (xs : List Test) → Apart xs → (n : ℕ) → 1 ≤ n → reason_of s xs ≡ n → FirstTest s xs n (figures_of n xs)
unfolding figures_of
reason-first s [] a n some h = absurd (omega arith)
reason-first s (x ∷ xs) a n some h = by (holds s x) refl h (λ k. reason-first s xs a.1 n some k)
  where
    by : (b : Bool) → holds s x ≡ b → cond b x.rule (reason_of s xs) ≡ n → (reason_of s xs ≡ n → FirstTest s xs n (figures_of n xs))
        → FirstTest s (x ∷ xs) n (figures_of n (x ∷ xs))
    by true q k more =
        let same : x.figures ≡ figures_of n (x ∷ xs) = rw (eq-eqb n x.rule (sym k)) refl in
        record {
          earlier = [];
          test = x;
          later = xs;
          table = refl;
          rule = k;
          posed = and_left x.posed _ q;
          figures = same;
          holds = subst (Compares x.when s) same ((compared-decides x.when s x.figures).0 (and_right x.posed _ q));
          none-earlier = tt;
        }
    by false q k more =
        let r = more k in
        let other : n ≡ x.rule → ⊥ = λ z. among (λ (y : Test). x.rule ≡ y.rule → ⊥) r.earlier r.test r.later
        (subst (All (λ (y : Test). x.rule ≡ y.rule → ⊥)) r.table a.0) (sym z ∙ sym r.rule) in
        let same : figures_of n xs ≡ figures_of n (x ∷ xs) = rw (ne_eqb n x.rule other) refl in
        record {
          earlier = x ∷ r.earlier;
          test = r.test;
          later = r.later;
          table = ap (λ (ys : List Test). x ∷ ys) r.table;
          rule = r.rule;
          posed = r.posed;
          figures = r.figures ∙ same;
          holds = subst (Compares r.test.when s) same r.holds;
          none-earlier = (
            λ p c. clash (and_both x.posed _ p ((compared-decides x.when s x.figures).1 c)) q,
            r.none-earlier,
          );
        }
