-- The figures of a rule in the table of an arrival: those of price protection have numbers from 24 on, those of what is left have numbers up to 23.
-- Assumes nothing.
use Prim.Native.Nat.{ℕ, ◌≤◌}
use mathlib.Core.Path.{◌≡◌, sym, ◌∙◌}
use mathlib.Core.List.{List}
use native.Mathlib.Omega.{arith}
use Rattle.prices.specs.Test.{figures_of}
use Rattle.prices.specs.Protect.{bars}
use Rattle.prices.proofs.TableLaws.{figures-front, figures-behind, figures-only}
use Rattle.book.specs.declared.Entry.{Entry}
use Rattle.book.specs.Entries.{quote}
use Rattle.terms.specs.declared.Terms.{Terms}
use Rattle.terms.specs.Terms.{guard_of}
use Rattle.arrival.specs.Post.{stops_in}
use Rattle.arrival.specs.Arrive.{bars_against, tests_against}

module _ (t : Terms) (e : Entry) (best : ℕ) (l : List Entry) (n : ℕ) where
  pub figures-bar : 24 ≤ n → figures_of n (bars (guard_of t) e.sell best e.limit) ≡ figures_of n (tests_against t e best l)
  figures-bar h =
      sym (figures-only n (quote e) (bars (guard_of t) e.sell best e.limit))
      ∙ sym (figures-front n (bars_against t e best) (stops_in t e l)
      (λ z. omega (arith, z), (λ z. omega (arith, z), (λ z. omega (arith, z), (λ z. omega (arith, z), tt)))))

  pub figures-stop : n ≤ 23 → figures_of n (stops_in t e l) ≡ figures_of n (tests_against t e best l)
  figures-stop h =
      sym (figures-behind n (bars_against t e best) (stops_in t e l) (λ z. omega (arith, z), (λ z. omega (arith, z), (λ z. omega (arith, z), tt))))
