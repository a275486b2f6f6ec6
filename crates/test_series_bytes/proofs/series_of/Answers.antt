use Prim.Native.Nat.{ℕ, ◌-◌}
use mathlib.Core.Path.{◌≡◌, ap, ◌∙◌}
use mathlib.Core.List.{List}
use native.Mathlib.Omega.{arith}
use lib.ListN.{length, take, drop, length-drop}
use lib.Seq.{take_all}
use Rattle.test_book_bytes.specs.Layout.{book_in}
use Rattle.test_series_bytes.proofs.series_of.Goals as goal

pub returns : goal.returns
returns c =
    λ i. record {
      terms = c.terms_of-terms.ensures i;
      blocked = c.blocked_of-blocked.ensures i;
      book = (c.book_of-book.ensures ∙ ap book_in (to_the_end c.args.bytes.now)) i;
    }
  where
    to_the_end : (l : List ℕ) → take (length l - 50) (drop 50 l) ≡ drop 50 l
    to_the_end l = take_all (length l - 50) (drop 50 l) (omega (arith, length-drop 50 l))
