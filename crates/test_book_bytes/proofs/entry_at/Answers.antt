use Prim.Native.Nat.{ℕ, ◌+◌}
use mathlib.Core.Path.{ap, ◌∙◌}
use lib.Dec.{eqb}
use Rattle.test_reading.specs.Number.{byte_at}
use Rattle.test_book_bytes.specs.Layout.{pricing_read}
use Rattle.test_book_bytes.proofs.entry_at.Goals as goal

pub returns : goal.returns
returns c =
    λ i. record {
      number = c.number_at-2.ensures i;
      party = c.byte_at-2.ensures i;
      kind = c.byte_at-3.ensures i;
      sell = eqb (c.byte_at-4.ensures i) 1;
      limit = c.number_at-3.ensures i;
      quantity = c.number_at-4.ensures i;
      working = c.number_at-5.ensures i;
      pricing =
          (c.pricing_of-pricing.ensures ∙ ap (λ (k : ℕ). pricing_read k c.number_at.result) c.byte_at.ensures
          ∙ ap (pricing_read (byte_at c.args.bytes.now (c.args.at + 23))) c.number_at.ensures) i;
    }
