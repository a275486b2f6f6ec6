use lib.Dec.{eqb}
use Rattle.test_series_bytes.proofs.terms_of.Goals as goal

pub returns : goal.returns
returns c =
    λ i. record {
      put = eqb (c.byte_at.ensures i) 1;
      exempt = eqb (c.byte_at-2.ensures i) 1;
      m = c.number_at.ensures i;
      k = c.number_at-2.ensures i;
      strike = c.number_at-3.ensures i;
      phase = c.number_at-4.ensures i;
      bid = c.number_at-5.ensures i;
      offer = c.number_at-6.ensures i;
      underlying = c.number_at-7.ensures i;
      given = c.number_at-8.ensures i;
    }
