use mathlib.Core.Path.{sym}
use lib.Seq.{length-take-le}
use Rattle.transcript.proofs.SetupLaws.{setup-told}
use borrow.Author.Rules.{rules}
use Rattle.transcript.proofs.tell_setup.Goals as goal

pub slice_bounds-open_series-end : goal.slice_bounds-open_series-end
slice_bounds-open_series-end c = sym (length-take-le _ _ (search rules))

pub returns : goal.returns
returns c =
    let printed = c.answer_lines-used.ensures in
    let t = setup-told c.args.held.now c.args.out.now _ c.min-at.ensures c.open_series-series.ensures c.refusal_told-why.ensures printed.value
    printed.out_after in
    record { value = t.0; out_after = t.1; at_in_bounds = (search rules, printed.prefix_len) }
