use mathlib.Core.Path.{sym, ◌∙◌}
use Rattle.server.proofs.ServeLaws.{setup-refused, setup-stored, setup-kept}
use Rattle.server.proofs.serve.waxglimmer_setup.Goals as goal

pub returns-in-Err : goal.returns-in-Err
returns-in-Err c = setup-refused c.args.setup.now c.args.state.now _ (sym c.open_series.ensures ∙ c.in-Err.is) _ c.from.ensures

pub returns-then-pack_series : goal.returns-then-pack_series
returns-then-pack_series c =
    setup-stored c.args.setup.now c.args.state.now _ (sym c.open_series.ensures ∙ c.in-Ok.is) _ _
    c.pack_series.ensures.0 c.pack_series.ensures.1 c.if-pack_series.true

pub returns : goal.returns
returns c =
    setup-kept c.args.setup.now c.args.state.now _ (sym c.open_series.ensures ∙ c.in-Ok.is) _ _
    c.pack_series.ensures.0 c.pack_series.ensures.1 c.if-pack_series.false
