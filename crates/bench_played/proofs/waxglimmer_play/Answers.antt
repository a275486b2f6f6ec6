use Prim.Native.Nat.{ℕ}
use mathlib.Core.List.{List}
use mathlib.Core.Path.{sym, ap, ◌∙◌}
use Rattle.packing.specs.Codec.{unpack_of}
use Rattle.packing.specs.Setup.{setups}
use Rattle.bench_played.proofs.PlayedLaws.{plays-nothing, plays-series}
use Rattle.bench_played.proofs.waxglimmer_play.Goals as goal

pub returns-in_default : goal.returns-in_default
returns-in_default c =
    let a = c.args in
    plays-nothing (unpack_of setups a.setup.now) _ a.run.now a.out.now (sym c.open_series.ensures ∙ c.in_default.is)

pub returns : goal.returns
returns c =
    let a = c.args in
    let same = plays-series (unpack_of setups a.setup.now) _ a.run.now a.out.now (sym c.open_series.ensures ∙ c.in-Ok.is) in
    (c.play.ensures.0 ∙ ap (λ (x : ℕ × List ℕ). x.0) same, c.play.ensures.1 ∙ ap (λ (x : ℕ × List ℕ). x.1) same)
