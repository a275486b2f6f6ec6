use Rattle.series_buffer.proofs.StateLaws.{other_length, no_header, no-entries, all_there, rest-size}
use Rattle.std.specs.Prelude.{Some}
use mathlib.Core.Path.{refl, sym, ap, ◌∙◌}
use Rattle.series_buffer.proofs.whole.unpack_series.Goals as goal

pub returns-then-bytes-ne-SIZE : goal.returns-then-bytes-ne-SIZE
returns-then-bytes-ne-SIZE c = sym (other_length c.args.bytes.now c.if-bytes-ne-SIZE.true)

pub returns-in_err-h : goal.returns-in_err-h
returns-in_err-h c = c.from_residual.ensures ∙ sym (no_header c.args.bytes.now c.if-bytes-ne-SIZE.false (sym c.unpack.ensures ∙ c.in_err-h.was))

pub unpack_all-requires : goal.unpack_all-requires
unpack_all-requires c = rest-size c.args.bytes.now c.if-bytes-ne-SIZE.false

pub returns-in_err-entries : goal.returns-in_err-entries
returns-in_err-entries c =
    c.from_residual-in_err-entries.ensures
    ∙ sym
    (no-entries c.args.bytes.now c.if-bytes-ne-SIZE.false _ (sym c.unpack.ensures ∙ c.in_ok-h.was) _ refl (sym c.unpack_all.ensures ∙ c.in_err-entries.was))

pub returns : goal.returns
returns c =
    ap Some c.series_of-series.ensures
    ∙ sym
    (all_there c.args.bytes.now c.if-bytes-ne-SIZE.false _ (sym c.unpack.ensures ∙ c.in_ok-h.was) _ refl _ (sym c.unpack_all.ensures ∙ c.in_ok-entries.was))
