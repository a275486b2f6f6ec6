use Rattle.series_buffer.proofs.StateLaws.{kept-length, kept-unfit, put_in, unfit-header, unfit-entries, unfit-count, fit_parts}
use Rattle.series_buffer.specs.State.{series_of, series_bytes}
use Rattle.series_buffer.specs.Header.{headers}
use Rattle.series_buffer.specs.declared.Header.{Header}
use Rattle.packing.specs.Codec.{packs}
use native.Mathlib.Omega.{arith}
use mathlib.Core.Path.{sym, ap, ◌∙◌}
use Rattle.series_buffer.proofs.whole.pack_series.Goals as goal

pub returns-then-out-ne-SIZE : goal.returns-then-out-ne-SIZE
returns-then-out-ne-SIZE c = kept-length c.args.out.now c.args.series c.if-out-ne-SIZE.true

pub returns-then-book-gt255 : goal.returns-then-book-gt255
returns-then-book-gt255 c = kept-unfit c.args.out.now c.args.series (unfit-count c.args.series c.if-book-gt255.true)

pub header_of-h-requires : goal.header_of-h-requires
header_of-h-requires c = omega (arith, c.if-book-gt255.false)

pub returns-then-not-fits : goal.returns-then-not-fits
returns-then-not-fits c =
    kept-unfit c.args.out.now c.args.series
    (unfit-header c.args.series
    (sym (c.fits.ensures ∙ ap (packs headers) c.header_of-h.ensures) ∙ c.if-not-fits.true))

pub returns-then-not-all_fit : goal.returns-then-not-all_fit
returns-then-not-all_fit c =
    kept-unfit c.args.out.now c.args.series
    (unfit-entries c.args.series (sym c.all_fit.ensures.0 ∙ c.if-not-all_fit.true))

pub write-requires : goal.write-requires
write-requires c = c.if-out-ne-SIZE.false

pub returns : goal.returns
returns c =
    let s = c.args.series in
    put_in c.args.out.now s c.if-out-ne-SIZE.false
    (fit_parts s (sym (c.fits.ensures ∙ ap (packs headers) c.header_of-h.ensures) ∙ c.if-not-fits.false)
    c.all_fit.ensures.1 (sym c.all_fit.ensures.0 ∙ c.if-not-all_fit.false)) _
    (c.write.ensures ∙ ap (λ (h : Header). series_bytes (series_of h s.book.entries)) c.header_of-h.ensures)
