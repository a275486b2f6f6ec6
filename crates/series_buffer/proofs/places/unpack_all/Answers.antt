use Rattle.series_buffer.proofs.PlacesLaws.{part-read, read-start, read-fail, read_past, read_done}
use mathlib.Core.Path.{refl, sym, ◌∙◌}
use borrow.Author.Rules.{rules}
use Rattle.series_buffer.proofs.places.unpack_all.Goals as goal

pub loop-i-init : goal.loop-i-init
loop-i-init c = read-start c.args.s.now _ (search rules)

pub unpack-requires : goal.unpack-requires
unpack-requires c = part-read c.args.s.now c.loop-i.i c.requires c.loop-i-test.true

pub returns-in_err-entries : goal.returns-in_err-entries
returns-in_err-entries c =
    c.from_residual.ensures
    ∙ sym (read-fail c.args.s.now c.loop-i.i c.loop-i.entries c.loop-i.invariant c.loop-i-test.true _ refl (sym c.unpack.ensures ∙ c.in_err-entries.was))

pub loop-i-preserved : goal.loop-i-preserved
loop-i-preserved c =
    read_past c.args.s.now c.loop-i.i c.loop-i.entries c.loop-i.invariant c.loop-i-test.true _ refl _ (sym c.unpack.ensures ∙ c.in_ok-entries.was)

pub returns : goal.returns
returns c = sym (read_done c.args.s.now c.loop-i.i c.loop-i.entries c.loop-i.invariant c.loop-i-test.false)
