use mathlib.Core.Path.{sym, ◌∙◌}
use Rattle.kinds.specs.declared.refusal.Refusal.TheVariants.{Quantity}
use Rattle.handler.proofs.RefuseLaws.{passed_by, refused_by, number-if}
use Rattle.server.proofs.check.fault_of.Goals as goal

pub returns-in_err-refuse_if : goal.returns-in_err-refuse_if
returns-in_err-refuse_if c =
    let p = refused_by _ _ c.in_err-refuse_if.ensures _ c.from_residual.ensures.1 in
    rw (sym c.ask_of-a.ensures, sym c.is_bad_party.ensures ∙ p.0, p.1)

pub returns-in_err-refuse_if-2 : goal.returns-in_err-refuse_if-2
returns-in_err-refuse_if-2 c =
    let p = refused_by _ _ c.in_err-refuse_if-2.ensures _ c.from_residual-in_err-refuse_if-2.ensures.1 in
    rw (
      sym c.ask_of-a.ensures,
      sym c.is_bad_party.ensures ∙ passed_by _ _ c.in_ok-refuse_if.ensures,
      sym c.is_bad_price.ensures ∙ p.0,
      p.1,
    )

pub returns : goal.returns
returns c =
    rw (
      sym c.ask_of-a.ensures,
      sym c.is_bad_party.ensures ∙ passed_by _ _ c.in_ok-refuse_if.ensures,
      sym c.is_bad_price.ensures ∙ passed_by _ _ c.in_ok-refuse_if-2.ensures,
      c.refuse_if-3.ensures,
      c.is_bad_quantity.ensures,
    )
    (number-if _ Quantity)
