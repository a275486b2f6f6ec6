use mathlib.Core.Path.{refl, sym, ◌∙◌}
use Rattle.kinds.specs.declared.refusal.Refusal.TheVariants.{Missing}
use Rattle.handler.specs.Refuse.{refusal_of}
use Rattle.handler.proofs.RefuseLaws.{passed_by, refused_by, number-if}
use Rattle.handler.proofs.refuse.refusal_of.Goals as goal

pub returns-in_err-refuse_if : goal.returns-in_err-refuse_if
unfolding refusal_of
returns-in_err-refuse_if c =
    let p = refused_by _ _ c.in_err-refuse_if.ensures _ c.from_residual.ensures.1 in
    rw (
      sym c.is_bad_party.ensures ∙ p.0,
      p.1,
    ) refl

pub returns-in_err-refuse_if-2 : goal.returns-in_err-refuse_if-2
unfolding refusal_of
returns-in_err-refuse_if-2 c =
    let p = refused_by _ _ c.in_err-refuse_if-2.ensures _ c.from_residual-in_err-refuse_if-2.ensures.1 in
    rw (
      sym c.is_bad_party.ensures ∙ passed_by _ _ c.in_ok-refuse_if.ensures,
      sym c.is_bad_price.ensures ∙ p.0,
      p.1,
    ) refl

pub returns-in_err-refuse_if-3 : goal.returns-in_err-refuse_if-3
unfolding refusal_of
returns-in_err-refuse_if-3 c =
    let p = refused_by _ _ c.in_err-refuse_if-3.ensures _ c.from_residual-in_err-refuse_if-3.ensures.1 in
    rw (
      sym c.is_bad_party.ensures ∙ passed_by _ _ c.in_ok-refuse_if.ensures,
      sym c.is_bad_price.ensures ∙ passed_by _ _ c.in_ok-refuse_if-2.ensures,
      sym c.is_bad_quantity.ensures ∙ p.0,
      p.1,
    ) refl

pub returns-in_err-refuse_if-4 : goal.returns-in_err-refuse_if-4
unfolding refusal_of
returns-in_err-refuse_if-4 c =
    let p = refused_by _ _ c.in_err-refuse_if-4.ensures _ c.from_residual-in_err-refuse_if-4.ensures.1 in
    rw (
      sym c.is_bad_party.ensures ∙ passed_by _ _ c.in_ok-refuse_if.ensures,
      sym c.is_bad_price.ensures ∙ passed_by _ _ c.in_ok-refuse_if-2.ensures,
      sym c.is_bad_quantity.ensures ∙ passed_by _ _ c.in_ok-refuse_if-3.ensures,
      sym c.is_not_open.ensures ∙ p.0,
      p.1,
    ) refl

pub returns-in_err-refuse_if-5 : goal.returns-in_err-refuse_if-5
unfolding refusal_of
returns-in_err-refuse_if-5 c =
    let p = refused_by _ _ c.in_err-refuse_if-5.ensures _ c.from_residual-in_err-refuse_if-5.ensures.1 in
    rw (
      sym c.is_bad_party.ensures ∙ passed_by _ _ c.in_ok-refuse_if.ensures,
      sym c.is_bad_price.ensures ∙ passed_by _ _ c.in_ok-refuse_if-2.ensures,
      sym c.is_bad_quantity.ensures ∙ passed_by _ _ c.in_ok-refuse_if-3.ensures,
      sym c.is_not_open.ensures ∙ passed_by _ _ c.in_ok-refuse_if-4.ensures,
      sym c.is_blocked.ensures ∙ p.0,
      p.1,
    ) refl

pub returns-in_err-refuse_if-6 : goal.returns-in_err-refuse_if-6
unfolding refusal_of
returns-in_err-refuse_if-6 c =
    let p = refused_by _ _ c.in_err-refuse_if-6.ensures _ c.from_residual-in_err-refuse_if-6.ensures.1 in
    rw (
      sym c.is_bad_party.ensures ∙ passed_by _ _ c.in_ok-refuse_if.ensures,
      sym c.is_bad_price.ensures ∙ passed_by _ _ c.in_ok-refuse_if-2.ensures,
      sym c.is_bad_quantity.ensures ∙ passed_by _ _ c.in_ok-refuse_if-3.ensures,
      sym c.is_not_open.ensures ∙ passed_by _ _ c.in_ok-refuse_if-4.ensures,
      sym c.is_blocked.ensures ∙ passed_by _ _ c.in_ok-refuse_if-5.ensures,
      sym c.is_full.ensures ∙ p.0,
      p.1,
    ) refl

pub returns-in_err-refuse_if-7 : goal.returns-in_err-refuse_if-7
unfolding refusal_of
returns-in_err-refuse_if-7 c =
    let p = refused_by _ _ c.in_err-refuse_if-7.ensures _ c.from_residual-in_err-refuse_if-7.ensures.1 in
    rw (
      sym c.is_bad_party.ensures ∙ passed_by _ _ c.in_ok-refuse_if.ensures,
      sym c.is_bad_price.ensures ∙ passed_by _ _ c.in_ok-refuse_if-2.ensures,
      sym c.is_bad_quantity.ensures ∙ passed_by _ _ c.in_ok-refuse_if-3.ensures,
      sym c.is_not_open.ensures ∙ passed_by _ _ c.in_ok-refuse_if-4.ensures,
      sym c.is_blocked.ensures ∙ passed_by _ _ c.in_ok-refuse_if-5.ensures,
      sym c.is_full.ensures ∙ passed_by _ _ c.in_ok-refuse_if-6.ensures,
      sym c.is_spent.ensures ∙ p.0,
      p.1,
    ) refl

pub is_blocked-requires : goal.is_blocked-requires
is_blocked-requires c = record { a_value = sym c.is_bad_party.ensures ∙ passed_by _ _ c.in_ok-refuse_if.ensures; blocked_len = c.requires.blocked_len }

pub is_full-requires : goal.is_full-requires
is_full-requires c =
    record {
      a_value = sym c.is_bad_party.ensures ∙ passed_by _ _ c.in_ok-refuse_if.ensures;
      well_formed = c.requires.well_formed;
      summary = c.requires.summary;
    }

pub is_missing-requires : goal.is_missing-requires
is_missing-requires c =
    record {
      a_value = sym c.is_bad_party.ensures ∙ passed_by _ _ c.in_ok-refuse_if.ensures;
      well_formed = c.requires.well_formed;
      summary = c.requires.summary;
    }

pub returns : goal.returns
unfolding refusal_of
returns c =
    rw (
      sym c.is_bad_party.ensures ∙ passed_by _ _ c.in_ok-refuse_if.ensures,
      sym c.is_bad_price.ensures ∙ passed_by _ _ c.in_ok-refuse_if-2.ensures,
      sym c.is_bad_quantity.ensures ∙ passed_by _ _ c.in_ok-refuse_if-3.ensures,
      sym c.is_not_open.ensures ∙ passed_by _ _ c.in_ok-refuse_if-4.ensures,
      sym c.is_blocked.ensures ∙ passed_by _ _ c.in_ok-refuse_if-5.ensures,
      sym c.is_full.ensures ∙ passed_by _ _ c.in_ok-refuse_if-6.ensures,
      sym c.is_spent.ensures ∙ passed_by _ _ c.in_ok-refuse_if-7.ensures,
      c.refuse_if-8.ensures,
      c.is_missing.ensures,
    ) (number-if _ Missing)
