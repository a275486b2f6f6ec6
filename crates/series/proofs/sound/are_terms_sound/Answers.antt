use mathlib.Core.Path.{sym, ◌∙◌}
use Rattle.series.specs.Series.{sound_terms}
use Rattle.series.proofs.sound.are_terms_sound.Goals as goal

pub returns-then-not-is_mpv : goal.returns-then-not-is_mpv
unfolding sound_terms
returns-then-not-is_mpv c = rw (← c.is_mpv.ensures, c.if-not-is_mpv.true)

pub is_none_or_legal-requires : goal.is_none_or_legal-requires
is_none_or_legal-requires c = sym c.is_mpv.ensures ∙ c.if-not-is_mpv.false

pub is_none_or_legal-requires-2 : goal.is_none_or_legal-requires-2
is_none_or_legal-requires-2 c = sym c.is_mpv.ensures ∙ c.if-not-is_mpv.false

pub returns : goal.returns
unfolding sound_terms
returns c =
    rw (
      ← c.is_mpv.ensures,
      c.if-not-is_mpv.false,
      c.is_between.ensures,
      c.is_none_or_legal.ensures,
      c.is_none_or_legal-2.ensures,
    )
