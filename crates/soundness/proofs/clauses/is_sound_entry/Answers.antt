use Rattle.soundness_theory.specs.Sound.{sound_entry}
use Rattle.soundness.proofs.clauses.is_sound_entry.Goals as goal

pub returns-then-not-is_numbered : goal.returns-then-not-is_numbered
unfolding sound_entry
returns-then-not-is_numbered c = rw (← c.is_numbered.ensures, c.if-not-is_numbered.true)

pub returns-then-not-is_kinded : goal.returns-then-not-is_kinded
unfolding sound_entry
returns-then-not-is_kinded c =
    rw (
      ← c.is_numbered.ensures,
      c.if-not-is_numbered.false,
      ← c.is_kinded.ensures,
      c.if-not-is_kinded.true,
    )

pub returns-then-not-is_partied : goal.returns-then-not-is_partied
unfolding sound_entry
returns-then-not-is_partied c =
    rw (
      ← c.is_numbered.ensures,
      c.if-not-is_numbered.false,
      ← c.is_kinded.ensures,
      c.if-not-is_kinded.false,
      ← c.is_partied.ensures,
      c.if-not-is_partied.true,
    )

pub returns-then-not-is_sized : goal.returns-then-not-is_sized
unfolding sound_entry
returns-then-not-is_sized c =
    rw (
      ← c.is_numbered.ensures,
      c.if-not-is_numbered.false,
      ← c.is_kinded.ensures,
      c.if-not-is_kinded.false,
      ← c.is_partied.ensures,
      c.if-not-is_partied.false,
      ← c.is_sized.ensures,
      c.if-not-is_sized.true,
    )

pub returns : goal.returns
unfolding sound_entry
returns c =
    rw (
      ← c.is_numbered.ensures,
      c.if-not-is_numbered.false,
      ← c.is_kinded.ensures,
      c.if-not-is_kinded.false,
      ← c.is_partied.ensures,
      c.if-not-is_partied.false,
      ← c.is_sized.ensures,
      c.if-not-is_sized.false,
    ) c.is_priced_well.ensures
