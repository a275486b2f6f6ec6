-- What passing the tests of a request for aims tells.
-- Assumes nothing.
use Prim.Native.Nat.{ℕ}
use mathlib.Core.Path.{◌≡◌}
use mathlib.Core.Bool.{true, ◌&&◌}
use lib.Dec.{leb}
use Rattle.prices.specs.Step.{mpv, legal, none_or_legal}
use Rattle.prices.specs.Aims.{Bounds}
use Rattle.kinds.specs.Kinds.{asked}
use Rattle.prices.specs.Request.{askable, prices_legal}
use Rattle.lists.proofs.Bools.{and_left, and_right}

pub askable-mpv : (kind side m : ℕ) → askable kind side m ≡ true → mpv m ≡ true
askable-mpv kind side m e = and_right (leb side 1) (mpv m) (and_right (asked kind) (leb side 1 && mpv m) e)

pub askable-bounds : (kind side l a c m : ℕ) → askable kind side m ≡ true → prices_legal m l a c ≡ true → Bounds m a c
askable-bounds kind side l a c m e f = record {
  step = askable-mpv kind side m e;
  away = and_left (none_or_legal m a) (none_or_legal m c) (and_right (legal m l) (none_or_legal m a && none_or_legal m c) f);
  contra = and_right (none_or_legal m a) (none_or_legal m c) (and_right (legal m l) (none_or_legal m a && none_or_legal m c) f);
}
