use mathlib.Core.Path.{sym, ◌∙◌}
use Rattle.std.specs.Prelude.{None, Some}
use Rattle.series_buffer.proofs.PlaceLaws.{place-read}
use Rattle.series_buffer.proofs.places.unpack.Goals as goal

pub returns-in_err-place : goal.returns-in_err-place
returns-in_err-place c = c.from_residual.ensures ∙ place-read _ None (sym c.in_err-place.was ∙ c.unpack.ensures)

pub returns : goal.returns
returns c = place-read _ (Some c.in_ok-place.place) (sym c.in_ok-place.was ∙ c.unpack.ensures)
