use Rattle.book.specs.Shape.{entries_of}
use mathlib.Core.List.{[], ◌∷◌}
use Rattle.packing.specs.declared.report.Report.TheVariants.{Noted}
use Rattle.arrival.specs.Cancel.{sweep}
use Rattle.telling.proofs.StageLaws.{roomy-then, staged-then}
use Rattle.handler.proofs.AcceptLaws.{told-staged}
use Rattle.handler.proofs.handle.note_phase.Goals as goal

pub sweep_all-requires : goal.sweep_all-requires
sweep_all-requires c =
    record {
      well = c.requires.well;
      roomy =
          roomy-then (Noted ∷ []) (sweep c.args.phase (entries_of c.args.b)).records c.requires.roomy _ _ c.tell.ensures.put.bytes
          c.tell.ensures.put.count;
    }

pub returns-clause-told : goal.returns-clause-told
returns-clause-told c = staged-then (told-staged c.args.b c.requires.well c.tell.ensures.put) (sweep c.args.phase) c.sweep_all.ensures.told
