use Rattle.settling.proofs.Whole.{settle-eases, settle-stirs, settle-ends}
use Rattle.settling.proofs.settle.Goals as goal

pub ease-c-requires : goal.ease-c-requires
ease-c-requires c = settle-eases c.requires

pub stir-requires : goal.stir-requires
stir-requires c = settle-stirs c.requires c.ease-c.ensures.told

pub returns-clause-told : goal.returns-clause-told
returns-clause-told c = settle-ends c.requires c.ease-c.ensures.told c.stir.ensures.told
