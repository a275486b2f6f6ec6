use Rattle.telling.proofs.StageLaws.{roomy-told, staged-go}
use Rattle.settling.specs.Turns.{entry_in, dealt}
use Rattle.telling.specs.Tell.{traded}
use Rattle.book.proofs.ChangeLaws.{both-fits}
use Rattle.book.specs.Change.{hit_both}
use Rattle.book.specs.Shape.{entries_of, book_of}
use Prim.Native.Nat.{ℕ}
use mathlib.Core.Path.{ap, ◌∙◌}
use Rattle.settling.proofs.stir.deal.Goals as goal

pub tell-requires : goal.tell-requires
tell-requires c =
    roomy-told
    (c.tell_traded.ensures
    ∙ ap (traded (entry_in c.args.b c.args.i) (entry_in c.args.b c.args.j)) c.min-quantity.ensures)
    c.requires.roomy

pub returns-clause-told : goal.returns-clause-told
returns-clause-told c =
    let b = c.args.b in
    let q = dealt b c.args.i c.args.j in
    staged-go (entries_of b) (hit_both c.args.i c.args.j q (entries_of b))
    (c.tell_traded.ensures ∙ ap (traded (entry_in b c.args.i) (entry_in b c.args.j)) c.min-quantity.ensures)
    c.tell.ensures.put
    (c.traded.ensures ∙ ap (λ (n : ℕ). book_of (hit_both c.args.i c.args.j n (entries_of b))) c.min-quantity.ensures)
    (both-fits b c.args.i c.args.j q c.requires.two.well)
