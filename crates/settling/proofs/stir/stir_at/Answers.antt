use Rattle.settling.proofs.Judging.{watched-bounds, trade-turn, trade-staged, move-turn, move-staged}
use Rattle.settling.specs.Turns.{entry_in}
use Rattle.settling.proofs.stir.stir_at.Goals as goal

pub aims_of-aim-requires : goal.aims_of-aim-requires
aims_of-aim-requires c = rw c.against_of-against.ensures ((watched-bounds c.requires.watched).bounds (entry_in c.args.b c.args.i).sell)

pub trade_at-requires : goal.trade_at-requires
trade_at-requires c =
    trade-turn c.requires c.aims_of-aim.result c.is_marketable.result c.interest_of-quote.ensures
    c.against_of-against.ensures c.aims_of-aim.ensures c.is_marketable.ensures
    c.if-is_marketable.true

pub returns-then-is_marketable-clause-told : goal.returns-then-is_marketable-clause-told
returns-then-is_marketable-clause-told c =
    trade-staged c.requires c.aims_of-aim.result c.is_marketable.result c.interest_of-quote.ensures
    c.against_of-against.ensures c.aims_of-aim.ensures c.is_marketable.ensures
    c.if-is_marketable.true c.trade_at.ensures.told

pub move_to-requires : goal.move_to-requires
move_to-requires c =
    move-turn c.requires c.aims_of-aim.result c.is_marketable.result c.interest_of-quote.ensures
    c.against_of-against.ensures c.aims_of-aim.ensures c.is_marketable.ensures
    c.if-is_marketable.false c.resting_of-p.result c.repriced.result c.display_of.ensures
    c.resting_of-p.ensures c.repriced.ensures

pub returns-clause-told : goal.returns-clause-told
returns-clause-told c =
    move-staged c.requires c.aims_of-aim.result c.is_marketable.result c.interest_of-quote.ensures
    c.against_of-against.ensures c.aims_of-aim.ensures c.is_marketable.ensures
    c.if-is_marketable.false c.resting_of-p.result c.repriced.result c.display_of.ensures
    c.resting_of-p.ensures c.repriced.ensures c.move_to.ensures.told
