use Rattle.packing.specs.Room.{written}
use Rattle.packing.specs.declared.report.Report.{Report}
use mathlib.Core.List.{[], ◌∷◌}
use mathlib.Core.Path.{refl, sym, ap, ◌∙◌}
use Rattle.arrival.proofs.TradeLaws.{take-start, take_done, take-room, take-place, take-most, take_less, take_on}
use Rattle.arrival.proofs.take.take_all.Goals as goal

pub loop-next-init : goal.loop-next-init
loop-next-init c = record {
  going = take-start c.args.cap c.args.e c.args.left.now c.args.b c.args.reports.now.room.now c.args.reports.now.count c.requires;
  same_room = refl;
}

pub returns-clause-told : goal.returns-clause-told
returns-clause-told c = take_done c.loop-next.invariant.going (sym c.in_default.is ∙ c.next_trade.ensures)

pub tell-requires : goal.tell-requires
tell-requires c =
    let v = c.loop-next.invariant.going in
    let x = c.in-Some.next in
    let h = sym c.in-Some.is ∙ c.next_trade.ensures in
    rw c.tell_traded.ensures (take-room v x h)

pub taken-c-requires : goal.taken-c-requires
taken-c-requires c =
    let v = c.loop-next.invariant.going in
    let x = c.in-Some.next in
    let h = sym c.in-Some.is ∙ c.next_trade.ensures in
    take-place v x h

pub overflow_sub-left : goal.overflow_sub-left
overflow_sub-left c =
    let v = c.loop-next.invariant.going in
    let x = c.in-Some.next in
    let h = sym c.in-Some.is ∙ c.next_trade.ensures in
    take-most v x h

pub loop-next-smaller : goal.loop-next-smaller
loop-next-smaller c =
    let v = c.loop-next.invariant.going in
    let x = c.in-Some.next in
    let h = sym c.in-Some.is ∙ c.next_trade.ensures in
    take_less v x h c.taken-c.result c.taken-c.ensures

pub loop-next-preserved : goal.loop-next-preserved
loop-next-preserved c =
    let v = c.loop-next.invariant.going in
    let x = c.in-Some.next in
    let h = sym c.in-Some.is ∙ c.next_trade.ensures in
    record {
      going =
          take_on v x h c.taken-c.result c.taken-c.ensures c.tell.new.self.room.now c.tell.new.self.count
          (c.tell.ensures.put.bytes
          ∙ ap (λ (r : Report). written c.loop-next.reports.room.now c.loop-next.reports.count (r ∷ [])) c.tell_traded.ensures)
          c.tell.ensures.put.count;
      same_room = c.tell.ensures.same_room ∙ c.loop-next.invariant.same_room;
    }
