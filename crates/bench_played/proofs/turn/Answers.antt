use Prim.Native.Nat.{◌+◌, ◌*◌}
use mathlib.Core.List.{◌++◌}
use mathlib.Core.Path.{ap, ◌∙◌}
use lib.ListN.{take, drop}
use Rattle.packing.specs.Message.{message_at}
use Rattle.handler.specs.Handle.{Handled}
use Rattle.handler.proofs.AnyRoom.{count-few}
use Rattle.bench_played.proofs.PlayedLaws.{part-back, lent, le-rw}
use borrow.Author.Rules.{rules}
use native.Mathlib.Omega.{arith}
use Rattle.bench_played.proofs.turn.Goals as goal

pub end_of-requires : goal.end_of-requires
end_of-requires c =
    let a = c.args in
    let e = c.in-Ok.ensures ∙ lent a.series a.run.now a.at a.out.now a.used (search rules) in
    (le-rw (ap (λ (h : Handled). h.answer.count) e) (count-few a.series (message_at a.run.now a.at) (drop a.used a.out.now)), search rules)

pub returns-in-Ok : goal.returns-in-Ok
returns-in-Ok c =
    let a = c.args in
    let e = c.in-Ok.ensures ∙ lent a.series a.run.now a.at a.out.now a.used (search rules) in
    record {
      series = ap (λ (h : Handled). h.answer.series) e;
      end = c.end_of.ensures ∙ ap (λ (h : Handled). a.used + 14 * h.answer.count) e;
      room = part-back a.out.now _ a.used (search rules) ∙ ap (λ (h : Handled). take a.used a.out.now ++ h.room) e;
    }

pub returns-in-Err : goal.returns-in-Err
returns-in-Err c =
    let a = c.args in
    let e = c.in-Err.ensures ∙ lent a.series a.run.now a.at a.out.now a.used (search rules) in
    record {
      series = ap (λ (h : Handled). h.answer.series) e;
      end = omega (arith, ap (λ (h : Handled). h.answer.count) e);
      room = part-back a.out.now _ a.used (search rules) ∙ ap (λ (h : Handled). take a.used a.out.now ++ h.room) e;
    }
