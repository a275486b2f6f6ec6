use Prim.Native.Nat.{◌^◌, ◌<◌}
use mathlib.Core.Path.{refl, sym}
use native.Mathlib.Omega.{arith}
use borrow.Author.Rules.{rules}
use Rattle.std.specs.Prelude.{Err}
use Rattle.handler.specs.Handle.{answer_of, in_room}
use Rattle.handler.proofs.RefuseLaws.{numbered}
use Rattle.lines.proofs.AnswerLaws.{refusal-short}
use Rattle.lines.proofs.TextLaws.{one-line, fewer, no-more}
use Rattle.transcript.specs.WhyLines.{why_lines, why_text}
use Rattle.transcript.proofs.TextLaws.{text-refused}
use Rattle.transcript.proofs.why_lines.put_answer.Goals as goal

pub refusal-requires : goal.refusal-requires
refusal-requires c =
    let fits : c.from.result < 2 ^ 32 = search rules in
    omega (arith, refusal-short c.args.number c.from.result c.ranges.number.fits fits, c.requires.1)

pub returns-in-Err : goal.returns-in-Err
unfolding why_text
returns-in-Err c =
    let a = c.args in
    let fits : c.from.result < 2 ^ 32 = search rules in
    rw (
      c.in-Err.is,
      text-refused (why_lines a.number a.series a.read 0) a.number (in_room (answer_of a.series (Err c.in-Err.why)) a.room.now) (numbered c.in-Err.why),
      sym c.from.ensures,
    )
    (no-more (omega arith) (one-line (refusal-short a.number c.from.result c.ranges.number.fits fits) c.refusal.ensures))

pub put_whys-requires : goal.put_whys-requires
put_whys-requires c =
    let k = rw (c.in-Ok.is, c.in-Some.is) at c.requires.0 in
    (k.passes refl, k.few, fewer c.args.text.now k.few c.requires.1)

pub returns-in-Some : goal.returns-in-Some
unfolding why_text
returns-in-Some c =
    let k = rw (c.in-Ok.is, c.in-Some.is) at c.requires.0 in
    rw (c.in-Ok.is, c.in-Some.is) (no-more k.few c.put_whys.ensures)
