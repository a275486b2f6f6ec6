use Prim.Native.Nat.{ℕ}
use mathlib.Core.List.{List}
use mathlib.Core.Path.{refl, sym, subst, ◌∙◌}
use borrow.Author.Rules.{rules}
use Rattle.io.specs.Counts.{IsPrefixLen}
use Rattle.lines.proofs.AnswerLaws.{answered-room, answered-there, answered-nowhere, answered-counts}
use Rattle.lines.proofs.line.answer_lines.Goals as goal

pub returns-then-not-is_roomy : goal.returns-then-not-is_roomy
returns-then-not-is_roomy c =
    let a = c.args in
    let p = answered-nowhere a.out.now a.at a.number a.refusal a.count a.room.now _ _ (refl, sym c.lines_of.ensures)
    (sym c.is_roomy.ensures ∙ c.if-not-is_roomy.true) in
    let both = answered-counts a.out.now a.at a.number a.refusal a.count a.room.now c.ranges.number.fits c.ranges.refusal.fits
    (λ i. (c.type_inv.room i).fits) p in
    record { value = both.0; out_after = both.1.0; prefix_len = both.1.1 }

pub answer-requires : goal.answer-requires
answer-requires c =
    let a = c.args in
    answered-room a.out.now a.at a.number a.refusal a.count a.room.now _ _ (refl, sym c.lines_of.ensures)
    c.ranges.number.fits
    c.ranges.refusal.fits
    (λ i. (c.type_inv.room i).fits)
    (sym c.is_roomy.ensures ∙ c.if-not-is_roomy.false)

pub returns : goal.returns
returns c =
    let a = c.args in
    let p = answered-there a.out.now a.at a.number a.refusal a.count a.room.now _ _ (refl, sym c.lines_of.ensures)
    (sym c.is_roomy.ensures ∙ c.if-not-is_roomy.false)
    c.answer.ensures.put in
    let both = answered-counts a.out.now a.at a.number a.refusal a.count a.room.now c.ranges.number.fits c.ranges.refusal.fits
    (λ i. (c.type_inv.room i).fits) p in
    record {
      value = both.0;
      out_after = rw (← both.1.0) (search rules);
      prefix_len = subst (λ (l : List ℕ). IsPrefixLen c.answer.new.self.end l) (search rules) both.1.1;
    }
