use borrow.Author.Tests.{ne_eqb}
use native.Mathlib.Omega.{arith}
use mathlib.Core.Path.{sym, ap, ◌∙◌}
use Rattle.book.specs.Shape.{entries_of}
use Rattle.lists.specs.Run.{Ran}
use mathlib.Core.List.{List}
use Rattle.book.specs.declared.Entry.{Entry}
use Rattle.packing.specs.declared.report.Report.{Report}
use Rattle.telling.proofs.StageLaws.{roomy-as, staged-as}
use Rattle.handler.proofs.Stages.{own-enters, own-entry, own-quote, own-phase, own-noted}
use Rattle.handler.proofs.AcceptLaws.{told-staged}
use Rattle.handler.proofs.HandleLaws.{acts-accepted, acts-comer, acts-enters, cancel-carries, cancel-maker}
use Rattle.arrival.specs.Arrive.{arrived}
use Rattle.handler.proofs.Passed.{tests, any-party, maker-within}
use Rattle.handler.proofs.handle.act.Goals as goal

pub comer_of-e-requires : goal.comer_of-e-requires
comer_of-e-requires c =
    let few = acts-comer c.requires.acts (sym c.is_entering.ensures ∙ c.if-is_entering.true) in
    record { given_le_last_number = few.0; party_bound = few.1.0; kind_bound = few.1.1 }

pub arrive-requires : goal.arrive-requires
arrive-requires c =
    record {
      enters =
          acts-enters c.requires.acts (sym c.is_entering.ensures ∙ c.if-is_entering.true) _ c.comer_of-e.ensures _
          c.facing_of-f.ensures;
      roomy =
          roomy-as
          (ap (λ (x : Ran (List Entry) Report). x.records)
          (sym (ap (λ (e : Entry). arrived c.args.s.terms e (entries_of c.args.s.book)) c.comer_of-e.ensures
          ∙ sym
          (own-enters c.args.s.terms c.args.a (entries_of c.args.s.book)
          (sym c.is_entering.ensures ∙ c.if-is_entering.true))))) c.requires.roomy;
    }

pub returns-then-is_entering-clause-told : goal.returns-then-is_entering-clause-told
returns-then-is_entering-clause-told c =
    staged-as
    (ap (λ (e : Entry). arrived c.args.s.terms e (entries_of c.args.s.book)) c.comer_of-e.ensures
    ∙ sym
    (own-enters c.args.s.terms c.args.a (entries_of c.args.s.book)
    (sym c.is_entering.ensures ∙ c.if-is_entering.true))) c.arrive.ensures.told

pub overflow_cast-party : goal.overflow_cast-party
overflow_cast-party c =
    omega (
      arith,
      (any-party c.args.a (cancel-carries c.args.a c.if-a-eq-CANCEL_ENTRY.true)
          (tests c.args.s c.args.a (acts-accepted c.requires.acts)).party).1,
    )

pub cancel_entry-requires : goal.cancel_entry-requires
cancel_entry-requires c =
    record {
      well = c.requires.acts.whole.well;
      roomy =
          roomy-as
          (ap (λ (x : Ran (List Entry) Report). x.records)
          (own-entry c.args.s.terms c.args.a (entries_of c.args.s.book) c.if-a-eq-CANCEL_ENTRY.true)) c.requires.roomy;
    }

pub returns-then-a-eq-CANCEL_ENTRY-clause-told : goal.returns-then-a-eq-CANCEL_ENTRY-clause-told
returns-then-a-eq-CANCEL_ENTRY-clause-told c =
    staged-as (sym (own-entry c.args.s.terms c.args.a (entries_of c.args.s.book) c.if-a-eq-CANCEL_ENTRY.true))
    c.cancel_entry.ensures.told

pub overflow_cast-party-then-a-eq-CANCEL_QUOTE : goal.overflow_cast-party-then-a-eq-CANCEL_QUOTE
overflow_cast-party-then-a-eq-CANCEL_QUOTE c =
    omega (
      arith,
      (maker-within c.args.a (cancel-maker c.args.a c.if-a-eq-CANCEL_QUOTE.true)
          (tests c.args.s c.args.a (acts-accepted c.requires.acts)).party).1,
    )

pub cut_quote-requires : goal.cut_quote-requires
cut_quote-requires c =
    record {
      well = c.requires.acts.whole.well;
      roomy =
          roomy-as
          (ap (λ (x : Ran (List Entry) Report). x.records)
          (own-quote c.args.s.terms c.args.a (entries_of c.args.s.book) c.if-a-eq-CANCEL_QUOTE.true)) c.requires.roomy;
    }

pub returns-then-a-eq-CANCEL_QUOTE-clause-told : goal.returns-then-a-eq-CANCEL_QUOTE-clause-told
returns-then-a-eq-CANCEL_QUOTE-clause-told c =
    staged-as (sym (own-quote c.args.s.terms c.args.a (entries_of c.args.s.book) c.if-a-eq-CANCEL_QUOTE.true))
    c.cut_quote.ensures.told

pub note_phase-requires : goal.note_phase-requires
note_phase-requires c =
    record {
      well = c.requires.acts.whole.well;
      roomy =
          roomy-as
          (ap (λ (x : Ran (List Entry) Report). x.records)
          (own-phase c.args.s.terms c.args.a (entries_of c.args.s.book) c.if-a-eq-PHASE.true)) c.requires.roomy;
    }

pub returns-then-a-eq-PHASE-clause-told : goal.returns-then-a-eq-PHASE-clause-told
returns-then-a-eq-PHASE-clause-told c =
    staged-as (sym (own-phase c.args.s.terms c.args.a (entries_of c.args.s.book) c.if-a-eq-PHASE.true))
    c.note_phase.ensures.told

pub tell-requires : goal.tell-requires
tell-requires c =
    roomy-as
    (ap (λ (x : Ran (List Entry) Report). x.records)
    (own-noted c.args.s.terms c.args.a (entries_of c.args.s.book) (sym c.is_entering.ensures ∙ c.if-is_entering.false)
    (ne_eqb _ _ c.if-a-eq-CANCEL_ENTRY.false) (ne_eqb _ _ c.if-a-eq-CANCEL_QUOTE.false) (ne_eqb _ _ c.if-a-eq-PHASE.false))) c.requires.roomy

pub returns-clause-told : goal.returns-clause-told
returns-clause-told c =
    staged-as
    (sym
    (own-noted c.args.s.terms c.args.a (entries_of c.args.s.book) (sym c.is_entering.ensures ∙ c.if-is_entering.false)
    (ne_eqb _ _ c.if-a-eq-CANCEL_ENTRY.false) (ne_eqb _ _ c.if-a-eq-CANCEL_QUOTE.false) (ne_eqb _ _ c.if-a-eq-PHASE.false)))
    (told-staged c.args.s.book c.requires.acts.whole.well c.tell.ensures.put)
