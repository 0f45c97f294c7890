use Rattle.std.proofs.Common.{[], List, Err, subst, sym, ap, ◌∙◌}
use Rattle.std.specs.Prelude.{All}
use Rattle.core_terms.specs.declared.trees.Range.{Range}
use Rattle.core_terms.specs.declared.trees.CForm.{CForm}
use Rattle.core_terms.specs.declared.programs.CSlot.{CSlot}
use Rattle.core_terms.specs.declared.programs.CProgram.{CProgram}
use Rattle.core_terms.specs.declared.documents.Ref.{Ref}
use Rattle.core_terms.specs.declared.documents.CStep.{CStep}
use Rattle.core_terms.specs.Conditions.{FormFits, IsRange}
use Rattle.fair_rounds.specs.declared.records.Record.{Record}
use Rattle.safety_rules.specs.from_rules_table.Walk.{step_site, applied, used, rule_of}
use Rattle.safety_rules.specs.Answers.{RuleAnswers}
use Rattle.rules_steps.specs.Using.{Uses}
use Rattle.rules_steps.specs.Starts.{seen_of}
use Rattle.std.specs.Prelude.{◌++◌, length}
use Rattle.core_terms.specs.Conditions.{RuleWellScoped, is_below, rule_ranges}
use Rattle.rules_steps.proofs.GoalLaws.{given_step}
use Rattle.rules_steps.proofs.StepLaws.{not_yet, not_used, not_this, given_so}
use Rattle.rules_steps.proofs.UsingLaws.{handed_back, used_fit}
use Rattle.rules_steps.proofs.ruling.step_rule.Goals as goal

pub returns-then-not-may_stand-clause-answer : goal.returns-then-not-may_stand-clause-answer
returns-then-not-may_stand-clause-answer c =
    not_yet (seen_of c.args.around.now) c.args.program.now c.args.step.now c.args.book.now
    (sym c.may_stand.ensures ∙ c.if-not-may_stand.true)

pub returns-in_err-using-clause-answer : goal.returns-in_err-using-clause-answer
returns-in_err-using-clause-answer c =
    let slots : List CSlot = c.args.around.now.slots.now in
    let p : CProgram = c.args.program.now in
    let s : CStep = c.args.step.now in
    let book : List Record = c.args.book.now in
    handed_back (λ r. RuleAnswers r slots (rule_of (seen_of c.args.around.now) p s book)) c.from_residual.result
    c.in_err-using.field-0.0 c.from_residual.ensures.1
    (not_used (seen_of c.args.around.now) p s book (sym c.may_stand.ensures ∙ c.if-not-may_stand.false)
    c.in_err-using.field-0.0
    (subst (λ (refs : List Ref). Uses (Err c.in_err-using.field-0.0) (used p book refs)) c.as_slice.ensures
    c.in_err-using.ensures))

pub returns-then-not-suits-clause-answer : goal.returns-then-not-suits-clause-answer
returns-then-not-suits-clause-answer c =
    let p : CProgram = c.args.program.now in
    let book : List Record = c.args.book.now in
    not_this (seen_of c.args.around.now) p c.args.step.now book
    (sym c.may_stand.ensures ∙ c.if-not-may_stand.false) c.in_ok-using.using
    (ap (λ (refs : List Ref). used p book refs) (sym c.as_slice.ensures) ∙ c.in_ok-using.ensures)
    (sym c.suits.ensures ∙ c.if-not-suits.true)

pub applied-answer-requires-clause-place : goal.applied-answer-requires-clause-place
applied-answer-requires-clause-place c = record {
  slots = c.requires.around.slots;
  program = c.requires.program;
  params = subst (λ (ps : List Range). All IsRange ps) (sym c.as_slice-2.ensures) c.requires.step.params;
  using = subst (λ (fs : List CForm). All (FormFits c.args.around.now.slots.now []) fs) (sym c.as_slice-3.ensures)
      (used_fit c.args.around.now.slots.now c.args.program.now c.args.book.now c.requires.book c.as_slice.result.now
      c.in_ok-using.using c.in_ok-using.ensures);
}

pub applied-answer-requires-clause-p : goal.applied-answer-requires-clause-p
applied-answer-requires-clause-p c =
    subst (λ (ps : List Range). FormFits c.args.around.now.slots.now ps c.args.step.now.p) (sym c.as_slice-2.ensures)
    c.requires.step.p

pub applied-answer-requires-clause-q : goal.applied-answer-requires-clause-q
applied-answer-requires-clause-q c =
    subst (λ (ps : List Range). FormFits c.args.around.now.slots.now ps c.args.step.now.q) (sym c.as_slice-2.ensures)
    c.requires.step.q

pub applied-answer-requires-clause-rule : goal.applied-answer-requires-clause-rule
applied-answer-requires-clause-rule c =
    let s : CStep = c.args.step.now in
    subst (λ (ps : List Range). RuleWellScoped c.args.around.now.slots.now (ps ++ rule_ranges s.rule)
    (is_below (length ps))
    (length ps)
    s.rule) (sym c.as_slice-2.ensures) c.requires.step.rule

pub returns-clause-answer : goal.returns-clause-answer
returns-clause-answer c =
    let slots : List CSlot = c.args.around.now.slots.now in
    let p : CProgram = c.args.program.now in
    let s : CStep = c.args.step.now in
    let book : List Record = c.args.book.now in
    let using : List CForm = c.in_ok-using.using in
    given_so (seen_of c.args.around.now) p s book (sym c.may_stand.ensures ∙ c.if-not-may_stand.false) using
    (ap (λ (refs : List Ref). used p book refs) (sym c.as_slice.ensures) ∙ c.in_ok-using.ensures)
    (sym c.suits.ensures ∙ c.if-not-suits.false) c.claimed.result
    (c.claimed.ensures slots (applied (seen_of c.args.around.now) (step_site slots p s using) s book s.rule)
    (subst (λ (ps : List Range). RuleAnswers c.applied-answer.result slots
    (applied (seen_of c.args.around.now)
    (record { program = p; slots = slots; params = ps; name = s.name; using = using }) s book s.rule))
    c.as_slice-2.ensures
    (subst (λ (fs : List CForm). RuleAnswers c.applied-answer.result slots
    (applied (seen_of c.args.around.now)
    (record { program = p; slots = slots; params = c.as_slice-2.result.now; name = s.name; using = fs }) s book s.rule))
    c.as_slice-3.ensures c.applied-answer.ensures)))

pub returns-clause-fits : goal.returns-clause-fits
returns-clause-fits c =
    given_step (seen_of c.args.around.now) c.args.program.now c.args.step.now c.args.book.now c.requires.around.slots
    c.requires.around.programs c.requires.program c.requires.step c.requires.book c.claimed.result
    (returns-clause-answer c)
