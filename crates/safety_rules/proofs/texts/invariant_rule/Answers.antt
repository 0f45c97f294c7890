use Rattle.std.proofs.Common.{◌++◌, [], Err, None, refl, sym, subst}
use Rattle.case_tables.specs.declared.kind_table.Kind.{Kind}
use Rattle.core_terms.specs.declared.trees.CForm.{CForm}
use Rattle.core_terms.specs.declared.trees.CForm.TheVariants.{Bottom}
use Rattle.rules_table.specs.Table.{Site, record_of, invariant_forms, invariant_of}
use Rattle.rules_table.proofs.RowEquations.{invariant-is}
use Rattle.safety_rules.specs.Answers.{site_of, RuleAnswers}
use Rattle.safety_rules.proofs.AnswerLaws.{refused_goals, rule_given}
use Rattle.rules_table.proofs.TextSound.{invariant_sound}
use Rattle.safety_rules.proofs.SoundLaws.{site_good, answer_stands, error_stands}
use Rattle.safety_rules.proofs.ErrorLaws.{handed_on}
use Rattle.safety_rules.proofs.texts.invariant_rule.Goals as goal

pub returns-in_err-invariant_goals-clause-answer : goal.returns-in_err-invariant_goals-clause-answer
returns-in_err-invariant_goals-clause-answer c =
    let site : Site = site_of c.args.pl.now in
    let p : CForm = c.args.p.now in
    let e = c.in_err-invariant_goals.field-0.0 in
    handed_on (λ r. RuleAnswers r site.slots (invariant_of site p)) c.from_residual.result e c.from_residual.ensures.1
    (subst (λ x. RuleAnswers (Err e) site.slots x) (sym (invariant-is site p))
    (refused_goals site.slots site.params (Unit {0}) e c.new-goals.result c.invariant_goals.new.goals
    (record_of site Kind.Invariant p Bottom [] None) (invariant_forms site p) c.in_err-invariant_goals.ensures))

pub returns-clause-answer : goal.returns-clause-answer
returns-clause-answer c =
    let site : Site = site_of c.args.pl.now in
    let p : CForm = c.args.p.now in
    subst (λ x. RuleAnswers c.conclude.result site.slots x) (sym (invariant-is site p))
    (rule_given c.in_ok-invariant_goals.field-0 site Kind.Invariant p Bottom c.in_ok-held_form.field-0
    c.in_ok-new.field-0 []
    ([] ++ []) None None (invariant_forms site p) c.new-goals.result c.invariant_goals.new.goals c.conclude.result
    c.in_ok-held_form.ensures c.in_ok-new.ensures refl refl c.new-goals.ensures c.in_ok-invariant_goals.ensures
    c.conclude.ensures)

pub returns-in_err-invariant_goals-clause-sound : goal.returns-in_err-invariant_goals-clause-sound
returns-in_err-invariant_goals-clause-sound c =
    error_stands c.args.pl.now c.from_residual.result c.in_err-invariant_goals.field-0.0 c.from_residual.ensures.1

pub returns-clause-sound : goal.returns-clause-sound
returns-clause-sound c =
    answer_stands c.args.pl.now c.conclude.result (invariant_of (site_of c.args.pl.now) c.args.p.now)
    (λ x e valid. invariant_sound (site_of c.args.pl.now) (site_good c.args.pl.now c.requires.place) c.args.p.now x e
    valid) (returns-clause-answer c)
