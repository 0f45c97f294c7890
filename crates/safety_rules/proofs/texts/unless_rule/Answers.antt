use Rattle.std.proofs.Common.{◌++◌, [], Err, None, refl, sym, subst}
use Rattle.case_tables.specs.declared.kind_table.Kind.{Kind}
use Rattle.core_terms.specs.declared.trees.CForm.{CForm}
use Rattle.rules_table.specs.Table.{Site, record_of, unless_forms, unless_of}
use Rattle.rules_table.proofs.RowEquations.{unless-is}
use Rattle.safety_rules.specs.Answers.{site_of, RuleAnswers}
use Rattle.safety_rules.proofs.AnswerLaws.{refused_goals, rule_given}
use Rattle.rules_table.proofs.TextSound.{unless_sound}
use Rattle.safety_rules.proofs.SoundLaws.{site_good, answer_stands, error_stands}
use Rattle.safety_rules.proofs.ErrorLaws.{handed_on}
use Rattle.safety_rules.proofs.texts.unless_rule.Goals as goal

pub returns-in_err-unless_goals-clause-answer : goal.returns-in_err-unless_goals-clause-answer
returns-in_err-unless_goals-clause-answer c =
    let site : Site = site_of c.args.pl.now in
    let p : CForm = c.args.p.now in
    let q : CForm = c.args.q.now in
    let e = c.in_err-unless_goals.field-0.0 in
    handed_on (λ r. RuleAnswers r site.slots (unless_of site p q)) c.from_residual.result e c.from_residual.ensures.1
    (subst (λ x. RuleAnswers (Err e) site.slots x) (sym (unless-is site p q))
    (refused_goals site.slots site.params (Unit {0}) e c.new-goals.result c.unless_goals.new.goals
    (record_of site Kind.Unless p q [] None) (unless_forms site p q) c.in_err-unless_goals.ensures))

pub returns-clause-answer : goal.returns-clause-answer
returns-clause-answer c =
    let site : Site = site_of c.args.pl.now in
    let p : CForm = c.args.p.now in
    let q : CForm = c.args.q.now in
    subst (λ x. RuleAnswers c.conclude.result site.slots x) (sym (unless-is site p q))
    (rule_given c.in_ok-unless_goals.field-0 site Kind.Unless p q c.in_ok-held_form.field-0 c.in_ok-held_form-2.field-0
    []
    ([] ++ []) None None (unless_forms site p q) c.new-goals.result c.unless_goals.new.goals c.conclude.result
    c.in_ok-held_form.ensures c.in_ok-held_form-2.ensures refl refl c.new-goals.ensures c.in_ok-unless_goals.ensures
    c.conclude.ensures)

pub returns-in_err-unless_goals-clause-sound : goal.returns-in_err-unless_goals-clause-sound
returns-in_err-unless_goals-clause-sound c =
    error_stands c.args.pl.now c.from_residual.result c.in_err-unless_goals.field-0.0 c.from_residual.ensures.1

pub returns-clause-sound : goal.returns-clause-sound
returns-clause-sound c =
    answer_stands c.args.pl.now c.conclude.result (unless_of (site_of c.args.pl.now) c.args.p.now c.args.q.now)
    (λ x e valid. unless_sound (site_of c.args.pl.now) (site_good c.args.pl.now c.requires.place) c.args.p.now
    c.args.q.now x e valid) (returns-clause-answer c)
