use Rattle.std.proofs.Common.{◌++◌, ◌∷◌, [], List, map, Err, None, Ok, refl, sym, subst, ◌∙◌}
use Rattle.case_tables.specs.declared.kind_table.Kind.{Kind}
use Rattle.core_terms.specs.declared.trees.CForm.{CForm}
use Rattle.core_terms.specs.declared.trees.CForm.TheVariants.{Bottom}
use Rattle.core_terms.specs.declared.programs.CStmt.{CStmt}
use Rattle.fixed_points.specs.FixedForms.{fixed_part}
use Rattle.rules_table.specs.Forms.{imply}
use Rattle.rules_table.specs.Table.{Site, record_of, fixed_forms, fixed_of}
use Rattle.rules_table.proofs.RowEquations.{fixed-is}
use Rattle.rules_table.proofs.TextSound.{fixed_sound}
use Rattle.safety_rules.specs.Answers.{site_of, RuleAnswers}
use Rattle.safety_rules.specs.Goals.{Added}
use Rattle.safety_rules.proofs.AnswerLaws.{refused_goals, rule_given}
use Rattle.safety_rules.proofs.SoundLaws.{site_good, answer_stands, error_stands}
use Rattle.safety_rules.proofs.ErrorLaws.{handed_on}
use Rattle.safety_rules.proofs.UsableLaws.{usable, pushed_usable}
use Rattle.safety_rules.proofs.fixing.fixed_rule.Goals as goal

pub add_fixed-requires-clause-premises : goal.add_fixed-requires-clause-premises
add_fixed-requires-clause-premises c =
    pushed_usable c.args.pl.now.slots.now c.args.pl.now.params.now c.args.pl.now.using.now c.args.p.now
    c.as_slice.result.now (c.as_slice.ensures ∙ c.in_ok-premises.ensures) c.requires.place.using
    (usable c.args.pl.now.slots.now c.args.pl.now.params.now c.args.p.now c.requires.p)

pub returns-in_err-add_fixed-clause-answer : goal.returns-in_err-add_fixed-clause-answer
returns-in_err-add_fixed-clause-answer c =
    let site : Site = site_of c.args.pl.now in
    let p : CForm = c.args.p.now in
    let e = c.in_err-add_fixed.field-0.0 in
    handed_on (λ r. RuleAnswers r site.slots (fixed_of site p)) c.from_residual-in_err-add_fixed.result e
    c.from_residual-in_err-add_fixed.ensures.1
    (subst (λ x. RuleAnswers (Err e) site.slots x) (sym (fixed-is site p))
    (refused_goals site.slots site.params (Unit {0}) e c.new-goals.result c.add_fixed.new.goals
    (record_of site Kind.Fixed p Bottom [] None) (fixed_forms site p)
    (subst (λ ps. Added {T = Unit {0}} (Err e) c.new-goals.result c.add_fixed.new.goals site.slots site.params
    (map (λ (s : CStmt). imply ps (fixed_part site.slots s)) site.program.statements))
    (c.as_slice.ensures ∙ c.in_ok-premises.ensures) c.in_err-add_fixed.ensures)))

pub returns-clause-answer : goal.returns-clause-answer
returns-clause-answer c =
    let site : Site = site_of c.args.pl.now in
    let p : CForm = c.args.p.now in
    subst (λ x. RuleAnswers c.conclude.result site.slots x) (sym (fixed-is site p))
    (rule_given c.in_ok-add_fixed.field-0 site Kind.Fixed p Bottom c.in_ok-held_form.field-0
    c.in_ok-new.field-0 []
    ([] ++ []) None None (fixed_forms site p) c.new-goals.result c.add_fixed.new.goals c.conclude.result
    c.in_ok-held_form.ensures c.in_ok-new.ensures refl refl c.new-goals.ensures
    (subst (λ ps. Added (Ok c.in_ok-add_fixed.field-0) c.new-goals.result c.add_fixed.new.goals site.slots site.params
    (map (λ (s : CStmt). imply ps (fixed_part site.slots s)) site.program.statements))
    (c.as_slice.ensures ∙ c.in_ok-premises.ensures) c.in_ok-add_fixed.ensures)
    c.conclude.ensures)

pub returns-in_err-add_fixed-clause-sound : goal.returns-in_err-add_fixed-clause-sound
returns-in_err-add_fixed-clause-sound c =
    error_stands c.args.pl.now c.from_residual-in_err-add_fixed.result c.in_err-add_fixed.field-0.0
    c.from_residual-in_err-add_fixed.ensures.1

pub returns-clause-sound : goal.returns-clause-sound
returns-clause-sound c =
    answer_stands c.args.pl.now c.conclude.result (fixed_of (site_of c.args.pl.now) c.args.p.now)
    (λ x e valid. fixed_sound (site_of c.args.pl.now) (site_good c.args.pl.now c.requires.place) c.args.p.now x e
    valid) (returns-clause-answer c)
