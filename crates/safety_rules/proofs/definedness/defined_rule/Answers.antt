use Rattle.std.proofs.Common.{◌++◌, [], Bool, Err, None, refl, sym, ◌∙◌, arith}
use Rattle.case_tables.specs.declared.kind_table.Kind.{Kind}
use Rattle.case_tables.specs.declared.code_table.Code.{Code}
use Rattle.core_terms.specs.declared.trees.CForm.TheVariants.{Top}
use Rattle.core_terms.specs.Values.{form_value}
use Rattle.wp_substitution.proofs.AfterLaws.{length_of_state}
use Rattle.rules_table.specs.Table.{Site, record_of, defined_forms, defined_of}
use Rattle.rules_table.proofs.RowEquations.{defined-is}
use Rattle.rules_table.proofs.TextSound.{defined_sound}
use Rattle.safety_rules.specs.Answers.{site_of, RuleAnswers}
use Rattle.safety_rules.proofs.AnswerLaws.{needs_met, needs_not, refused_goals, rule_given, refused, given_by}
use Rattle.safety_rules.proofs.ErrorLaws.{handed_on}
use Rattle.safety_rules.proofs.SoundLaws.{site_good, answer_stands, error_stands}
use Rattle.safety_rules.proofs.StateLaws.{light_at}
use Rattle.safety_rules.proofs.definedness.defined_rule.Goals as goal

pub holds-requires-clause-slots : goal.holds-requires-clause-slots
holds-requires-clause-slots c =
    let same = length_of_state c.args.pl.now.slots.now c.args.start.now c.requires.start in
    let few = c.requires.place.program.initially.slots_exist in
    omega (arith, same, few)

pub holds-requires-clause-weight : goal.holds-requires-clause-weight
holds-requires-clause-weight c =
    light_at c.args.pl.now.slots.now c.args.start.now c.args.pl.now.program.now.initially c.requires.start
    c.requires.place.program.initially

pub returns-then-not-holds-clause-answer : goal.returns-then-not-holds-clause-answer
returns-then-not-holds-clause-answer c =
    let site : Site = site_of c.args.pl.now in
    let starts : Bool = form_value c.args.start.now [] site.program.initially in
    refused site.slots Code.NoStart (defined_of site starts)
    (defined-is site starts ∙ needs_not starts Code.NoStart _ (sym c.holds.ensures ∙ c.if-not-holds.true))

pub returns-in_err-add_defined-clause-answer : goal.returns-in_err-add_defined-clause-answer
returns-in_err-add_defined-clause-answer c =
    let site : Site = site_of c.args.pl.now in
    let starts : Bool = form_value c.args.start.now [] site.program.initially in
    let e = c.in_err-add_defined.field-0.0 in
    handed_on (λ r. RuleAnswers r site.slots (defined_of site starts)) c.from_residual.result e
    c.from_residual.ensures.1
    (given_by site.slots (Err e) (defined_of site starts) _
    (defined-is site starts ∙ needs_met starts Code.NoStart _ (sym c.holds.ensures ∙ c.if-not-holds.false))
    (refused_goals site.slots site.params (Unit {0}) e c.new-goals.result c.add_defined.new.goals
    (record_of site Kind.Defined Top Top [] None) (defined_forms site) c.in_err-add_defined.ensures))

pub returns-in_err-add_defined-clause-sound : goal.returns-in_err-add_defined-clause-sound
returns-in_err-add_defined-clause-sound c =
    error_stands c.args.pl.now c.from_residual.result c.in_err-add_defined.field-0.0 c.from_residual.ensures.1

pub returns-clause-answer : goal.returns-clause-answer
returns-clause-answer c =
    let site : Site = site_of c.args.pl.now in
    let starts : Bool = form_value c.args.start.now [] site.program.initially in
    given_by site.slots c.conclude.result (defined_of site starts) _
    (defined-is site starts ∙ needs_met starts Code.NoStart _ (sym c.holds.ensures ∙ c.if-not-holds.false))
    (rule_given c.in_ok-add_defined.field-0 site Kind.Defined Top Top c.in_ok-new.field-0 c.in_ok-new-2.field-0 []
    ([] ++ []) None None (defined_forms site) c.new-goals.result c.add_defined.new.goals c.conclude.result
    c.in_ok-new.ensures c.in_ok-new-2.ensures refl refl c.new-goals.ensures c.in_ok-add_defined.ensures
    c.conclude.ensures)

pub returns-clause-sound : goal.returns-clause-sound
returns-clause-sound c =
    let starts : Bool = form_value c.args.start.now [] c.args.pl.now.program.now.initially in
    answer_stands c.args.pl.now c.conclude.result (defined_of (site_of c.args.pl.now) starts)
    (λ x e valid. defined_sound (site_of c.args.pl.now) (site_good c.args.pl.now c.requires.place) starts x e valid)
    (returns-clause-answer c)
