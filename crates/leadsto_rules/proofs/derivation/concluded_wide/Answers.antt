use Rattle.std.proofs.Common.{◌++◌, [], None, Ok, Err, refl, subst, ◌∙◌, append-nil}
use Rattle.case_tables.specs.declared.kind_table.Kind.{Kind}
use Rattle.fair_rounds.specs.declared.records.Record.{Record}
use Rattle.rules_table.specs.Table.{Site, record_of, concluded}
use Rattle.rules_table.specs.declared.led.Led.{Led}
use Rattle.safety_rules.specs.Answers.{site_of, RuleAnswers}
use Rattle.safety_rules.specs.Goals.{Added}
use Rattle.safety_rules.proofs.AnswerLaws.{refused_goals, rule_given}
use Rattle.safety_rules.proofs.ErrorLaws.{handed_on}
use Rattle.leadsto_rules.proofs.derivation.concluded_wide.Goals as goal

pub returns-in_err-add_forms : goal.returns-in_err-add_forms
returns-in_err-add_forms c =
    let site : Site = site_of c.args.wide.now in
    let led : Led = c.args.led.now in
    let made : Record = record_of site Kind.Leadsto led.p led.q led.under None in
    let e = c.in_err-add_forms.field-0.0 in
    handed_on (λ r. RuleAnswers r site.slots (concluded site.slots site.params made led.forms)) c.from_residual.result e
    c.from_residual.ensures.1
    (refused_goals site.slots site.params (Unit {0}) e c.new-goals.result c.add_forms.new.goals made led.forms
    (subst (λ fs. Added {T = Unit {0}} (Err e) c.new-goals.result c.add_forms.new.goals site.slots site.params fs)
    c.as_slice.ensures c.in_err-add_forms.ensures))

pub returns : goal.returns
returns c =
    let site : Site = site_of c.args.wide.now in
    let led : Led = c.args.led.now in
    rule_given c.in_ok-add_forms.field-0 site Kind.Leadsto led.p led.q c.in_ok-share.field-0
    c.in_ok-share-2.field-0 led.under (c.as_slice-2.result.now ++ []) None None led.forms c.new-goals.result
    c.add_forms.new.goals c.conclude.result (c.in_ok-share.ensures)
    (c.in_ok-share-2.ensures) (append-nil c.as_slice-2.result.now ∙ c.as_slice-2.ensures) refl
    c.new-goals.ensures
    (subst (λ fs. Added (Ok c.in_ok-add_forms.field-0) c.new-goals.result c.add_forms.new.goals site.slots site.params
    fs) c.as_slice.ensures c.in_ok-add_forms.ensures) c.conclude.ensures
