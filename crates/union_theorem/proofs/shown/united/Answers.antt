use Rattle.std.proofs.Common.{◌++◌, ap, ◌∙◌}
use Rattle.fair_rounds.specs.declared.records.Record.{Record}
use Rattle.safety_rules.specs.from_rules_table.Table.{Site, record_of, concluded, shown_forms}
use Rattle.safety_rules.specs.Answers.{site_of, RuleAnswers}
use Rattle.safety_rules.proofs.AnswerLaws.{refused_goals, rule_given}
use Rattle.safety_rules.proofs.ErrorLaws.{handed_on}
use Rattle.union_theorem.proofs.shown.united.Goals as goal

pub returns-in_err-add_both_shown : goal.returns-in_err-add_both_shown
returns-in_err-add_both_shown c =
    let site : Site = site_of c.args.pl.now in
    let a : Record = c.args.a.now in
    let b : Record = c.args.b.now in
    let made : Record =
    record_of site c.args.kind c.args.p.now c.args.q.now (a.under ++ b.under) c.args.helper.now in
    let e = c.in_err-add_both_shown.field-0.0 in
    handed_on (λ r. RuleAnswers r site.slots (concluded site.slots site.params made (shown_forms site a b)))
    c.from_residual.result e c.from_residual.ensures.1
    (refused_goals site.slots site.params (Unit {0}) e c.new-goals.result c.add_both_shown.new.goals made
    (shown_forms site a b) c.in_err-add_both_shown.ensures)

pub returns : goal.returns
returns c =
    let site : Site = site_of c.args.pl.now in
    let a : Record = c.args.a.now in
    let b : Record = c.args.b.now in
    rule_given c.in_ok-add_both_shown.field-0 site c.args.kind c.args.p.now c.args.q.now c.in_ok-held_form.field-0
    c.in_ok-held_form-2.field-0 (a.under ++ b.under) (c.as_slice.result.now ++ c.as_slice-2.result.now)
    c.args.helper.now c.in_ok-copied_helper.field-0 (shown_forms site a b) c.new-goals.result
    c.add_both_shown.new.goals c.conclude.result c.in_ok-held_form.ensures c.in_ok-held_form-2.ensures
    (ap (λ u. u ++ c.as_slice-2.result.now) c.as_slice.ensures ∙ ap (λ u. a.under ++ u) c.as_slice-2.ensures)
    c.in_ok-copied_helper.ensures c.new-goals.ensures c.in_ok-add_both_shown.ensures c.conclude.ensures
