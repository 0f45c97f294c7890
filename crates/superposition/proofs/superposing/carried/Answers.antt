use Rattle.std.proofs.Common.{◌++◌, ◌∷◌, [], List, Option, sym, ◌∙◌, subst, append-nil}
use Rattle.core_terms.specs.declared.documents.Helper.{Helper}
use Rattle.core_terms.specs.declared.programs.CProgram.{CProgram}
use Rattle.core_terms.specs.declared.trees.CForm.{CForm}
use Rattle.fair_rounds.specs.declared.records.Record.{Record}
use Rattle.safety_rules.specs.from_rules_table.Layers.{helper_over, record_over, starts_below}
use Rattle.safety_rules.specs.from_rules_table.Table.{Site, record_of, concluded}
use Rattle.safety_rules.specs.Answers.{site_of, RuleAnswers}
use Rattle.safety_rules.proofs.UsableLaws.{usable_closed}
use Rattle.safety_rules.proofs.AnswerLaws.{refused_goals, rule_given}
use Rattle.safety_rules.proofs.ErrorLaws.{handed_on}
use Rattle.safety_rules.proofs.BoundLaws.{within_is}
use Rattle.superposition.proofs.superposing.carried.Goals as goal

pub add_follows-requires-clause-q : goal.add_follows-requires-clause-q
add_follows-requires-clause-q c =
    usable_closed c.args.pl.now.slots.now c.args.pl.now.params.now c.args.pl.now.program.now.initially
    c.requires.place.program.initially

pub add_follows-requires-clause-r : goal.add_follows-requires-clause-r
add_follows-requires-clause-r c =
    usable_closed c.args.pl.now.slots.now c.args.pl.now.params.now c.args.f.now.initially c.requires.under.initially

pub returns-in_err-add_follows : goal.returns-in_err-add_follows
returns-in_err-add_follows c =
    let site : Site = site_of c.args.pl.now in
    let f : CProgram = c.args.f.now in
    let a : Record = c.args.a.now in
    let e = c.in_err-add_follows.field-0.0 in
    handed_on (λ x. RuleAnswers x site.slots
    (concluded site.slots site.params (record_over site f a) (starts_below site f ∷ []))) c.from_residual.result e
    c.from_residual.ensures.1
    (refused_goals site.slots site.params (Unit {0}) e c.new-goals.result c.add_follows.new.goals
    (record_over site f a) (starts_below site f ∷ []) c.in_err-add_follows.ensures)

pub returns : goal.returns
returns c =
    let site : Site = site_of c.args.pl.now in
    let f : CProgram = c.args.f.now in
    let a : Record = c.args.a.now in
    let forms : List CForm = starts_below site f ∷ [] in
    let helper : Option Helper = helper_over site.program f a.helper in
    let made : Record = record_of site a.kind a.p a.q a.under helper in
    subst (λ row. RuleAnswers c.lengthened.result site.slots row)
    (sym (within_is site.slots site.params a.bound made forms))
    (c.lengthened.ensures site.slots (concluded site.slots site.params made forms)
    (rule_given c.in_ok-add_follows.field-0 site a.kind a.p a.q c.in_ok-held_form.field-0 c.in_ok-held_form-2.field-0
    a.under (c.as_slice.result.now ++ []) helper c.in_ok-helper_over.field-0 forms c.new-goals.result
    c.add_follows.new.goals c.conclude.result c.in_ok-held_form.ensures c.in_ok-held_form-2.ensures
    (append-nil c.as_slice.result.now ∙ c.as_slice.ensures) c.in_ok-helper_over.ensures c.new-goals.ensures
    c.in_ok-add_follows.ensures c.conclude.ensures))
