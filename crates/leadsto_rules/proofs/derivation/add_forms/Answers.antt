use Rattle.std.proofs.Common.{List, Ok, Err, sym, subst}
use Rattle.std.proofs.lemmas.List.{take_all}
use Rattle.std.proofs.lemmas.List.Elements.{All-get_or}
use Rattle.core_terms.specs.declared.trees.Range.{Range}
use Rattle.core_terms.specs.declared.trees.CForm.{CForm}
use Rattle.core_terms.specs.declared.programs.CSlot.{CSlot}
use Rattle.safety_rules.specs.Usable.{NamesExist}
use Rattle.safety_rules.specs.Goals.{Added}
use Rattle.safety_rules.proofs.AnswerLaws.{none_yet, one_more, loop_fails, all_added}
use Rattle.safety_rules.proofs.ErrorLaws.{handed_on}
use Rattle.leadsto_rules.proofs.DeriveLaws.{same_forms}
use Rattle.leadsto_rules.proofs.derivation.add_forms.Goals as goal

pub loop-f-init : goal.loop-f-init
loop-f-init c = none_yet c.args.wide.now.slots.now c.args.wide.now.params.now _ c.args.goals.now

pub add_goal-requires-clause-names : goal.add_goal-requires-clause-names
add_goal-requires-clause-names c =
    let slots : List CSlot = c.args.wide.now.slots.now in
    let params : List Range = c.args.wide.now.params.now in
    subst (λ f. NamesExist slots params f) (sym c.in_ok-form.ensures)
    (subst (λ f. NamesExist slots params f) (sym c.f-item.is)
    (All-get_or (NamesExist slots params) c.args.forms.now c.loop-f.f-index c.f-item.result c.loop-f-test.true
    c.requires.forms))

pub returns-in_err-add_goal : goal.returns-in_err-add_goal
returns-in_err-add_goal c =
    let slots : List CSlot = c.args.wide.now.slots.now in
    let params : List Range = c.args.wide.now.params.now in
    let make : CForm → CForm = λ f. f in
    let forms : List CForm = c.args.forms.now in
    handed_on (λ r. Added r c.args.goals.now c.add_goal.new.goals slots params forms)
    c.from_residual-in_err-add_goal.result c.in_err-add_goal.field-0.0 c.from_residual-in_err-add_goal.ensures.1
    (subst (λ fs. Added {T = Unit {0}} (Err c.in_err-add_goal.field-0.0) c.args.goals.now c.add_goal.new.goals slots
    params fs) (same_forms forms)
    (loop_fails slots params (Unit {0}) (Unit {0}) c.in_err-add_goal.field-0.0 make forms c.loop-f.f-index
    c.f-item.result c.in_ok-form.form c.args.goals.now c.loop-f.goals c.add_goal.new.goals c.loop-f-test.true
    c.f-item.is c.in_ok-form.ensures c.in_err-add_goal.ensures))

pub loop-f-preserved : goal.loop-f-preserved
loop-f-preserved c =
    one_more c.args.wide.now.slots.now c.args.wide.now.params.now c.in_ok-add_goal.field-0 (λ (f : CForm). f)
    c.args.forms.now c.loop-f.f-index c.f-item.result c.in_ok-form.form c.args.goals.now c.loop-f.goals
    c.add_goal.new.goals c.loop-f-test.true c.f-item.is c.in_ok-form.ensures c.loop-f.invariant
    c.in_ok-add_goal.ensures

pub returns : goal.returns
returns c =
    let slots : List CSlot = c.args.wide.now.slots.now in
    let params : List Range = c.args.wide.now.params.now in
    let make : CForm → CForm = λ f. f in
    let forms : List CForm = c.args.forms.now in
    subst (λ fs. Added (Ok (tt {0})) c.args.goals.now c.loop-f.goals slots params fs) (same_forms forms)
    (all_added slots params (tt {0}) make forms c.loop-f.f-index c.args.goals.now c.loop-f.goals
    (take_all c.loop-f.f-index forms c.loop-f-test.false) c.loop-f.invariant)
