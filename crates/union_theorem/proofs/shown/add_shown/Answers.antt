use Rattle.std.proofs.Common.{◌≡◌, ℕ, ◌<◌, ◌∙◌, length, slice_index_or, List, [], map, sym, subst}
use Rattle.std.specs.Prelude.{All}
use Rattle.std.proofs.lemmas.List.{take_all}
use Rattle.std.proofs.lemmas.List.Elements.{All-get_or}
use Rattle.core_terms.specs.declared.trees.Range.{Range}
use Rattle.core_terms.specs.declared.trees.CForm.{CForm}
use Rattle.core_terms.specs.declared.programs.CSlot.{CSlot}
use Rattle.core_terms.specs.Conditions.{FormFits}
use Rattle.safety_rules.specs.from_rules_table.Forms.{imply}
use Rattle.safety_rules.specs.Usable.{IsUsable, NamesExist}
use Rattle.safety_rules.specs.Goals.{Added}
use Rattle.safety_rules.proofs.UsableLaws.{usable_closed}
use Rattle.safety_rules.proofs.AnswerLaws.{none_yet, one_more, loop_fails, all_added}
use Rattle.safety_rules.proofs.ErrorLaws.{handed_on}
use Rattle.union_theorem.proofs.shown.add_shown.Goals as goal

item_usable : (slots : List CSlot) (params : List Range) (forms : List CForm) (i : ℕ) (f : CForm) →
    f ≡ slice_index_or forms i f → i < length forms → All (FormFits slots []) forms → IsUsable slots params f
item_usable slots params forms i f item less fits =
    usable_closed slots params f
    (subst (λ g. FormFits slots [] g) (sym item) (All-get_or (FormFits slots []) forms i f less fits))

pub loop-f-init : goal.loop-f-init
loop-f-init c = none_yet c.args.pl.now.slots.now c.args.pl.now.params.now _ c.args.goals.now

pub after-requires-clause-q : goal.after-requires-clause-q
after-requires-clause-q c =
    item_usable c.args.pl.now.slots.now c.args.pl.now.params.now c.args.forms.now c.loop-f.f-index c.f-item.result
    c.f-item.is c.loop-f-test.true c.requires.forms

pub add_goal-requires-clause-names : goal.add_goal-requires-clause-names
add_goal-requires-clause-names c =
    subst (λ f. NamesExist c.args.pl.now.slots.now c.args.pl.now.params.now f) (sym c.in_ok-owned_form.ensures)
    (c.in_ok-form.ensures.usable.names)

pub returns-in_err-add_goal : goal.returns-in_err-add_goal
returns-in_err-add_goal c =
    let slots : List CSlot = c.args.pl.now.slots.now in
    let params : List Range = c.args.pl.now.params.now in
    let make : CForm → CForm = imply c.args.pl.now.using.now in
    handed_on (λ r. Added r c.args.goals.now c.add_goal.new.goals slots params (map make c.args.forms.now))
    c.from_residual-in_err-add_goal.result c.in_err-add_goal.field-0.0 c.from_residual-in_err-add_goal.ensures.1
    (loop_fails slots params (Unit {0})
    (Unit {0}) c.in_err-add_goal.field-0.0 make c.args.forms.now c.loop-f.f-index
    c.f-item.result c.in_ok-owned_form.field-0 c.args.goals.now c.loop-f.goals c.add_goal.new.goals c.loop-f-test.true
    c.f-item.is (c.in_ok-owned_form.ensures ∙ c.in_ok-form.ensures.tree) c.in_err-add_goal.ensures)

pub loop-f-preserved : goal.loop-f-preserved
loop-f-preserved c =
    one_more c.args.pl.now.slots.now c.args.pl.now.params.now c.in_ok-add_goal.field-0
    (imply c.args.pl.now.using.now) c.args.forms.now c.loop-f.f-index c.f-item.result c.in_ok-owned_form.field-0
    c.args.goals.now c.loop-f.goals c.add_goal.new.goals c.loop-f-test.true c.f-item.is
    (c.in_ok-owned_form.ensures ∙ c.in_ok-form.ensures.tree) c.loop-f.invariant c.in_ok-add_goal.ensures

pub returns : goal.returns
returns c =
    all_added c.args.pl.now.slots.now c.args.pl.now.params.now (tt {0}) (imply c.args.pl.now.using.now)
    c.args.forms.now c.loop-f.f-index c.args.goals.now c.loop-f.goals
    (take_all c.loop-f.f-index c.args.forms.now c.loop-f-test.false) c.loop-f.invariant
