use Rattle.std.proofs.Common.{◌≤◌, All, List, ap, length, map, subst, sym, ◌∙◌}
use Rattle.std.proofs.lemmas.Result.{IfOk-weaker}
use Rattle.core_terms.specs.declared.programs.CWrite.{CWrite}
use Rattle.core_terms.specs.declared.trees.CForm.{CForm}
use Rattle.core_terms.specs.Folding.{and_form}
use Rattle.core_terms.specs.Places.{form_slots, form_params}
use Rattle.wp_substitution.specs.Joined.{IsLightWrite}
use Rattle.wp_substitution.specs.Preconditions.{all_of, defined_form}
use Rattle.wp_substitution.proofs.LightLaws.{writes_light}
use Rattle.fixed_points.specs.FixedForms.{same_value, HoldsWhereLedBack}
use Rattle.fixed_points.proofs.FormLaws.{part_exact}
use Rattle.fixed_points.proofs.NamedLaws.{part_slots, part_params}
use Rattle.fixed_points.proofs.forming.fixed_part.Goals as goal

pub all_same-requires : goal.all_same-requires
all_same-requires c =
    subst (λ (ws : List CWrite). All IsLightWrite ws) (sym c.as_slice.ensures)
    (writes_light c.args.slots.now c.args.s.now c.requires)

pub returns-clause-tree : goal.returns-clause-tree
returns-clause-tree c =
    let tree = ap (λ f. and_form f c.in_ok-same.same) (c.in_ok-first.ensures ∙ c.in_ok-defined.ensures.tree)
    ∙ ap (and_form (defined_form c.args.slots.now c.args.s.now)) (c.in_ok-same.ensures.tree
    ∙ ap (λ (ws : List CWrite). all_of (map same_value ws)) c.as_slice.ensures) in
    IfOk-weaker c.joined_known.result _ _ (λ f h. h ∙ tree) c.joined_known.ensures.tree

pub returns-clause-meaning : goal.returns-clause-meaning
returns-clause-meaning c =
    IfOk-weaker c.joined_known.result _ _
    (λ (f : CForm) h. subst (λ g. HoldsWhereLedBack c.args.slots.now c.args.s.now g) (sym h)
    (part_exact c.args.slots.now c.args.s.now c.requires)) (returns-clause-tree c)

pub returns-clause-slots : goal.returns-clause-slots
returns-clause-slots c =
    IfOk-weaker c.joined_known.result _ _
    (λ (f : CForm) h. subst (λ g. form_slots g ≤ length c.args.slots.now) (sym h)
    (part_slots c.args.slots.now c.args.s.now c.requires)) (returns-clause-tree c)

pub returns-clause-params : goal.returns-clause-params
returns-clause-params c =
    IfOk-weaker c.joined_known.result _ _
    (λ (f : CForm) h. subst (λ g. form_params g ≤ 0) (sym h)
    (part_params c.args.slots.now c.args.s.now c.requires)) (returns-clause-tree c)
