use Rattle.std.proofs.Common.{◌≡◌, ◌≤◌, All, length, sym, ap, ◌∙◌, subst}
use Rattle.core_terms.specs.declared.trees.CForm.{CForm}
use Rattle.core_terms.specs.declared.programs.CSlot.{CSlot}
use Rattle.core_terms.specs.declared.programs.CWrite.{CWrite}
use Rattle.core_terms.specs.declared.programs.CStmt.{CStmt}
use Rattle.core_terms.specs.Values.{form_value}
use Rattle.core_terms.specs.Places.{form_slots, form_params}
use Rattle.core_terms.specs.Folding.{and_form}
use Rattle.std.specs.Prelude.{List}
use Rattle.wp_substitution.specs.Preconditions.{defined_form, form_after, wp_form}
use Rattle.wp_substitution.specs.Joined.{IsLightWrite}
use Rattle.wp_substitution.proofs.LightLaws.{outside_light, writes_light}
use Rattle.wp_substitution.proofs.NamedLaws.{wp_slots, wp_params}
use Rattle.wp_substitution.proofs.ExactLaws.{precondition}
use Rattle.wp_substitution.proofs.preconditions.wp.Goals as goal

pub held_defined-requires-clause-outside : goal.held_defined-requires-clause-outside
held_defined-requires-clause-outside c = outside_light c.args.slots.now c.args.s.now c.requires.statement

pub held_defined-requires-clause-writes : goal.held_defined-requires-clause-writes
held_defined-requires-clause-writes c = writes_light c.args.slots.now c.args.s.now c.requires.statement

pub held_after-requires-clause-writes : goal.held_after-requires-clause-writes
held_after-requires-clause-writes c =
    subst (λ ws. All IsLightWrite ws) (sym c.as_slice.ensures)
    (writes_light c.args.slots.now c.args.s.now c.requires.statement)

-- what the parts are, the whole is
joined : (slots : List CSlot) (s : CStmt) (q defined after whole f : CForm) (ws : List CWrite) → ws ≡ s.writes →
    defined ≡ defined_form slots s → after ≡ form_after ws q → whole ≡ and_form defined after → f ≡ whole →
    f ≡ wp_form slots s q
joined slots s q defined after whole f ws ew ed ea e h =
    h ∙ e ∙ ap (λ x. and_form x after) ed
    ∙ ap (λ x. and_form (defined_form slots s) x) (ea ∙ ap (λ xs. form_after xs q) ew)

pub returns-clause-tree : goal.returns-clause-tree
returns-clause-tree c =
    joined c.args.slots.now c.args.s.now c.args.q.now c.in_ok-defined.defined c.in_ok-after.after
    c.in_ok-joined_known.field-0 c.in_ok-owned_form.field-0 c.as_slice.result.now c.as_slice.ensures
    c.in_ok-defined.ensures.tree c.in_ok-after.ensures.tree c.in_ok-joined_known.ensures.tree c.in_ok-owned_form.ensures

pub returns-clause-meaning : goal.returns-clause-meaning
returns-clause-meaning c state params is =
    ap (form_value state params) (returns-clause-tree c)
    ∙ precondition c.args.slots.now c.args.s.now c.args.q.now c.requires.statement state params is

pub returns-clause-slots : goal.returns-clause-slots
returns-clause-slots c =
    subst (λ f. form_slots f ≤ length c.args.slots.now) (sym (returns-clause-tree c))
    (wp_slots c.args.slots.now c.args.s.now c.args.q.now c.requires.statement c.requires.slots_exist)

pub returns-clause-params : goal.returns-clause-params
returns-clause-params c =
    subst (λ f. form_params f ≤ form_params c.args.q.now) (sym (returns-clause-tree c))
    (wp_params c.args.slots.now c.args.s.now c.args.q.now c.requires.statement)
