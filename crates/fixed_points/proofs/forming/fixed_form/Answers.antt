use Rattle.std.proofs.Common.{List, ap, map, subst, sym, ◌∙◌}
use Rattle.core_terms.specs.declared.programs.CStmt.{CStmt}
use Rattle.wp_substitution.specs.Joined.{or_top, joined_all}
use Rattle.wp_substitution.proofs.JoinedLaws.{joined_is}
use Rattle.wp_substitution.specs.Preconditions.{all_of}
use Rattle.fixed_points.specs.FixedForms.{fixed_part, HoldsWhereFixed}
use Rattle.fixed_points.proofs.FormLaws.{form_exact, form_stays}
use Rattle.fixed_points.proofs.forming.fixed_form.Goals as goal

pub returns-clause-tree : goal.returns-clause-tree
returns-clause-tree c =
    c.in_ok-owned_form.ensures ∙ c.in_ok-into_form.ensures
    ∙ ap or_top (c.in_ok-add_parts.ensures.whole
    ∙ ap (λ w. joined_all w (map (fixed_part c.args.slots.now) c.as_slice.result.now)) c.new-all.ensures.whole)
    ∙ joined_is (map (fixed_part c.args.slots.now) c.as_slice.result.now)
    ∙ ap (λ (ss : List CStmt). all_of (map (fixed_part c.args.slots.now) ss)) c.as_slice.ensures

pub returns-clause-meaning : goal.returns-clause-meaning
returns-clause-meaning c =
    subst (λ f. HoldsWhereFixed c.args.slots.now c.args.p.now f) (sym (returns-clause-tree c))
    (form_exact c.args.slots.now c.args.p.now c.requires)

pub returns-clause-stable : goal.returns-clause-stable
returns-clause-stable c =
    form_stays c.args.slots.now c.args.p.now c.in_ok-owned_form.field-0 (returns-clause-meaning c)
