-- What is made of a formula that is too large is too large.
use Rattle.std.proofs.Common.{◌≡◌, ℕ, ◌+◌, ℤ, Bool, ◌&&◌, Option, Some, None, map, refl, sym, ap, ◌∙◌, subst, arith}
use Rattle.std.proofs.Common.{List}
use Rattle.core_terms.specs.declared.trees.CForm.{CForm, fold-roll-CForm}
use Rattle.core_terms.specs.declared.trees.CForm.TheOpen.{CForm-F}
use Rattle.core_terms.specs.declared.trees.CForm.TheVariants.{And, rolls-And}
use Rattle.core_terms.specs.declared.programs.CSlot.{CSlot}
use Rattle.core_terms.specs.declared.programs.CStmt.{CStmt}
use Rattle.core_terms.specs.Sizes.{form_size, term_size, form_nodes}
use Rattle.core_terms.specs.Folding.{joined, truth_step, number_step, truth_of, truth_or, and_form}
use Rattle.wp_substitution.specs.Preconditions.{all_of, defined_form}
use Rattle.wp_substitution.specs.Oversized.{IsOversized}
use Rattle.fixed_points.specs.FixedForms.{same_value, fixed_part}

truth-And : (f g : CForm) → truth_of (And f g) ≡ joined (λ x y. x && y) (truth_of f) (truth_of g)
truth-And f g = ap truth_of (sym (rolls-And f g)) ∙ fold-roll-CForm (Option Bool) (Option ℤ) truth_step number_step
    (CForm-F.And f g)

nodes-And : (f g : CForm) → form_nodes (And f g) ≡ 1 + form_nodes f + form_nodes g
nodes-And f g = ap form_nodes (sym (rolls-And f g)) ∙ fold-roll-CForm ℕ ℕ form_size term_size (CForm-F.And f g)

not_folded : (m : Option Bool) (f : CForm) → m ≡ None → truth_or m f ≡ f
not_folded None f e = refl
not_folded (Some b) f e = cc

none_first : (op : Bool → Bool → Bool) (m n : Option Bool) → m ≡ None → joined op m n ≡ None
none_first op None n e = refl
none_first op (Some b) n e = cc

and_first_large : (f g : CForm) → IsOversized f → IsOversized (and_form f g)
and_first_large f g large =
    let none = truth-And f g ∙ none_first (λ x y. x && y) (truth_of f) (truth_of g) large.unknown in
    subst IsOversized (sym (not_folded (truth_of (And f g)) (And f g) none))
    (record { unknown = none; nodes = omega (arith, nodes-And f g, large.nodes) })

-- where what must hold for a statement to be defined is too large, its part of the formula of fixed points is
pub part_large : (slots : List CSlot) (s : CStmt) → IsOversized (defined_form slots s) →
    IsOversized (fixed_part slots s)
part_large slots s large = and_first_large (defined_form slots s) (all_of (map same_value s.writes)) large
