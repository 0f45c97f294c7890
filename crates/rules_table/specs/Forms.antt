-- Formulas made of lists of formulas.
use Rattle.std.specs.Prelude.{List, [], ◌∷◌}
use Rattle.core_terms.specs.declared.trees.CForm.{CForm}
use Rattle.core_terms.specs.declared.trees.CForm.TheVariants.{Bottom}
use Rattle.core_terms.specs.Folding.{or_form, not_form}
use Rattle.fixed_points.specs.from_wp_substitution.Preconditions.{all_of}

-- a formula or one of these, from the left
abbrev pub or_any : CForm → List CForm → CForm
or_any f [] = f
or_any f (g ∷ gs) = or_any (or_form f g) gs

-- one of the formulas of a list
abbrev pub any_of : List CForm → CForm
any_of [] = Bottom
any_of (f ∷ fs) = or_any f fs

-- where all of a list hold, q does
abbrev pub imply : List CForm → CForm → CForm
imply [] q = q
imply (f ∷ fs) q = or_form (not_form (all_of (f ∷ fs))) q
