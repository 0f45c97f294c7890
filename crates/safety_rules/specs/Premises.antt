-- Formulas joined one after the other, as the premises of an implication.
use Rattle.std.specs.Prelude.{◌≤◌, ◌^◌, Option, Some, None}
use Rattle.core_terms.specs.declared.trees.CForm.{CForm}
use Rattle.core_terms.specs.Folding.{or_form, not_form}
use Rattle.core_terms.specs.Weights.{plain_weight}
use Rattle.wp_substitution.specs.Joined.{or_top}

-- where the premises hold, if there are some, q does
abbrev pub implied_by : Option CForm → CForm → CForm
implied_by None q = q
implied_by (Some f) q = or_form (not_form f) q

-- premises of this weight at most, where slots and parameters weigh 1
abbrev pub PremisesAreLight : Option CForm → Type 0
PremisesAreLight whole = plain_weight (or_top whole) ≤ 2 ^ 62
