-- What is known of a program's statements where they have no fault.
use Rattle.std.specs.Prelude.{◌≡◌, ℕ, [], ◌∷◌, false, Some, None, slice_get}
use Rattle.unity_syntax.specs.declared.statement.Items.{Items}
use Rattle.meaning_documents.specs.Instances.{Instance, instances}
use Rattle.expand_rules.specs.Measures.{no_flaws}
use Rattle.expand_rules.specs.Forming.{Scope}
use Rattle.expand_rules.specs.Assigning.{is_large_effect, stated}
use Rattle.expand_rules.specs.Lists.{items_fault}
use Rattle.expand_statements.specs.Building.{fit_items}

-- where statements have no fault, each end of a range is within the limit: no instance is left out
abbrev pub FitIsAll : Type 0
FitIsAll = (s : Scope) (items : Items) → items_fault s items ([] ∷ []) ≡ None → fit_items items [] ≡ instances items

-- and none of their instances is too large, or has a bad end of a range or divisor
abbrev pub FaultlessInstances : Type 0
FaultlessInstances = (s : Scope) (items : Items) → items_fault s items ([] ∷ []) ≡ None →
    (place : ℕ) (i : Instance) → slice_get (instances items) place ≡ Some i →
    (is_large_effect (stated s i).effect ≡ false) × ((stated s i).effect.count.flaws ≡ no_flaws)
