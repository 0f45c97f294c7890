-- What cores are worth at a state and numbers of the parameters.
use Rattle.std.specs.Prelude.{ℕ, ℤ, List, map}
use Rattle.meaning_states.specs.State.{State}
use Rattle.meaning_documents.specs.Names.{Bindings}
use Rattle.meaning_documents.specs.Value.{truth}
use Rattle.core_terms.specs.Values.{number_at, term_value, form_value}
use Rattle.expand_rules.specs.declared.cores.Core.{Core}
use Rattle.expand_rules.specs.declared.cores.Bound.{Bound}

-- a truth is worth 1 or 0
abbrev pub core_value : State → List ℤ → Core → ℤ
core_value state params (Core.Number t known) = term_value state params t
core_value state params (Core.Truth f known) = truth (form_value state params f)

abbrev pub bound_value : List ℤ → Bound → ℤ
bound_value params (Bound.Number z) = z
bound_value params (Bound.Param n weight) = number_at params n

-- the numbers of bound names and parameters
abbrev pub values_of : List ℤ → List (List ℕ × Bound) → Bindings
values_of params bs = map (λ b. (b.0, bound_value params b.1)) bs
