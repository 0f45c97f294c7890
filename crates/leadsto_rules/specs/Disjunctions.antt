-- Disjunctions over the numbers of a range, and what is known of one so far.
use Rattle.std.specs.Prelude.{◌≡◌, ℕ, ◌<◌, ◌≤◌, ◌^◌, ℤ, List, map, length, Result, Ok, Err}
use Rattle.case_tables.specs.declared.code_table.Code.{Code}
use Rattle.core_terms.specs.Folding.{truth_of}
use Rattle.core_terms.specs.Places.{form_params}
use Rattle.core_terms.specs.Sizes.{form_nodes}
use Rattle.core_terms.specs.Weights.{plain_weight}
use Rattle.core_terms.specs.declared.trees.CForm.{CForm}
use Rattle.rules_table.specs.Forms.{any_of}
use Rattle.meaning_executions.specs.Counting.{count_up}
use Rattle.rules_table.specs.Numbers.{form_for}
use Rattle.safety_rules.specs.declared.places.RuleError.{RuleError}
use Rattle.leadsto_rules.specs.declared.disjunctions.Disjunction.{Disjunction}
use Rattle.leadsto_rules.specs.declared.disjunctions.Instances.{Instances}

-- the formula with the number put for the name
abbrev pub instance_at : Instances → ℤ → CForm
instance_at i z = form_for i.ranges.now i.name z i.form.now

-- at so many numbers, from one on
abbrev pub instances_at : Instances → ℤ → ℕ → List CForm
instances_at i z n = map (instance_at i) (count_up z n)

-- a number can be put for the name
pub record IsInstanced (i : Instances) : Type 0 where
  pub params : form_params i.form.now ≤ length i.ranges.now
  pub light : plain_weight i.form.now ≤ 2 ^ 62

-- the truth that stands beside a disjunction is its truth, and it has no fewer nodes than were counted
pub record DisjunctionKnown (d : Disjunction) : Type 0 where
  pub truth : d.truth ≡ truth_of d.whole
  pub nodes : d.nodes ≤ form_nodes d.whole

-- as far as it has come: so many instances, from a number on
pub record IsJoinedSoFar (i : Instances) (z : ℤ) (total : ℕ) (d : Disjunction) : Type 0 where
  pub whole : d.whole ≡ any_of (instances_at i z d.done)
  pub known : DisjunctionKnown d
  pub some : 1 ≤ d.done
  pub within : d.done ≤ total

-- the call gives the disjunction, or it has more than 65,536 nodes; want of memory says nothing
abbrev pub GivesAny : Result CForm RuleError → CForm → Type 0
GivesAny (Ok f) g = f ≡ g
GivesAny (Err (RuleError.Fault code)) g = (code ≡ Code.FormulaTooLarge) × (65536 < form_nodes g)
GivesAny (Err RuleError.Memory) g = Unit {0}
