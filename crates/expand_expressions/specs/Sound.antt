-- What holds of a core and its measure, so that folding never meets a number that is too large.
use Rattle.std.specs.Prelude.{◌≡◌, ◌^◌, ◌<◌, ◌≤◌, Bool, true, false, Result, Ok, Err}
use Rattle.core_terms.specs.Folding.{number_of, truth_of}
use Rattle.core_terms.specs.Weights.{plain_weights, plain_weight}
use Rattle.expand_rules.specs.declared.cores.Core.{Core}
use Rattle.expand_rules.specs.declared.cores.Measure.{Measure}
use Rattle.expand_rules.specs.declared.cores.Formed.{Formed}
use Rattle.expand_rules.specs.Limits.{is_past, is_too_large}
use Rattle.expand_expressions.specs.declared.refusal.Refusal.{Refusal}
use Rattle.expand_expressions.specs.declared.operations.NumberCore.{NumberCore}
use Rattle.expand_expressions.specs.declared.operations.TruthCore.{TruthCore}

-- what stands beside the tree is known of it, and it weighs no more than is counted
abbrev pub FitsMeasure : Core → Measure → Type 0
FitsMeasure (Core.Number t known) m =
    (known ≡ number_of t) × ((plain_weights t).own ≤ m.own) × ((plain_weights t).most ≤ m.most)
FitsMeasure (Core.Truth f known) m = (known ≡ truth_of f) × (plain_weight f ≤ m.most)

pub record IsSound (a : Formed) : Type 0 where
  pub fits : FitsMeasure a.core a.measure
  pub least : a.measure.own ≤ a.measure.most
  pub size : a.measure.size ≤ 65537

-- a call gives this, or stops because what this is a part of is too large; want of memory says nothing
abbrev pub GivesCore : Result Formed Refusal → Formed → Type 0
GivesCore (Ok a) b = a ≡ b
GivesCore (Err Refusal.Memory) b = Unit {0}
GivesCore (Err Refusal.TooLarge) b = is_past b ≡ true

-- a number, and a truth, as what they are
abbrev pub of_number : NumberCore → Formed
of_number n = record { core = Core.Number n.term n.known; constant = n.constant; exact = n.exact; measure = n.measure }

abbrev pub of_truth : TruthCore → Formed
of_truth n = record { core = Core.Truth n.form n.known; constant = n.constant; exact = n.exact; measure = n.measure }

abbrev pub is_truth_core : Core → Bool
is_truth_core (Core.Truth f known) = true
is_truth_core (Core.Number t known) = false

-- a call gives this, or stops because it weighs too much
abbrev pub GivesLight : Result Formed Refusal → Formed → Type 0
GivesLight (Ok a) b = a ≡ b
GivesLight (Err Refusal.Memory) b = Unit {0}
GivesLight (Err Refusal.TooLarge) b = 2 ^ 62 < b.measure.most

-- a call gives this, or stops because this is too large
abbrev pub GivesWhole : Result Formed Refusal → Formed → Type 0
GivesWhole (Ok a) b = a ≡ b
GivesWhole (Err Refusal.Memory) b = Unit {0}
GivesWhole (Err Refusal.TooLarge) b = is_too_large b ≡ true
