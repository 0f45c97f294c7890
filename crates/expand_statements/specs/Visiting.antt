-- Where the code stands in an instance of a statement, and what it answers of it.
use Rattle.std.specs.Prelude.{◌≡◌, ℕ, ℤ, pos, List, [], ◌∷◌, true, false, Option, Result, Ok, Err}
use Rattle.names_rules.specs.declared.named.NameFault.{NameFault}
use Rattle.names_rules.specs.Scope.{entries}
use Rattle.names_rules.specs.Reading.{Fault}
use Rattle.names_rules.specs.Answers.{Stops}
use Rattle.expand_rules.specs.declared.cores.Bound.{Bound}
use Rattle.expand_rules.specs.declared.cores.Flaws.{Flaws}
use Rattle.expand_rules.specs.declared.effects.Effect.{Effect}
use Rattle.expand_rules.specs.Forming.{Scope}
use Rattle.expand_rules.specs.Assigning.{is_large_effect}
use Rattle.expand_rules.specs.Lists.{flaws_fault}
use Rattle.expand_expressions.specs.declared.places.Known.{Known}
use Rattle.expand_expressions.specs.declared.refusal.Refusal.{Refusal}
use Rattle.expand_expressions.specs.Places.{variables_of}
use Rattle.expand_statements.specs.Chains.{BoundNames}

-- a document's scope, among bound names
abbrev pub scope_among : Known → List (List ℕ × Bound) → Scope
scope_among known bs = record {
  variables = variables_of (entries known.variables.now);
  words = entries known.values.now;
  always = entries known.always.now;
  bound = bs;
}

-- names with numbers, both the outermost first, inside other bound names; 0 where a number is missing
abbrev pub bounds_inside : List (List ℕ × Bound) → BoundNames → List ℤ → List (List ℕ × Bound)
bounds_inside bs [] zs = bs
bounds_inside bs (n ∷ ns) [] = bounds_inside ((n, Bound.Number (pos 0)) ∷ bs) ns []
bounds_inside bs (n ∷ ns) (z ∷ zs) = bounds_inside ((n, Bound.Number z) ∷ bs) ns zs

-- a call gives what fails in an effect, or stops because the effect is too large
abbrev pub GivesFlaws : Result Flaws Refusal → Effect → Type 0
GivesFlaws (Ok flaws) e = (is_large_effect e ≡ false) × (flaws ≡ e.count.flaws)
GivesFlaws (Err Refusal.Memory) e = Unit {0}
GivesFlaws (Err Refusal.TooLarge) e = is_large_effect e ≡ true

-- a call gives what fails, at whose first place the fault is, or stops at another fault
abbrev pub GivesFault : Result Flaws NameFault → Option Fault → Type 0
GivesFault (Ok flaws) fault = fault ≡ flaws_fault flaws
GivesFault (Err e) fault = Stops e fault
