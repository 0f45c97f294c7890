-- What calls add to an effect.
use Rattle.std.specs.Prelude.{◌≡◌, ◌^◌, ℕ, ℤ, true, false, Result, Ok, Err, List, ◌∷◌, map, fold, ◌&&◌, ◌||◌, not}
use Rattle.std.specs.Prelude.{Bool, Option, nat_le}
use Rattle.core_terms.specs.declared.trees.CTerm.{CTerm}
use Rattle.core_terms.specs.declared.trees.CTerm.TheVariants.{Const}
use Rattle.core_terms.specs.declared.trees.CForm.{CForm}
use Rattle.core_terms.specs.declared.programs.CWrite.{CWrite}
use Rattle.core_terms.specs.Folding.{difference_term, zero_form, and_form}
use Rattle.expand_rules.specs.declared.effects.Count.{Count}
use Rattle.expand_rules.specs.declared.effects.Effect.{Effect}
use Rattle.expand_rules.specs.Counts.{no_count, both_counts, one_node_more, ranged_count}
use Rattle.expand_rules.specs.Assigning.{exactly, indexed_effect, nothing, beside, one_more, alternative_effect}
use Rattle.expand_rules.specs.Assigning.{quantified_effect, effect_of, is_large_effect}
use Rattle.unity_syntax.specs.declared.name.Name.{Name}
use Rattle.unity_syntax.specs.declared.name.Range.{Range}
use Rattle.unity_syntax.specs.declared.statement.Target.{Target}
use Rattle.unity_syntax.specs.declared.statement.Alts.{Alts}
use Rattle.unity_syntax.specs.declared.statement.Assign.{Assign}
use Rattle.meaning_documents.specs.Writes.{alternatives}
use Rattle.expand_rules.specs.declared.cores.Formed.{Formed}
use Rattle.meaning_documents.specs.Names.{Variable}
use Rattle.unity_syntax.specs.declared.expression.Expr.{Expr}
use Rattle.expand_rules.specs.Measures.{no_flaws}
use Rattle.expand_rules.specs.Forming.{Scope, with_number, numbers, fit_values, unwritten_count}
use Rattle.expand_rules.specs.Limits.{is_past}
use Rattle.expand_expressions.specs.declared.refusal.Refusal.{Refusal}
use Rattle.expand_expressions.specs.declared.operations.NumberCore.{NumberCore}
use Rattle.expand_expressions.specs.declared.operations.TruthCore.{TruthCore}
use Rattle.expand_expressions.specs.Sound.{IsSound, of_number, of_truth}
use Rattle.expand_assignments.specs.declared.places.ArraySlots.{ArraySlots}

-- an effect with one more part counted
abbrev pub with_count : Effect → Count → Effect
with_count e part = record e { count = both_counts e.count part }

-- a call counts a part, or stops exactly where the whole is too large
abbrev pub CountsPart : Result (Unit {0}) Refusal → Effect → Effect → Count → Type 0
CountsPart (Ok t) old new part = (new ≡ with_count old part) × (is_large_effect (with_count old part) ≡ false)
CountsPart (Err Refusal.Memory) old new part = Unit {0}
CountsPart (Err Refusal.TooLarge) old new part = is_large_effect (with_count old part) ≡ true

-- a call that adds an effect stops only where both together are too large; want of memory says nothing
abbrev pub StopsAdding : Refusal → Effect → Effect → Type 0
StopsAdding Refusal.Memory old e = Unit {0}
StopsAdding Refusal.TooLarge old e = is_large_effect (beside old e) ≡ true

-- a call puts an effect beside what there is, or stops
abbrev pub Adds : Result (Unit {0}) Refusal → Effect → Effect → Effect → Type 0
Adds (Ok t) old new e = new ≡ beside old e
Adds (Err refusal) old new e = StopsAdding refusal old e

-- a call puts effects beside what there is, one after another, or stops where all together are too large
abbrev pub AddsAll : Result (Unit {0}) Refusal → Effect → Effect → List Effect → Type 0
AddsAll (Ok t) old new es = new ≡ fold beside old es
AddsAll (Err Refusal.Memory) old new es = Unit {0}
AddsAll (Err Refusal.TooLarge) old new es = is_large_effect (fold beside old es) ≡ true

-- one node of its own: an alternative, an instance of a component, or a quantifier
abbrev pub one_node : Count
one_node = record { size = 1; most = 0; flaws = no_flaws }

-- a call gives a number
abbrev pub GivesNumber : Result NumberCore Refusal → Formed → Type 0
GivesNumber (Ok n) a = (of_number n ≡ a) × IsSound (of_number n)
GivesNumber (Err Refusal.Memory) a = Unit {0}
GivesNumber (Err Refusal.TooLarge) a = is_past a ≡ true

-- a call gives a truth
abbrev pub GivesTruth : Result TruthCore Refusal → Formed → Type 0
GivesTruth (Ok c) a = (of_truth c ≡ a) × IsSound (of_truth c)
GivesTruth (Err Refusal.Memory) a = Unit {0}
GivesTruth (Err Refusal.TooLarge) a = is_past a ≡ true

-- the lowest and the highest index of an array
abbrev pub slot_ends : ArraySlots → ℤ × ℤ
slot_ends slots = (slots.ends.lo, slots.ends.hi)

-- the write of one slot, where an index is that slot's
abbrev pub spread_write : CTerm → ℤ → ℕ → CForm → CTerm → CWrite
spread_write e number slot c v =
    record { slot = slot; when = and_form c (zero_form (difference_term e (Const number))); value = v }

-- an effect, exact only where this is so, and with this place of a bad range
abbrev pub with_range : Bool → Option ℕ → Effect → Effect
with_range fixed place e = record e {
  exact = e.exact && fixed;
  count = ranged_count place e.count;
}

-- what an assignment of alternatives to targets becomes
abbrev pub set_effect : Scope → Target → List Target → Alts → Effect
set_effect s first rest alts = one_more
    (fold beside nothing (map (alternative_effect s (first ∷ rest)) (alternatives alts.values alts.condition)))

-- and one for each number of a range
abbrev pub each_effect : Scope → Name → Range → Assign → Effect
each_effect s name range of = quantified_effect s.bound range
    (fold beside nothing (map (λ z. effect_of of (with_number s name.text z)) (fit_values (numbers s.bound) range)))

-- a write at an index that is not known to be outside
abbrev pub written_effect : Formed → Option Variable → Formed → Formed → Effect
written_effect i x c v = exactly (v.exact && i.exact) (indexed_effect i x c v)

-- too much counts
abbrev pub is_large_count : Count → Bool
is_large_count n = not (nat_le n.most (2 ^ 62)) || not (nat_le n.size 65536)

-- a call gives a count, or stops exactly where it is too large; want of memory says nothing
abbrev pub TellsCount : Result Count Refusal → Count → Type 0
TellsCount (Ok n) m = n ≡ m
TellsCount (Err Refusal.Memory) m = Unit {0}
TellsCount (Err Refusal.TooLarge) m = is_large_count m ≡ true

-- what counts of an instance of a quantifier in a value that is written nowhere, and of all of them
abbrev pub inside_count : Scope → Name → Expr → ℤ → Count
inside_count s name of z = one_node_more (unwritten_count of (with_number s name.text z))

abbrev pub instances_count : Scope → Name → Expr → List ℤ → Count
instances_count s name of zs = fold both_counts no_count (map (inside_count s name of) zs)
