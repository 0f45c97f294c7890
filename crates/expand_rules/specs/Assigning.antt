-- What assignments become: guarded writes, and formulas that hold where an index is outside its array; and how large
-- they are before folding.
use Rattle.std.specs.Prelude.{ℕ, zero, suc, ◌+◌, ◌*◌, ◌^◌, max, ℤ, pos, ◌+ℤ◌, List, [], ◌∷◌, ◌++◌, map, fold, Bool}
use Rattle.std.specs.Prelude.{true, false, cond, not, ◌&&◌, ◌||◌, Option, Some, None, option_map, nat_le}
use Rattle.std.specs.Int.RustNames.{unsigned_abs}
use Rattle.std.specs.Option.{option_and_then, is_some}
use Rattle.names_rules.specs.from_unity_syntax.declared.expression.Expr.{Expr}
use Rattle.names_rules.specs.from_unity_syntax.declared.name.Range.{Range}
use Rattle.names_rules.specs.from_unity_syntax.declared.statement.Target.{Target}
use Rattle.names_rules.specs.from_unity_syntax.declared.statement.Component.{Component, fold-Component}
use Rattle.names_rules.specs.from_unity_syntax.declared.statement.Component.TheOpen.{Component-F, Assign-F}
use Rattle.names_rules.specs.from_unity_syntax.declared.statement.Assign.{Assign, fold-Assign}
use Rattle.names_rules.specs.from_unity_syntax.declared.statement.Items.{Items}
use Rattle.meaning_documents.specs.Names.{Bindings, Variable, slot_at}
use Rattle.meaning_documents.specs.from_meaning_executions.Counting.{range_size}
use Rattle.meaning_documents.specs.Writes.{Alternative, alternatives}
use Rattle.meaning_documents.specs.Instances.{Instance, instances, outermost_first}
use Rattle.core_terms.specs.declared.trees.CTerm.{CTerm}
use Rattle.core_terms.specs.declared.trees.CTerm.TheVariants.{Const}
use Rattle.core_terms.specs.declared.trees.CForm.{CForm}
use Rattle.core_terms.specs.declared.trees.CForm.TheVariants.{Top, Bottom}
use Rattle.core_terms.specs.declared.programs.CWrite.{CWrite}
use Rattle.core_terms.specs.Folding.{number_of, difference_term, zero_form, not_form, and_form, or_form}
use Rattle.expand_rules.specs.declared.cores.Bound.{Bound}
use Rattle.expand_rules.specs.declared.cores.Measure.{Measure}
use Rattle.expand_rules.specs.declared.cores.Formed.{Formed}
use Rattle.expand_rules.specs.declared.effects.Count.{Count}
use Rattle.expand_rules.specs.declared.effects.Effect.{Effect}
use Rattle.meaning_documents.specs.Names.{variable_named}
use Rattle.expand_rules.specs.Measures.{counted, both_flaws, range_misfit}
use Rattle.expand_rules.specs.Counts.{no_count, both_counts, whole, index_count, stray_count, ranged_count}
use Rattle.expand_rules.specs.Forming.{Scope, with_number, term_of, form_of, as_number, as_truth, truth_constant}
use Rattle.expand_rules.specs.Forming.{numbers, is_fixed_range, fit_values, formed, unwritten_count}

-- counts

-- so many nodes, with what is in these parts
abbrev pub sized : ℕ → Measure → Measure → Count
sized nodes a b =
    record { size = counted nodes; most = max a.most b.most; flaws = both_flaws a.flaws b.flaws }

-- a condition and a value
abbrev pub write_count : Measure → Measure → Count
write_count c v = sized (whole c + whole v) c v

-- an index that may be each of so many, from one to another: for each there is a write under a condition that has a
-- part for the index, and one formula says that it is none of them; an array has at least one
abbrev pub spread_nodes : ℕ → ℕ → ℕ → ℕ → ℕ
spread_nodes count i c v = count * (c + i + v + 4) + (count * (i + 4) + c + 1)

abbrev pub spread_count : ℕ → ℤ × ℤ → Measure → Measure → Measure → Count
spread_count count ends i c v = record {
  size = counted (spread_nodes (max 1 count) (whole i) (whole c) (whole v));
  most = max (i.own + max (unsigned_abs ends.0) (unsigned_abs ends.1)) (max i.most (max c.most v.most));
  flaws = both_flaws i.flaws (both_flaws c.flaws v.flaws);
}

-- a condition of which there is no write
abbrev pub condition_count : Measure → Count
condition_count c = stray_count c

-- one more for an alternative, a component or a quantifier
abbrev pub one_more : Effect → Effect
one_more e = record e { count = record e.count { size = counted (1 + e.count.size) } }

-- effects

abbrev pub nothing : Effect
nothing = record { outside = []; writes = []; exact = true; count = no_count }

abbrev pub beside : Effect → Effect → Effect
beside e f = record {
  outside = e.outside ++ f.outside;
  writes = e.writes ++ f.writes;
  exact = e.exact && f.exact;
  count = both_counts e.count f.count;
}

abbrev pub exactly : Bool → Effect → Effect
exactly b e = record e { exact = b && e.exact }

-- a write to a slot, or outside where there is none
abbrev pub write_to : Option ℕ → CForm → CTerm → Count → Effect
write_to None c v count = record { outside = c ∷ []; writes = []; exact = true; count = count }
write_to (Some n) c v count =
    record { outside = []; writes = record { slot = n; when = c; value = v } ∷ []; exact = true; count = count }

-- that an index is each of so many numbers, from the lowest on
abbrev pub equations : CTerm → ℤ → ℕ → List CForm
equations e low zero = []
equations e low (suc n) = zero_form (difference_term e (Const low)) ∷ equations e (low +ℤ pos 1) n

-- that one of these holds
abbrev pub any_of : List CForm → CForm
any_of [] = Bottom
any_of (f ∷ fs) = fold or_form f fs

-- a write for each slot, where the index is that slot's
abbrev pub spread : CTerm → ℤ → ℕ → ℕ → CForm → CTerm → List CWrite
spread e low first zero c v = []
spread e low first (suc n) c v =
    record { slot = first; when = and_form c (zero_form (difference_term e (Const low))); value = v }
    ∷ spread e (low +ℤ pos 1) (suc first) n c v

-- a write at an index that may be any number
abbrev pub open_effect : CTerm → ℤ × ℤ → ℕ → CForm → CTerm → Count → Effect
open_effect e ends first c v count = record {
  outside = and_form c (not_form (any_of (equations e ends.0 (range_size ends)))) ∷ [];
  writes = spread e ends.0 first (range_size ends) c v;
  exact = true;
  count = count;
}

-- a write at an index of an array
abbrev pub array_effect : Formed → ℕ → ℤ × ℤ → Formed → Formed → Effect
array_effect i first ends c v = cond i.constant
    (write_to (option_and_then (λ k. slot_at first (Some ends) (Some k)) (number_of (term_of i.core)))
    (form_of c.core)
    (term_of v.core) (both_counts (index_count i.measure) (write_count c.measure v.measure)))
    (open_effect (term_of i.core) ends first (form_of c.core) (term_of v.core)
    (spread_count (range_size ends) ends i.measure c.measure v.measure))

-- a write at an index of no array
abbrev pub stray_effect : Formed → Formed → Formed → Effect
stray_effect i c v = write_to None (form_of c.core) (term_of v.core)
    (both_counts (stray_count i.measure) (write_count c.measure v.measure))

abbrev pub element_effect : Formed → ℕ → Option (ℤ × ℤ) → Formed → Formed → Effect
element_effect i first None c v = stray_effect i c v
element_effect i first (Some ends) c v = array_effect i first ends c v

-- a write to an element of this array, at this index
abbrev pub indexed_effect : Formed → Option Variable → Formed → Formed → Effect
indexed_effect i None c v = stray_effect i c v
indexed_effect i (Some x) c v = element_effect i x.first x.indices c v

abbrev pub plain_slot : Option Variable → Option ℕ
plain_slot x = option_and_then (λ y. slot_at y.first y.indices None) x

-- the slot of an array at a constant index, where there is one
abbrev pub constant_slot : Formed → ℕ → ℤ × ℤ → Option ℕ
constant_slot i first ends =
    option_and_then (λ k. slot_at first (Some ends) (Some k)) (number_of (term_of i.core))

-- whether a constant index lies outside its array
abbrev pub is_beyond : Formed → ℕ → Option (ℤ × ℤ) → Bool
is_beyond i first None = false
is_beyond i first (Some ends) = i.constant && not (is_some (constant_slot i first ends))

abbrev pub is_outside : Formed → Option Variable → Bool
is_outside i None = false
is_outside i (Some x) = is_beyond i x.first x.indices

-- where it does nothing is written: the value is no part of the core, and so much of it counts
abbrev pub outside_effect : Formed → Formed → Count → Effect
outside_effect i c left = record {
  outside = form_of c.core ∷ [];
  writes = [];
  exact = i.exact;
  count = both_counts (both_counts (index_count i.measure) (condition_count c.measure)) left;
}

-- a write to this variable under a condition; so much of the value counts where it is written nowhere
abbrev pub target_effect : Option Variable → Option Formed → Formed → Formed → Count → Effect
target_effect x None c v left = exactly v.exact
    (write_to (plain_slot x) (form_of c.core) (term_of v.core) (write_count c.measure v.measure))
target_effect x (Some i) c v left = cond (is_outside i x) (outside_effect i c left)
    (exactly (v.exact && i.exact) (indexed_effect i x c v))

-- an index, where there is one, as a number
abbrev pub index_formed : Scope → Option Expr → Option Formed
index_formed s index = option_map (λ e. as_number (formed e s)) index

-- the writes of values to targets, each to the one at its place
abbrev pub paired_effect : Scope → List Target → List Expr → Formed → Effect
paired_effect s [] es c = nothing
paired_effect s (t ∷ ts) [] c = nothing
paired_effect s (t ∷ ts) (e ∷ es) c = beside
    (target_effect (variable_named t.name.text s.variables) (index_formed s t.index) c (as_number (formed e s))
    (unwritten_count e s))
    (paired_effect s ts es c)

-- the condition of an alternative, which holds where there is none
abbrev pub condition : Scope → Option Expr → Formed
condition s None = truth_constant Top
condition s (Some e) = as_truth (formed e s)

abbrev pub alternative_effect : Scope → List Target → Alternative → Effect
alternative_effect s ts a = one_more
    (exactly (condition s a.1).exact (paired_effect s ts (a.0.first ∷ a.0.rest) (condition s a.1)))

-- effects of parts, from the first to the last
abbrev pub all_beside : Effect → List Effect → Effect
all_beside e es = fold beside e es

-- instances together, as a quantifier over a range
abbrev pub quantified_effect : List (List ℕ × Bound) → Range → Effect → Effect
quantified_effect bs r e = one_more (record e {
  exact = is_fixed_range bs r && e.exact;
  count = ranged_count (range_misfit (numbers bs) r) e.count;
})

-- what an assignment becomes, at each place where it may stand
abbrev pub Effecting : Type 0
Effecting = Scope → Effect

abbrev pub component_layer : Component-F Effecting Effecting → Effecting
component_layer (Component-F.Set at first rest alts) s = one_more
    (all_beside nothing (map (alternative_effect s (first ∷ rest)) (alternatives alts.values alts.condition)))
component_layer (Component-F.Quantified at name range of) s = quantified_effect s.bound range
    (all_beside nothing (map (λ z. of (with_number s name.text z)) (fit_values (numbers s.bound) range)))

abbrev pub assign_layer : Assign-F Effecting Effecting → Effecting
assign_layer a s = all_beside (a.first s) (map (λ m. m s) a.rest)

abbrev pub component_effect : Component → Effecting
component_effect = fold-Component Effecting Effecting component_layer assign_layer

abbrev pub effect_of : Assign → Effecting
effect_of = fold-Assign Effecting Effecting component_layer assign_layer

-- an assignment is too large: a part of it weighs more than 2^62, or it has more than 65,536 nodes
abbrev pub is_large_effect : Effect → Bool
is_large_effect e = not (nat_le e.count.most (2 ^ 62)) || not (nat_le e.count.size 65536)

-- the place among these bound names
abbrev pub among : Scope → Bindings → Scope
among s b = record s { bound = map (λ x. (x.0, Bound.Number x.1)) b }

-- a statement, by its label and the numbers of its bound names
pub record Stated : Type 0 where
  pub label : List ℕ
  pub indices : List ℤ
  pub effect : Effect

abbrev pub stated : Scope → Instance → Stated
stated s i =
    record { label = i.label; indices = outermost_first i.bindings; effect = effect_of i.assign (among s i.bindings) }

-- the statements of a program, in the order of its instances
abbrev pub statements : Scope → Items → List Stated
statements s items = map (stated s) (instances items)
