-- An assignment without `div` and `mod` becomes writes and formulas without quotients.
use Rattle.std.proofs.Common.{ℕ, zero, suc, ℤ, pos, ◌+ℤ◌, List, [], ◌∷◌, map, Bool, true, false, cond, ◌&&◌}
use Rattle.std.proofs.Common.{Option, Some, None, IsTrue}
use Rattle.std.specs.Prelude.{fold}
use Rattle.std.specs.List.{list_all}
use Rattle.std.specs.Option.{option_and_then}
use Rattle.unity_syntax.specs.declared.expression.Expr.{Expr}
use Rattle.unity_syntax.specs.declared.statement.Target.{Target}
use Rattle.unity_syntax.specs.declared.statement.Component.TheOpen.{Component-F}
use Rattle.unity_syntax.specs.TwoFolds.{Related, ComponentLayers, AssignLayers}
use Rattle.unity_syntax.proofs.AssignmentFolds.{two_assignments}
use Rattle.meaning_states.proofs.StepTheorems.{and_left, and_right}
use Rattle.meaning_documents.specs.Names.{Variable, slot_at, variable_named}
use Rattle.meaning_executions.specs.Counting.{range_size}
use Rattle.meaning_documents.specs.Writes.{Alternative, alternatives}
use Rattle.core_terms.specs.declared.trees.CTerm.{CTerm}
use Rattle.core_terms.specs.declared.trees.CTerm.TheVariants.{Const}
use Rattle.core_terms.specs.declared.trees.CForm.{CForm}
use Rattle.core_terms.specs.Folding.{number_of, difference_term, zero_form, not_form, or_form}
use Rattle.expand_rules.specs.declared.cores.Formed.{Formed}
use Rattle.expand_rules.specs.declared.effects.Count.{Count}
use Rattle.expand_rules.specs.declared.effects.Effect.{Effect}
use Rattle.expand_rules.specs.Counts.{both_counts, index_count}
use Rattle.expand_rules.specs.Forming.{Scope, with_number, term_of, form_of, as_number, numbers, fit_values, formed}
use Rattle.expand_rules.specs.Forming.{unwritten_count}
use Rattle.expand_rules.specs.Assigning.{nothing, beside, write_to, equations, any_of, spread, array_effect}
use Rattle.expand_rules.specs.Assigning.{open_effect, element_effect, indexed_effect, plain_slot, is_outside}
use Rattle.expand_rules.specs.Assigning.{outside_effect, target_effect, index_formed, paired_effect, condition}
use Rattle.expand_rules.specs.Assigning.{alternative_effect, all_beside, Effecting, component_layer, assign_layer}
use Rattle.expand_rules.specs.Assigning.{effect_of, exactly, write_count, spread_count}
use Rattle.rules_table.proofs.EachLaws.{Each, each_join}
use Rattle.proof_script.proofs.lemmas_from_rules_steps.ItemLaws.{to_all}
use Rattle.plain_quotients.specs.Plain.{FormIsPlain, TermIsPlain, WriteIsPlain}
use Rattle.plain_quotients.specs.Sources.{has_only_times, only_times_or_none, target_times, alternative_times}
use Rattle.plain_quotients.specs.Sources.{component_times, assign_times}
use Rattle.plain_quotients.specs.Sources.{ScopeIsPlain, AssignmentsPlain}
use Rattle.plain_quotients.proofs.FormLaws.{top_plain, bottom_plain, const_plain, difference_kept, zero_kept, not_kept}
use Rattle.plain_quotients.proofs.FormLaws.{and_kept, or_kept}
use Rattle.plain_quotients.proofs.ExpressionLaws.{as_term, as_form, expressions_plain}

-- the formulas and the writes of an effect
abbrev Plain : Effect → Type 0
Plain e = Each FormIsPlain e.outside × Each WriteIsPlain e.writes

beside_plain : (e f : Effect) → Plain e → Plain f → Plain (beside e f)
beside_plain e f h k = (
  each_join FormIsPlain e.outside f.outside h.0 k.0,
  each_join WriteIsPlain e.writes f.writes h.1 k.1,
)

write_plain : (o : Option ℕ) (c : CForm) (v : CTerm) (n : Count) → FormIsPlain c → TermIsPlain v →
    Plain (write_to o c v n)
write_plain None c v n h k = ((h, tt), tt)
write_plain (Some slot) c v n h k = (tt, (record { condition = h; value = k }, tt))

-- an index that may be any number

equal_plain : (e : CTerm) (low : ℤ) → TermIsPlain e → FormIsPlain (zero_form (difference_term e (Const low)))
equal_plain e low h = zero_kept (difference_term e (Const low)) (difference_kept e (Const low) h (const_plain low))

equations_plain : (e : CTerm) (low : ℤ) (n : ℕ) → TermIsPlain e → Each FormIsPlain (equations e low n)
equations_plain e low zero h = tt
equations_plain e low (suc n) h = (equal_plain e low h, equations_plain e (low +ℤ pos 1) n h)

or_plain : (f : CForm) (fs : List CForm) → FormIsPlain f → Each FormIsPlain fs → FormIsPlain (fold or_form f fs)
or_plain f [] h k = h
or_plain f (g ∷ gs) h k = or_plain (or_form f g) gs (or_kept f g h k.0) k.1

some_plain : (fs : List CForm) → Each FormIsPlain fs → FormIsPlain (any_of fs)
some_plain [] h = bottom_plain
some_plain (f ∷ fs) h = or_plain f fs h.0 h.1

spread_plain : (e : CTerm) (low : ℤ) (first n : ℕ) (c : CForm) (v : CTerm) → TermIsPlain e → FormIsPlain c →
    TermIsPlain v → Each WriteIsPlain (spread e low first n c v)
spread_plain e low first zero c v h k l = tt
spread_plain e low first (suc n) c v h k l = (
  record {
    condition = and_kept c (zero_form (difference_term e (Const low))) k (equal_plain e low h);
    value = l;
  },
  spread_plain e (low +ℤ pos 1) (suc first) n c v h k l,
)

open_plain : (e : CTerm) (ends : ℤ × ℤ) (first : ℕ) (c : CForm) (v : CTerm) (n : Count) → TermIsPlain e →
    FormIsPlain c → TermIsPlain v → Plain (open_effect e ends first c v n)
open_plain e ends first c v n h k l =
    let fs : List CForm = equations e ends.0 (range_size ends) in (
      (
        and_kept c (not_form (any_of fs)) k
            (not_kept (any_of fs) (some_plain fs (equations_plain e ends.0 (range_size ends) h))),
        tt,
      ),
      spread_plain e ends.0 first (range_size ends) c v h k l,
    )

-- targets

module _ (c v : Formed) (h : FormIsPlain (form_of c.core)) (k : TermIsPlain (term_of v.core)) where
  array_plain : (i : Formed) (first : ℕ) (ends : ℤ × ℤ) → TermIsPlain (term_of i.core) →
      Plain (array_effect i first ends c v)
  array_plain i first ends l = by_index i.constant
    where
      by_index : (b : Bool) → Plain (cond b
          (write_to (option_and_then (λ z. slot_at first (Some ends) (Some z)) (number_of (term_of i.core)))
          (form_of c.core) (term_of v.core) (both_counts (index_count i.measure) (write_count c.measure v.measure)))
          (open_effect (term_of i.core) ends first (form_of c.core) (term_of v.core)
          (spread_count (range_size ends) ends i.measure c.measure v.measure)))
      by_index true =
          write_plain (option_and_then (λ z. slot_at first (Some ends) (Some z)) (number_of (term_of i.core)))
          (form_of c.core) (term_of v.core) (both_counts (index_count i.measure) (write_count c.measure v.measure)) h k
      by_index false =
          open_plain (term_of i.core) ends first (form_of c.core) (term_of v.core)
          (spread_count (range_size ends) ends i.measure c.measure v.measure) l h k

  element_plain : (i : Formed) (first : ℕ) (m : Option (ℤ × ℤ)) → TermIsPlain (term_of i.core) →
      Plain (element_effect i first m c v)
  element_plain i first None l = ((h, tt), tt)
  element_plain i first (Some ends) l = array_plain i first ends l

  indexed_plain : (i : Formed) (x : Option Variable) → TermIsPlain (term_of i.core) → Plain (indexed_effect i x c v)
  indexed_plain i None l = ((h, tt), tt)
  indexed_plain i (Some x) l = element_plain i x.first x.indices l

  abbrev PlainIndex : Option Formed → Type 0
  PlainIndex None = Unit {0}
  PlainIndex (Some i) = TermIsPlain (term_of i.core)

  target_plain : (x : Option Variable) (m : Option Formed) (left : Count) → PlainIndex m →
      Plain (target_effect x m c v left)
  target_plain x None left l = write_plain (plain_slot x) (form_of c.core) (term_of v.core) _ h k
  target_plain x (Some i) left l = by_place (is_outside i x)
    where
      by_place : (b : Bool) → Plain (cond b (outside_effect i c left)
          (exactly (v.exact && i.exact) (indexed_effect i x c v)))
      by_place true = ((h, tt), tt)
      by_place false = indexed_plain i x l

-- alternatives

module _ (s : Scope) (plain : ScopeIsPlain s) where
  value_plain : (e : Expr) → IsTrue (has_only_times e) → TermIsPlain (term_of (as_number (formed e s)).core)
  value_plain e only = as_term (formed e s).core (expressions_plain e s only plain)

  condition_plain : (o : Option Expr) → IsTrue (only_times_or_none o) → FormIsPlain (form_of (condition s o).core)
  condition_plain None only = top_plain
  condition_plain (Some e) only = as_form (formed e s).core (expressions_plain e s only plain)

  paired_plain : (c : Formed) → FormIsPlain (form_of c.core) → (ts : List Target) (es : List Expr) →
      IsTrue (list_all target_times ts) → IsTrue (list_all has_only_times es) → Plain (paired_effect s ts es c)
  paired_plain c h [] es p q = (tt, tt)
  paired_plain c h (t ∷ ts) [] p q = (tt, tt)
  paired_plain c h (t ∷ ts) (e ∷ es) p q =
      let x : Option Variable = variable_named t.name.text s.variables in
      let v : Formed = as_number (formed e s) in
      let value = value_plain e (and_left (has_only_times e) (list_all has_only_times es) q) in
      beside_plain (target_effect x (index_formed s t.index) c v (unwritten_count e s)) (paired_effect s ts es c)
      (by_index x v value t.index (unwritten_count e s)
      (and_left (target_times t) (list_all target_times ts) p))
      (paired_plain c h ts es (and_right (target_times t) (list_all target_times ts) p)
      (and_right (has_only_times e) (list_all has_only_times es) q))
    where
      by_index : (x : Option Variable) (v : Formed) → TermIsPlain (term_of v.core) → (o : Option Expr) (left : Count) →
          IsTrue (only_times_or_none o) → Plain (target_effect x (index_formed s o) c v left)
      by_index x v k None left only = target_plain c v h k x None left tt
      by_index x v k (Some i) left only =
          target_plain c v h k x (Some (as_number (formed i s))) left (value_plain i only)

  alternatives_plain : (ts : List Target) → IsTrue (list_all target_times ts) → (e : Effect) → Plain e →
      (xs : List Alternative) → IsTrue (list_all alternative_times xs) →
      Plain (all_beside e (map (alternative_effect s ts) xs))
  alternatives_plain ts p e h [] q = h
  alternatives_plain ts p e h (x ∷ xs) q =
      let es : List Expr = x.0.first ∷ x.0.rest in
      let own = and_left (alternative_times x) (list_all alternative_times xs) q in
      let one = paired_plain (condition s x.1)
      (condition_plain x.1 (and_right (list_all has_only_times es) (only_times_or_none x.1) own)) ts es p
      (and_left (list_all has_only_times es) (only_times_or_none x.1) own) in
      alternatives_plain ts p (beside e (alternative_effect s ts x)) (beside_plain e (alternative_effect s ts x) h one)
      xs (and_right (alternative_times x) (list_all alternative_times xs) q)

-- assignments

abbrev PlainIn : Bool → Effecting → Type 0
PlainIn only f = IsTrue only → (s : Scope) → ScopeIsPlain s → Plain (f s)

each_number : (g : ℤ → Effect) → ((z : ℤ) → Plain (g z)) → (e : Effect) → Plain e → (zs : List ℤ) →
    Plain (all_beside e (map g zs))
each_number g h e k [] = k
each_number g h e k (z ∷ zs) = each_number g h (beside e (g z)) (beside_plain e (g z) k (h z)) zs

component_plain : ComponentLayers PlainIn PlainIn component_times component_layer
component_plain (Component-F.Set at first rest alts) only s plain =
    let ts : Bool = list_all target_times (first ∷ rest) in
    let xs : List Alternative = alternatives alts.values alts.condition in
    alternatives_plain s plain (first ∷ rest) (and_left ts (list_all alternative_times xs) only) nothing (tt, tt) xs
    (and_right ts (list_all alternative_times xs) only)
component_plain (Component-F.Quantified at name range of) only s plain =
    each_number (λ z. of.1 (with_number s name.text z)) (λ z. of.2 only (with_number s name.text z) plain) nothing
    (tt, tt) (fit_values (numbers s.bound) range)

rest_plain : (s : Scope) → ScopeIsPlain s → (e : Effect) → Plain e → (xs : List (Related PlainIn)) →
    IsTrue (list_all (λ m. m) (map (λ k. k.0) xs)) → Plain (all_beside e (map (λ m. m s) (map (λ k. k.1) xs)))
rest_plain s plain e h [] only = h
rest_plain s plain e h (x ∷ xs) only =
    let more : Bool = list_all (λ m. m) (map (λ (k : Related PlainIn). k.0) xs) in
    rest_plain s plain (beside e (x.1 s)) (beside_plain e (x.1 s) h (x.2 (and_left x.0 more only) s plain)) xs
    (and_right x.0 more only)

assign_plain : AssignLayers PlainIn PlainIn assign_times assign_layer
assign_plain y only s plain =
    let more : Bool = list_all (λ m. m) (map (λ (k : Related PlainIn). k.0) y.rest) in
    rest_plain s plain (y.first.1 s) (y.first.2 (and_left y.first.0 more only) s plain) y.rest
    (and_right y.first.0 more only)

pub assignments_plain : AssignmentsPlain
assignments_plain a s only plain =
    let h = (two_assignments PlainIn PlainIn component_times assign_times component_layer assign_layer component_plain
    assign_plain).1 a only s plain in
    record {
      outside = to_all FormIsPlain (effect_of a s).outside h.0;
      writes = to_all WriteIsPlain (effect_of a s).writes h.1;
    }
