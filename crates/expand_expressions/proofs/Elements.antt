-- What is read of arrays, step by step.
use Rattle.std.proofs.Common.{◌≡◌, ℕ, suc, ◌+◌, ◌-◌, ◌<◌, ◌≤◌, ℤ, pos, negsuc, ◌+ℤ◌, ◌-ℤ◌, List, [], ◌∷◌}
use Rattle.std.proofs.Common.{true, false, cond, Option, Some, None, option_map, refl, sym, ap, ◌∙◌, arith, max}
use Rattle.std.proofs.lemmas.Int.{ints}
use Rattle.std.specs.Map.{lookup}
use Rattle.std.specs.Str.{bytes_eq}
use Rattle.std.specs.Int.RustNames.{unsigned_abs}
use Rattle.core_terms.specs.declared.trees.CTerm.{CTerm, fold-roll-CTerm}
use Rattle.core_terms.specs.declared.trees.CForm.{CForm}
use Rattle.core_terms.specs.declared.trees.CForm.TheOpen.{CTerm-F}
use Rattle.core_terms.specs.Weights.{Weights, weighing, sum_weights, choice_weights, weigh_term, weigh_form}
use Rattle.core_terms.specs.Weights.{one_weight, plain_weights, plain_weight}
use Rattle.core_terms.proofs.WeightLaws.{own_within, weights-Const}
use Rattle.core_terms.specs.declared.trees.CTerm.TheVariants.{Const, Slot, rolls-Slot}
use Rattle.core_terms.specs.Folding.{number_of, choice_term, zero_form, difference_term}
use Rattle.expand_rules.specs.from_meaning_documents.Names.{slot_at}
use Rattle.meaning_executions.specs.Counting.{natural}
use Rattle.meaning_executions.specs.Counting.{range_size}
use Rattle.expand_rules.specs.from_meaning_documents.Names.{variable_named}
use Rattle.expand_rules.specs.declared.cores.Formed.{Formed}
use Rattle.std.specs.Prelude.{MatchOption}
use Rattle.names_rules.specs.Scope.{entries}
use Rattle.expand_rules.specs.Limits.{is_past}
use Rattle.expand_rules.proofs.Growing.{typed_keeps}
use Rattle.expand_expressions.specs.declared.places.Known.{Known}
use Rattle.expand_rules.specs.Forming.{slot_term, chain, typed, element_of}
use Rattle.expand_rules.proofs.KnownChains.{chain_known}
use Rattle.expand_expressions.specs.declared.places.VariableSlots.{VariableSlots}
use Rattle.expand_expressions.specs.Places.{IsReady, HasSlots, variable_of, variables_of, element_slots}

-- one more choice in front
pub chain_more : (e : CTerm) (low : ℤ) (first count k : ℕ) → k < count →
    chain e (low +ℤ pos (count - (k + 1))) (first + (count - (k + 1))) (k + 1) ≡
    choice_term (zero_form (difference_term e (Const (low +ℤ pos (count - (k + 1))))))
    (Slot (first + (count - (k + 1))))
    (chain e (low +ℤ pos (count - k)) (first + (count - k)) k)
chain_more e low first count k h =
    let next : k + 1 ≡ suc k = omega arith in
    let there : (low +ℤ pos (count - (k + 1))) +ℤ pos 1 ≡ low +ℤ pos (count - k) = omega (arith, ints) in
    let slot : suc (first + (count - (k + 1))) ≡ first + (count - k) = omega arith in
    ap (chain e (low +ℤ pos (count - (k + 1))) (first + (count - (k + 1)))) next
    ∙ ap (λ z. choice_term (zero_form (difference_term e (Const (low +ℤ pos (count - (k + 1))))))
    (Slot (first + (count - (k + 1))))
    (chain e z (suc (first + (count - (k + 1)))) k)) there
    ∙ ap (λ n. choice_term (zero_form (difference_term e (Const (low +ℤ pos (count - (k + 1))))))
    (Slot (first + (count - (k + 1))))
    (chain e (low +ℤ pos (count - k)) n k)) slot

pub chain_whole : (e : CTerm) (low : ℤ) (first count k : ℕ) → k ≡ count →
    chain e (low +ℤ pos (count - k)) (first + (count - k)) k ≡ chain e low first count
chain_whole e low first count k h =
    let there : low +ℤ pos (count - k) ≡ low = omega (arith, ints) in
    let slot : first + (count - k) ≡ first = omega arith in
    ap (λ z. chain e z (first + (count - k)) k) there ∙ ap (λ n. chain e low n k) slot ∙ ap (chain e low first) h

pub element_is : (name : List ℕ) (es : List (List ℕ × VariableSlots)) (i : Formed) →
    element_of (variable_named name (variables_of es)) i ≡ element_slots (lookup (bytes_eq name) es) i
element_is name [] i = refl
element_is name (e ∷ es) i =
    elim (bytes_eq name e.0) as (λ v. element_of (cond v (Some (variable_of e.0 e.1))
    (variable_named name (variables_of es))) i ≡
    element_slots (cond v (Some e.1) (lookup (bytes_eq name) es)) i) [
      | true ↦ refl
      | false ↦ element_is name es i
    ]

weights-Slot : (n : ℕ) → plain_weights (Slot n) ≡ weighing 1 0
weights-Slot n =
    ap plain_weights (sym (rolls-Slot n)) ∙ fold-roll-CTerm ℕ Weights weigh_form (weigh_term one_weight one_weight)
    (CTerm-F.Slot n)

-- what a choice for one index weighs
pub link_most : (x k d s r t : CTerm) (f : CForm) (at : ℤ) (n own most : ℕ) → k ≡ Const at → s ≡ Slot n →
    (plain_weights x).own ≤ own → (plain_weights x).most ≤ most →
    (plain_weights d).most ≤ (sum_weights (plain_weights x) (plain_weights k)).most →
    plain_weight f ≤ (plain_weights d).most →
    (plain_weights t).most ≤ (choice_weights (plain_weight f) (plain_weights s) (plain_weights r)).most →
    (plain_weights t).most ≤ max (own + unsigned_abs at) (max most (max 1 (plain_weights r).most))
link_most x k d s r t f at n own most e g xo xm dm fm tm =
    let kw : plain_weights k ≡ weighing (unsigned_abs at) 0 = ap plain_weights e ∙ weights-Const one_weight one_weight
    at in
    let sw : plain_weights s ≡ weighing 1 0 = ap plain_weights g ∙ weights-Slot n in
    let ko : (plain_weights k).own ≡ unsigned_abs at = ap (λ w. w.own) kw in
    let km : (plain_weights k).most ≡ max (unsigned_abs at) 0 = ap (λ w. w.most) kw in
    let so : (plain_weights s).own ≡ 1 = ap (λ w. w.own) sw in
    let sm : (plain_weights s).most ≡ max 1 0 = ap (λ w. w.most) sw in
    let ro : (plain_weights r).own ≤ (plain_weights r).most = own_within one_weight one_weight r in
    omega (arith, ko, km, so, sm, ro, xo, xm, dm, fm, tm)

size_by : (z : ℤ) → (natural z ≡ 0 → ⊥) → pos (natural z) ≡ z
size_by (pos n) h = refl
size_by (negsuc n) h = absurd (h refl)

-- how far a range that is not empty reaches
pub size_last : (lo hi : ℤ) → (range_size (lo, hi) ≡ 0 → ⊥) → lo +ℤ pos (range_size (lo, hi)) ≡ hi +ℤ pos 1
size_last lo hi h = let e : pos (natural (hi +ℤ pos 1 -ℤ lo)) ≡ hi +ℤ pos 1 -ℤ lo = size_by (hi +ℤ pos 1 -ℤ lo) h in
    omega (arith, ints, e)

-- an index that is known reads one slot
pub chain_by : (e : CTerm) (m : Option ℤ) (r : ℤ × ℤ) (first : ℕ) (slot : Option ℕ) → m ≡ number_of e →
    option_map (λ k. slot_at first (Some r) (Some k)) m ≡ Some slot → slot_term slot ≡ chain e r.0 first
    (range_size r)
chain_by e None r first slot h f = cc f
chain_by e (Some k) r first slot h f =
    let same : slot_at first (Some r) (Some k) ≡ slot = cc f in
    sym (chain_known e k (sym h) r first ∙ ap slot_term same)

-- what is too large is too large as a truth
pub typed_past : (v : VariableSlots) (a : Formed) → is_past a ≡ true → is_past (typed (variable_of [] v) a) ≡ true
typed_past v a h = typed_keeps (variable_of [] v) a h

pub slots_by : (known : Known) (name : List ℕ) (m : Option VariableSlots) → IsReady known →
    m ≡ lookup (bytes_eq name) (entries known.variables.now) → MatchOption m (Unit {0}) HasSlots
slots_by known name None r e = tt
slots_by known name (Some v) r e = r.slots name v (sym e)
