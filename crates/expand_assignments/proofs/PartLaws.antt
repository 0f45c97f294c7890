-- Parts that are too large, as numbers and as truths; and the variable of a name.
use Rattle.std.proofs.Common.{◌≡◌, ℕ, ◌^◌, ◌<◌, ◌≤◌, List, [], ◌∷◌, Bool, true, false, cond, not, ◌&&◌, ◌||◌, Some}
use Rattle.std.proofs.Common.{◌⊎◌, inl, inr, nat_le, option_map, refl, ap, ◌∙◌, arith}
use Rattle.std.proofs.lemmas.Bool.{lt-leb}
use Rattle.std.proofs.lemmas.Slice.Eq.{bytes_eq-Decides}
use Rattle.std.specs.Map.{lookup}
use Rattle.std.specs.Str.{bytes_eq}
use Rattle.meaning_documents.specs.Names.{variable_named}
use Rattle.expand_rules.specs.declared.cores.Core.{Core}
use Rattle.expand_rules.specs.declared.cores.Measure.{Measure}
use Rattle.expand_rules.specs.declared.cores.Formed.{Formed}
use Rattle.expand_rules.specs.Limits.{is_past}
use Rattle.expand_rules.specs.Forming.{as_number, as_truth}
use Rattle.expand_expressions.specs.declared.places.VariableSlots.{VariableSlots}
use Rattle.expand_expressions.specs.Places.{variable_of, variables_of}
use Rattle.expand_assignments.proofs.PastLaws.{past_tells}

over : (n limit : ℕ) → limit < n → not (nat_le n limit) ≡ true
over n limit h = ap not (lt-leb n limit h)

or_second : (a b : Bool) → b ≡ true → (a || b) ≡ true
or_second true b h = refl
or_second false b h = h

or_first : (a b : Bool) → a ≡ true → (a || b) ≡ true
or_first true b h = refl
or_first false b h = cc

both_true : (a b : Bool) → a ≡ true → b ≡ true → (a && b) ≡ true
both_true true b h k = k
both_true false b h k = cc

past_shows : (f : Formed) →
    (2 ^ 62 < f.measure.most) ⊎ ((65536 < f.measure.quantified) ⊎ ((f.constant ≡ false) × (65536 < f.measure.size))) →
    is_past f ≡ true
past_shows f h =
    let m = not (nat_le f.measure.most (2 ^ 62)) in
    let q = not (nat_le f.measure.quantified 65536) in
    let s = not f.constant && not (nat_le f.measure.size 65536) in
    elim h [
      | inl a ↦ or_first m (q || s) (over f.measure.most (2 ^ 62) a)
      | inr (inl a) ↦ or_second m (q || s) (or_first q s (over f.measure.quantified 65536 a))
      | inr (inr a) ↦ or_second m (q || s) (or_second q s
          (both_true (not f.constant) (not (nat_le f.measure.size 65536))
          (ap not a.0) (over f.measure.size 65536 a.1)))
    ]

-- a part with a measure that is no less, and as constant
past_on : (a b : Formed) → a.measure.most ≤ b.measure.most →
    (65536 < a.measure.quantified → 65536 < b.measure.quantified) → (65536 < a.measure.size → 65536 < b.measure.size)
    →
    b.constant ≡ a.constant → is_past a ≡ true → is_past b ≡ true
past_on a b m q s k h = past_shows b (elim (past_tells a h) [
  | inl x ↦ inl (omega (arith, x))
  | inr (inl x) ↦ inr (inl (q x))
  | inr (inr x) ↦ inr (inr (k ∙ x.0, s x.1))
])

number_by : (core : Core) (m : Measure) (constant exact : Bool) →
    is_past (record { core = core; constant = constant; exact = exact; measure = m }) ≡ true →
    is_past (as_number (record { core = core; constant = constant; exact = exact; measure = m })) ≡ true
number_by (Core.Number t known) m constant exact h = h
number_by (Core.Truth f known) m constant exact h =
    let a : Formed = record { core = Core.Truth f known; constant = constant; exact = exact; measure = m } in
    past_on a (as_number a) (omega arith) (λ x. x) (λ x. omega arith) refl h

pub past_number : (a : Formed) → is_past a ≡ true → is_past (as_number a) ≡ true
past_number a h = number_by a.core a.measure a.constant a.exact h

truth_by : (core : Core) (m : Measure) (constant exact : Bool) →
    is_past (record { core = core; constant = constant; exact = exact; measure = m }) ≡ true →
    is_past (as_truth (record { core = core; constant = constant; exact = exact; measure = m })) ≡ true
truth_by (Core.Number t known) m constant exact h =
    let a : Formed = record { core = Core.Number t known; constant = constant; exact = exact; measure = m } in
    past_on a (as_truth a) (omega arith) (λ x. omega arith) (λ x. omega arith) refl h
truth_by (Core.Truth f known) m constant exact h = h

pub past_truth : (a : Formed) → is_past a ≡ true → is_past (as_truth a) ≡ true
past_truth a h = truth_by a.core a.measure a.constant a.exact h

-- the variable of a name, by its slots
pub variable_found : (name : List ℕ) (es : List (List ℕ × VariableSlots)) →
    option_map (variable_of name) (lookup (bytes_eq name) es) ≡ variable_named name (variables_of es)
variable_found name [] = refl
variable_found name (e ∷ es) = elim (bytes_eq name e.0) as (λ b. bytes_eq name e.0 ≡ b →
    option_map (variable_of name) (cond b (Some e.1) (lookup (bytes_eq name) es)) ≡
    cond b (Some (variable_of e.0 e.1)) (variable_named name (variables_of es))) [
      | true ↦ λ h. ap (λ n. Some (variable_of n e.1)) ((bytes_eq-Decides name e.0).0 h)
      | false ↦ λ h. variable_found name es
    ] refl
