-- Truths as numbers, comparisons that pass, and the slot of a variable at an index.
use Rattle.std.proofs.Common.{◌≡◌, ℕ, ℤ, pos, ◌-ℤ◌, List, [], ◌∷◌, Bool, true, false, cond, not, ◌&&◌, ◌||◌, Option}
use Rattle.std.proofs.Common.{Some, None, refl, sym, ap, ◌∙◌, ◌⊎◌, inl, inr}
use borrow.Author.Differences.{le-true, le-false, true_is_lt, false_is_lt}
use Rattle.std.specs.Str.{bytes_eq}
use Rattle.std.specs.Int.RustNames.{int_le, int_lt}
use Rattle.meaning_states.specs.State.{int_eq}
use Rattle.meaning_documents.specs.Names.{Variable, slot_at, slot_named, variable_named}
use Rattle.meaning_documents.specs.Value.{truth, holds}
use Rattle.expand_rules.proofs.Differences.{below_tests}

-- a number that a truth can have
abbrev pub IsBit : ℤ → Type 0
IsBit z = z ≡ truth (holds z)

pub bit_of : (z : ℤ) → (z ≡ pos 0) ⊎ (z ≡ pos 1) → IsBit z
bit_of z (inl e) = e ∙ sym (ap (λ v. truth (holds v)) e)
bit_of z (inr e) = e ∙ sym (ap (λ v. truth (holds v)) e)

not_above : (y x : ℤ) → not (int_le x y) ≡ int_lt y x
not_above y x = elim (int_le x y) as (λ v. int_le x y ≡ v → not v ≡ int_lt y x) [
  | true ↦ λ e. false_is_lt y x (le-true x y e)
  | false ↦ λ e. true_is_lt y x (le-false x y e)
] refl

pub above_tests : (x y : ℤ) → int_le (pos 0) ((x -ℤ y) -ℤ pos 1) ≡ int_lt y x
above_tests x y = below_tests y x ∙ not_above y x

-- two truths are equal where each implies the other
pub same_truths : (a b : Bool) →
    truth (holds (truth (not (holds (truth a)) || holds (truth b))) && holds (truth (not (holds (truth b)) || holds
    (truth a))))
    ≡ truth (int_eq (truth a) (truth b))
same_truths true true = refl
same_truths true false = refl
same_truths false true = refl
same_truths false false = refl

-- the slot of a variable at an index
abbrev pub slot_by : Option Variable → Option ℤ → Option ℕ
slot_by None index = None
slot_by (Some v) index = slot_at v.first v.indices index

pub slot_of_variable : (name : List ℕ) (index : Option ℤ) (vs : List Variable) →
    slot_named name index vs ≡ slot_by (variable_named name vs) index
slot_of_variable name index [] = refl
slot_of_variable name index (x ∷ xs) =
    elim (bytes_eq name x.name) as (λ b. cond b (slot_at x.first x.indices index) (slot_named name index xs) ≡
    slot_by (cond b (Some x) (variable_named name xs)) index) [
      | true ↦ refl
      | false ↦ slot_of_variable name index xs
    ]
