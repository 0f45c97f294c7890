-- Variables of the code's table are those of its scope.
use Rattle.std.proofs.Common.{◌≡◌, ℕ, List, [], ◌∷◌, true, false, cond, Option, Some, None, option_map, refl}
use Rattle.std.proofs.Common.{ap}
use Rattle.std.specs.Map.{lookup}
use Rattle.std.specs.Str.{bytes_eq}
use Rattle.core_terms.specs.declared.trees.CTerm.TheVariants.{Slot}
use Rattle.core_terms.specs.declared.trees.Range.{Range}
use Rattle.expand_rules.specs.from_meaning_documents.Names.{slot_at}
use Rattle.expand_rules.specs.from_meaning_documents.Names.{variable_named}
use Rattle.expand_rules.specs.Measures.{ends_weight}
use Rattle.expand_rules.specs.Forming.{varying, typed, variable_formed}
use Rattle.expand_expressions.specs.declared.places.VariableSlots.{VariableSlots}
use Rattle.expand_expressions.specs.Places.{ends_of, variable_of, variables_of, plain_slots, no_indices, slot_formed}

read_of : (name : List ℕ) (v : VariableSlots) (m : Option Range) → v.indices ≡ m →
    variable_formed (Some (variable_of name v)) ≡ option_map slot_formed (no_indices v m)
read_of name v None e =
    ap (λ i. option_map (λ slot. typed (variable_of name v) (varying (Slot slot) (ends_weight (ends_of v.range))))
    (slot_at v.first (option_map ends_of i) None)) e
read_of name v (Some r) e =
    ap (λ i. option_map (λ slot. typed (variable_of name v) (varying (Slot slot) (ends_weight (ends_of v.range))))
    (slot_at v.first (option_map ends_of i) None)) e

pub variable_is : (name : List ℕ) (es : List (List ℕ × VariableSlots)) →
    variable_formed (variable_named name (variables_of es)) ≡ option_map slot_formed
    (plain_slots (lookup (bytes_eq name) es))
variable_is name [] = refl
variable_is name (e ∷ es) =
    elim (bytes_eq name e.0) as (λ v. variable_formed (cond v (Some (variable_of e.0 e.1))
    (variable_named name (variables_of es))) ≡
    option_map slot_formed (plain_slots (cond v (Some e.1) (lookup (bytes_eq name) es)))) [
      | true ↦ read_of e.0 e.1 e.1.indices refl
      | false ↦ variable_is name es
    ]
