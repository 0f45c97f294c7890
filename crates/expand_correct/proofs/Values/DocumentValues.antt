-- A document's scope is what is seen at its states.
use Rattle.std.proofs.Common.{◌≡◌, ℕ, ℤ, pos, List, [], ◌∷◌, true, Option, Some, None, refl, ap, ◌∙◌}
use Rattle.std.proofs.Common.{◌⊎◌, slice_index_or}
use Rattle.unity_syntax.specs.declared.declaration.Def.{Def}
use Rattle.unity_syntax.specs.declared.program.Program.{Program}
use Rattle.meaning_states.specs.State.{State, is_state}
use Rattle.meaning_documents.specs.Names.{Sight, or_zero, slot_at, slot_named, slot_number}
use Rattle.meaning_documents.specs.Value.{value}
use Rattle.meaning_documents.specs.Setting.{setting_of, slot_ranges, with_always, seen_plainly, seen}
use Rattle.meaning_documents.specs.Setting.{variables_of}
use Rattle.names_laws.proofs.Slots.{truth_slots_are_bits}
use Rattle.expand_rules.specs.declared.cores.Bound.{Bound}
use Rattle.expand_rules.specs.Forming.{Scope, formed}
use Rattle.expand_correct.specs.Values.Worth.{values_of}
use Rattle.expand_rules.specs.Documents.{with_formed, plain_scope, scope_of, within}
use Rattle.expand_correct.specs.Values.ValueLaws.{CoreHasValue}
use Rattle.expand_correct.proofs.Values.Bits.{IsBit, bit_of, slot_by, slot_of_variable}
use Rattle.expand_correct.proofs.Values.Values.{AreBits, Sees, formed_law}

slot_bit : (state : State) (m n : Option ℕ) → m ≡ n →
    ((slot : ℕ) → m ≡ Some slot → (slice_index_or state slot (pos 0) ≡ pos 0) ⊎ (slice_index_or state slot (pos 0) ≡
    pos 1)) →
    IsBit (or_zero (slot_number state n))
slot_bit state m None e h = refl
slot_bit state m (Some slot) e h = bit_of (slice_index_or state slot (pos 0)) (h slot e)

pub are_bits : (programs : List Program) (state : State) → is_state (slot_ranges (variables_of programs)) state ≡ true
    →
    AreBits state [] (variables_of programs)
are_bits programs state h name v index e t =
    slot_bit state (slot_named name index (variables_of programs)) (slot_at v.first v.indices index)
    (slot_of_variable name index (variables_of programs) ∙ ap (λ m. slot_by m index) e)
    (λ slot f. truth_slots_are_bits programs name index v slot state h e f t)

module _ (state params : List ℤ) where
  sees_always : (s : Scope) (t : Sight) (ds : List Def) → Sees state params s t → Sees state params (with_formed s ds)
      (with_always t ds)
  sees_always s t [] h = h
  sees_always s t (d ∷ ds) h =
      sees_always (record s { always = (d.name.text, formed d.of s) ∷ s.always })
      (record t { always = (d.name.text, value d.of t) ∷ t.always }) ds
      (record {
        variables = h.variables;
        words = h.words;
        there = h.there;
        always = (refl, formed_law state params d.of s t h, h.always);
        bound = h.bound;
        bits = h.bits;
      })

  sees_plainly : (programs : List Program) → AreBits state params (variables_of programs) →
      Sees state params (scope_of programs) (seen_plainly (setting_of programs) state)
  sees_plainly programs b = let g = setting_of programs in
      sees_always (plain_scope g) (record {
        variables = g.variables;
        words = g.words;
        state = state;
        always = [];
        bindings = [];
      }) g.always
      (record { variables = refl; words = refl; there = refl; always = tt; bound = refl; bits = b })

  pub sees_within : (programs : List Program) (bs : List (List ℕ × Bound)) → AreBits state params
      (variables_of programs) →
      Sees state params (within (scope_of programs) bs) (seen (setting_of programs) (values_of params bs) state)
  sees_within programs bs b = let h = sees_plainly programs b in
      record {
        variables = h.variables;
        words = h.words;
        there = h.there;
        always = h.always;
        bound = refl;
        bits = h.bits;
      }

pub core_has_value : CoreHasValue
core_has_value programs state params bs e h x n =
    (formed_law state params e (within (scope_of programs) bs) _ (sees_within state params programs bs
    (are_bits programs state h))).value x n
