-- The core form has the slots of the meaning.
use Rattle.std.proofs.Common.{◌≡◌, ℕ, zero, suc, ◌+◌, List, [], ◌∷◌, ◌++◌, map, length, Bool, true, false, cond}
use Rattle.std.proofs.Common.{Option, Some, None, refl, sym, ap, ◌∙◌, append_assoc, replicate, length-append, arith}
use Rattle.expand_declarations.proofs.LayoutLaws.{slot_count-more, length-slots_of, declared-among}
use Rattle.std.specs.Prelude.{ℤ, pos, ◌+ℤ◌}
use Rattle.std.specs.List.{flat_map}
use Rattle.std.proofs.lemmas.List.{map-append, append-nil}
use Rattle.std.proofs.lemmas.Grind.{flat_map-append}
use Rattle.unity_syntax.specs.declared.declaration.Var.{Var}
use Rattle.unity_syntax.specs.declared.document.Part.{Part}
use Rattle.meaning_documents.specs.Names.{Variable}
use Rattle.meaning_executions.specs.Counting.{range_size}
use Rattle.meaning_documents.specs.Setting.{element_type, plain_range, type_indices}
use Rattle.meaning_documents.specs.Setting.{slots_for, slot_count, slot_ranges, variable_from, with_declaration}
use Rattle.meaning_documents.specs.Setting.{with_declarations}
use Rattle.expand_declarations.specs.Texts.{Texts}
use Rattle.expand_declarations.specs.Slots.{part_declarations, declared_by, slot_at, index_values, slots_of}
use Rattle.expand_declarations.specs.Slots.{element_slots, is_known, new_slots}
use Rattle.expand_declarations.specs.Start.{var_words, part_words, enumeration_words}
use Rattle.expand_correct.specs.Declared.Agreement.{slot_ends, VariablesAgree, WordsAgree, RangesAgree, CountsAgree}

pub variables_agree : VariablesAgree
variables_agree parts = ap (with_declarations []) (declared-among parts)

words-declared : (parts : List Part) → enumeration_words parts ≡ flat_map var_words (declared_by parts)
words-declared [] = refl
words-declared (p ∷ rest) = ap (λ ws. part_words p ++ ws) (words-declared rest)
    ∙ sym (flat_map-append var_words (part_declarations p) (declared_by rest))

pub words_agree : WordsAgree
words_agree parts = words-declared parts ∙ ap (flat_map var_words) (declared-among parts)

ends_of_elements : (words : Texts) (v : Var) (low : ℤ) (n : ℕ) →
    map slot_ends (element_slots words v low n) ≡ replicate n (plain_range (element_type v.kind))
ends_of_elements words v low zero = refl
ends_of_elements words v low (suc n) =
    ap (λ rs. plain_range (element_type v.kind) ∷ rs) (ends_of_elements words v (low +ℤ pos 1) n)

ends_of_indexed : (words : Texts) (v : Var) (indices : Option (ℤ × ℤ)) →
    map slot_ends (map (slot_at words v) (index_values indices)) ≡
    replicate (slots_for indices) (plain_range (element_type v.kind))
ends_of_indexed words v None = refl
ends_of_indexed words v (Some r) = ends_of_elements words v r.0 (range_size r)

-- a declaration adds the ranges of its slots
ends_of_one : (words : Texts) (vs : List Variable) (v : Var) →
    slot_ranges (with_declaration vs v) ≡
    slot_ranges vs ++ map slot_ends (cond (is_known vs v.name.text) [] (slots_of words v))
ends_of_one words vs v = by (is_known vs v.name.text)
  where
    by : (b : Bool) → slot_ranges (cond b vs (vs ++ (variable_from (slot_count vs) v ∷ []))) ≡
        slot_ranges vs ++ map slot_ends (cond b [] (slots_of words v))
    by true = sym (append-nil (slot_ranges vs))
    by false = flat_map-append (λ (w : Variable). replicate (slots_for w.indices) w.range) vs
        (variable_from (slot_count vs) v ∷ [])
        ∙ ap (λ rs. slot_ranges vs ++ rs) (append-nil (replicate (slots_for (type_indices v.kind))
        (plain_range (element_type v.kind))) ∙ sym (ends_of_indexed words v (type_indices v.kind)))

ends_of_new : (words : Texts) (vs : List Variable) (ds : List Var) →
    slot_ranges vs ++ map slot_ends (new_slots words vs ds) ≡ slot_ranges (with_declarations vs ds)
ends_of_new words vs [] = append-nil (slot_ranges vs)
ends_of_new words vs (d ∷ ds) =
    ap (λ rs. slot_ranges vs ++ rs) (map-append slot_ends (cond (is_known vs d.name.text) [] (slots_of words d))
    (new_slots words (with_declaration vs d) ds))
    ∙ sym (append_assoc (slot_ranges vs) (map slot_ends (cond (is_known vs d.name.text) [] (slots_of words d)))
    (map slot_ends (new_slots words (with_declaration vs d) ds)))
    ∙ ap (λ rs. rs ++ map slot_ends (new_slots words (with_declaration vs d) ds)) (sym (ends_of_one words vs d))
    ∙ ends_of_new words (with_declaration vs d) ds

pub ranges_agree : RangesAgree
ranges_agree words parts = ends_of_new words [] (declared_by parts) ∙ ap slot_ranges (variables_agree parts)

count_one : (words : Texts) (vs : List Variable) (v : Var) →
    slot_count (with_declaration vs v) ≡ slot_count vs + length (cond (is_known vs v.name.text) [] (slots_of words v))
count_one words vs v = by (is_known vs v.name.text)
  where
    by : (b : Bool) → slot_count (cond b vs (vs ++ (variable_from (slot_count vs) v ∷ []))) ≡
        slot_count vs + length (cond b [] (slots_of words v))
    by true = omega arith
    by false = slot_count-more vs (variable_from (slot_count vs) v)
        ∙ ap (λ n. slot_count vs + n) (sym (length-slots_of words v))

count_new : (words : Texts) (vs : List Variable) (ds : List Var) →
    slot_count vs + length (new_slots words vs ds) ≡ slot_count (with_declarations vs ds)
count_new words vs [] = omega arith
count_new words vs (d ∷ ds) =
    let here = length-append (cond (is_known vs d.name.text) [] (slots_of words d))
    (new_slots words (with_declaration vs d) ds) in
    let one = count_one words vs d in let others = count_new words (with_declaration vs d) ds in omega arith

pub counts_agree : CountsAgree
counts_agree words parts =
    let all = count_new words [] (declared_by parts) in
    let same = ap slot_count (variables_agree parts) in omega arith
