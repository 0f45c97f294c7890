-- The slots of well-named documents.
use Rattle.std.proofs.Common.{◌≡◌, ℕ, suc, ◌+◌, ◌-◌, ◌<◌, ◌≤◌, List, [], ◌∷◌, ◌++◌, map, length, Bool, true, false}
use Rattle.std.proofs.Common.{cond, Option, None, refl, ap, arith, All, get_or, unsigned_abs}
use Rattle.std.specs.Prelude.{ℤ, pos, ⊤}
use Rattle.std.specs.List.{flat_map}
use Rattle.std.specs.Str.{bytes_eq}
use Rattle.std.proofs.lemmas.Int.{ints}
use Rattle.std.proofs.lemmas.List.Elements.{All-nil, All-cons, All-head, All-tail, All-append, All-map, All-weaker}
use Rattle.std.proofs.lemmas.Slice.Eq.{bytes_eq-Decides}
use Rattle.unity_syntax.specs.declared.name.Name.{Name}
use Rattle.unity_syntax.specs.declared.declaration.Plain.{Plain}
use Rattle.unity_syntax.specs.declared.declaration.VarType.{VarType}
use Rattle.unity_syntax.specs.declared.declaration.Var.{Var}
use Rattle.unity_syntax.specs.declared.program.Program.{Program}
use Rattle.unity_syntax.specs.declared.document.Part.{Part as DocumentPart}
use Rattle.unity_syntax.specs.declared.document.Document.{Document}
use Rattle.meaning_documents.specs.Names.{Variable}
use Rattle.meaning_documents.specs.Setting.{element_type, type_indices, plain_range, with_declaration, declarations}
use Rattle.core_terms.specs.declared.programs.CSlot.{CSlot}
use Rattle.core_terms.specs.Conditions.{IsRange, IsSlot, PrintFits, IsWord, PrintWords}
use Rattle.names_rules.specs.Scope.{Table}
use Rattle.names_rules.specs.Reading.{filled}
use Rattle.names_rules.specs.Declarations.{items_of, plain_part, type_part}
use Rattle.names_rules.proofs.Faults.{earlier_second}
use Rattle.expand_declarations.specs.Texts.{Texts, plain_texts, var_texts, program_texts, part_texts, proof_texts}
use Rattle.expand_declarations.specs.Texts.{items_texts, schedule_texts, document_texts}
use Rattle.expand_declarations.specs.WordNumbers.{document_words, with_texts, word_number}
use Rattle.expand_declarations.specs.Numbers.{core_range}
use Rattle.expand_declarations.specs.Slots.{part_declarations, declared_by, slot_at, index_values, slots_of, print_of}
use Rattle.expand_declarations.specs.Slots.{is_known, new_slots}
use Rattle.expand_declarations.specs.Shown.{is_slot_of, declared_names, places_from, shown_slots}
use Rattle.expand_correct.specs.Declared.WordLaws.{is_among}
use Rattle.expand_correct.specs.Declared.SlotLaws.{SlotsAreSound, SlotsHaveWords, ShownExist, ShownRise}
use Rattle.expand_correct.proofs.Declared.Lists.{Pairs, each_pair, IsPart, part_left, part_cons, part_trans}
use Rattle.expand_declarations.proofs.NearIndices.{all_flat_map}
use Rattle.expand_correct.proofs.Declared.Lists.{each_part, length_mapped}
use Rattle.expand_correct.proofs.Declared.Found.{stands_at_number, gathered, or_left, or_right}
use Rattle.expand_declarations.proofs.Faultless.{sound_range}
use Rattle.expand_declarations.proofs.NearIndices.{Faultless, document_variables}

-- what holds of each slot of declarations holds of those of all
slots_of_new : (P : CSlot → Type 0) (words : Texts) (vs : List Variable) (ds : List Var) →
    All (λ v. (index : Option ℤ) → P (slot_at words v index)) ds → All P (new_slots words vs ds)
slots_of_new P words vs [] h = All-nil P
slots_of_new P words vs (d ∷ ds) h = All-append P (cond (is_known vs d.name.text) [] (slots_of words d))
    (new_slots words (with_declaration vs d) ds) (by (is_known vs d.name.text))
    (slots_of_new P words (with_declaration vs d) ds (All-tail (λ v. (index : Option ℤ) → P (slot_at words v index)) d
    ds h))
  where
    each : (indices : List (Option ℤ)) → All P (map (slot_at words d) indices)
    each [] = All-nil P
    each (i ∷ is) = All-cons P (slot_at words d i) (map (slot_at words d) is)
        (All-head (λ v. (index : Option ℤ) → P (slot_at words v index)) d ds h i) (each is)

    by : (b : Bool) → All P (cond b [] (slots_of words d))
    by true = All-nil P
    by false = each (index_values (type_indices d.kind))

-- an enumeration has few words
abbrev FewWords : List Name → Type 0
FewWords names = length names ≤ 1000000000

abbrev HasFew : Plain → Type 0
HasFew (Plain.Words at first rest) = FewWords rest
HasFew _ = ⊤

no_more : (n : ℕ) → n ≤ 1000000000 → unsigned_abs (pos n) ≤ 1000000000
no_more n h = h

sound_plain : (names : Table) (of : Plain) → (plain_part names of).fault ≡ None → HasFew of →
    IsRange (core_range (plain_range of))
sound_plain names (Plain.Boolean at) h few =
    record { some = omega (arith, ints); low = omega arith; high = omega arith }
sound_plain names (Plain.Range at range) h few = sound_range range h
sound_plain names (Plain.Words at first rest) h few =
    record { some = omega (arith, ints); low = omega arith; high = no_more (length rest) few }

type_fault : (names : Table) (kind : VarType) → (type_part names kind).fault ≡ None →
    (more : Table) × ((plain_part more (element_type kind)).fault ≡ None)
type_fault names (VarType.Plain at of) h = (names, h)
type_fault names (VarType.Array at range of) h =
    (names, earlier_second (filled [] range).fault (plain_part names of).fault h)

-- the texts of each variable are among those of the document
program_texts_of : (program : Program) → All (λ v. IsPart (var_texts v) (program_texts program))
    (declarations program)
program_texts_of (Program.Union at name left right) =
    All-nil (λ v. IsPart (var_texts v) (program_texts (Program.Union at name left right)))
program_texts_of (Program.Plain at name declare always initially start items) =
    let vs = flat_map var_texts (items_of declare) in
    All-weaker (λ v. IsPart (var_texts v) vs) (λ v. IsPart (var_texts v) (name.text ∷ (vs ++ items_texts items)))
    (λ v h. part_trans (var_texts v) vs (name.text ∷ (vs ++ items_texts items)) h
    (part_trans vs (vs ++ items_texts items) (name.text ∷ (vs ++ items_texts items))
    (part_left vs (items_texts items))
    (part_cons name.text (vs ++ items_texts items)))) (items_of declare) (each_part var_texts (items_of declare))

part_texts_of : (p : DocumentPart) → All (λ v. IsPart (var_texts v) (part_texts p)) (part_declarations p)
part_texts_of (DocumentPart.Program at program) = program_texts_of program
part_texts_of (DocumentPart.Proof at proof) = All-nil (λ v. IsPart (var_texts v) (proof_texts proof))

-- the texts of each part are among those of the document
pub each_part_texts : (d : Document) → All (λ p. IsPart (part_texts p) (document_texts d)) d.parts
each_part_texts d = let all = flat_map part_texts d.parts in
    All-weaker (λ p. IsPart (part_texts p) all) (λ p. IsPart (part_texts p) (document_texts d))
    (λ p h. part_trans (part_texts p) all (document_texts d) h (part_left all (schedule_texts d.schedule)))
    d.parts (each_part part_texts d.parts)

document_texts_of : (d : Document) → All (λ v. IsPart (var_texts v) (document_texts d)) (declared_by d.parts)
document_texts_of d = all_flat_map (λ v. IsPart (var_texts v) (document_texts d)) part_declarations d.parts
    (All-weaker (λ p. IsPart (part_texts p) (document_texts d))
    (λ p. All (λ v. IsPart (var_texts v) (document_texts d)) (part_declarations p))
    (λ p h. All-weaker (λ v. IsPart (var_texts v) (part_texts p)) (λ v. IsPart (var_texts v) (document_texts d))
    (λ v k. part_trans (var_texts v) (part_texts p) (document_texts d) k h) (part_declarations p) (part_texts_of p))
    d.parts (each_part_texts d))

-- how numbers are written fits their range
print_fits : (words : Texts) (of : Plain) → PrintFits (core_range (plain_range of)) (print_of words of)
print_fits words (Plain.Boolean at) = (refl, refl)
print_fits words (Plain.Range at range) = tt
print_fits words (Plain.Words at first rest) =
    let same = length_mapped (λ (w : Name). word_number words w.text) rest in
    let count : length rest ≡ suc (length (map (λ (w : Name). word_number words w.text) rest)) - 1 = omega arith in
    (refl, ap (λ n. pos n) count, omega arith)

has_few : (of : Plain) → length (plain_texts of) ≤ 1000000000 → HasFew of
has_few (Plain.Boolean at) h = tt
has_few (Plain.Range at range) h = tt
has_few (Plain.Words at first rest) h = let same = length_mapped (λ (w : Name). w.text) rest in omega arith

sound_slot : (words whole : Texts) (v : Var) → length whole ≤ 1000000000 → Faultless v → IsPart (var_texts v) whole →
    (index : Option ℤ) → IsSlot (slot_at words v index)
sound_slot words whole v few faultless part index = let short = part.short in
    let plain = type_fault faultless.0 v.kind faultless.1 in record {
      range = sound_plain plain.0 (element_type v.kind) plain.1 (has_few (element_type v.kind) (omega arith));
      print = print_fits words (element_type v.kind);
    }

pub slots_are_sound : SlotsAreSound
slots_are_sound d words h few = let vs = document_variables d h in let ts = document_texts_of d in
    slots_of_new IsSlot words [] (declared_by d.parts)
    (λ k v below. sound_slot words (document_texts d) (get_or (declared_by d.parts) k v) few.few (vs k v below)
    (ts k v below))

-- words

is_word : (texts : Texts) (text : List ℕ) → is_among texts text ≡ true →
    IsWord (with_texts [] texts) (word_number (with_texts [] texts) text)
is_word texts text h = (stands_at_number (with_texts [] texts) text (gathered [] texts text h)).within

each_among : (ws : List Name) → All (λ w. is_among (map (λ (u : Name). u.text) ws) w.text ≡ true) ws
each_among [] = All-nil (λ w. is_among [] w.text ≡ true)
each_among (w ∷ ws) =
    All-cons (λ u. is_among (map (λ (u : Name). u.text) (w ∷ ws)) u.text ≡ true) w ws
    (or_left (bytes_eq w.text w.text) _ ((bytes_eq-Decides w.text w.text).1 refl))
    (All-weaker (λ u. is_among (map (λ (u : Name). u.text) ws) u.text ≡ true)
    (λ u. is_among (map (λ (u : Name). u.text) (w ∷ ws)) u.text ≡ true)
    (λ u h. or_right (bytes_eq u.text w.text) (is_among (map (λ (u : Name). u.text) ws) u.text) h) ws (each_among ws))

print_words : (texts : Texts) (of : Plain) →
    ((t : List ℕ) → is_among (plain_texts of) t ≡ true → is_among texts t ≡ true) →
    PrintWords (with_texts [] texts) (print_of (with_texts [] texts) of)
print_words texts (Plain.Boolean at) h = tt
print_words texts (Plain.Range at range) h = tt
print_words texts (Plain.Words at first rest) h =
    All-map (IsWord (with_texts [] texts)) (λ (w : Name). word_number (with_texts [] texts) w.text) (first ∷ rest)
    (All-weaker (λ w. is_among (map (λ (u : Name). u.text) (first ∷ rest)) w.text ≡ true)
    (λ w. IsWord (with_texts [] texts) (word_number (with_texts [] texts) w.text))
    (λ w k. is_word texts w.text (h w.text k)) (first ∷ rest) (each_among (first ∷ rest)))

abbrev HasWords : Texts → CSlot → Type 0
HasWords words s = IsWord words s.name × PrintWords words s.print

slot_words : (texts : Texts) (v : Var) → IsPart (var_texts v) texts → (index : Option ℤ) →
    HasWords (with_texts [] texts) (slot_at (with_texts [] texts) v index)
slot_words texts v part index = (
  is_word texts v.name.text (part.among v.name.text
      (or_left (bytes_eq v.name.text v.name.text) _ ((bytes_eq-Decides v.name.text v.name.text).1 refl))),
  print_words texts (element_type v.kind)
      (λ t h. part.among t (or_right (bytes_eq t v.name.text) (is_among (plain_texts (element_type v.kind)) t) h)),
)

pub slots_have_words : SlotsHaveWords
slots_have_words d = let ts = document_texts_of d in
    slots_of_new (HasWords (document_words d)) (document_words d) [] (declared_by d.parts)
    (λ k v below. slot_words (document_texts d) (get_or (declared_by d.parts) k v) (ts k v below))

-- slots that are shown

abbrev Between : ℕ → ℕ → ℕ → Type 0
Between low high n = (low ≤ n) × (n < high)

places_within : (test : CSlot → Bool) (place : ℕ) (slots : List CSlot) →
    All (Between place (place + length slots)) (places_from test place slots)
places_within test place [] = All-nil (Between place (place + 0))
places_within test place (s ∷ ss) =
    let P = Between place (place + suc (length ss)) in
    let rest : All P (places_from test (place + 1) ss) =
    All-weaker (Between (place + 1) (place + 1 + length ss)) P
    (λ n h. let a = h.0 in let b = h.1 in (omega arith, omega arith)) (places_from test (place + 1) ss)
    (places_within test (place + 1) ss) in
    by (test s) rest
  where
    by : (b : Bool) → All (Between place (place + suc (length ss))) (places_from test (place + 1) ss) →
        All (Between place (place + suc (length ss)))
        (cond b (place ∷ places_from test (place + 1) ss) (places_from test (place + 1) ss))
    by true rest = All-cons (Between place (place + suc (length ss))) place (places_from test (place + 1) ss)
        (omega arith, omega arith) rest
    by false rest = rest

places_rise : (test : CSlot → Bool) (place : ℕ) (slots : List CSlot) →
    Pairs (λ m n. m < n) (places_from test place slots)
places_rise test place [] = tt
places_rise test place (s ∷ ss) = by (test s) (places_rise test (place + 1) ss)
  where
    by : (b : Bool) → Pairs (λ m n. m < n) (places_from test (place + 1) ss) →
        Pairs (λ m n. m < n) (cond b (place ∷ places_from test (place + 1) ss) (places_from test (place + 1) ss))
    by true rest = (
      All-weaker (Between (place + 1) (place + 1 + length ss)) (λ n. place < n)
          (λ n h. let a = h.0 in omega arith) (places_from test (place + 1) ss) (places_within test (place + 1) ss),
      rest,
    )
    by false rest = rest

pub shown_exist : ShownExist
shown_exist words vs slots = All-weaker (Between 0 (0 + length slots)) (λ n. n < length slots)
    (λ n h. let b = h.1 in omega arith) (shown_slots words vs slots)
    (places_within (is_slot_of (declared_names words vs)) 0 slots)

pub shown_rise : ShownRise
shown_rise words vs slots = each_pair (λ m n. m < n) (shown_slots words vs slots)
    (places_rise (is_slot_of (declared_names words vs)) 0 slots)
