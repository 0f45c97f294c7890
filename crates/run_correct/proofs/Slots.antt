-- The slots of the core form of a document are those of the variables that the document declares.
use Rattle.std.proofs.Common.{◌≡◌, ℕ, zero, suc, ◌+◌, nat_eq, ℤ, pos, negsuc, List, [], ◌∷◌}
use Rattle.std.proofs.Common.{◌++◌, map, Bool, true, false}
use Rattle.std.proofs.Common.{cond, Option, codes, refl, sym, ap, ◌∙◌, subst, slice_get}
use Rattle.std.specs.Prelude.{◌||◌}
use Rattle.std.specs.Option.{option_map_or}
use Rattle.std.specs.List.{flat_map}
use Rattle.std.specs.Str.{bytes_eq}
use Rattle.std.proofs.lemmas.List.{map-append}
use Rattle.unity_syntax.specs.declared.name.Name.{Name}
use Rattle.unity_syntax.specs.declared.declaration.Plain.{Plain}
use Rattle.unity_syntax.specs.declared.declaration.Var.{Var}
use Rattle.unity_syntax.specs.declared.document.Document.{Document}
use Rattle.meaning_states.specs.State.{State}
use Rattle.meaning_documents.specs.Names.{Variable}
use Rattle.meaning_documents.specs.Setting.{element_type, type_indices, with_declaration}
use Rattle.core_terms.specs.declared.programs.CSlot.{CSlot}
use Rattle.core_terms.specs.Values.{number_at}
use Rattle.expand_declarations.specs.Texts.{Texts, plain_texts, var_texts, document_texts}
use Rattle.expand_declarations.specs.WordNumbers.{document_words, with_texts, word_number}
use Rattle.expand_declarations.specs.Slots.{index_values, is_known, print_of, slot_at, slots_of, new_slots, declared_by}
use Rattle.expand_declarations.specs.Shown.{places_from, declared_names, is_slot_of}
use Rattle.expand_correct.specs.Declared.WordLaws.{is_among}
use Rattle.expand_correct.proofs.Declared.Found.{or_left, or_right}
use Rattle.expand_correct.proofs.Declared.Lists.{IsPart}
use Rattle.expand_correct.proofs.Values.Operations.{two}
use Rattle.schedule_replay.specs.Lines.{word_text, index_text, value_text as core_value_text}
use Rattle.schedule_replay.specs.Lines.{slot_text as core_slot_text}
use Rattle.schedule_replay.specs.Lines.{known_slot_text}
use Rattle.expand_correct.specs.Exact.Parts.{EachItem}
use Rattle.expand_correct.proofs.Exact.Statements.{everywhere_joined}
use Rattle.expand_correct.specs.from_expand_documents.Cores.{core_document}
use Rattle.run_correct.specs.Shown.{SlotOfVariable, places_of, new_places, document_places, value_text}
use Rattle.run_correct.specs.Shown.{place_text, slot_text, is_slot_among}
use Rattle.run_correct.proofs.Lists.{weaker, behind, none_of, text_same, each_among, word_is, numbers_as_texts}

-- the core slot of a place
abbrev pub core_slot : Texts → SlotOfVariable → CSlot
core_slot words e = slot_at words e.0 e.1

-- slots of variables, in order

slots_placed : (words : Texts) (v : Var) (is : List (Option ℤ)) →
    map (slot_at words v) is ≡ map (core_slot words) (map (λ index. (v, index)) is)
slots_placed words v [] = refl
slots_placed words v (i ∷ is) = ap (λ ss. slot_at words v i ∷ ss) (slots_placed words v is)

some_placed : (words : Texts) (b : Bool) (v : Var) →
    cond b [] (slots_of words v) ≡ map (core_slot words) (cond b [] (places_of v))
some_placed words true v = refl
some_placed words false v = slots_placed words v (index_values (type_indices v.kind))

pub all_placed : (words : Texts) (vs : List Variable) (ds : List Var) →
    new_slots words vs ds ≡ map (core_slot words) (new_places vs ds)
all_placed words vs [] = refl
all_placed words vs (v ∷ ds) =
    two (λ (xs ys : List CSlot). xs ++ ys) _ _ _ _ (some_placed words (is_known vs v.name.text) v)
    (all_placed words (with_declaration vs v) ds)
    ∙ sym (map-append (core_slot words) (cond (is_known vs v.name.text) [] (places_of v))
    (new_places (with_declaration vs v) ds))

-- the words of their variables are words of the document

abbrev pub IsWritten : Texts → Var → Type 0
IsWritten texts v = IsPart (var_texts v) texts

abbrev pub PlaceWritten : Texts → SlotOfVariable → Type 0
PlaceWritten texts e = IsWritten texts e.0

indices_written : (texts : Texts) (v : Var) → IsWritten texts v → (is : List (Option ℤ)) →
    EachItem (PlaceWritten texts) (map (λ index. (v, index)) is)
indices_written texts v w [] place e same = cc same
indices_written texts v w (i ∷ is) zero e same = let here : (v, i) ≡ e = cc in
    subst (PlaceWritten texts) here w
indices_written texts v w (i ∷ is) (suc place) e same = indices_written texts v w is place e same

some_written : (texts : Texts) (b : Bool) (v : Var) → IsWritten texts v →
    EachItem (PlaceWritten texts) (cond b [] (places_of v))
some_written texts true v w = none_of (PlaceWritten texts)
some_written texts false v w = indices_written texts v w (index_values (type_indices v.kind))

pub places_written : (texts : Texts) (vs : List Variable) (ds : List Var) → EachItem (IsWritten texts) ds →
    EachItem (PlaceWritten texts) (new_places vs ds)
places_written texts vs [] w = none_of (PlaceWritten texts)
places_written texts vs (v ∷ ds) w =
    everywhere_joined (PlaceWritten texts) (cond (is_known vs v.name.text) [] (places_of v))
    (new_places (with_declaration vs v) ds) (some_written texts (is_known vs v.name.text) v (w 0 v refl))
    (places_written texts (with_declaration vs v) ds (behind (IsWritten texts) v ds w))

pub name_written : (texts : Texts) (v : Var) → IsWritten texts v → is_among texts v.name.text ≡ true
name_written texts v w = w.among v.name.text (or_left (bytes_eq v.name.text v.name.text)
    (is_among (plain_texts (element_type v.kind)) v.name.text) (text_same v.name.text v.name.text refl))

-- texts of slots

module _ (texts : Texts) where
  abbrev words : Texts
  words = with_texts [] texts

  enumerated_same : (ws : List Name) (n : ℕ) → EachItem (λ (w : Name). is_among texts w.text ≡ true) ws →
      option_map_or (word_text words) (slice_get (map (λ (w : Name). word_number words w.text) ws) n) []
      ≡ option_map_or (λ (w : Name). w.text) (slice_get ws n) []
  enumerated_same [] n h = refl
  enumerated_same (w ∷ ws) zero h = word_is texts w.text (h 0 w refl)
  enumerated_same (w ∷ ws) (suc n) h =
      enumerated_same ws n (behind (λ (x : Name). is_among texts x.text ≡ true) w ws h)

  value_same : (of : Plain) (z : ℤ) → ((t : List ℕ) → is_among (plain_texts of) t ≡ true → is_among texts t ≡ true) →
      core_value_text words (print_of words of) z ≡ value_text of z
  value_same (Plain.Boolean at) z h = refl
  value_same (Plain.Range at range) z h = refl
  value_same (Plain.Words at first rest) (pos n) h =
      enumerated_same (first ∷ rest) n
      (weaker (λ (w : Name). is_among (map (λ (x : Name). x.text) (first ∷ rest)) w.text ≡ true)
      (λ (w : Name). is_among texts w.text ≡ true) (λ w t. h w.text t) (first ∷ rest)
      (each_among (λ (x : Name). x.text) (first ∷ rest)))
  value_same (Plain.Words at first rest) (negsuc n) h = refl

  place_same : (e : SlotOfVariable) (z : ℤ) → PlaceWritten texts e →
      known_slot_text words (core_slot words e) z ≡ place_text e z
  place_same e z w =
      two (λ (name value : List ℕ). codes " " ++ name ++ index_text e.1 ++ codes "=" ++ value)
      (word_text words (word_number words e.0.name.text)) e.0.name.text
      (core_value_text words (print_of words (element_type e.0.kind)) z) (value_text (element_type e.0.kind) z)
      (word_is texts e.0.name.text (name_written texts e.0 w))
      (value_same (element_type e.0.kind) z (λ t h. w.among t
      (or_right (bytes_eq t e.0.name.text) (is_among (plain_texts (element_type e.0.kind)) t) h)))

  slots_same : (es : List SlotOfVariable) (n : ℕ) (z : ℤ) → EachItem (PlaceWritten texts) es →
      option_map_or (λ s. known_slot_text words s z) (slice_get (map (core_slot words) es) n) []
      ≡ option_map_or (λ e. place_text e z) (slice_get es n) []
  slots_same [] n z h = refl
  slots_same (e ∷ es) zero z h = place_same e z (h 0 e refl)
  slots_same (e ∷ es) (suc n) z h = slots_same es n z (behind (PlaceWritten texts) e es h)

  -- slots that are shown

  declared_same : (e : SlotOfVariable) (vs : List Var) → PlaceWritten texts e → EachItem (IsWritten texts) vs →
      is_slot_of (declared_names words vs) (core_slot words e) ≡ is_slot_among vs e
  declared_same e [] w h = refl
  declared_same e (v ∷ vs) w h =
      two (λ (a b : Bool). a || b) (nat_eq (word_number words e.0.name.text) (word_number words v.name.text))
      (bytes_eq e.0.name.text v.name.text) (is_slot_of (declared_names words vs) (core_slot words e))
      (is_slot_among vs e)
      (numbers_as_texts texts e.0.name.text v.name.text (name_written texts e.0 w)
      (name_written texts v (h 0 v refl)))
      (declared_same e vs w (behind (IsWritten texts) v vs h))

  pub shown_same : (vs : List Var) (place : ℕ) (es : List SlotOfVariable) → EachItem (IsWritten texts) vs →
      EachItem (PlaceWritten texts) es →
      places_from (is_slot_of (declared_names words vs)) place (map (core_slot words) es)
      ≡ places_from (is_slot_among vs) place es
  shown_same vs place [] w h = refl
  shown_same vs place (e ∷ es) w h =
      two (λ (b : Bool) (ns : List ℕ). cond b (place ∷ ns) ns)
      (is_slot_of (declared_names words vs) (core_slot words e)) (is_slot_among vs e)
      (places_from (is_slot_of (declared_names words vs)) (place + 1) (map (core_slot words) es))
      (places_from (is_slot_among vs) (place + 1) es) (declared_same e vs (h 0 e refl) w)
      (shown_same vs (place + 1) es w (behind (PlaceWritten texts) e es h))

-- documents

abbrev pub AllWritten : Document → Type 0
AllWritten d = EachItem (IsWritten (document_texts d)) (declared_by d.parts)

pub slot_text_same : (d : Document) → AllWritten d → (state : State) (n : ℕ) →
    core_slot_text (core_document d) state n ≡ slot_text d state n
slot_text_same d w state n =
    ap (λ (ss : List CSlot). option_map_or (λ s. known_slot_text (document_words d) s (number_at state n))
    (slice_get ss n) []) (all_placed (document_words d) [] (declared_by d.parts))
    ∙ slots_same (document_texts d) (document_places d) n (number_at state n)
    (places_written (document_texts d) [] (declared_by d.parts) w)

pub shown_text_same : (d : Document) → AllWritten d → (state : State) (ns : List ℕ) →
    flat_map (core_slot_text (core_document d) state) ns ≡ flat_map (slot_text d state) ns
shown_text_same d w state [] = refl
shown_text_same d w state (n ∷ ns) =
    two (λ (xs ys : List ℕ). xs ++ ys) _ _ _ _ (slot_text_same d w state n) (shown_text_same d w state ns)
