-- A core program and its instances have the names of the program and of its instances.
use Rattle.std.proofs.Common.{◌≡◌, ℕ, zero, suc, ◌+◌, nat_eq, ℤ, List, [], ◌∷◌, ◌++◌, map, Bool, true, cond, ◌&&◌}
use Rattle.std.proofs.Common.{Option, Some, refl, sym, ap, ◌∙◌, subst, slice_get}
use Rattle.std.specs.Option.{option_map_or}
use Rattle.std.specs.List.{position_from}
use Rattle.std.specs.Ordering.{int_eq}
use Rattle.std.specs.Str.{bytes_eq}
use Rattle.std.specs.Cmp.Lexicographic.{pointwise}
use Rattle.unity_syntax.specs.declared.term.Inst.{Inst}
use Rattle.unity_syntax.specs.declared.document.Document.{Document}
use Rattle.meaning_documents.specs.Value.{end_value}
use Rattle.meaning_documents.specs.Instances.{Instance, outermost_first}
use Rattle.meaning_documents.specs.Programs.{Composed, programs_of}
use Rattle.names_rules.specs.Declarations.{some_of}
use Rattle.core_terms.specs.declared.programs.CStmt.{CStmt}
use Rattle.core_terms.specs.declared.programs.CProgram.{CProgram}
use Rattle.expand_declarations.specs.Texts.{Texts, document_texts}
use Rattle.expand_declarations.specs.WordNumbers.{document_words, with_texts, word_number}
use Rattle.expand_correct.specs.Declared.WordLaws.{is_among}
use Rattle.expand_correct.proofs.Values.Operations.{two}
use Rattle.expand_declarations.specs.References.{core_choice}
use Rattle.schedule_replay.specs.Lines.{word_text, indices_text, instance_text as core_instance_text}
use Rattle.schedule_replay.specs.Lines.{chosen_text as core_chosen_text}
use Rattle.schedule_replay.specs.Schedules.{names_instance as is_core_named, place_of as core_place_of}
use Rattle.expand_correct.specs.Exact.Parts.{EachItem}
use Rattle.expand_correct.specs.from_expand_documents.Cores.{core_document}
use Rattle.meaning_documents.specs.Setting.{programs_among}
use Rattle.run_correct.specs.Shown.{document_places, with_shown, shown_slots}
use Rattle.run_correct.specs.Names.{instance_text, chosen_text, chooses_instance, place_of}
use Rattle.run_correct.specs.Laws.{core_name, numbered_name, NamesMatch, AllNamesMatch}
use Rattle.run_correct.proofs.Lists.{behind, some_same, first_same, rest_same, word_is, numbers_as_texts}
use Rattle.run_correct.proofs.Labels.{HasLabel}
use Rattle.run_correct.proofs.Pairs.{IsNamedPair, found_pair}
use Rattle.run_correct.proofs.Standing.{document_pairs}

match_of : (d : Document) (name : List ℕ) (c : Composed) (p : CProgram) →
    IsNamedPair (document_texts d) name c (shown_slots d name) p → NamesMatch d name c p
match_of d name c p h = record {
  name_is = ap (word_text (document_words d)) h.numbered ∙ word_is (document_texts d) name h.written;
  names = h.names;
  labels = h.labels;
  shown = h.shows;
}

pub all_names_match : AllNamesMatch
all_names_match d name c p named h =
    let f = found_pair (document_texts d) (programs_of d)
    (with_shown (document_places d) [] (programs_among d.parts)) (core_document d).programs name c
    (document_pairs d named) h.source in
    match_of d name c p (subst (λ (q : CProgram). IsNamedPair (document_texts d) name c (shown_slots d name) q)
    (some_same f.core p (sym f.found ∙ h.found)) f.pair)

module _ (texts : Texts) where
  abbrev words : Texts
  words = with_texts [] texts

  abbrev Alike : CStmt → Instance → Type 0
  Alike s i = core_name s ≡ numbered_name words i

  label_alike : (s : CStmt) (i : Instance) → Alike s i → s.label ≡ word_number words i.label
  label_alike s i e = ap (λ (n : ℕ × List ℤ). n.0) e

  indices_alike : (s : CStmt) (i : Instance) → Alike s i → s.indices ≡ outermost_first i.bindings
  indices_alike s i e = ap (λ (n : ℕ × List ℤ). n.1) e

  -- names are written alike
  text_alike : (s : CStmt) (i : Instance) → Alike s i → HasLabel texts i →
      core_instance_text words s ≡ instance_text i
  text_alike s i e h = two (λ (xs ys : List ℕ). xs ++ ys) (word_text words s.label) i.label (indices_text s.indices)
      (indices_text (outermost_first i.bindings))
      (ap (word_text words) (label_alike s i e) ∙ word_is texts i.label h) (ap indices_text (indices_alike s i e))

  pub texts_alike : (ss : List CStmt) (is : List Instance) → map core_name ss ≡ map (numbered_name words) is →
      EachItem (HasLabel texts) is → (choice : ℕ) →
      option_map_or (core_instance_text words) (slice_get ss choice) []
      ≡ option_map_or instance_text (slice_get is choice) []
  texts_alike [] [] e h choice = refl
  texts_alike [] (i ∷ is) e h choice = cc e
  texts_alike (s ∷ ss) [] e h choice = cc e
  texts_alike (s ∷ ss) (i ∷ is) e h zero =
      text_alike s i (first_same (core_name s) (numbered_name words i) (map core_name ss)
      (map (numbered_name words) is) e) (h zero i refl)
  texts_alike (s ∷ ss) (i ∷ is) e h (suc choice) =
      texts_alike ss is (rest_same (core_name s) (numbered_name words i) (map core_name ss)
      (map (numbered_name words) is) e) (behind (HasLabel texts) i is h) choice

  -- a choice names them alike
  named_alike : (choice : Inst) (s : CStmt) (i : Instance) → is_among texts choice.label.text ≡ true → Alike s i →
      HasLabel texts i → is_core_named (core_choice words choice) s ≡ chooses_instance choice i
  named_alike choice s i written e h =
      two (λ (a b : Bool). a && b) (nat_eq s.label (word_number words choice.label.text))
      (bytes_eq i.label choice.label.text)
      (pointwise int_eq s.indices (map (end_value []) (some_of choice.indices)))
      (pointwise int_eq (outermost_first i.bindings) (map (end_value []) (some_of choice.indices)))
      (ap (λ n. nat_eq n (word_number words choice.label.text)) (label_alike s i e)
      ∙ numbers_as_texts texts i.label choice.label.text h written)
      (ap (λ zs. pointwise int_eq zs (map (end_value []) (some_of choice.indices))) (indices_alike s i e))

  pub places_alike : (choice : Inst) (place : ℕ) (ss : List CStmt) (is : List Instance) →
      is_among texts choice.label.text ≡ true → map core_name ss ≡ map (numbered_name words) is →
      EachItem (HasLabel texts) is →
      position_from (is_core_named (core_choice words choice)) place ss ≡
      position_from (chooses_instance choice) place is
  places_alike choice place [] [] written e h = refl
  places_alike choice place [] (i ∷ is) written e h = cc e
  places_alike choice place (s ∷ ss) [] written e h = cc e
  places_alike choice place (s ∷ ss) (i ∷ is) written e h =
      two (λ (b : Bool) (o : Option ℕ). cond b (Some place) o) (is_core_named (core_choice words choice) s)
      (chooses_instance choice i) (position_from (is_core_named (core_choice words choice)) (place + 1) ss)
      (position_from (chooses_instance choice) (place + 1) is)
      (named_alike choice s i written (first_same (core_name s) (numbered_name words i) (map core_name ss)
      (map (numbered_name words) is) e) (h zero i refl))
      (places_alike choice (place + 1) ss is written (rest_same (core_name s) (numbered_name words i)
      (map core_name ss) (map (numbered_name words) is) e) (behind (HasLabel texts) i is h))

pub chosen_alike : (d : Document) (name : List ℕ) (c : Composed) (p : CProgram) → NamesMatch d name c p →
    (choice : ℕ) → core_chosen_text (core_document d) p choice ≡ chosen_text c choice
chosen_alike d name c p h choice = texts_alike (document_texts d) p.statements c.instances h.names h.labels choice

pub place_alike : (d : Document) (name : List ℕ) (c : Composed) (p : CProgram) → NamesMatch d name c p →
    (choice : Inst) → is_among (document_texts d) choice.label.text ≡ true →
    core_place_of p.statements (core_choice (document_words d) choice) ≡ place_of c choice
place_alike d name c p h choice written =
    places_alike (document_texts d) choice 0 p.statements c.instances written h.names h.labels
