-- The programs of a document and its core programs, part by part: the names of their instances.
use Rattle.std.proofs.Common.{◌≡◌, ℕ, ℤ, List, [], ◌∷◌, ◌++◌, map, Bool, true, not, ◌||◌, Option, Some}
use Rattle.std.proofs.Common.{None, is_some, refl, sym, ap, ◌∙◌, subst, All}
use Rattle.std.specs.List.{flat_map}
use Rattle.std.specs.Map.{lookup}
use Rattle.std.specs.Str.{bytes_eq}
use Rattle.std.proofs.lemmas.List.{map-append}
use Rattle.std.proofs.lemmas.List.Elements.{All-head, All-tail}
use Rattle.std.proofs.lemmas.Slice.Eq.{bytes_eq-Decides}
use Rattle.indexmap.specs.IndexMap.{insert_entry}
use Rattle.unity_syntax.specs.declared.name.Name.{Name}
use Rattle.unity_syntax.specs.declared.program.Initially.{Initially}
use Rattle.unity_syntax.specs.declared.program.Program.{Program}
use Rattle.unity_syntax.specs.declared.statement.Items.{Items}
use Rattle.unity_syntax.specs.declared.document.Part.{Part}
use Rattle.unity_syntax.specs.declared.document.Document.{Document}
use Rattle.meaning_documents.specs.Instances.{Instance, outermost_first, instances}
use Rattle.meaning_documents.specs.Setting.{programs_among}
use Rattle.meaning_documents.specs.Programs.{Composed, Known, program_named, union, initial_formula, union_of, name_of}
use Rattle.meaning_documents.specs.Programs.{composed, with_composed, with_programs, programs_of}
use Rattle.names_rules.specs.declared.named.Composed.{Composed as NamedParts}
use Rattle.names_rules.specs.Reading.{earlier, unless}
use Rattle.case_tables.specs.declared.code_table.Code.{Code}
use Rattle.names_rules.specs.Part.{run}
use Rattle.names_rules.specs.Declarations.{items_of, some_of}
use Rattle.names_rules.specs.Proofs.{Programs, program_reading}
use Rattle.names_rules.specs.WellNamed.{Declared, nothing_declared, new_program, parts_of, share, program_part}
use Rattle.names_rules.specs.WellNamed.{proof_part, part_of, IsWellNamed}
use Rattle.names_rules.proofs.Faults.{earlier_first, earlier_second}
use Rattle.core_terms.specs.declared.programs.CSlot.{CSlot}
use Rattle.core_terms.specs.declared.programs.CProgram.{CProgram}
use Rattle.core_terms.specs.Unions.{merged, joined_programs}
use Rattle.expand_declarations.specs.Texts.{Texts, var_texts, items_texts, program_texts, part_texts, document_texts}
use Rattle.expand_declarations.specs.WordNumbers.{document_words, with_texts, word_number}
use Rattle.expand_declarations.specs.Slots.{declared_by, document_slots}
use Rattle.expand_declarations.specs.Shown.{places_from, declared_names, is_slot_of, shown_slots}
use Rattle.expand_declarations.specs.Start.{start_values}
use Rattle.expand_correct.specs.Declared.WordLaws.{is_among}
use Rattle.expand_correct.proofs.Declared.Found.{or_left}
use Rattle.expand_correct.proofs.Declared.Lists.{IsPart, part_right, part_cons}
use Rattle.expand_correct.proofs.Declared.Slots.{each_part_texts}
use Rattle.expand_declarations.proofs.NearIndices.{parts_fault}
use Rattle.expand_rules.specs.Forming.{Scope}
use Rattle.expand_rules.specs.Assigning.{stated}
use Rattle.expand_rules.specs.Programs.{core_statement, plain_core}
use Rattle.expand_correct.proofs.Values.Operations.{two}
use Rattle.expand_correct.specs.Exact.Parts.{EachItem}
use Rattle.expand_correct.proofs.Exact.Statements.{everywhere_joined}
use Rattle.expand_correct.specs.from_expand_documents.Cores.{core_named, core_union, core_program, with_core}
use Rattle.expand_correct.specs.from_expand_documents.Cores.{with_cores, document_scope}
use Rattle.expand_correct.specs.from_expand_documents.Cores.{core_document}
use Rattle.expand_correct.proofs.Preserved.Matching.{known_name}
use Rattle.expand_correct.proofs.Preserved.Pairs.{is_named, named_some, named_with, entered_with}
use Rattle.run_correct.specs.Shown.{SlotOfVariable, document_places, Showing, is_slot_among, shown_named, shown_by}
use Rattle.run_correct.specs.Shown.{with_shown}
use Rattle.run_correct.specs.Laws.{core_name, numbered_name}
use Rattle.run_correct.proofs.Lists.{weaker}
use Rattle.run_correct.proofs.Labels.{HasLabel, each_labelled}
use Rattle.run_correct.proofs.Slots.{core_slot, PlaceWritten, all_placed, places_written, shown_same}
use Rattle.run_correct.proofs.Written.{program_written, all_written}
use Rattle.run_correct.proofs.Pairs.{IsNamedPair, ArePairs, pairs_with, found_pair}

-- the statements of a program have the names of its instances
stated_names : (number : List ℕ → ℕ) (words : Texts) (s : Scope) →
    ((text : List ℕ) → number text ≡ word_number words text) → (is : List Instance) →
    map core_name (map (core_statement number) (map (stated s) is)) ≡ map (numbered_name words) is
stated_names number words s h [] = refl
stated_names number words s h (i ∷ is) = two (λ (x : ℕ × List ℤ) (xs : List (ℕ × List ℤ)). x ∷ xs)
    (core_name (core_statement number (stated s i))) (numbered_name words i)
    (map core_name (map (core_statement number) (map (stated s) is))) (map (numbered_name words) is)
    (ap (λ (n : ℕ). (n, outermost_first i.bindings)) (h i.label)) (stated_names number words s h is)

-- whether a name is one of these programs
abbrev has : Programs → List ℕ → Bool
has programs name = is_some (lookup (bytes_eq name) programs)

module _ (texts : Texts) (s : Scope) (slots : List CSlot) (places : List SlotOfVariable)
    (laid : slots ≡ map (core_slot (with_texts [] texts)) places) (placed : EachItem (PlaceWritten texts) places)
  where
    abbrev words : Texts
    words = with_texts [] texts

    -- the programs so far: those that are named, those that have a meaning, what they show, and those in core form
    pub record Standing (programs : Programs) (known : Known) (showing : Showing) (cores : List CProgram) : Type 0 where
      pub pairs : ArePairs texts known showing cores
      pub agree : (name : List ℕ) → has programs name ≡ is_named known name

    one_more : (programs : Programs) (known : Known) (showing : Showing) (cores : List CProgram) (name : List ℕ)
        (v : NamedParts) (c : Composed) (shown : List ℕ) (p : CProgram) → Standing programs known showing cores →
        IsNamedPair texts name c shown p →
        Standing (insert_entry bytes_eq programs name v) (known ++ (name, c) ∷ []) (showing ++ (name, shown) ∷ [])
        (cores ++ p ∷ [])
    one_more programs known showing cores name v c shown p h pair = record {
      pairs = pairs_with texts known showing cores name c shown p h.pairs pair;
      agree = λ other. entered_with programs name v other ∙ ap (λ b. bytes_eq other name || b) (h.agree other)
          ∙ sym (named_with known name c other);
    }

    plain_pair : (name : Name) (shown others : List ℕ) (start : List (ℕ × ℤ)) (initially : Option Initially)
        (items : Items) →
        is_among texts name.text ≡ true → EachItem (HasLabel texts) (instances items) → shown ≡ others →
        IsNamedPair texts name.text (record { initially = initial_formula initially; instances = instances items })
        others
        (plain_core (word_number words) s (word_number words name.text) shown start initially items)
    plain_pair name shown others start initially items written labels same = record {
      written = written;
      numbered = refl;
      names = stated_names (word_number words) words s (λ text. refl) (instances items);
      labels = labels;
      shows = same;
    }

    -- a union of two that are named
    union_pair : (known : Known) (showing : Showing) (cores : List CProgram) (name left right : Name) →
        ArePairs texts known showing cores →
        is_among texts name.text ≡ true → is_named known left.text ≡ true → is_named known right.text ≡ true →
        (c : Composed) × (p : CProgram)
        × (union_of (program_named left.text known) (program_named right.text known) ≡ Some c)
        × (core_union (word_number words name.text) (core_named (word_number words left.text) cores)
        (core_named (word_number words right.text) cores) ≡ Some p)
        × IsNamedPair texts name.text c (merged (shown_named left.text showing) (shown_named right.text showing)) p
    union_pair known showing cores name left right pairs written hl hr =
        let l = named_some known left.text hl in
        let r = named_some known right.text hr in
        let f = found_pair texts known showing cores left.text l.0 pairs l.1 in
        let g = found_pair texts known showing cores right.text r.0 pairs r.1 in (
          union l.0 r.0,
          joined_programs (word_number words name.text) f.core g.core,
          two union_of _ _ _ _ l.1 r.1,
          two (core_union (word_number words name.text)) _ _ _ _ f.found g.found,
          record {
            written = written;
            numbered = refl;
            names = map-append core_name f.core.statements g.core.statements
                ∙ two (λ (xs ys : List (ℕ × List ℤ)). xs ++ ys) _ _ _ _ f.pair.names g.pair.names
                ∙ sym (map-append (numbered_name words) l.0.instances r.0.instances);
            labels = everywhere_joined (HasLabel texts) l.0.instances r.0.instances f.pair.labels g.pair.labels;
            shows = two merged f.core.shown (shown_named left.text showing) g.core.shown
                (shown_named right.text showing) f.pair.shows g.pair.shows;
          },
        )

    after_program : (d : Declared) (known : Known) (showing : Showing) (cores : List CProgram) (p : Program) →
        Standing d.programs known showing cores → (program_part d p).fault ≡ None → IsPart (program_texts p) texts →
        is_among (program_texts p) (name_of p) ≡ true →
        Standing (program_part d p).after.programs (with_composed known (name_of p) (composed known p))
        (showing ++ (name_of p, shown_by places showing p) ∷ []) (with_core cores (core_program words s slots cores p))
    after_program d known showing cores (Program.Union at name left right) h f written own =
        let v : NamedParts = record { at = name.at; parts = parts_of d.programs left ++ parts_of d.programs right } in
        let a = (new_program d.programs name).fault in
        let b = (program_reading d.programs left).fault in
        let e = (program_reading d.programs right).fault in
        let g = unless (not (share (parts_of d.programs left) (parts_of d.programs right))) Code.DeclaredTwice right.at
        in
        let rest = earlier_second a (earlier b (earlier e g)) f in
        let first = known_name d.programs left (earlier_first b (earlier e g) rest) in
        let second = known_name d.programs right (earlier_first e g (earlier_second b (earlier e g) rest)) in
        let u = union_pair known showing cores name left right h.pairs (written.among name.text own)
        (sym (h.agree left.text) ∙ first) (sym (h.agree right.text) ∙ second) in
        let new = insert_entry bytes_eq d.programs name.text v in
        let shown = merged (shown_named left.text showing) (shown_named right.text showing) in
        let more = showing ++ (name.text, shown) ∷ [] in
        subst (λ (o : Option Composed). Standing new (with_composed known name.text o) more
        (with_core cores (core_program words s slots cores (Program.Union at name left right)))) (sym u.2)
        (subst (λ (o : Option CProgram). Standing new (known ++ (name.text, u.0) ∷ []) more
        (with_core cores o)) (sym u.3)
        (one_more d.programs known showing cores name.text v u.0 shown u.1 h u.4))
    after_program d known showing cores (Program.Plain at name declare always initially start items) h f written own =
        let v : NamedParts = record { at = name.at; parts = name.at ∷ [] } in
        let shown = shown_slots words (items_of declare) slots in
        let values = start_values s.variables s.words (some_of start) in
        let vs = flat_map var_texts (items_of declare) in
        let labels = weaker (HasLabel (items_texts items)) (HasLabel texts)
        (λ i t. written.among i.label ((part_cons name.text (vs ++ items_texts items)).among i.label
        ((part_right vs (items_texts items)).among i.label t))) (instances items) (each_labelled items) in
        one_more d.programs known showing cores name.text v
        (record { initially = initial_formula initially; instances = instances items })
        (places_from (is_slot_among (items_of declare)) 0 places)
        (plain_core (word_number words) s (word_number words name.text) shown values initially items) h
        (plain_pair name shown (places_from (is_slot_among (items_of declare)) 0 places) values initially items
        (written.among name.text own) labels
        (ap (places_from (is_slot_of (declared_names words (items_of declare))) 0) laid
        ∙ shown_same texts (items_of declare) 0 places
        (program_written texts (Program.Plain at name declare always initially start items) written) placed))

    own_name : (p : Program) → is_among (program_texts p) (name_of p) ≡ true
    own_name (Program.Union at name left right) =
        or_left (bytes_eq name.text name.text) (is_among [] name.text)
        ((bytes_eq-Decides name.text name.text).1 refl)
    own_name (Program.Plain at name declare always initially start items) =
        or_left (bytes_eq name.text name.text)
        (is_among (flat_map var_texts (items_of declare) ++ items_texts items) name.text)
        ((bytes_eq-Decides name.text name.text).1 refl)

    after_parts : (d : Declared) (known : Known) (showing : Showing) (cores : List CProgram) (parts : List Part) →
        Standing d.programs known showing cores → (run part_of d parts).fault ≡ None →
        All (λ p. IsPart (part_texts p) texts) parts →
        Standing (run part_of d parts).after.programs (with_programs known (programs_among parts))
        (with_shown places showing (programs_among parts)) (with_cores words s slots cores parts)
    after_parts d known showing cores [] h f written = h
    after_parts d known showing cores (Part.Program at p ∷ rest) h f written =
        let r = program_part d p in
        let more = run part_of r.after rest in
        after_parts r.after (with_composed known (name_of p) (composed known p))
        (showing ++ (name_of p, shown_by places showing p) ∷ []) (with_core cores (core_program words s slots cores p))
        rest
        (after_program d known showing cores p h (earlier_first r.fault more.fault f)
        (All-head (λ q. IsPart (part_texts q) texts) (Part.Program at p) rest written) (own_name p))
        (earlier_second r.fault more.fault f)
        (All-tail (λ q. IsPart (part_texts q) texts) (Part.Program at p) rest written)
    after_parts d known showing cores (Part.Proof at p ∷ rest) h f written =
        let r = proof_part d p in
        let more = run part_of r.after rest in
        after_parts r.after known showing cores rest (record { pairs = h.pairs; agree = h.agree })
        (earlier_second r.fault more.fault f)
        (All-tail (λ q. IsPart (part_texts q) texts) (Part.Proof at p) rest written)

pub document_pairs : (d : Document) → IsWellNamed d →
    ArePairs (document_texts d) (programs_of d) (with_shown (document_places d) [] (programs_among d.parts))
    (core_document d).programs
document_pairs d named =
    (after_parts (document_texts d) (document_scope d.parts) (document_slots (document_words d) d.parts)
    (document_places d) (all_placed (document_words d) [] (declared_by d.parts))
    (places_written (document_texts d) [] (declared_by d.parts) (all_written d))
    nothing_declared [] [] [] d.parts (record { pairs = tt; agree = λ name. refl }) (parts_fault d named)
    (each_part_texts d)).pairs
