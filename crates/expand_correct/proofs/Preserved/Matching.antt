-- The programs of a document and their core programs, part by part.
use Rattle.std.proofs.Common.{◌≡◌, ℕ, zero, suc, ℤ, List, [], ◌∷◌, ◌++◌, map, Bool, true, false, not, ◌||◌, Option}
use Rattle.std.proofs.Common.{Some, None, is_some, refl, sym, ap, ◌∙◌, subst, All}
use Rattle.std.specs.List.{flat_map}
use Rattle.std.specs.Map.{lookup}
use Rattle.std.specs.Str.{bytes_eq}
use Rattle.std.proofs.lemmas.Slice.Eq.{bytes_eq-Decides}
use Rattle.std.proofs.lemmas.List.Elements.{All-head, All-tail}
use Rattle.indexmap.specs.IndexMap.{insert_entry}
use Rattle.case_tables.specs.declared.code_table.Code.{Code}
use Rattle.unity_syntax.specs.declared.name.Name.{Name}
use Rattle.unity_syntax.specs.declared.program.Initially.{Initially}
use Rattle.unity_syntax.specs.declared.program.Program.{Program}
use Rattle.unity_syntax.specs.declared.statement.Items.{Items}
use Rattle.unity_syntax.specs.declared.document.Part.{Part}
use Rattle.unity_syntax.specs.declared.document.Document.{Document}
use Rattle.meaning_documents.specs.Instances.{Instance, instances}
use Rattle.meaning_documents.specs.Setting.{programs_among}
use Rattle.meaning_documents.specs.Programs.{Composed, Known, program_named, union, initial_formula, union_of, name_of}
use Rattle.meaning_documents.specs.Programs.{composed, with_composed, with_programs, programs_of}
use Rattle.names_rules.specs.declared.named.Composed.{Composed as NamedParts}
use Rattle.names_rules.specs.Reading.{earlier, unless}
use Rattle.names_rules.specs.Part.{run}
use Rattle.names_rules.specs.Declarations.{items_of, some_of, program_scope}
use Rattle.names_rules.specs.Proofs.{Programs, program_word, program_reading}
use Rattle.names_rules.specs.WellNamed.{Declared, nothing_declared, new_program, declarations_part, program_body}
use Rattle.names_rules.specs.WellNamed.{parts_of, share, program_part, proof_part, part_of, IsWellNamed}
use Rattle.names_rules.proofs.Faults.{earlier_first, earlier_second, unless_none}
use Rattle.core_terms.specs.declared.trees.CForm.{CForm}
use Rattle.core_terms.specs.declared.programs.CSlot.{CSlot}
use Rattle.core_terms.specs.declared.programs.CStmt.{CStmt}
use Rattle.core_terms.specs.declared.programs.CProgram.{CProgram}
use Rattle.core_terms.specs.Unions.{joined_programs}
use Rattle.expand_declarations.specs.Texts.{Texts, var_texts, items_texts, program_texts, part_texts, document_texts}
use Rattle.expand_declarations.specs.WordNumbers.{document_words, with_texts, word_number}
use Rattle.expand_declarations.specs.Slots.{document_slots}
use Rattle.expand_declarations.specs.Shown.{shown_slots}
use Rattle.expand_declarations.specs.Start.{start_values}
use Rattle.expand_correct.specs.Declared.WordLaws.{is_among}
use Rattle.expand_correct.proofs.Declared.Lists.{IsPart}
use Rattle.expand_correct.proofs.Declared.Slots.{each_part_texts}
use Rattle.expand_declarations.proofs.NearIndices.{parts_fault}
use Rattle.expand_rules.specs.Forming.{Scope, form_of, as_truth}
use Rattle.expand_rules.specs.Assigning.{Stated, stated, statements}
use Rattle.expand_rules.specs.Documents.{scope_of, within}
use Rattle.expand_rules.specs.Programs.{initial_form, core_statement, plain_core, ExpandsTo}
use Rattle.expand_correct.specs.Values.SightLaws.{SeeSame}
use Rattle.expand_correct.proofs.Values.Operations.{two}
use Rattle.expand_correct.proofs.Values.SameSight.{formed_by_sight}
use Rattle.expand_correct.proofs.Values.Matching.{plain_matches, union_matches}
use Rattle.expand_correct.specs.Exact.Parts.{EachItem}
use Rattle.expand_documents.specs.Cores.{core_named, core_union, core_program, with_core, with_cores, document_scope}
use Rattle.expand_documents.specs.Cores.{core_document}
use Rattle.expand_documents.specs.Faults.{expansion_fault}
use Rattle.expand_correct.specs.Preserved.Exact.{ProgramExact}
use Rattle.expand_correct.specs.Preserved.Meaning.{ProgramsMatch, CoresMatch}
use Rattle.expand_correct.proofs.Preserved.Sights.{sees_inside}
use Rattle.expand_correct.proofs.Preserved.ExactPrograms.{effect_same, programs_exact}
use Rattle.expand_correct.proofs.Preserved.Pairs.{is_named, named_some, named_with, entered_with, AreDistinct}
use Rattle.expand_correct.proofs.Preserved.Pairs.{distinct_with}
use Rattle.expand_correct.proofs.Preserved.Pairs.{IsPair, ArePairs, pairs_with, found_pair, source_pair}

-- a plain program, in two scopes that see the same

initial_same : (s t : Scope) (initially : Option Initially) → SeeSame s t →
    initial_form s initially ≡ initial_form t initially
initial_same s t None h = refl
initial_same s t (Some section) h = ap (λ e. form_of (as_truth e).core) (formed_by_sight section.of s t h)

stated_same : (s t : Scope) → SeeSame s t → (is : List Instance) → map (stated s) is ≡ map (stated t) is
stated_same s t h [] = refl
stated_same s t h (i ∷ is) = two (λ (x : Stated) (xs : List Stated). x ∷ xs) (stated s i) (stated t i)
    (map (stated s) is) (map (stated t) is)
    (ap (λ e. record (stated s i) { effect = e }) (effect_same s t i h)) (stated_same s t h is)

abbrev made : ℕ → List ℕ → List (ℕ × ℤ) → CForm → List CStmt → CProgram
made name shown start initially statements = record {
  name = name;
  parts = None;
  shown = shown;
  initially = initially;
  start = start;
  statements = statements;
}

plain_same : (number : List ℕ → ℕ) (s t : Scope) (name : ℕ) (shown : List ℕ) (start : List (ℕ × ℤ))
    (initially : Option Initially) (items : Items) → SeeSame s t →
    plain_core number s name shown start initially items ≡ plain_core number t name shown start initially items
plain_same number s t name shown start initially items h =
    two (made name shown start) (initial_form s initially) (initial_form t initially)
    (map (core_statement number) (statements s items)) (map (core_statement number) (statements t items))
    (initial_same s t initially h) (ap (map (core_statement number)) (stated_same s t h (instances items)))

-- names

abbrev pub has : Programs → List ℕ → Bool
has programs name = is_some (lookup (bytes_eq name) programs)

not_true : (b : Bool) → not b ≡ true → b ≡ false
not_true true h = cc h
not_true false h = refl

fresh_name : (programs : Programs) (name : Name) → (new_program programs name).fault ≡ None →
    has programs name.text ≡ false
fresh_name programs name h = not_true (has programs name.text)
    (unless_none (not (has programs name.text)) Code.DeclaredTwice name.at h)

known_word : (name : Name) (o : Option NamedParts) → (program_word name o).fault ≡ None → is_some o ≡ true
known_word name None h = cc h
known_word name (Some p) h = refl

pub known_name : (programs : Programs) (name : Name) → (program_reading programs name).fault ≡ None →
    has programs name.text ≡ true
known_name programs name h = known_word name (lookup (bytes_eq name.text) programs) h

module _ (texts : Texts) (ps : List Program) (s : Scope) (slots : List CSlot)
    (same : SeeSame s (within (scope_of ps) [])) where
  abbrev words : Texts
  words = with_texts [] texts

  -- the programs so far: those that are named, those that have a meaning, and those in core form
  pub record Standing (programs : Programs) (known : Known) (cores : List CProgram) : Type 0 where
    pub pairs : ArePairs texts ps known cores
    pub distinct : AreDistinct known
    pub agree : (name : List ℕ) → has programs name ≡ is_named known name

  one_more : (programs : Programs) (known : Known) (cores : List CProgram) (name : List ℕ) (v : NamedParts)
      (c : Composed) (p : CProgram) → Standing programs known cores → has programs name ≡ false →
      IsPair texts ps (name, c) p →
      Standing (insert_entry bytes_eq programs name v) (known ++ (name, c) ∷ []) (cores ++ p ∷ [])
  one_more programs known cores name v c p h fresh pair = record {
    pairs = pairs_with texts ps known cores (name, c) p h.pairs pair;
    distinct = distinct_with known name c (sym (h.agree name) ∙ fresh) h.distinct;
    agree = λ other. entered_with programs name v other ∙ ap (λ b. bytes_eq other name || b) (h.agree other)
        ∙ sym (named_with known name c other);
  }

  plain_pair : (name : Name) (shown : List ℕ) (start : List (ℕ × ℤ)) (initially : Option Initially) (items : Items) →
      is_among texts name.text ≡ true →
      ProgramExact (within (scope_of ps) []) (Program.Plain 0 name None None initially None items) →
      IsPair texts ps (name.text, record { initially = initial_formula initially; instances = instances items })
      (plain_core (word_number words) s (word_number words name.text) shown start initially items)
  plain_pair name shown start initially items written exact = record {
    written = written;
    name = refl;
    matches = subst
        (λ (q : CProgram). ExpandsTo ps (record { initially = initial_formula initially; instances = instances items })
        q)
        (sym (plain_same (word_number words) s (within (scope_of ps) []) (word_number words name.text) shown start
        initially items same))
        (plain_matches ps (word_number words) (word_number words name.text) shown start initially items exact.0
        exact.1);
  }

  -- a union of two that are named
  union_pair : (known : Known) (cores : List CProgram) (name left right : Name) → ArePairs texts ps known cores →
      is_among texts name.text ≡ true → is_named known left.text ≡ true → is_named known right.text ≡ true →
      (c : Composed) × (p : CProgram)
      × (union_of (program_named left.text known) (program_named right.text known) ≡ Some c)
      × (core_union (word_number words name.text) (core_named (word_number words left.text) cores)
      (core_named (word_number words right.text) cores) ≡ Some p)
      × IsPair texts ps (name.text, c) p
  union_pair known cores name left right pairs written hl hr =
      let l = named_some known left.text hl in
      let r = named_some known right.text hr in
      let f = found_pair texts ps known cores left.text l.0 pairs l.1 in
      let g = found_pair texts ps known cores right.text r.0 pairs r.1 in (
        union l.0 r.0,
        joined_programs (word_number words name.text) f.core g.core,
        two union_of _ _ _ _ l.1 r.1,
        two (core_union (word_number words name.text)) _ _ _ _ f.found g.found,
        record {
          written = written;
          name = refl;
          matches = union_matches ps (word_number words name.text) l.0 r.0 f.core g.core f.pair.matches
              g.pair.matches;
        },
      )

  after_program : (d : Declared) (known : Known) (cores : List CProgram) (p : Program) →
      Standing d.programs known cores → (program_part d p).fault ≡ None → is_among texts (name_of p) ≡ true →
      ProgramExact (within (scope_of ps) []) p →
      Standing (program_part d p).after.programs (with_composed known (name_of p) (composed known p))
      (with_core cores (core_program words s slots cores p))
  after_program d known cores (Program.Union at name left right) h f written exact =
      let v : NamedParts = record { at = name.at; parts = parts_of d.programs left ++ parts_of d.programs right } in
      let a = (new_program d.programs name).fault in
      let b = (program_reading d.programs left).fault in
      let e = (program_reading d.programs right).fault in
      let g = unless (not (share (parts_of d.programs left) (parts_of d.programs right))) Code.DeclaredTwice right.at
      in
      let fresh = fresh_name d.programs name (earlier_first a (earlier b (earlier e g)) f) in
      let rest = earlier_second a (earlier b (earlier e g)) f in
      let first = known_name d.programs left (earlier_first b (earlier e g) rest) in
      let second = known_name d.programs right (earlier_first e g (earlier_second b (earlier e g) rest)) in
      let u = union_pair known cores name left right h.pairs written (sym (h.agree left.text) ∙ first)
      (sym (h.agree right.text) ∙ second) in
      let new = insert_entry bytes_eq d.programs name.text v in
      subst (λ (o : Option Composed). Standing new (with_composed known name.text o)
      (with_core cores (core_program words s slots cores (Program.Union at name left right)))) (sym u.2)
      (subst (λ (o : Option CProgram). Standing new (known ++ (name.text, u.0) ∷ []) (with_core cores o)) (sym u.3)
      (one_more d.programs known cores name.text v u.0 u.1 h fresh u.4))
  after_program d known cores (Program.Plain at name declare always initially start items) h f written exact =
      let v : NamedParts = record { at = name.at; parts = name.at ∷ [] } in
      let ds = declarations_part name.at d.names (items_of declare) (items_of always) in
      let body = program_body (program_scope name.at ds.after) initially (some_of start) items d.labels in
      let shown = shown_slots words (items_of declare) slots in
      let values = start_values s.variables s.words (some_of start) in
      let fresh = fresh_name d.programs name (earlier_first (new_program d.programs name).fault
      (earlier ds.fault (earlier body.fault None)) f) in
      one_more d.programs known cores name.text v
      (record { initially = initial_formula initially; instances = instances items })
      (plain_core (word_number words) s (word_number words name.text) shown values initially items) h fresh
      (plain_pair name shown values initially items written exact)

  own_name : (p : Program) → is_among (program_texts p) (name_of p) ≡ true
  own_name (Program.Union at name left right) =
      ap (λ b. b || is_among [] name.text) ((bytes_eq-Decides name.text name.text).1 refl)
  own_name (Program.Plain at name declare always initially start items) =
      ap (λ b. b || is_among (flat_map var_texts (items_of declare) ++ items_texts items) name.text)
      ((bytes_eq-Decides name.text name.text).1 refl)

  after_parts : (d : Declared) (known : Known) (cores : List CProgram) (parts : List Part) →
      Standing d.programs known cores → (run part_of d parts).fault ≡ None →
      All (λ p. IsPart (part_texts p) texts) parts →
      EachItem (ProgramExact (within (scope_of ps) [])) (programs_among parts) →
      Standing (run part_of d parts).after.programs (with_programs known (programs_among parts))
      (with_cores words s slots cores parts)
  after_parts d known cores [] h f written exact = h
  after_parts d known cores (Part.Program at p ∷ rest) h f written exact =
      let r = program_part d p in
      let more = run part_of r.after rest in
      let own = All-head (λ p. IsPart (part_texts p) texts) (Part.Program at p) rest written in
      after_parts r.after (with_composed known (name_of p) (composed known p))
      (with_core cores (core_program words s slots cores p)) rest
      (after_program d known cores p h (earlier_first r.fault more.fault f) (own.among (name_of p) (own_name p))
      (exact zero p refl))
      (earlier_second r.fault more.fault f)
      (All-tail (λ p. IsPart (part_texts p) texts) (Part.Program at p) rest written)
      (λ place q e. exact (suc place) q e)
  after_parts d known cores (Part.Proof at p ∷ rest) h f written exact =
      let r = proof_part d p in
      let more = run part_of r.after rest in
      after_parts r.after known cores rest
      (record { pairs = h.pairs; distinct = h.distinct; agree = h.agree })
      (earlier_second r.fault more.fault f)
      (All-tail (λ p. IsPart (part_texts p) texts) (Part.Proof at p) rest written) exact

pub stood : (d : Document) → IsWellNamed d → expansion_fault d ≡ None →
    Standing (document_texts d) (programs_among d.parts) (document_scope d.parts)
    (document_slots (document_words d) d.parts) (sees_inside d.parts)
    (run part_of nothing_declared d.parts).after.programs (programs_of d) (core_document d).programs
stood d named fault =
    after_parts (document_texts d) (programs_among d.parts) (document_scope d.parts)
    (document_slots (document_words d) d.parts) (sees_inside d.parts) nothing_declared [] [] d.parts
    (record { pairs = tt; distinct = tt; agree = λ name. refl })
    (parts_fault d named) (each_part_texts d) (programs_exact d named fault)

pub programs_match : ProgramsMatch
programs_match d named fault name c e =
    let h = stood d named fault in
    let f = found_pair (document_texts d) (programs_among d.parts) (programs_of d) (core_document d).programs name c
    h.pairs e in
    (f.core, record { source = e; numbered = f.pair.name; found = f.found; matches = f.pair.matches })

pub cores_match : CoresMatch
cores_match d named fault place p e =
    let h = stood d named fault in
    let b = source_pair (document_texts d) (programs_among d.parts) (programs_of d) (core_document d).programs place p
    h.pairs h.distinct e in (
      b.entry.0,
      b.entry.1,
      record { source = b.source; numbered = b.pair.name; found = b.found; matches = b.pair.matches },
    )
