-- The parts of a document without a fault, and its programs.
use Rattle.std.proofs.Common.{◌≡◌, ℕ, ◌+◌, ◌≤◌, ◌^◌, List, [], ◌∷◌, ◌++◌, map, length, Bool, true}
use Rattle.std.proofs.Common.{false}
use Rattle.std.proofs.Common.{cond, not, ◌||◌, Option, Some, None, refl, sym, ap, ◌∙◌, subst, arith, All, get_or}
use Rattle.std.proofs.Common.{nat_eq, le_trans, ℤ}
use Rattle.std.specs.Prelude.{nat_le}
use Rattle.std.specs.List.{find, flat_map}
use Rattle.std.proofs.lemmas.Bool.{leb-true}
use Rattle.std.proofs.lemmas.Option.{slice_get-get_or}
use Rattle.std.proofs.lemmas.List.Elements.{All-nil, All-head, All-tail, All-cons, All-push, All-map, All-weaker}
use Rattle.case_tables.specs.declared.code_table.Code.{Code}
use Rattle.unity_syntax.specs.declared.declaration.Def.{Def}
use Rattle.unity_syntax.specs.declared.program.Initially.{Initially}
use Rattle.unity_syntax.specs.declared.program.Program.{Program}
use Rattle.unity_syntax.specs.declared.statement.Items.{Items}
use Rattle.unity_syntax.specs.declared.document.Part.{Part}
use Rattle.meaning_documents.specs.Instances.{instances}
use Rattle.meaning_documents.specs.Setting.{items_of, declarations, programs_among, setting_of, with_declarations}
use Rattle.names_rules.specs.Reading.{earlier}
use Rattle.names_rules.specs.Declarations.{some_of}
use Rattle.meaning_documents.specs.Names.{variable_named}
use Rattle.names_rules.proofs.Faults.{earlier_first, earlier_second}
use Rattle.core_terms.specs.declared.programs.CSlot.{CSlot}
use Rattle.core_terms.specs.declared.programs.CProgram.{CProgram}
use Rattle.core_terms.specs.declared.trees.Range.{Range}
use Rattle.core_terms.specs.Places.{form_names_only}
use Rattle.core_terms.specs.Weights.{form_weight, slot_weight, place_weight}
use Rattle.core_terms.specs.Unions.{joined_programs}
use Rattle.core_terms.specs.Conditions.{is_below, StatementFits}
use Rattle.core_terms.proofs.WeightLaws.{weight-Top}
use Rattle.expand_declarations.specs.Texts.{Texts}
use Rattle.expand_declarations.specs.WordNumbers.{document_words, word_number}
use Rattle.expand_declarations.specs.Slots.{declared_by, document_slots}
use Rattle.expand_declarations.specs.Shown.{shown_slots}
use Rattle.expand_declarations.specs.Start.{start_values}
use Rattle.expand_rules.specs.Lists.{flaws_fault}
use Rattle.expand_rules.specs.declared.cores.Formed.{Formed}
use Rattle.expand_rules.specs.Forming.{Scope, formed, as_truth}
use Rattle.expand_rules.specs.Assigning.{Stated, stated}
use Rattle.expand_rules.specs.Lists.{items_fault}
use Rattle.expand_rules.specs.Limits.{is_too_large}
use Rattle.expand_rules.specs.Programs.{initial_form, core_statement, plain_core}
use Rattle.expand_correct.specs.from_expand_statements.ItemLaws.{FaultlessInstances}
use Rattle.expand_correct.proofs.Preserved.Faultless.{bodies_faultless}
use Rattle.expand_correct.proofs.Values.Lightness.{expressions_within, fits_truth}
use Rattle.expand_correct.specs.from_expand_steps.Elements.{flaws_in, some_too_large, element_fault}
use Rattle.expand_correct.specs.from_expand_documents.AlwaysNames.{with_definition, with_definitions}
use Rattle.expand_correct.specs.from_expand_documents.Cores.{declared_scope, part_definitions, document_scope}
use Rattle.expand_correct.specs.from_expand_documents.Cores.{core_named}
use Rattle.expand_correct.specs.from_expand_documents.Cores.{core_union, core_program, with_core, with_cores}
use Rattle.expand_correct.specs.from_expand_documents.Faults.{initially_fault, body_fault, with_part}
use Rattle.expand_correct.specs.from_expand_documents.Faults.{bodies_fault}
use Rattle.expand_fits_parts.specs.Forms.Fitting.{ScopeFits}
use Rattle.expand_fits_parts.specs.Forms.Programs.{ProgramFits, ProgramKeeps}
use Rattle.expand_fits_parts.specs.Forms.DocumentLaws.{DocumentsFit, ProgramsFit}
use Rattle.expand_fits_parts.proofs.Forms.NamedForms.{names-Top, fine_truth}
use Rattle.expand_fits_parts.proofs.Forms.Scopes.{definitions_fit, formed_fine, instances_fit}
use Rattle.expand_fits_parts.proofs.Forms.Placed.{slots_exist, slots_weigh}
use Rattle.expand_fits_parts.proofs.Forms.Unions.{keeps_fit, unions_keep}

-- elements

or_none : (a b : Bool) → (a || b) ≡ false → a ≡ false
or_none true b h = h
or_none false b h = refl

or_rest : (a b : Bool) → (a || b) ≡ false → b ≡ false
or_rest true b h = cc h
or_rest false b h = h

small_by : (m limit : ℕ) → not (nat_le m limit) ≡ false → m ≤ limit
small_by m limit h = leb-true m limit (by (nat_le m limit) h)
  where
    by : (c : Bool) → not c ≡ false → c ≡ true
    by true f = refl
    by false f = cc f

-- what is not too large weighs no more than the limit
small_most : (f : Formed) → is_too_large f ≡ false → f.measure.most ≤ 2 ^ 62
small_most f h = small_by f.measure.most (2 ^ 62) (or_none _ _ (or_none _ _ h))

-- none of these weighs more than the limit
abbrev pub Smalls : List Formed → Type 0
Smalls [] = Unit {0}
Smalls (f ∷ fs) = (f.measure.most ≤ 2 ^ 62) × Smalls fs

all_small : (fs : List Formed) → some_too_large fs ≡ false → Smalls fs
all_small [] h = tt
all_small (f ∷ fs) h = (
  small_most f (or_none (is_too_large f) (some_too_large fs) h),
  all_small fs (or_rest (is_too_large f) (some_too_large fs) h),
)

pub small_elements : (front : ℕ) (fs : List Formed) → element_fault front fs ≡ None → Smalls fs
small_elements front fs h = all_small fs (by (some_too_large fs) h)
  where
    by : (b : Bool) → cond b (Some (record { code = Code.TooLarge; at = front })) (flaws_fault (flaws_in fs)) ≡ None →
        b ≡ false
    by true f = cc f
    by false f = refl

-- scopes

pub declared-among : (parts : List Part) → declared_by parts ≡ flat_map declarations (programs_among parts)
declared-among [] = refl
declared-among (Part.Program at program ∷ rest) = ap (λ ds. declarations program ++ ds) (declared-among rest)
declared-among (Part.Proof at proof ∷ rest) = declared-among rest

pub declared_fits : (words : Texts) (parts : List Part) (params : List Range) →
    ScopeFits (document_slots words parts) params (declared_scope parts)
declared_fits words parts params =
    let same : (setting_of (programs_among parts)).variables ≡ with_declarations [] (declared_by parts) =
    ap (with_declarations []) (sym (declared-among parts)) in
    record {
      names = record {
        variables = λ word v e. slots_exist words (declared_by parts) word v
            (ap (variable_named word) (sym same) ∙ e);
        bound = λ word n weight e. cc e;
        always = λ word a e. cc e;
      };
      weighs = record {
        variables = λ word v e. slots_weigh words (declared_by parts) word v
            (ap (variable_named word) (sym same) ∙ e);
        bound = λ word n weight e. cc e;
        always = λ word a e. cc e;
      };
    }

defined_fits : (slots : List CSlot) (params : List Range) (s : Scope) (ds : List Def) → ScopeFits slots params s →
    ScopeFits slots params (with_definitions s ds)
defined_fits slots params s [] g = g
defined_fits slots params s (d ∷ ds) g =
    defined_fits slots params (with_definition s d) ds (definitions_fit slots params s d.name.text d.of g)

pub documents_fit : DocumentsFit
documents_fit d params = defined_fits (document_slots (document_words d) d.parts) params (declared_scope d.parts)
    (flat_map part_definitions d.parts) (declared_fits (document_words d) d.parts params)

-- programs

find_holds : (P : CProgram → Type 0) (test : CProgram → Bool) (xs : List CProgram) (c : CProgram) →
    find test xs ≡ Some c → All P xs → P c
find_holds P test [] c e h = cc e
find_holds P test (x ∷ xs) c e h = by (test x) e (λ f. find_holds P test xs c f (All-tail P x xs h))
  where
    by : (b : Bool) → cond b (Some x) (find test xs) ≡ Some c → (find test xs ≡ Some c → P c) → P c
    by true f rest = let same : x ≡ c = cc f in subst P same (All-head P x xs h)
    by false f rest = rest f

module _ (P : CProgram → Type 0)
    (unions : (name : ℕ) (f g : CProgram) → P f → P g → P (joined_programs name f g)) (words : Texts) (s : Scope)
    (slots : List CSlot) where
  -- the core of each program that is no union has the property
  abbrev pub PlainHas : Program → Type 0
  PlainHas (Program.Union at name left right) = Unit {0}
  PlainHas (Program.Plain at name declare always initially start items) =
      P (plain_core (word_number words) s (word_number words name.text) (shown_slots words (items_of declare) slots)
      (start_values s.variables s.words (some_of start)) initially items)

  union_has : (name : ℕ) (before : List CProgram) → All P before → (f g : Option CProgram) →
      ((c : CProgram) → f ≡ Some c → P c) → ((c : CProgram) → g ≡ Some c → P c) →
      All P (with_core before (core_union name f g))
  union_has name before h None g i j = h
  union_has name before h (Some f) None i j = h
  union_has name before h (Some f) (Some g) i j =
      All-push P before (joined_programs name f g) h (unions name f g (i f refl) (j g refl))

  one_has : (before : List CProgram) → All P before → (program : Program) → PlainHas program →
      All P (with_core before (core_program words s slots before program))
  one_has before h (Program.Union at name left right) k =
      union_has (word_number words name.text) before h (core_named (word_number words left.text) before)
      (core_named (word_number words right.text) before)
      (λ c e. find_holds P (λ x. nat_eq x.name (word_number words left.text)) before c e h)
      (λ c e. find_holds P (λ x. nat_eq x.name (word_number words right.text)) before c e h)
  one_has before h (Program.Plain at name declare always initially start items) k = All-push P before
      (plain_core (word_number words) s (word_number words name.text) (shown_slots words (items_of declare) slots)
      (start_values s.variables s.words (some_of start)) initially items) h k

  -- then so has each program
  pub cores_have : (before : List CProgram) (parts : List Part) → All P before →
      All PlainHas (programs_among parts) → All P (with_cores words s slots before parts)
  cores_have before [] h k = h
  cores_have before (Part.Program at program ∷ rest) h k =
      cores_have (with_core before (core_program words s slots before program)) rest
      (one_has before h program (All-head PlainHas program (programs_among rest) k))
      (All-tail PlainHas program (programs_among rest) k)
  cores_have before (Part.Proof at proof ∷ rest) h k = cores_have before rest h k

-- a program that is no union

pub plain_keeps : FaultlessInstances → (slots : List CSlot) (number : List ℕ → ℕ) (s : Scope) (name : ℕ)
    (shown : List ℕ) (start : List (ℕ × ℤ)) (initially : Option Initially) (items : Items) → ScopeFits slots [] s →
    earlier (initially_fault s initially) (items_fault s items ([] ∷ [])) ≡ None →
    ProgramKeeps slots (plain_core number s name shown start initially items)
plain_keeps faultless slots number s name shown start initially items g h =
    let first = earlier_first (initially_fault s initially) (items_fault s items ([] ∷ [])) h in
    let second = earlier_second (initially_fault s initially) (items_fault s items ([] ∷ [])) h in
    record {
      statements = All-map (StatementFits slots) (core_statement number) (map (stated s) (instances items))
          (All-map (λ (st : Stated). StatementFits slots (core_statement number st)) (stated s) (instances items)
          (λ k d lt. instances_fit slots number s (get_or (instances items) k d) g
          (faultless s items second k (get_or (instances items) k d) (slice_get-get_or (instances items) k d lt)).0));
      names = named initially;
      weighs = light initially first;
    }
  where
    named : (o : Option Initially) → form_names_only (is_below (length slots)) (is_below 0) (initial_form s o) ≡ true
    named None = names-Top (is_below (length slots)) (is_below 0)
    named (Some section) = fine_truth (is_below (length slots)) (is_below 0) (formed section.of s)
        (formed_fine (is_below (length slots)) (is_below 0) section.of s g.names)

    light : (o : Option Initially) → initially_fault s o ≡ None →
        form_weight (slot_weight slots) (place_weight []) (initial_form s o) ≤ 2 ^ 62
    light None e = let w = weight-Top (slot_weight slots) (place_weight []) in omega (arith, w)
    light (Some section) e = le_trans (fits_truth (slot_weight slots) (place_weight []) (formed section.of s)
        (expressions_within (slot_weight slots) (place_weight []) section.of s g.weighs))
        (small_elements section.at (as_truth (formed section.of s) ∷ []) e).0

module _ (faultless : FaultlessInstances) (words : Texts) (s : Scope) (slots : List CSlot) (g : ScopeFits slots [] s)
  where
    abbrev Keeps : CProgram → Type 0
    Keeps = ProgramKeeps slots

    abbrev HasKept : Program → Type 0
    HasKept = PlainHas Keeps (unions_keep slots) words s slots

    program_keeps : (before : List CProgram) (at : ℕ) (program : Program) →
        body_fault words s before (Part.Program at program) ≡ None → HasKept program
    program_keeps before at (Program.Union place name left right) h = tt
    program_keeps before at (Program.Plain place name declare always initially start items) h =
        plain_keeps faultless slots (word_number words) s (word_number words name.text)
        (shown_slots words (items_of declare) slots) (start_values s.variables s.words (some_of start)) initially
        items g
        h

    bodies_keep : (before : List CProgram) (parts : List Part) → bodies_fault words s slots before parts ≡ None →
        All HasKept (programs_among parts)
    bodies_keep before [] h = All-nil HasKept
    bodies_keep before (Part.Program at program ∷ rest) h =
        let f = body_fault words s before (Part.Program at program) in
        let after = with_part words s slots before (Part.Program at program) in
        All-cons HasKept program (programs_among rest)
        (program_keeps before at program (earlier_first f (bodies_fault words s slots after rest) h))
        (bodies_keep after rest (earlier_second f (bodies_fault words s slots after rest) h))
    bodies_keep before (Part.Proof at proof ∷ rest) h =
        let f = body_fault words s before (Part.Proof at proof) in
        bodies_keep before rest (earlier_second f (bodies_fault words s slots before rest) h)

pub programs_fit : ProgramsFit
programs_fit faultless d h =
    let words = document_words d in
    let s = document_scope d.parts in
    let slots = document_slots words d.parts in
    let g = documents_fit d [] in
    All-weaker (ProgramKeeps slots) (ProgramFits slots) (keeps_fit slots) (with_cores words s slots [] d.parts)
    (cores_have (ProgramKeeps slots) (unions_keep slots) words s slots [] d.parts (All-nil (ProgramKeeps slots))
    (bodies_keep faultless words s slots g [] d.parts (bodies_faultless d h)))
