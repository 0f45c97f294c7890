-- The programs of a well-named document, one after another, see only the slots that they show.
use Rattle.std.proofs.Common.{◌≡◌, ℕ, List, [], ◌∷◌, ◌++◌, map, Bool, true, false, not, ◌||◌, Option, Some, None}
use Rattle.std.proofs.Common.{refl, sym, ap, ◌∙◌, subst, nat_eq, All, get_or}
use Rattle.std.specs.List.{flat_map, list_any}
use Rattle.std.specs.Map.{lookup}
use Rattle.std.specs.Str.{bytes_eq}
use Rattle.std.proofs.lemmas.Bool.{eq-eqb}
use Rattle.std.proofs.lemmas.Option.{slice_get-get_or}
use Rattle.std.proofs.lemmas.List.Elements.{All-nil, All-cons, All-map, All-weaker}
use Rattle.unity_syntax.specs.declared.name.Name.{Name}
use Rattle.unity_syntax.specs.declared.declaration.Init.{Init}
use Rattle.unity_syntax.specs.declared.statement.Items.{Items}
use Rattle.case_tables.specs.declared.code_table.Code.{Code}
use Rattle.indexmap.specs.IndexMap.{insert_entry}
use Rattle.unity_syntax.specs.declared.declaration.Var.{Var}
use Rattle.unity_syntax.specs.declared.declaration.Def.{Def}
use Rattle.unity_syntax.specs.declared.program.Initially.{Initially}
use Rattle.unity_syntax.specs.declared.program.Program.{Program}
use Rattle.unity_syntax.specs.declared.document.Part.{Part as DocumentPart}
use Rattle.meaning_documents.specs.Names.{Bindings, Variable}
use Rattle.meaning_documents.specs.Instances.{instances}
use Rattle.meaning_documents.specs.Setting.{programs_among, setting_of, with_declarations}
use Rattle.names_rules.specs.declared.named.Meaning.{Meaning}
use Rattle.names_rules.specs.declared.named.Named.{Named}
use Rattle.names_rules.specs.declared.named.Sort.{Sort}
use Rattle.names_rules.specs.Scope.{Scope as NameScope, Table, is_variable, is_value}
use Rattle.names_rules.specs.Reading.{earlier, unless, same_sort, beside, read}
use Rattle.names_rules.specs.Part.{Part, run}
use Rattle.names_rules.specs.Declarations.{items_of, some_of, program_scope, variable_part, always_part}
use Rattle.names_rules.specs.Declarations.{initially_reading, value_named}
use Rattle.names_rules.specs.Statements.{Labels, items_part}
use Rattle.names_rules.specs.WellNamed.{Declared, nothing_declared, new_program, start_reading}
use Rattle.names_rules.specs.WellNamed.{program_body, program_part, part_of, schedule_reading}
use Rattle.meaning_documents.specs.Names.{variable_named}
use Rattle.names_laws.specs.VariableLaws.{Mirrors}
use Rattle.names_laws.specs.StayingLaws.{StaysIn}
use Rattle.names_laws.specs.AlwaysLaws.{is_always}
use Rattle.names_laws.proofs.AttributeTheorems.{and_first, and_second}
use Rattle.names_rules.proofs.Faults.{earlier_first, earlier_second}
use Rattle.names_laws.proofs.Inserts.{bytes_same}
use Rattle.names_laws.proofs.Mirrored.{mirrored_by_documents}
use Rattle.names_laws.proofs.Staying.{stays_in_documents, stays_in_variables, stays_in_definitions}
use Rattle.core_terms.specs.Places.{form_names_only}
use Rattle.core_terms.specs.Conditions.{is_shown, any_place, NamesShown}
use Rattle.core_terms.specs.declared.programs.CSlot.{CSlot}
use Rattle.expand_declarations.specs.Texts.{Texts}
use Rattle.expand_declarations.specs.WordNumbers.{document_words, word_number}
use Rattle.expand_declarations.specs.Slots.{declared_by, document_slots}
use Rattle.expand_declarations.specs.Shown.{shown_slots}
use Rattle.expand_declarations.specs.Start.{enumeration_words, first_words}
use Rattle.expand_rules.specs.Forming.{Scope, formed}
use Rattle.expand_rules.specs.Assigning.{Stated, stated}
use Rattle.expand_rules.specs.Programs.{initial_form, core_statement}
use Rattle.expand_correct.specs.from_expand_documents.AlwaysNames.{with_definition, with_definitions}
use Rattle.expand_correct.specs.from_expand_documents.Cores.{part_definitions, with_parts, with_cores}
use Rattle.expand_fits_parts.specs.Forms.Naming.{SlotsPass, SeesOnly, EffectNames}
use Rattle.expand_fits_parts.specs.Forms.Placing.{declares}
use Rattle.expand_fits_parts.specs.Forms.Programs.{ProgramShows}
use Rattle.expand_fits_parts.specs.Forms.ShowingLaws.{names_apart, ProgramsShow}
use Rattle.expand_fits_parts.proofs.Forms.NamedForms.{names-Top, fine_truth, expressions_name}
use Rattle.expand_fits_parts.proofs.Forms.ReadWords.{expressions_read, or_first, or_second}
use Rattle.expand_fits_parts.proofs.Forms.ItemWords.{Everywhere, InstanceNames, items_names}
use Rattle.expand_fits_parts.proofs.Forms.Declaring.{Variables, hold_variables, Definitions, hold_definitions}
use Rattle.expand_fits_parts.proofs.Forms.Showing.{Always, seen, found_seen, Owned, scope_by, defined, Sound}
use Rattle.expand_fits_parts.proofs.Forms.Showing.{sound_definitions}
use Rattle.expand_fits_parts.proofs.Forms.Showing.{variable_no_value, always_no_value, Kept, same_kind, program_sees}
use Rattle.expand_fits_parts.proofs.Forms.Showing.{definitions_keep, later_keep, stays_before}
use Rattle.expand_fits_parts.proofs.Forms.Unions.{unions_show}
use Rattle.expand_fits_parts.proofs.Forms.Placed.{slots_shown}
use Rattle.expand_fits_parts.proofs.Forms.Bodies.{PlainHas, cores_have, declared-among}

-- each entry is a word of an enumeration, or was declared by one of these programs
abbrev pub Told : List ℕ → List ℕ → Named → Type 0
Told before word n = (is_value n.meaning || list_any (nat_eq n.program) before) ≡ true

pub told_value : (before : List ℕ) (p : ℕ) (n : Named) → list_any (nat_eq p) before ≡ false → n.program ≡ p →
    (is_value n.meaning || list_any (nat_eq n.program) before) ≡ true → is_value n.meaning ≡ true
told_value before p n clear e h = by (is_value n.meaning)
    (subst (λ q. (is_value n.meaning || list_any (nat_eq q) before) ≡ true) e h)
  where
    by : (b : Bool) → (b || list_any (nat_eq p) before) ≡ true → b ≡ true
    by true k = refl
    by false k = cc (clear, k)

pub told_more : (a b c : Bool) → (a || b) ≡ true → (a || (c || b)) ≡ true
told_more true b c h = refl
told_more false b c h = or_second c b h

pub no_value : (b : Bool) → b ≡ true → b ≡ false → ⊥
no_value true h k = cc k
no_value false h k = cc h

variable_no_always : (m : Meaning) → is_variable m ≡ true → is_always m ≡ true → ⊥
variable_no_always (Meaning.Variable at) h k = cc k
variable_no_always (Meaning.Value number) h k = cc h
variable_no_always (Meaning.Always at) h k = cc h
variable_no_always (Meaning.Bound at) h k = cc h
variable_no_always (Meaning.Param number) h k = cc h
variable_no_always (Meaning.Program at) h k = cc h

-- this program has no always name yet
abbrev NoAlways : ℕ → List ℕ → Named → Type 0
NoAlways p word n = is_always n.meaning ≡ true → n.program ≡ p → ⊥

pub owned_value : (p : ℕ) (own : List Var) (word : List ℕ) (sort : Sort) (number : ℕ) →
    Owned p own word (value_named sort number)
owned_value p own word sort number h = cc h

never_value : (p : ℕ) (word : List ℕ) (sort : Sort) (number : ℕ) → NoAlways p word (value_named sort number)
never_value p word sort number h = cc h

pub clear_of : (b : Bool) → not b ≡ true → b ≡ false
clear_of true h = cc h
clear_of false h = refl

pub own_variables : (p : ℕ) (own ds : List Var) → ((w : List ℕ) → declares ds w ≡ true → declares own w ≡ true) →
    Variables (Owned p own) (owned_value p own) p ds
own_variables p own [] f = tt
own_variables p own (v ∷ ds) f = (
  λ m e kind h o. f v.name.text (or_first (bytes_eq v.name.text v.name.text) (declares ds v.name.text)
      (bytes_same v.name.text v.name.text refl)),
  own_variables p own ds (λ w h. f w (or_second (bytes_eq w v.name.text) (declares ds w) h)),
)

pub own_definitions : (p : ℕ) (own : List Var) (ds : List Def) →
    Definitions (Owned p own) (owned_value p own) p ds
own_definitions p own [] = tt
own_definitions p own (d ∷ ds) = (λ at r h. cc h, own_definitions p own ds)

pub told_variables : (p : ℕ) (before : List ℕ) (ds : List Var) →
    Variables (Told (p ∷ before)) (λ w sort number. refl) p ds
told_variables p before [] = tt
told_variables p before (v ∷ ds) = (
  λ m e kind. or_second (is_value m.meaning) (nat_eq m.program p || list_any (nat_eq m.program) before)
      (or_first (nat_eq m.program p) (list_any (nat_eq m.program) before) (eq-eqb m.program p e)),
  told_variables p before ds,
)

pub told_definitions : (p : ℕ) (before : List ℕ) (ds : List Def) →
    Definitions (Told (p ∷ before)) (λ w sort number. refl) p ds
told_definitions p before [] = tt
told_definitions p before (d ∷ ds) = (
  λ at r. or_first (nat_eq p p) (list_any (nat_eq p) before) (eq-eqb p p refl),
  told_definitions p before ds,
)

-- definitions, part by part
abbrev defined_parts : List Variable → Bindings → Always → List DocumentPart → Always
defined_parts vs values A [] = A
defined_parts vs values A (p ∷ rest) = defined_parts vs values (defined vs values A (part_definitions p)) rest

stays_on : (a b c : Table) → StaysIn a b → StaysIn b c → StaysIn a c
stays_on a b c s t word n e = let k = s word n e in t word (record n { program = k.0 }) k.1

module _ (final : Table) (vs : List Variable) (values : Bindings) (mirrors : Mirrors final vs)
    (shown_by : List Var → ℕ → Bool)
    (shown : (own : List Var) (name : List ℕ) (v : Variable) → variable_named name vs ≡ Some v →
    declares own name ≡ true → SlotsPass (shown_by own) v v.indices) where
  -- what a program names, where the always names of the document stand
  abbrev pub ProgramNames : Always → Program → Type 0
  ProgramNames A (Program.Union at name left right) = Unit {0}
  ProgramNames A (Program.Plain at name declare always initially start items) =
      Everywhere (InstanceNames (shown_by (items_of declare)) any_place (scope_by vs values A)) (instances items)
      × (form_names_only (shown_by (items_of declare)) any_place (initial_form (scope_by vs values A) initially) ≡ true)

  never_variables : (p : ℕ) (ds : List Var) → Variables (NoAlways p) (never_value p) p ds
  never_variables p [] = tt
  never_variables p (v ∷ ds) = (λ m e kind h o. variable_no_always m.meaning kind h, never_variables p ds)

  -- parts

  -- the faults of a plain program's sections
  module _ (d : Declared) (at : ℕ) (name : Name) (declare : Option (List Var)) (always : Option (List Def))
      (initially : Option Initially) (start : Option (Init × List Init)) (items : Items)
      (h : (program_part d (Program.Plain at name declare always initially start items)).fault ≡ None) where
    abbrev variables_at : Part Table
    variables_at = run (variable_part name.at) d.names (items_of declare)

    abbrev always_at : Part Table
    always_at = always_part name.at variables_at.after (items_of always)

    abbrev place : NameScope
    place = program_scope name.at always_at.after

    abbrev body : Part Labels
    body = program_body place initially (some_of start) items d.labels

    before_body : earlier (earlier variables_at.fault always_at.fault) (earlier body.fault None) ≡ None
    before_body = earlier_second (new_program d.programs name).fault
        (earlier (earlier variables_at.fault always_at.fault) (earlier body.fault None)) h

    variables_fine : variables_at.fault ≡ None
    variables_fine = earlier_first variables_at.fault always_at.fault
        (earlier_first (earlier variables_at.fault always_at.fault) (earlier body.fault None) before_body)

    always_fine : always_at.fault ≡ None
    always_fine = earlier_second variables_at.fault always_at.fault
        (earlier_first (earlier variables_at.fault always_at.fault) (earlier body.fault None) before_body)

    body_fine : body.fault ≡ None
    body_fine = earlier_first body.fault None
        (earlier_second (earlier variables_at.fault always_at.fault) (earlier body.fault None) before_body)

    items_fine : (items_part items place d.labels).fault ≡ None
    items_fine = earlier_second (beside (initially_reading place initially) (start_reading place (some_of start))).fault
        (items_part items place d.labels).fault body_fine

    initially_fine : (initially_reading place initially).fault ≡ None
    initially_fine = earlier_first (initially_reading place initially).fault (start_reading place (some_of start)).fault
        (earlier_first (beside (initially_reading place initially) (start_reading place (some_of start))).fault
        (items_part items place d.labels).fault body_fine)

  -- always names after further parts

  sound_parts : (d : Declared) (A : Always) (parts : List DocumentPart) → (run part_of d parts).fault ≡ None →
      StaysIn (run part_of d parts).after.names final → Sound final A → Sound final (defined_parts vs values A parts)
  sound_parts d A [] fault stays sound = sound
  sound_parts d A (DocumentPart.Program at (Program.Union place name left right) ∷ rest) fault stays sound =
      let p = part_of d (DocumentPart.Program at (Program.Union place name left right)) in
      sound_parts p.after A rest (earlier_second p.fault (run part_of p.after rest).fault fault) stays sound
  sound_parts d A (DocumentPart.Program at (Program.Plain at2 name declare always initially start items) ∷ rest) fault
      stays sound =
      let p = part_of d (DocumentPart.Program at (Program.Plain at2 name declare always initially start items)) in
      let later = earlier_second p.fault (run part_of p.after rest).fault fault in
      let here = earlier_first p.fault (run part_of p.after rest).fault fault in
      let inner = variables_at d at2 name declare always initially start items here in
      sound_parts p.after (defined vs values A (items_of always)) rest later stays
      (sound_definitions final vs values name.at inner.after A (items_of always)
      (always_fine d at2 name declare always initially start items here)
      (stays_on p.after.names (run part_of p.after rest).after.names final
      (stays_in_documents p.after rest later) stays)
      sound)
  sound_parts d A (DocumentPart.Proof at proof ∷ rest) fault stays sound =
      let p = part_of d (DocumentPart.Proof at proof) in
      sound_parts p.after A rest (earlier_second p.fault (run part_of p.after rest).fault fault) stays sound

  kept_parts : (q : ℕ) (own : List Var) (names : Table) (d : Declared) (A : Always) (parts : List DocumentPart) →
      (run part_of d parts).fault ≡ None → StaysIn names d.names →
      Kept final vs values mirrors q own (shown_by own) (shown own) names A →
      Kept final vs values mirrors q own (shown_by own) (shown own) names (defined_parts vs values A parts)
  kept_parts q own names d A [] fault stays kept = kept
  kept_parts q own names d A (DocumentPart.Program at (Program.Union place name left right) ∷ rest) fault stays kept =
      let p = part_of d (DocumentPart.Program at (Program.Union place name left right)) in
      kept_parts q own names p.after A rest (earlier_second p.fault (run part_of p.after rest).fault fault) stays kept
  kept_parts q own names d A (DocumentPart.Program at (Program.Plain at2 name declare always initially start items) ∷
      rest) fault stays kept =
      let p = part_of d (DocumentPart.Program at (Program.Plain at2 name declare always initially start items)) in
      let later = earlier_second p.fault (run part_of p.after rest).fault fault in
      let here = earlier_first p.fault (run part_of p.after rest).fault fault in
      let inner = variables_at d at2 name declare always initially start items here in
      let s = stays_on names d.names inner.after stays (stays_in_variables d.names name.at (items_of declare)
      (variables_fine d at2 name declare always initially start items here)) in
      kept_parts q own names p.after (defined vs values A (items_of always)) rest later
      (stays_on names inner.after p.after.names s (stays_in_definitions inner.after name.at (items_of always)
      (always_fine d at2 name declare always initially start items here)))
      (later_keep final vs values mirrors q own (shown_by own) (shown own) names name.at inner.after A (items_of always)
      (always_fine d at2 name declare always initially start items here) s kept)
  kept_parts q own names d A (DocumentPart.Proof at proof ∷ rest) fault stays kept =
      let p = part_of d (DocumentPart.Proof at proof) in
      kept_parts q own names p.after A rest (earlier_second p.fault (run part_of p.after rest).fault fault) stays kept

  -- one program

  section_names : (slots : ℕ → Bool) (p : ℕ) (names : Table) (s : Scope) → SeesOnly slots any_place (seen p names)
      (seen p names) s → (o : Option Initially) → (initially_reading (program_scope p names) o).fault ≡ None →
      form_names_only slots any_place (initial_form s o) ≡ true
  section_names slots p names s g None h = names-Top slots any_place
  section_names slots p names s g (Some section) h =
      let r = read section.of (program_scope p names) in
      let words = expressions_read section.of (program_scope p names) (seen p names) (seen p names)
      (found_seen p names []) (earlier_first r.fault (unless (same_sort r.sort Sort.Boolean) Code.WrongType r.at) h) in
      fine_truth slots any_place (formed section.of s)
      (expressions_name slots any_place (seen p names) (seen p names) section.of s words g)

  plain_names : (d : Declared) (A : Always) (before : List ℕ) (at : ℕ) (name : Name) (declare : Option (List Var))
      (always : Option (List Def)) (initially : Option Initially) (start : Option (Init × List Init)) (items : Items)
      (rest : List DocumentPart) →
      (h : (program_part d (Program.Plain at name declare always initially start items)).fault ≡ None) →
      (run part_of (program_part d (Program.Plain at name declare always initially start items)).after rest).fault ≡
      None →
      StaysIn (run part_of (program_part d (Program.Plain at name declare always initially start items)).after
      rest).after.names final → Sound final A →
      ((word : List ℕ) (n : Named) → lookup (bytes_eq word) d.names ≡ Some n → Told before word n) →
      list_any (nat_eq name.at) before ≡ false →
      ProgramNames (defined_parts vs values (defined vs values A (items_of always)) rest)
      (Program.Plain at name declare always initially start items)
  plain_names d A before at name declare always initially start items rest h fault stays sound told clear =
      let p = name.at in
      let own = items_of declare in
      let after = (program_part d (Program.Plain at name declare always initially start items)).after in
      let one = (variables_at d at name declare always initially start items h).after in
      let two = after.names in
      let vf = variables_fine d at name declare always initially start items h in
      let af = always_fine d at name declare always initially start items h in
      let stays2 = stays_on two (run part_of after rest).after.names final
      (stays_in_documents after rest fault) stays in
      let stays1 = stays_before final p one (items_of always) af stays2 in
      let value = λ (word : List ℕ) (n : Named) (e : lookup (bytes_eq word) d.names ≡ Some n) (o : n.program ≡ p).
      told_value before p n clear o (told word n e) in
      let owned1 = hold_variables (Owned p own) (owned_value p own) p d.names own vf
      (own_variables p own own (λ w k. k))
      (λ word n e k o. absurd (no_value (is_value n.meaning) (value word n e o) (variable_no_value n.meaning k))) in
      let owned2 = hold_definitions (Owned p own) (owned_value p own) p one (items_of always)
      (own_definitions p own (items_of always)) owned1 in
      let never1 = hold_variables (NoAlways p) (never_value p) p d.names own vf (never_variables p own)
      (λ word n e k o. no_value (is_value n.meaning) (value word n e o) (always_no_value n.meaning k)) in
      let kept1 : Kept final vs values mirrors p own (shown_by own) (shown own) one A =
      λ word n a e o f. let b = sound word a f in
      absurd (never1 word n e (ap is_always (sym (same_kind final vs values mirrors p own (shown_by own) (shown own) one
      stays1 word n b.0 e b.1)) ∙ b.2) o) in
      let kept2 = definitions_keep final vs values mirrors p own (shown_by own) (shown own) one A (items_of always) af
      stays2 sound owned1 kept1 in
      let made = defined vs values A (items_of always) in
      let whole = defined_parts vs values made rest in
      let kept3 = kept_parts p own two after made rest fault (λ word n e. (n.program, e)) kept2 in
      let sound3 = sound_parts after made rest fault stays
      (sound_definitions final vs values p one A (items_of always) af stays2 sound) in
      let sees = program_sees final vs values mirrors p own (shown_by own) (shown own) two whole stays2 sound3 owned2
      kept3 in (
        items_names (shown_by own) any_place (scope_by vs values whole) items (program_scope p two) [] d.labels
            (seen p two) (seen p two) (found_seen p two []) sees
            (items_fine d at name declare always initially start items h),
        section_names (shown_by own) p two (scope_by vs values whole) sees initially
            (initially_fine d at name declare always initially start items h),
      )

  -- all programs

  pub parts_name : (d : Declared) (A : Always) (before : List ℕ) (parts : List DocumentPart) →
      (run part_of d parts).fault ≡ None → StaysIn (run part_of d parts).after.names final → Sound final A →
      ((word : List ℕ) (n : Named) → lookup (bytes_eq word) d.names ≡ Some n → Told before word n) →
      names_apart before (programs_among parts) ≡ true →
      All (ProgramNames (defined_parts vs values A parts)) (programs_among parts)
  parts_name d A before [] fault stays sound told apart = All-nil (ProgramNames A)
  parts_name d A before (DocumentPart.Program at (Program.Union place name left right) ∷ rest) fault stays sound told
      apart =
      let p = part_of d (DocumentPart.Program at (Program.Union place name left right)) in
      All-cons (ProgramNames (defined_parts vs values A rest)) (Program.Union place name left right)
      (programs_among rest) tt
      (parts_name p.after A before rest (earlier_second p.fault (run part_of p.after rest).fault fault) stays sound told
      apart)
  parts_name d A before (DocumentPart.Program at (Program.Plain at2 name declare always initially start items) ∷ rest)
      fault stays sound told apart =
      let p = part_of d (DocumentPart.Program at (Program.Plain at2 name declare always initially start items)) in
      let here = earlier_first p.fault (run part_of p.after rest).fault fault in
      let later = earlier_second p.fault (run part_of p.after rest).fault fault in
      let one = (variables_at d at2 name declare always initially start items here).after in
      let vf = variables_fine d at2 name declare always initially start items here in
      let af = always_fine d at2 name declare always initially start items here in
      let made = defined vs values A (items_of always) in
      let first = not (list_any (nat_eq name.at) before) in
      let others = names_apart (name.at ∷ before) (programs_among rest) in
      let more = λ (word : List ℕ) (n : Named) (e : lookup (bytes_eq word) d.names ≡ Some n). told_more
      (is_value n.meaning) (list_any (nat_eq n.program) before) (nat_eq n.program name.at) (told word n e) in
      let told1 = hold_variables (Told (name.at ∷ before)) (λ w sort number. refl) name.at d.names (items_of declare) vf
      (told_variables name.at before (items_of declare)) more in
      let told2 = hold_definitions (Told (name.at ∷ before)) (λ w sort number. refl) name.at one (items_of always)
      (told_definitions name.at before (items_of always)) told1 in
      All-cons (ProgramNames (defined_parts vs values made rest))
      (Program.Plain at2 name declare always initially start items) (programs_among rest)
      (plain_names d A before at2 name declare always initially start items rest here later stays sound told
      (clear_of (list_any (nat_eq name.at) before) (and_first first others apart)))
      (parts_name p.after made (name.at ∷ before) rest later stays
      (sound_definitions final vs values name.at one A (items_of always) af
      (stays_on p.after.names (run part_of p.after rest).after.names final
      (stays_in_documents p.after rest later) stays)
      sound) told2 (and_second first others apart))
  parts_name d A before (DocumentPart.Proof at proof ∷ rest) fault stays sound told apart =
      let p = part_of d (DocumentPart.Proof at proof) in
      parts_name p.after A before rest (earlier_second p.fault (run part_of p.after rest).fault fault) stays sound told
      apart

-- the scope of a document

scope_defined : (vs : List Variable) (values : Bindings) (A : Always) (ds : List Def) →
    with_definitions (scope_by vs values A) ds ≡ scope_by vs values (defined vs values A ds)
scope_defined vs values A [] = refl
scope_defined vs values A (d ∷ ds) =
    scope_defined vs values (insert_entry bytes_eq A d.name.text (formed d.of (scope_by vs values A))) ds

definitions_joined : (s : Scope) (xs ys : List Def) →
    with_definitions s (xs ++ ys) ≡ with_definitions (with_definitions s xs) ys
definitions_joined s [] ys = refl
definitions_joined s (x ∷ xs) ys = definitions_joined (with_definition s x) xs ys

scope_parts : (vs : List Variable) (values : Bindings) (A : Always) (parts : List DocumentPart) →
    with_parts (scope_by vs values A) parts ≡ scope_by vs values (defined_parts vs values A parts)
scope_parts vs values A [] = refl
scope_parts vs values A (p ∷ rest) =
    definitions_joined (scope_by vs values A) (part_definitions p) (flat_map part_definitions rest)
    ∙ ap (λ s. with_definitions s (flat_map part_definitions rest)) (scope_defined vs values A (part_definitions p))
    ∙ scope_parts vs values (defined vs values A (part_definitions p)) rest

-- a statement of such a program names only what is shown
statement_shows : (visible : List ℕ) (number : List ℕ → ℕ) (st : Stated) →
    EffectNames (is_shown visible) any_place st.effect → NamesShown visible (core_statement number st)
statement_shows visible number st h = record {
  outside = h.outside;
  targets = λ k d lt. (h.writes k d lt).target;
  conditions = λ k d lt. (h.writes k d lt).condition;
  values = λ k d lt. (h.writes k d lt).value;
}

module _ (final : Table) (vs : List Variable) (values : Bindings) (mirrors : Mirrors final vs) (words : Texts)
    (slots : List CSlot)
    (shown : (own : List Var) (name : List ℕ) (v : Variable) → variable_named name vs ≡ Some v →
    declares own name ≡ true → SlotsPass (is_shown (shown_slots words own slots)) v v.indices) (A : Always) where
  program_shows : (program : Program) →
      ProgramNames final vs values mirrors (λ own. is_shown (shown_slots words own slots)) shown A program →
      PlainHas ProgramShows unions_show words (scope_by vs values A) slots program
  program_shows (Program.Union at name left right) h = tt
  program_shows (Program.Plain at name declare always initially start items) h =
      let visible = shown_slots words (items_of declare) slots in
      let s = scope_by vs values A in
      record {
        statements = All-map (NamesShown visible) (core_statement (word_number words))
            (map (stated s) (instances items))
            (All-map (λ (st : Stated). NamesShown visible (core_statement (word_number words) st)) (stated s)
            (instances items) (λ k d lt. statement_shows visible (word_number words)
            (stated s (get_or (instances items) k d)) (h.0 k (get_or (instances items) k d)
            (slice_get-get_or (instances items) k d lt))));
        initially = h.1;
      }

pub programs_show : ProgramsShow
programs_show d named apart =
    let words = document_words d in
    let slots = document_slots words d.parts in
    let r = run part_of nothing_declared d.parts in
    let fault = earlier_first r.fault (schedule_reading r.after d.schedule).fault named in
    let vs = (setting_of (programs_among d.parts)).variables in
    let values = first_words (enumeration_words d.parts) in
    let shown_by : List Var → ℕ → Bool = λ own. is_shown (shown_slots words own slots) in
    let same : vs ≡ with_declarations [] (declared_by d.parts) =
    ap (with_declarations []) (sym (declared-among d.parts)) in
    let mirrors = mirrored_by_documents d.parts fault in
    let shown = λ (own : List Var) (name : List ℕ) (v : Variable) (e : variable_named name vs ≡ Some v)
    (h : declares own name ≡ true). slots_shown words (declared_by d.parts) own name v
    (ap (variable_named name) (sym same) ∙ e) h in
    let A = defined_parts vs values [] d.parts in
    let all = parts_name r.after.names vs values mirrors shown_by shown nothing_declared [] [] d.parts fault
    (λ word n e. (n.program, e)) (λ word a e. cc e) (λ word n e. cc e) apart.apart in
    subst (λ s. All ProgramShows (with_cores words s slots [] d.parts)) (sym (scope_parts vs values [] d.parts))
    (cores_have ProgramShows unions_show words (scope_by vs values A) slots [] d.parts (All-nil ProgramShows)
    (All-weaker (ProgramNames r.after.names vs values mirrors shown_by shown A)
    (PlainHas ProgramShows unions_show words (scope_by vs values A) slots)
    (program_shows r.after.names vs values mirrors words slots shown A) (programs_among d.parts) all))
