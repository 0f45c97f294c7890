-- The words of a table that are variables and the variables of a document, by its declarations.
use Rattle.std.proofs.Common.{◌≡◌, ℕ, ◌+◌, List, [], ◌∷◌, ◌++◌, Bool, true, false, cond, not, ◌||◌, Option, Some, None}
use Rattle.std.proofs.Common.{option_map, ◌⊎◌, inl, inr, refl, sym, ap, ◌∙◌, subst, length}
use Rattle.std.specs.Prelude.{nat_eq}
use Rattle.std.specs.List.{flat_map, list_any}
use Rattle.std.specs.Map.{lookup}
use Rattle.std.specs.Option.{is_some, option_or}
use Rattle.std.specs.Str.{bytes_eq}
use Rattle.case_tables.specs.declared.code_table.Code.{Code}
use Rattle.unity_syntax.specs.declared.name.Name.{Name}
use Rattle.unity_syntax.specs.declared.name.End.{End}
use Rattle.unity_syntax.specs.declared.name.Range.{Range}
use Rattle.unity_syntax.specs.declared.declaration.Plain.{Plain}
use Rattle.unity_syntax.specs.declared.declaration.VarType.{VarType}
use Rattle.unity_syntax.specs.declared.declaration.Var.{Var}
use Rattle.unity_syntax.specs.declared.program.Program.{Program}
use Rattle.unity_syntax.specs.declared.document.Part.{Part as DocumentPart}
use Rattle.meaning_documents.specs.Names.{Variable, slot_at}
use Rattle.meaning_documents.specs.Value.{end_value, range_ends}
use Rattle.meaning_documents.specs.Setting as setting
use Rattle.meaning_documents.specs.Setting.{programs_among, declarations, slot_count, variable_from, with_declaration}
use Rattle.meaning_documents.specs.Setting.{with_declarations}
use Rattle.names_rules.specs.declared.named.Sort.{Sort}
use Rattle.names_rules.specs.declared.named.Named.{Named}
use Rattle.names_rules.specs.Scope.{Table, is_variable, found, bound_named, is_visible, visible}
use Rattle.names_rules.specs.declared.named.Meaning.{Meaning}
use Rattle.names_rules.specs.Reading.{earlier, unless, read, end_reading, filled, upside_down}
use Rattle.names_rules.specs.Part.{run, quiet}
use Rattle.names_rules.specs.Declarations.{items_of, some_of, program_scope, with_named, is_declared, declare}
use Rattle.names_rules.specs.Declarations.{value_named, known_sort, is_last, are_words, is_repeated, repeated}
use Rattle.names_rules.specs.Declarations.{words_sort, enumerated, words_part, end_number, span_of, plain_sort}
use Rattle.names_rules.specs.Declarations.{plain_part, type_part, element_type, type_indices}
use Rattle.names_rules.specs.Declarations.{variable_named as named_here, may_declare, means_alike, variable_as}
use Rattle.names_rules.specs.Declarations.{variable_part, always_named, definition, definition_scope, always_part}
use Rattle.names_rules.specs.WellNamed.{Declared, nothing_declared, new_program, program_body, program_part, part_of}
use Rattle.unity_syntax.proofs.BackParts.{both_same}
use Rattle.meaning_documents.specs.Names.{variable_named}
use Rattle.names_laws.specs.VariableLaws.{is_boolean_sort, span_ends, SameKind, Mirrors, MirroredByDocuments}
use Rattle.names_laws.specs.VariableLaws.{MirroredByVariables, MirroredByDefinitions, VariablesStay, PlainSlot}
use Rattle.names_laws.specs.VariableLaws.{VariableFound}
use Rattle.names_laws.proofs.AttributeTheorems.{and_first}
use Rattle.names_rules.proofs.Faults.{earlier_first, earlier_second, unless_none}
use Rattle.names_laws.proofs.Inserts.{same_bytes, bytes_same, chosen, taken, added, found_added, still_found}
use Rattle.names_laws.proofs.Inserts.{kept_beside}
use Rattle.names_laws.proofs.Slots.{slot_of_named}

pub not_some : {X : Type 0} (o : Option X) → not (is_some o) ≡ true → o ≡ None
not_some None h = refl
not_some (Some x) h = cc h

-- variables by their names

pub stays_before : (vs ws : List Variable) (name : List ℕ) (v : Variable) → variable_named name vs ≡ Some v →
    variable_named name (vs ++ ws) ≡ Some v
stays_before [] ws name v e = cc e
stays_before (u ∷ vs) ws name v e = by (bytes_eq name u.name) e (stays_before vs ws name v)
  where
    by : (b : Bool) → cond b (Some u) (variable_named name vs) ≡ Some v →
        (variable_named name vs ≡ Some v → variable_named name (vs ++ ws) ≡ Some v) →
        cond b (Some u) (variable_named name (vs ++ ws)) ≡ Some v
    by true f known = f
    by false f known = known f

named_last : (vs : List Variable) (w : Variable) (name : List ℕ) → variable_named name vs ≡ None → name ≡ w.name →
    variable_named name (vs ++ w ∷ []) ≡ Some w
named_last [] w name none same = taken (bytes_eq name w.name) w None (bytes_same name w.name same)
named_last (u ∷ vs) w name none same = by (bytes_eq name u.name) none (named_last vs w name)
  where
    by : (b : Bool) → cond b (Some u) (variable_named name vs) ≡ None →
        (variable_named name vs ≡ None → name ≡ w.name → variable_named name (vs ++ w ∷ []) ≡ Some w) →
        cond b (Some u) (variable_named name (vs ++ w ∷ [])) ≡ Some w
    by true f known = cc f
    by false f known = known f same

-- a variable among these and one more is among these, or is that one
with_last : (vs : List Variable) (w v : Variable) (name : List ℕ) → variable_named name (vs ++ w ∷ []) ≡ Some v →
    (variable_named name vs ≡ Some v) ⊎ (name ≡ w.name)
with_last [] w v name e = elim (chosen (bytes_eq name w.name) w v None e)
    as (λ x. (variable_named name [] ≡ Some v) ⊎ (name ≡ w.name)) [
      | inl here ↦ inr (same_bytes name w.name here.0)
      | inr none ↦ inl none.1
    ]
with_last (u ∷ vs) w v name e = by (bytes_eq name u.name) e (with_last vs w v name)
  where
    by : (b : Bool) → cond b (Some u) (variable_named name (vs ++ w ∷ [])) ≡ Some v →
        (variable_named name (vs ++ w ∷ []) ≡ Some v → (variable_named name vs ≡ Some v) ⊎ (name ≡ w.name)) →
        (cond b (Some u) (variable_named name vs) ≡ Some v) ⊎ (name ≡ w.name)
    by true f known = inl f
    by false f known = known f

-- a declaration finds the variable of its name where there is one
pub any_none : (vs : List Variable) (name : List ℕ) → variable_named name vs ≡ None →
    list_any (λ known. bytes_eq known.name name) vs ≡ false
any_none [] name e = refl
any_none (u ∷ vs) name e = by (bytes_eq u.name name) (bytes_eq name u.name) e
    (λ h. bytes_same name u.name (sym (same_bytes u.name name h))) (any_none vs name)
  where
    by : (a b : Bool) → cond b (Some u) (variable_named name vs) ≡ None → (a ≡ true → b ≡ true) →
        (variable_named name vs ≡ None → list_any (λ known. bytes_eq known.name name) vs ≡ false) →
        (a || list_any (λ known. bytes_eq known.name name) vs) ≡ false
    by false true f g known = cc f
    by false false f g known = known f
    by true true f g known = cc f
    by true false f g known = let h : false ≡ true = g refl in cc h

pub any_some : (vs : List Variable) (name : List ℕ) (v : Variable) → variable_named name vs ≡ Some v →
    list_any (λ known. bytes_eq known.name name) vs ≡ true
any_some [] name v e = cc e
any_some (u ∷ vs) name v e = by (bytes_eq u.name name) (bytes_eq name u.name) e
    (λ h. bytes_same u.name name (sym (same_bytes name u.name h))) (any_some vs name v)
  where
    by : (a b : Bool) → cond b (Some u) (variable_named name vs) ≡ Some v → (b ≡ true → a ≡ true) →
        (variable_named name vs ≡ Some v → list_any (λ known. bytes_eq known.name name) vs ≡ true) →
        (a || list_any (λ known. bytes_eq known.name name) vs) ≡ true
    by true b f g known = refl
    by false true f g known = let h : false ≡ true = g refl in cc h
    by false false f g known = known f

-- a table and variables

no_variable : (names : Table) (vs : List Variable) (word : List ℕ) → Mirrors names vs →
    lookup (bytes_eq word) names ≡ None → variable_named word vs ≡ None
no_variable names vs word m none = by (variable_named word vs) refl
  where
    by : (o : Option Variable) → variable_named word vs ≡ o → variable_named word vs ≡ None
    by None e = e
    by (Some v) e = let k = m.back word v e in cc (none, k.1)

-- a further word that is no variable
mirrors_other : (names : Table) (vs : List Variable) (word : List ℕ) (n : Named) → Mirrors names vs →
    is_variable n.meaning ≡ false → lookup (bytes_eq word) names ≡ None → Mirrors (with_named names word n) vs
mirrors_other names vs word n m other none = record {
  there = λ w k e var. elim (added names word w n k e)
      as (λ x. (v : Variable) × (variable_named w vs ≡ Some v) × SameKind k v) [
        | inl new ↦
            let f : is_variable n.meaning ≡ true = subst (λ y. is_variable y.meaning ≡ true) new.0 var in cc (f, other)
        | inr old ↦ m.there w k old var
      ];
  back = λ w v e. let k = m.back w v e in (k.0, kept_beside names word w n k.0 none k.1, k.2);
}

-- a variable again, in another program
mirrors_again : (names : Table) (vs : List Variable) (word : List ℕ) (old : Named) (program : ℕ) → Mirrors names vs →
    lookup (bytes_eq word) names ≡ Some old → is_variable old.meaning ≡ true →
    Mirrors (with_named names word (record old { program = program })) vs
mirrors_again names vs word old program m e var = record {
  there = λ w k f var'. elim (added names word w (record old { program = program }) k f)
      as (λ x. (v : Variable) × (variable_named w vs ≡ Some v) × SameKind k v) [
        | inl new ↦ subst (λ x. (v : Variable) × (variable_named x vs ≡ Some v) × SameKind k v) (sym new.1)
            (subst (λ x. (v : Variable) × (variable_named word vs ≡ Some v) × SameKind x v) (sym new.0)
            (m.there word old e var))
        | inr before' ↦ m.there w k before' var'
      ];
  back = λ w v f. let k = m.back w v f in
      elim (still_found names word w (record old { program = program }) k.0 k.1)
      as (λ x. (n : Named) × (lookup (bytes_eq w) (with_named names word (record old { program = program })) ≡ Some n) ×
      (is_variable n.meaning ≡ true)) [
        | inl same ↦ (k.0, same, k.2)
        | inr new ↦ (record old { program = program }, new, var)
      ];
}

-- a new variable
mirrors_new : (names : Table) (vs : List Variable) (word : List ℕ) (n : Named) (v : Variable) → Mirrors names vs →
    lookup (bytes_eq word) names ≡ None → is_variable n.meaning ≡ true → word ≡ v.name → SameKind n v →
    Mirrors (with_named names word n) (vs ++ v ∷ [])
mirrors_new names vs word n v m none var same kind = record {
  there = λ w k f var'. elim (added names word w n k f)
      as (λ x. (u : Variable) × (variable_named w (vs ++ v ∷ []) ≡ Some u) × SameKind k u) [
        | inl new ↦ (
          v,
          named_last vs v w (subst (λ x. variable_named x vs ≡ None) (sym new.1)
              (no_variable names vs word m none)) (new.1 ∙ same),
          subst (λ x. SameKind x v) (sym new.0) kind,
        )
        | inr old ↦ let u = m.there w k old var' in (u.0, stays_before vs (v ∷ []) w u.0 u.1, u.2)
      ];
  back = λ w u f. elim (with_last vs v u w f)
      as (λ x. (k : Named) × (lookup (bytes_eq w) (with_named names word n) ≡ Some k) ×
      (is_variable k.meaning ≡ true)) [
        | inl old ↦ let k = m.back w u old in (k.0, kept_beside names word w n k.0 none k.1, k.2)
        | inr here ↦ (
          n,
          subst (λ x. lookup (bytes_eq x) (with_named names word n) ≡ Some n) (same ∙ sym here)
              (found_added names word n),
          var,
        )
      ];
}

-- declarations

mirrors_declared : (names : Table) (vs : List Variable) (name : Name) (n : Named) → Mirrors names vs →
    is_variable n.meaning ≡ false → unless (not (is_declared names name.text)) Code.DeclaredTwice name.at ≡ None →
    Mirrors (with_named names name.text n) vs
mirrors_declared names vs name n m other h = mirrors_other names vs name.text n m other
    (not_some (lookup (bytes_eq name.text) names)
    (unless_none (not (is_declared names name.text)) Code.DeclaredTwice name.at h))

mirrors_enumerated : (sort : Sort) (number : ℕ) (names : Table) (vs : List Variable) (ws : List Name) →
    Mirrors names vs → (enumerated sort number names ws).fault ≡ None →
    Mirrors (enumerated sort number names ws).after vs
mirrors_enumerated sort number names vs [] m h = m
mirrors_enumerated sort number names vs (w ∷ ws) m h =
    let more = with_named names w.text (value_named sort number) in
    let f = unless (not (is_declared names w.text)) Code.DeclaredTwice w.at in
    let g = (enumerated sort (number + 1) more ws).fault in
    mirrors_enumerated sort (number + 1) more vs ws
    (mirrors_declared names vs w (value_named sort number) m refl (earlier_first f g h)) (earlier_second f g h)

mirrors_words : (names : Table) (vs : List Variable) (first : Name) (rest : List Name) → Mirrors names vs →
    (words_part names first rest).fault ≡ None → Mirrors (words_part names first rest).after vs
mirrors_words names vs first rest m h = by (is_repeated names first rest) h
  where
    by : (b : Bool) →
        (cond b (quiet names (repeated 0 (first ∷ rest)))
        (enumerated (Sort.Words first.at (length rest)) 0 names (first ∷ rest))).fault ≡ None →
        Mirrors (cond b (quiet names (repeated 0 (first ∷ rest)))
        (enumerated (Sort.Words first.at (length rest)) 0 names (first ∷ rest))).after vs
    by true f = m
    by false f = mirrors_enumerated (Sort.Words first.at (length rest)) 0 names vs (first ∷ rest) m f

mirrors_plain : (names : Table) (vs : List Variable) (of : Plain) → Mirrors names vs →
    (plain_part names of).fault ≡ None → Mirrors (plain_part names of).after vs
mirrors_plain names vs (Plain.Boolean at) m h = m
mirrors_plain names vs (Plain.Range at range) m h = m
mirrors_plain names vs (Plain.Words at first rest) m h = mirrors_words names vs first rest m h

mirrors_type : (names : Table) (vs : List Variable) (kind : VarType) → Mirrors names vs →
    (type_part names kind).fault ≡ None → Mirrors (type_part names kind).after vs
mirrors_type names vs (VarType.Plain at of) m h = mirrors_plain names vs of m h
mirrors_type names vs (VarType.Array at range of) m h =
    mirrors_plain names vs of m (earlier_second (filled [] range).fault (plain_part names of).fault h)

-- types

end_same : (e : End) → (end_reading [] e).fault ≡ None → end_number e ≡ end_value [] e
end_same (End.Number at minus number) h = refl
end_same (End.Word at name offset) h = cc h

range_same : (r : Range) → (filled [] r).fault ≡ None → span_ends (span_of r) ≡ range_ends [] r
range_same r h =
    let u = unless (not (upside_down r.low r.high)) Code.BadRange r.at in
    let f = (end_reading [] r.low).fault in
    let g = (end_reading [] r.high).fault in
    let i = earlier_first (earlier f g) u h in
    both_same (λ x y. (x, y)) (end_same r.low (earlier_first f g i)) (end_same r.high (earlier_second f g i))

last_words : (s : Sort) (n : ℕ) → is_last s n ≡ true → is_boolean_sort s ≡ false
last_words Sort.Number n h = refl
last_words Sort.Boolean n h = cc h
last_words (Sort.Words at last) n h = refl

words_same : (names : Table) (first : Name) (rest : List Name) → is_boolean_sort (words_sort names first rest) ≡ false
words_same names first rest = by (is_repeated names first rest) (λ h. last_words (known_sort names first) (length rest)
    (and_first (is_last (known_sort names first) (length rest))
    (are_words names (known_sort names first) 0 (first ∷ rest)) h))
  where
    by : (b : Bool) → (b ≡ true → is_boolean_sort (known_sort names first) ≡ false) →
        is_boolean_sort (cond b (known_sort names first) (Sort.Words first.at (length rest))) ≡ false
    by true f = f refl
    by false f = refl

sort_same : (names : Table) (of : Plain) → is_boolean_sort (plain_sort names of) ≡ setting.is_boolean of
sort_same names (Plain.Boolean at) = refl
sort_same names (Plain.Range at range) = refl
sort_same names (Plain.Words at first rest) = words_same names first rest

kind_sort_same : (names : Table) (kind : VarType) →
    is_boolean_sort (plain_sort names (element_type kind)) ≡ setting.is_boolean (setting.element_type kind)
kind_sort_same names (VarType.Plain at of) = sort_same names of
kind_sort_same names (VarType.Array at range of) = sort_same names of

indices_same : (names : Table) (kind : VarType) → (type_part names kind).fault ≡ None →
    option_map span_ends (type_indices kind) ≡ setting.type_indices kind
indices_same names (VarType.Plain at of) h = refl
indices_same names (VarType.Array at range of) h =
    ap (λ x. Some x) (range_same range (earlier_first (filled [] range).fault (plain_part names of).fault h))

-- variables

mirrors_variable : (names : Table) (vs : List Variable) (program : ℕ) (v : Var) → Mirrors names vs →
    (variable_part program names v).fault ≡ None → Mirrors (variable_part program names v).after (with_declaration vs v)
mirrors_variable names vs program v m h = by (lookup (bytes_eq v.name.text) names) refl h
  where
    by : (o : Option Named) → lookup (bytes_eq v.name.text) names ≡ o →
        (variable_as names v o (named_here program names v)).fault ≡ None →
        Mirrors (variable_as names v o (named_here program names v)).after (with_declaration vs v)
    by None e f =
        let new = named_here program names v in
        let w = variable_from (slot_count vs) v in
        let more = with_named names v.name.text new in
        let t = (type_part more v.kind).fault in
        let u = unless (means_alike new None) Code.DeclaredTwice v.name.at in
        let a = unless (may_declare program None) Code.DeclaredTwice v.name.at in
        let i = earlier_first t u (earlier_second a (earlier t u) f) in
        subst (λ b. Mirrors (type_part more v.kind).after (cond b vs (vs ++ w ∷ [])))
        (sym (any_none vs v.name.text (no_variable names vs v.name.text m e)))
        (mirrors_type more (vs ++ w ∷ []) v.kind
        (mirrors_new names vs v.name.text new w m e refl refl
        (kind_sort_same names v.kind, indices_same more v.kind i)) i)
    by (Some old) e f =
        let new = named_here program names v in
        let w = variable_from (slot_count vs) v in
        let more = with_named names v.name.text (record old { program = program }) in
        let a = unless (may_declare program (Some old)) Code.DeclaredTwice v.name.at in
        let t = (type_part more v.kind).fault in
        let u = unless (means_alike new (Some old)) Code.DeclaredTwice v.name.at in
        let i = earlier_first t u (earlier_second a (earlier t u) f) in
        let var = and_first (is_variable old.meaning) (not (nat_eq old.program program))
        (unless_none (may_declare program (Some old)) Code.DeclaredTwice v.name.at (earlier_first a (earlier t u) f)) in
        let known = m.there v.name.text old e var in
        subst (λ b. Mirrors (type_part more v.kind).after (cond b vs (vs ++ w ∷ [])))
        (sym (any_some vs v.name.text known.0 known.1))
        (mirrors_type more vs v.kind (mirrors_again names vs v.name.text old program m e var) i)

pub mirrored_by_variables : MirroredByVariables
mirrored_by_variables names vs program [] m h = m
mirrored_by_variables names vs program (v ∷ ds) m h =
    let p = variable_part program names v in
    let g = (run (variable_part program) p.after ds).fault in
    mirrored_by_variables p.after (with_declaration vs v) program ds
    (mirrors_variable names vs program v m (earlier_first p.fault g h)) (earlier_second p.fault g h)

pub mirrored_by_definitions : MirroredByDefinitions
mirrored_by_definitions names vs program [] m h = m
mirrored_by_definitions names vs program (d ∷ ds) m h =
    let r = read d.of (definition_scope program names (d ∷ ds)) in
    let a = unless (not (is_declared names d.name.text)) Code.DeclaredTwice d.name.at in
    let p = definition program names d.name r in
    let g = (always_part program p.after ds).fault in
    mirrored_by_definitions p.after vs program ds
    (mirrors_declared names vs d.name (always_named program d.name.at r) m refl
    (earlier_first a r.fault (earlier_first p.fault g h))) (earlier_second p.fault g h)

-- documents

declared_on : (vs : List Variable) (ds es : List Var) →
    with_declarations vs (ds ++ es) ≡ with_declarations (with_declarations vs ds) es
declared_on vs [] es = refl
declared_on vs (d ∷ ds) es = declared_on (with_declaration vs d) ds es

mirrors_program : (d : Declared) (vs : List Variable) (program : Program) → Mirrors d.names vs →
    (program_part d program).fault ≡ None →
    Mirrors (program_part d program).after.names (with_declarations vs (declarations program))
mirrors_program d vs (Program.Union at name left right) m h = m
mirrors_program d vs (Program.Plain at name declare always initially start items) m h =
    let a = (new_program d.programs name).fault in
    let p = run (variable_part name.at) d.names (items_of declare) in
    let q = always_part name.at p.after (items_of always) in
    let b = earlier p.fault q.fault in
    let body = program_body (program_scope name.at q.after) initially (some_of start) items d.labels in
    let c = earlier body.fault None in
    let i = earlier_first b c (earlier_second a (earlier b c) h) in
    mirrored_by_definitions p.after (with_declarations vs (items_of declare)) name.at (items_of always)
    (mirrored_by_variables d.names vs name.at (items_of declare) m (earlier_first p.fault q.fault i))
    (earlier_second p.fault q.fault i)

mirrors_parts : (d : Declared) (vs : List Variable) (parts : List DocumentPart) → Mirrors d.names vs →
    (run part_of d parts).fault ≡ None →
    Mirrors (run part_of d parts).after.names (with_declarations vs (flat_map declarations (programs_among parts)))
mirrors_parts d vs [] m h = m
mirrors_parts d vs (DocumentPart.Program at of ∷ parts) m h =
    let p = program_part d of in
    let g = (run part_of p.after parts).fault in
    subst (λ ws. Mirrors (run part_of p.after parts).after.names ws)
    (sym (declared_on vs (declarations of) (flat_map declarations (programs_among parts))))
    (mirrors_parts p.after (with_declarations vs (declarations of)) parts
    (mirrors_program d vs of m (earlier_first p.fault g h)) (earlier_second p.fault g h))
mirrors_parts d vs (DocumentPart.Proof at of ∷ parts) m h =
    let p = part_of d (DocumentPart.Proof at of) in
    let g = (run part_of p.after parts).fault in
    mirrors_parts p.after vs parts m (earlier_second p.fault g h)

nothing_mirrored : Mirrors [] []
nothing_mirrored = record { there = λ word n e var. cc e; back = λ word v e. cc e }

pub mirrored_by_documents : MirroredByDocuments
mirrored_by_documents parts h = mirrors_parts nothing_declared [] parts nothing_mirrored h

stays_one : (vs : List Variable) (d : Var) (name : List ℕ) (v : Variable) → variable_named name vs ≡ Some v →
    variable_named name (with_declaration vs d) ≡ Some v
stays_one vs d name v e = by (list_any (λ known. bytes_eq known.name d.name.text) vs)
  where
    by : (b : Bool) → variable_named name (cond b vs (vs ++ (variable_from (slot_count vs) d ∷ []))) ≡ Some v
    by true = e
    by false = stays_before vs (variable_from (slot_count vs) d ∷ []) name v e

pub variables_stay : VariablesStay
variables_stay vs [] name v e = e
variables_stay vs (d ∷ ds) name v e = variables_stay (with_declaration vs d) ds name v (stays_one vs d name v e)

pub plain_slot : PlainSlot
plain_slot vs name v e plain =
    slot_of_named name None vs v e ∙ ap (λ indices. slot_at v.first indices None) plain

visible_there : (program : Option ℕ) (o : Option Named) (n : Named) → visible program o ≡ Some n → o ≡ Some n
visible_there program None n e = cc e
visible_there program (Some m) n e = by (is_visible program m) e
  where
    by : (b : Bool) → cond b (Some m) None ≡ Some n → Some m ≡ Some n
    by true f = f
    by false f = cc f

pub variable_found : VariableFound
variable_found s vs word n m none none' e var =
    let b : found s word ≡ visible s.program (lookup (bytes_eq word) s.names) =
    ap (λ x. option_or (option_map bound_named x)
    (option_or (option_map (λ number. bound_named (Meaning.Param number)) (lookup (bytes_eq word) s.params))
    (visible s.program (lookup (bytes_eq word) s.names)))) none ∙
    ap (λ x. option_or (option_map (λ number. bound_named (Meaning.Param number)) x)
    (visible s.program (lookup (bytes_eq word) s.names))) none' in
    let k = m.there word n (visible_there s.program (lookup (bytes_eq word) s.names) n (sym b ∙ e)) var in
    (k.0, k.1, k.2, λ plain. plain_slot vs word k.0 k.1 (sym k.2.1 ∙ ap (λ x. option_map span_ends x) plain))
