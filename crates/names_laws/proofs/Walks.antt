-- How tables of words change from declaration to declaration, in parts of documents without a fault.
use Rattle.std.proofs.Common.{◌≡◌, ℕ, ◌+◌, List, [], ◌∷◌, Bool, true, false, cond, not, Option, Some, None, refl}
use Rattle.std.proofs.Common.{length}
use Rattle.std.specs.Map.{lookup}
use Rattle.std.specs.Str.{bytes_eq}
use Rattle.case_tables.specs.declared.code_table.Code.{Code}
use Rattle.unity_syntax.specs.declared.name.Name.{Name}
use Rattle.unity_syntax.specs.declared.declaration.Plain.{Plain}
use Rattle.unity_syntax.specs.declared.declaration.VarType.{VarType}
use Rattle.unity_syntax.specs.declared.declaration.Var.{Var}
use Rattle.unity_syntax.specs.declared.declaration.Def.{Def}
use Rattle.unity_syntax.specs.declared.program.Program.{Program}
use Rattle.unity_syntax.specs.declared.document.Part.{Part as DocumentPart}
use Rattle.names_rules.specs.declared.named.Sort.{Sort}
use Rattle.names_rules.specs.declared.named.Named.{Named}
use Rattle.names_rules.specs.Scope.{Table}
use Rattle.names_rules.specs.Reading.{earlier, unless, read, filled}
use Rattle.names_rules.specs.Part.{run, quiet}
use Rattle.names_rules.specs.Declarations.{items_of, some_of, program_scope, with_named, is_declared, value_named}
use Rattle.names_rules.specs.Declarations.{is_repeated, repeated, enumerated, words_part, plain_part, type_part}
use Rattle.names_rules.specs.Declarations.{variable_named as named_here, may_declare, means_alike, variable_as}
use Rattle.names_rules.specs.Declarations.{variable_part, always_named, definition, definition_scope, always_part}
use Rattle.names_rules.specs.WellNamed.{Declared, new_program, program_body, part_of}
use Rattle.names_rules.proofs.Faults.{earlier_first, earlier_second, unless_none}
use Rattle.names_laws.proofs.Mirrored.{not_some}

-- a relation that holds from a table to itself, over two changes in turn, when a word is added that was not there, and
-- when a variable is declared again
module _ (R : Table → Table → Type 0) (same : (names : Table) → R names names)
    (turn : (a b c : Table) → R a b → R b c → R a c)
    (fresh : (names : Table) (word : List ℕ) (n : Named) → lookup (bytes_eq word) names ≡ None →
    R names (with_named names word n))
    (again : (names : Table) (word : List ℕ) (old : Named) (program : ℕ) → lookup (bytes_eq word) names ≡ Some old →
    R names (with_named names word (record old { program = program }))) where
  walk_declared : (names : Table) (name : Name) (n : Named) →
      unless (not (is_declared names name.text)) Code.DeclaredTwice name.at ≡ None →
      R names (with_named names name.text n)
  walk_declared names name n h = fresh names name.text n (not_some (lookup (bytes_eq name.text) names)
      (unless_none (not (is_declared names name.text)) Code.DeclaredTwice name.at h))

  walk_enumerated : (sort : Sort) (number : ℕ) (names : Table) (ws : List Name) →
      (enumerated sort number names ws).fault ≡ None → R names (enumerated sort number names ws).after
  walk_enumerated sort number names [] h = same names
  walk_enumerated sort number names (w ∷ ws) h =
      let more = with_named names w.text (value_named sort number) in
      let f = unless (not (is_declared names w.text)) Code.DeclaredTwice w.at in
      let p = enumerated sort (number + 1) more ws in
      turn names more p.after (walk_declared names w (value_named sort number) (earlier_first f p.fault h))
      (walk_enumerated sort (number + 1) more ws (earlier_second f p.fault h))

  walk_words : (names : Table) (first : Name) (rest : List Name) → (words_part names first rest).fault ≡ None →
      R names (words_part names first rest).after
  walk_words names first rest h = by (is_repeated names first rest) h
    where
      by : (b : Bool) →
          (cond b (quiet names (repeated 0 (first ∷ rest)))
          (enumerated (Sort.Words first.at (length rest)) 0 names (first ∷ rest))).fault ≡ None →
          R names (cond b (quiet names (repeated 0 (first ∷ rest)))
          (enumerated (Sort.Words first.at (length rest)) 0 names (first ∷ rest))).after
      by true f = same names
      by false f = walk_enumerated (Sort.Words first.at (length rest)) 0 names (first ∷ rest) f

  walk_plain : (names : Table) (of : Plain) → (plain_part names of).fault ≡ None → R names (plain_part names of).after
  walk_plain names (Plain.Boolean at) h = same names
  walk_plain names (Plain.Range at range) h = same names
  walk_plain names (Plain.Words at first rest) h = walk_words names first rest h

  walk_type : (names : Table) (kind : VarType) → (type_part names kind).fault ≡ None →
      R names (type_part names kind).after
  walk_type names (VarType.Plain at of) h = walk_plain names of h
  walk_type names (VarType.Array at range of) h =
      walk_plain names of (earlier_second (filled [] range).fault (plain_part names of).fault h)

  walk_variable : (names : Table) (program : ℕ) (v : Var) → (variable_part program names v).fault ≡ None →
      R names (variable_part program names v).after
  walk_variable names program v h = by (lookup (bytes_eq v.name.text) names) refl h
    where
      by : (o : Option Named) → lookup (bytes_eq v.name.text) names ≡ o →
          (variable_as names v o (named_here program names v)).fault ≡ None →
          R names (variable_as names v o (named_here program names v)).after
      by None e f =
          let new = named_here program names v in
          let more = with_named names v.name.text new in
          let t = type_part more v.kind in
          let u = unless (means_alike new None) Code.DeclaredTwice v.name.at in
          let a = unless (may_declare program None) Code.DeclaredTwice v.name.at in
          turn names more t.after (fresh names v.name.text new e)
          (walk_type more v.kind (earlier_first t.fault u (earlier_second a (earlier t.fault u) f)))
      by (Some old) e f =
          let new = named_here program names v in
          let more = with_named names v.name.text (record old { program = program }) in
          let t = type_part more v.kind in
          let u = unless (means_alike new (Some old)) Code.DeclaredTwice v.name.at in
          let a = unless (may_declare program (Some old)) Code.DeclaredTwice v.name.at in
          turn names more t.after (again names v.name.text old program e)
          (walk_type more v.kind (earlier_first t.fault u (earlier_second a (earlier t.fault u) f)))

  pub walk_variables : (names : Table) (program : ℕ) (ds : List Var) →
      (run (variable_part program) names ds).fault ≡ None → R names (run (variable_part program) names ds).after
  walk_variables names program [] h = same names
  walk_variables names program (v ∷ ds) h =
      let p = variable_part program names v in
      let q = run (variable_part program) p.after ds in
      turn names p.after q.after (walk_variable names program v (earlier_first p.fault q.fault h))
      (walk_variables p.after program ds (earlier_second p.fault q.fault h))

  pub walk_definitions : (names : Table) (program : ℕ) (ds : List Def) → (always_part program names ds).fault ≡ None →
      R names (always_part program names ds).after
  walk_definitions names program [] h = same names
  walk_definitions names program (d ∷ ds) h =
      let r = read d.of (definition_scope program names (d ∷ ds)) in
      let a = unless (not (is_declared names d.name.text)) Code.DeclaredTwice d.name.at in
      let p = definition program names d.name r in
      let q = always_part program p.after ds in
      turn names p.after q.after
      (walk_declared names d.name (always_named program d.name.at r)
      (earlier_first a r.fault (earlier_first p.fault q.fault h)))
      (walk_definitions p.after program ds (earlier_second p.fault q.fault h))

  walk_part : (d : Declared) (part : DocumentPart) → (part_of d part).fault ≡ None →
      R d.names (part_of d part).after.names
  walk_part d (DocumentPart.Program at (Program.Union place name left right)) h = same d.names
  walk_part d (DocumentPart.Program at (Program.Plain place name declare always initially start items)) h =
      let a = (new_program d.programs name).fault in
      let p = run (variable_part name.at) d.names (items_of declare) in
      let q = always_part name.at p.after (items_of always) in
      let b = earlier p.fault q.fault in
      let body = program_body (program_scope name.at q.after) initially (some_of start) items d.labels in
      let c = earlier body.fault None in
      let i = earlier_first b c (earlier_second a (earlier b c) h) in
      turn d.names p.after q.after (walk_variables d.names name.at (items_of declare) (earlier_first p.fault q.fault i))
      (walk_definitions p.after name.at (items_of always) (earlier_second p.fault q.fault i))
  walk_part d (DocumentPart.Proof at of) h = same d.names

  pub walk_parts : (d : Declared) (parts : List DocumentPart) → (run part_of d parts).fault ≡ None →
      R d.names (run part_of d parts).after.names
  walk_parts d [] h = same d.names
  walk_parts d (part ∷ parts) h =
      let p = part_of d part in
      let q = run part_of p.after parts in
      turn d.names p.after.names q.after.names (walk_part d part (earlier_first p.fault q.fault h))
      (walk_parts p.after parts (earlier_second p.fault q.fault h))
