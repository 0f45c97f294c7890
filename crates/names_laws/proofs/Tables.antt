-- What holds of each word that is declared holds of each word of a table.
use Rattle.std.proofs.Common.{◌≡◌, ℕ, ◌+◌, List, [], ◌∷◌, length, Bool, true, false, cond, Option, Some, None, ◌⊎◌, inl}
use Rattle.std.proofs.Common.{inr, refl, sym, subst}
use Rattle.std.specs.Map.{lookup}
use Rattle.std.specs.Str.{bytes_eq}
use Rattle.unity_syntax.specs.declared.name.Name.{Name}
use Rattle.unity_syntax.specs.declared.declaration.Plain.{Plain}
use Rattle.unity_syntax.specs.declared.declaration.VarType.{VarType}
use Rattle.unity_syntax.specs.declared.declaration.Var.{Var}
use Rattle.unity_syntax.specs.declared.declaration.Def.{Def}
use Rattle.unity_syntax.specs.declared.program.Program.{Program}
use Rattle.unity_syntax.specs.declared.document.Part.{Part as DocumentPart}
use Rattle.names_rules.specs.declared.named.Sort.{Sort}
use Rattle.names_rules.specs.declared.named.Named.{Named}
use Rattle.names_rules.specs.Scope.{Table}
use Rattle.names_rules.specs.Reading.{Reading, read}
use Rattle.names_rules.specs.Part.{run, quiet}
use Rattle.names_rules.specs.Declarations.{items_of, with_named, value_named, is_repeated, repeated, enumerated}
use Rattle.names_rules.specs.Declarations.{words_part, plain_part, type_part, variable_named, declared, variable_part}
use Rattle.names_rules.specs.Declarations.{always_named, definition_scope, always_part}
use Rattle.names_rules.specs.WellNamed.{Declared, part_of}

-- each word of a table is such
abbrev pub Each : (Named → Type 0) → Table → Type 0
Each P names = (word : List ℕ) (n : Named) → lookup (bytes_eq word) names ≡ Some n → P n

replaced : (c : Bool) (old n m : Named) (rest : Option Named) → cond c (Some n) rest ≡ Some m →
    (m ≡ n) ⊎ (cond c (Some old) rest ≡ Some m)
replaced true old n m rest e = inl (cc)
replaced false old n m rest e = inr e

kept : (c : Bool) (old n m : Named) (new rest : Option Named) → (new ≡ Some m → (m ≡ n) ⊎ (rest ≡ Some m)) →
    cond c (Some old) new ≡ Some m → (m ≡ n) ⊎ (cond c (Some old) rest ≡ Some m)
kept true old n m new rest known e = inr e
kept false old n m new rest known e = known e

-- what a table has after a word is added was there, or is that word
added : (names : Table) (word other : List ℕ) (n m : Named) →
    lookup (bytes_eq other) (with_named names word n) ≡ Some m → (m ≡ n) ⊎ (lookup (bytes_eq other) names ≡ Some m)
added [] word other n m e = by (bytes_eq other word) e
  where
    by : (b : Bool) → cond b (Some n) None ≡ Some m → (m ≡ n) ⊎ (None ≡ Some m)
    by true e = inl (cc)
    by false e = inr e
added ((key, old) ∷ es) word other n m e = by (bytes_eq word key) (added es word other n m) e
  where
    by : (b : Bool) →
        (lookup (bytes_eq other) (with_named es word n) ≡ Some m → (m ≡ n) ⊎ (lookup (bytes_eq other) es ≡ Some m)) →
        lookup (bytes_eq other) (cond b ((key, n) ∷ es) ((key, old) ∷ with_named es word n)) ≡ Some m →
        (m ≡ n) ⊎ (lookup (bytes_eq other) ((key, old) ∷ es) ≡ Some m)
    by true known e = replaced (bytes_eq other key) old n m (lookup (bytes_eq other) es) e
    by false known e = kept (bytes_eq other key) old n m (lookup (bytes_eq other) (with_named es word n))
        (lookup (bytes_eq other) es) known e

module _ (P : Named → Type 0)
    (variable : (program : ℕ) (names : Table) (v : Var) → P (variable_named program names v))
    (again : (n : Named) (program : ℕ) → P n → P (record n { program = program }))
    (value : (sort : Sort) (number : ℕ) → P (value_named sort number))
    (definite : (program at : ℕ) (r : Reading) → P (always_named program at r)) where
  each_with : (names : Table) (word : List ℕ) (n : Named) → Each P names → P n → Each P (with_named names word n)
  each_with names word n each p other m e = elim (added names word other n m e) as (λ x. P m) [
    | inl same ↦ subst P (sym same) p
    | inr old ↦ each other m old
  ]

  each_enumerated : (sort : Sort) (number : ℕ) (names : Table) (ws : List Name) → Each P names →
      Each P (enumerated sort number names ws).after
  each_enumerated sort number names [] each = each
  each_enumerated sort number names (w ∷ ws) each =
      each_enumerated sort (number + 1) (with_named names w.text (value_named sort number)) ws
      (each_with names w.text (value_named sort number) each (value sort number))

  each_words : (names : Table) (first : Name) (rest : List Name) → Each P names →
      Each P (words_part names first rest).after
  each_words names first rest each = by (is_repeated names first rest)
    where
      by : (b : Bool) → Each P (cond b (quiet names (repeated 0 (first ∷ rest)))
          (enumerated (Sort.Words first.at (length rest)) 0 names (first ∷ rest))).after
      by true = each
      by false = each_enumerated (Sort.Words first.at (length rest)) 0 names (first ∷ rest) each

  each_plain : (names : Table) (of : Plain) → Each P names → Each P (plain_part names of).after
  each_plain names (Plain.Boolean at) each = each
  each_plain names (Plain.Range at range) each = each
  each_plain names (Plain.Words at first rest) each = each_words names first rest each

  each_type : (names : Table) (kind : VarType) → Each P names → Each P (type_part names kind).after
  each_type names (VarType.Plain at of) each = each_plain names of each
  each_type names (VarType.Array at range of) each = each_plain names of each

  is_declared_so : (old : Option Named) (new : Named) → ((n : Named) → old ≡ Some n → P n) → P new →
      P (declared new old)
  is_declared_so None new known p = p
  is_declared_so (Some n) new known p = again n new.program (known n refl)

  each_variable : (program : ℕ) (names : Table) (v : Var) → Each P names → Each P (variable_part program names v).after
  each_variable program names v each =
      let new = variable_named program names v in
      let old = lookup (bytes_eq v.name.text) names in
      each_type (with_named names v.name.text (declared new old)) v.kind
      (each_with names v.name.text (declared new old) each
      (is_declared_so old new (each v.name.text) (variable program names v)))

  pub each_variables : (program : ℕ) (names : Table) (vs : List Var) → Each P names →
      Each P (run (variable_part program) names vs).after
  each_variables program names [] each = each
  each_variables program names (v ∷ vs) each =
      each_variables program (variable_part program names v).after vs (each_variable program names v each)

  pub each_definitions : (program : ℕ) (names : Table) (ds : List Def) → Each P names →
      Each P (always_part program names ds).after
  each_definitions program names [] each = each
  each_definitions program names (d ∷ ds) each =
      let r = read d.of (definition_scope program names (d ∷ ds)) in
      each_definitions program (with_named names d.name.text (always_named program d.name.at r)) ds
      (each_with names d.name.text (always_named program d.name.at r) each (definite program d.name.at r))

  each_part : (d : Declared) (part : DocumentPart) → Each P d.names → Each P (part_of d part).after.names
  each_part d (DocumentPart.Program at (Program.Union place name l r)) each = each
  each_part d (DocumentPart.Program at (Program.Plain place name declare always initially start items)) each =
      each_definitions name.at (run (variable_part name.at) d.names (items_of declare)).after (items_of always)
      (each_variables name.at d.names (items_of declare) each)
  each_part d (DocumentPart.Proof at of) each = each

  pub each_document : (d : Declared) (parts : List DocumentPart) → Each P d.names →
      Each P (run part_of d parts).after.names
  each_document d [] each = each
  each_document d (part ∷ parts) each = each_document (part_of d part).after parts (each_part d part each)
