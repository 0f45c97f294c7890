-- What holds of each word of a table after the declarations of a program.
use Rattle.std.proofs.Common.{◌≡◌, ℕ, ◌+◌, List, [], ◌∷◌, length, Bool, true, false, cond, Option, Some, None, inl, inr}
use Rattle.std.proofs.Common.{refl, sym, subst, not, nat_eq}
use Rattle.std.specs.Map.{lookup}
use Rattle.std.specs.Str.{bytes_eq}
use Rattle.unity_syntax.specs.declared.name.Name.{Name}
use Rattle.unity_syntax.specs.declared.declaration.Plain.{Plain}
use Rattle.unity_syntax.specs.declared.declaration.VarType.{VarType}
use Rattle.unity_syntax.specs.declared.declaration.Var.{Var}
use Rattle.unity_syntax.specs.declared.declaration.Def.{Def}
use Rattle.names_rules.specs.declared.named.Sort.{Sort}
use Rattle.names_rules.specs.declared.named.Named.{Named}
use Rattle.names_rules.specs.Scope.{Table, is_variable}
use Rattle.names_rules.specs.Reading.{Reading, earlier, unless, read}
use Rattle.names_rules.specs.Part.{run, quiet}
use Rattle.names_rules.specs.Declarations.{with_named, value_named, is_repeated, repeated, enumerated, words_part}
use Rattle.names_rules.specs.Declarations.{plain_part, type_part, variable_named as named_here, variable_as}
use Rattle.names_rules.specs.Declarations.{variable_part}
use Rattle.names_rules.specs.Declarations.{may_declare, means_alike}
use Rattle.names_rules.specs.Declarations.{always_named, definition_scope, always_part}
use Rattle.names_laws.proofs.Inserts.{added}
use Rattle.names_laws.proofs.AttributeTheorems.{and_first}
use Rattle.names_rules.proofs.Faults.{earlier_first, earlier_second, unless_none}
use Rattle.case_tables.specs.declared.code_table.Code.{Code}

module _ (Q : List ℕ → Named → Type 0) (value : (w : List ℕ) (sort : Sort) (number : ℕ) → Q w (value_named sort number))
    (program : ℕ) where
  abbrev pub HoldsAll : Table → Type 0
  HoldsAll names = (word : List ℕ) (n : Named) → lookup (bytes_eq word) names ≡ Some n → Q word n

  pub hold_with : (names : Table) (word : List ℕ) (n : Named) → HoldsAll names → Q word n → HoldsAll
      (with_named names word n)
  hold_with names word n all h other m e = elim (added names word other n m e) as (λ x. Q other m) [
    | inl new ↦ subst (λ w. Q w m) (sym new.1) (subst (λ x. Q word x) (sym new.0) h)
    | inr old ↦ all other m old
  ]

  hold_enumerated : (sort : Sort) (number : ℕ) (names : Table) (ws : List Name) → HoldsAll names → HoldsAll
      (enumerated sort number names ws).after
  hold_enumerated sort number names [] all = all
  hold_enumerated sort number names (w ∷ ws) all = hold_enumerated sort (number + 1)
      (with_named names w.text (value_named sort number)) ws
      (hold_with names w.text (value_named sort number) all (value w.text sort number))

  hold_words : (names : Table) (first : Name) (rest : List Name) → HoldsAll names → HoldsAll
      (words_part names first rest).after
  hold_words names first rest all = by (is_repeated names first rest)
    where
      by : (b : Bool) → HoldsAll (cond b (quiet names (repeated 0 (first ∷ rest)))
          (enumerated (Sort.Words first.at (length rest)) 0 names (first ∷ rest))).after
      by true = all
      by false = hold_enumerated (Sort.Words first.at (length rest)) 0 names (first ∷ rest) all

  hold_plain : (names : Table) (of : Plain) → HoldsAll names → HoldsAll (plain_part names of).after
  hold_plain names (Plain.Boolean at) all = all
  hold_plain names (Plain.Range at range) all = all
  hold_plain names (Plain.Words at first rest) all = hold_words names first rest all

  hold_type : (names : Table) (kind : VarType) → HoldsAll names → HoldsAll (type_part names kind).after
  hold_type names (VarType.Plain at of) all = hold_plain names of all
  hold_type names (VarType.Array at range of) all = hold_plain names of all

  -- each variable that is declared here holds, whatever else it is
  abbrev pub Variables : List Var → Type 0
  Variables [] = Unit {0}
  Variables (v ∷ vs) =
      ((m : Named) → m.program ≡ program → is_variable m.meaning ≡ true → Q v.name.text m) × Variables vs

  hold_one : (names : Table) (v : Var) → (variable_part program names v).fault ≡ None →
      ((m : Named) → m.program ≡ program → is_variable m.meaning ≡ true → Q v.name.text m) → HoldsAll names →
      HoldsAll (variable_part program names v).after
  hold_one names v fault h all = by (lookup (bytes_eq v.name.text) names) fault
    where
      by : (o : Option Named) → (variable_as names v o (named_here program names v)).fault ≡ None →
          HoldsAll (variable_as names v o (named_here program names v)).after
      by None f = hold_type (with_named names v.name.text (named_here program names v)) v.kind
          (hold_with names v.name.text (named_here program names v) all (h (named_here program names v) refl refl))
      by (Some old) f =
          let new = named_here program names v in
          let m = record old { program = program } in
          let t = type_part (with_named names v.name.text m) v.kind in
          let u = unless (means_alike new (Some old)) Code.DeclaredTwice v.name.at in
          let a = unless (may_declare program (Some old)) Code.DeclaredTwice v.name.at in
          let kind = and_first (is_variable old.meaning) (not (nat_eq old.program program))
          (unless_none (may_declare program (Some old)) Code.DeclaredTwice v.name.at
          (earlier_first a (earlier t.fault u) f)) in
          hold_type (with_named names v.name.text m) v.kind (hold_with names v.name.text m all (h m refl kind))

  pub hold_variables : (names : Table) (vs : List Var) → (run (variable_part program) names vs).fault ≡ None →
      Variables vs → HoldsAll names → HoldsAll (run (variable_part program) names vs).after
  hold_variables names [] f h all = all
  hold_variables names (v ∷ vs) f h all =
      let p = variable_part program names v in
      let q = run (variable_part program) p.after vs in
      hold_variables p.after vs (earlier_second p.fault q.fault f) h.1
      (hold_one names v (earlier_first p.fault q.fault f) h.0 all)

  abbrev pub Definitions : List Def → Type 0
  Definitions [] = Unit {0}
  Definitions (d ∷ ds) = ((at : ℕ) (r : Reading) → Q d.name.text (always_named program at r)) × Definitions ds

  pub hold_definitions : (names : Table) (ds : List Def) → Definitions ds → HoldsAll names → HoldsAll
      (always_part program names ds).after
  hold_definitions names [] h all = all
  hold_definitions names (d ∷ ds) h all =
      let r = read d.of (definition_scope program names (d ∷ ds)) in
      hold_definitions (with_named names d.name.text (always_named program d.name.at r)) ds h.1
      (hold_with names d.name.text (always_named program d.name.at r) all (h.0 d.name.at r))
