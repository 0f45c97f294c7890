-- Each definition makes an always name, which stays one.
use Rattle.std.proofs.Common.{◌≡◌, ℕ, List, [], ◌∷◌, ◌++◌, Bool, true, false, ◌||◌, None, ◌⊎◌, inl, inr, refl, sym}
use Rattle.std.proofs.Common.{subst}
use Rattle.std.specs.List.{flat_map, list_any}
use Rattle.std.specs.Str.{bytes_eq}
use Rattle.unity_syntax.specs.declared.declaration.Def.{Def}
use Rattle.unity_syntax.specs.declared.program.Program.{Program}
use Rattle.unity_syntax.specs.declared.document.Part.{Part as DocumentPart}
use Rattle.meaning_documents.specs.Setting.{programs_among, definitions}
use Rattle.names_rules.specs.Scope.{Table}
use Rattle.names_rules.specs.Reading.{earlier, read}
use Rattle.names_rules.specs.Part.{run}
use Rattle.names_rules.specs.Declarations.{items_of, some_of, program_scope, variable_part, always_named, definition}
use Rattle.names_rules.specs.Declarations.{definition_scope, always_part}
use Rattle.names_rules.specs.WellNamed.{Declared, nothing_declared, new_program, program_body, program_part, part_of}
use Rattle.names_laws.specs.StayingLaws.{StaysIn}
use Rattle.names_laws.specs.AlwaysLaws.{is_always_name, IsAlwaysIn, DefinedIsAlways}
use Rattle.names_rules.proofs.Faults.{earlier_first, earlier_second}
use Rattle.names_laws.proofs.Inserts.{same_bytes, found_added}
use Rattle.names_laws.proofs.Staying.{stays_in_definitions, stays_in_documents}

either : (a b : Bool) → (a || b) ≡ true → (a ≡ true) ⊎ (b ≡ true)
either true b h = inl refl
either false b h = inr h

either_list : {X : Type 0} (p : X → Bool) (xs ys : List X) → list_any p (xs ++ ys) ≡ true →
    (list_any p xs ≡ true) ⊎ (list_any p ys ≡ true)
either_list p [] ys h = inr h
either_list p (x ∷ xs) ys h = by (p x) h (either_list p xs ys)
  where
    by : (b : Bool) → (b || list_any p (xs ++ ys)) ≡ true →
        (list_any p (xs ++ ys) ≡ true → (list_any p xs ≡ true) ⊎ (list_any p ys ≡ true)) →
        ((b || list_any p xs) ≡ true) ⊎ (list_any p ys ≡ true)
    by true k rest = inl refl
    by false k rest = rest k

stays_always : (names later : Table) (word : List ℕ) → StaysIn names later → IsAlwaysIn names word →
    IsAlwaysIn later word
stays_always names later word stays k = let s = stays word k.0 k.1 in (record k.0 { program = s.0 }, s.1, k.2)

defined_here : (names : Table) (program : ℕ) (ds : List Def) (word : List ℕ) →
    (always_part program names ds).fault ≡ None → is_always_name word ds ≡ true →
    IsAlwaysIn (always_part program names ds).after word
defined_here names program [] word h e = cc e
defined_here names program (d ∷ ds) word h e =
    let r = read d.of (definition_scope program names (d ∷ ds)) in
    let n = always_named program d.name.at r in
    let p = definition program names d.name r in
    let q = always_part program p.after ds in
    let i = earlier_second p.fault q.fault h in
    elim (either (bytes_eq word d.name.text) (is_always_name word ds) e) as (λ x. IsAlwaysIn q.after word) [
      | inl here ↦ stays_always p.after q.after word (stays_in_definitions p.after program ds i)
          (subst (λ w. IsAlwaysIn p.after w) (sym (same_bytes word d.name.text here))
          (n, found_added names d.name.text n, refl))
      | inr there ↦ defined_here p.after program ds word i there
    ]

defined_program : (d : Declared) (program : Program) (word : List ℕ) → (program_part d program).fault ≡ None →
    is_always_name word (definitions program) ≡ true → IsAlwaysIn (program_part d program).after.names word
defined_program d (Program.Union at name left right) word h e = cc e
defined_program d (Program.Plain at name declare always initially start items) word h e =
    let a = (new_program d.programs name).fault in
    let p = run (variable_part name.at) d.names (items_of declare) in
    let q = always_part name.at p.after (items_of always) in
    let b = earlier p.fault q.fault in
    let body = program_body (program_scope name.at q.after) initially (some_of start) items d.labels in
    let c = earlier body.fault None in
    let i = earlier_first b c (earlier_second a (earlier b c) h) in
    defined_here p.after name.at (items_of always) word (earlier_second p.fault q.fault i) e

defined_parts : (d : Declared) (parts : List DocumentPart) (word : List ℕ) → (run part_of d parts).fault ≡ None →
    is_always_name word (flat_map definitions (programs_among parts)) ≡ true →
    IsAlwaysIn (run part_of d parts).after.names word
defined_parts d [] word h e = cc e
defined_parts d (DocumentPart.Program at of ∷ parts) word h e =
    let p = program_part d of in
    let q = run part_of p.after parts in
    let i = earlier_second p.fault q.fault h in
    elim (either_list (λ d. bytes_eq word d.name.text) (definitions of) (flat_map definitions (programs_among parts)) e)
    as (λ x. IsAlwaysIn q.after.names word) [
      | inl here ↦ stays_always p.after.names q.after.names word (stays_in_documents p.after parts i)
          (defined_program d of word (earlier_first p.fault q.fault h) here)
      | inr there ↦ defined_parts p.after parts word i there
    ]
defined_parts d (DocumentPart.Proof at of ∷ parts) word h e =
    let p = part_of d (DocumentPart.Proof at of) in
    let q = run part_of p.after parts in
    defined_parts p.after parts word (earlier_second p.fault q.fault h) e

pub defined_is_always : DefinedIsAlways
defined_is_always parts h word e = defined_parts nothing_declared parts word h e
