-- Words keep their meanings from declaration to declaration.
use Rattle.std.proofs.Common.{◌≡◌, ℕ, List, Some, None, inl, inr, sym, ap, ◌∙◌}
use Rattle.std.specs.Map.{lookup}
use Rattle.std.specs.Str.{bytes_eq}
use Rattle.names_rules.specs.declared.named.Named.{Named}
use Rattle.names_rules.specs.Scope.{Table}
use Rattle.names_rules.specs.Declarations.{with_named}
use Rattle.names_laws.specs.StayingLaws.{StaysIn, StaysInDocuments, StaysInVariables, StaysInDefinitions}
use Rattle.names_laws.proofs.Inserts.{added, still_found, kept_beside}
use Rattle.names_laws.proofs.Walks.{walk_variables, walk_definitions, walk_parts}

stays_same : (names : Table) → StaysIn names names
stays_same names word n e = (n.program, e)

stays_on : (a b c : Table) → StaysIn a b → StaysIn b c → StaysIn a c
stays_on a b c s t word n e = let k = s word n e in t word (record n { program = k.0 }) k.1

stays_fresh : (names : Table) (word : List ℕ) (n : Named) → lookup (bytes_eq word) names ≡ None →
    StaysIn names (with_named names word n)
stays_fresh names word n none other m e = (m.program, kept_beside names word other n m none e)

stays_again : (names : Table) (word : List ℕ) (old : Named) (program : ℕ) → lookup (bytes_eq word) names ≡ Some old →
    StaysIn names (with_named names word (record old { program = program }))
stays_again names word old program e other m f =
    let new = record old { program = program } in
    elim (still_found names word other new m f)
    as (λ x. (p : ℕ) × (lookup (bytes_eq other) (with_named names word new) ≡ Some (record m { program = p }))) [
      | inl there ↦ (m.program, there)
      | inr replaced ↦ elim (added names word other new new replaced)
          as (λ x. (p : ℕ) × (lookup (bytes_eq other) (with_named names word new) ≡ Some (record m { program = p }))) [
            | inl here ↦
                let g : Some old ≡ Some m = sym e ∙ sym (ap (λ w. lookup (bytes_eq w) names) here.1) ∙ f in
                let same : old ≡ m = cc in
                (program, replaced ∙ ap (λ (x : Named). Some (record x { program = program })) same)
            | inr before ↦ let g : Some new ≡ Some m = sym before ∙ f in
                let same : new ≡ m = cc in
                (m.program, replaced ∙ ap (λ x. Some x) same)
          ]
    ]

pub stays_in_documents : StaysInDocuments
stays_in_documents = walk_parts StaysIn stays_same stays_on stays_fresh stays_again

pub stays_in_variables : StaysInVariables
stays_in_variables = walk_variables StaysIn stays_same stays_on stays_fresh stays_again

pub stays_in_definitions : StaysInDefinitions
stays_in_definitions = walk_definitions StaysIn stays_same stays_on stays_fresh stays_again
