-- What the always names of a document become: each is made once, with those before it.
use Rattle.std.specs.Prelude.{◌≡◌, ℕ, List, [], ◌∷◌, fold, Option, Some, None, Result, Ok, Err}
use Rattle.std.specs.Map.{lookup}
use Rattle.std.specs.Str.{bytes_eq}
use Rattle.indexmap.specs.IndexMap.{insert_entry}
use Rattle.unity_syntax.specs.declared.declaration.Def.{Def}
use Rattle.expand_rules.specs.from_meaning_documents.Names.{Bindings}
use Rattle.names_rules.specs.declared.named.NameFault.{NameFault}
use Rattle.names_rules.specs.Reading.{Fault, earlier}
use Rattle.names_rules.specs.Answers.{Stops}
use Rattle.expand_rules.specs.declared.cores.Formed.{Formed}
use Rattle.expand_rules.specs.Forming.{Scope, formed}
use Rattle.expand_expressions.specs.declared.places.VariableSlots.{VariableSlots}
use Rattle.expand_expressions.specs.Places.{HasSlots, variables_of}
use Rattle.expand_expressions.specs.Sound.{IsSound}
use Rattle.expand_steps.specs.Elements.{element_fault}

-- always names with what they become
abbrev pub Always : Type 0
Always = List (List ℕ × Formed)

-- the same place after a definition
abbrev pub with_definition : Scope → Def → Scope
with_definition s d = record s { always = insert_entry bytes_eq s.always d.name.text (formed d.of s) }

-- the same place after definitions, in order
abbrev pub with_definitions : Scope → List Def → Scope
with_definitions s ds = fold with_definition s ds

-- a definition is too large at its name, or else an end of a range or a divisor in it is bad, at the first such place
abbrev pub definition_fault : Scope → Def → Option Fault
definition_fault s d = element_fault d.name.at (formed d.of s ∷ [])

abbrev pub definitions_fault : Scope → List Def → Option Fault
definitions_fault s [] = None
definitions_fault s (d ∷ ds) = earlier (definition_fault s d) (definitions_fault (with_definition s d) ds)

-- as the code keeps them

-- where definitions stand: outside all bound names
abbrev pub definition_scope : List (List ℕ × VariableSlots) → Bindings → Always → Scope
definition_scope variables values always = record {
  variables = variables_of variables;
  words = values;
  always = always;
  bound = [];
}

-- each always name has a sound core
pub record AreSound (always : Always) : Type 0 where
  pub each : (name : List ℕ) (a : Formed) → lookup (bytes_eq name) always ≡ Some a → IsSound a

-- each variable has slots whose numbers are below 2^32
pub record VariablesHaveSlots (variables : List (List ℕ × VariableSlots)) : Type 0 where
  pub each : (name : List ℕ) (v : VariableSlots) → lookup (bytes_eq name) variables ≡ Some v → HasSlots v

-- a call that gives what an expression becomes, or stops at its fault
pub record IsMade (f g : Formed) (front : ℕ) : Type 0 where
  pub same : f ≡ g
  pub sound : IsSound f
  pub fine : element_fault front (g ∷ []) ≡ None

abbrev pub MakesElement : Result Formed NameFault → Formed → ℕ → Type 0
MakesElement (Ok f) g front = IsMade f g front
MakesElement (Err e) g front = Stops e (element_fault front (g ∷ []))

-- definitions that were made after others
pub record Defined (s : Scope) (new : Always) (ds : List Def) : Type 0 where
  pub always : new ≡ (with_definitions s ds).always
  pub sound : AreSound new
  pub fine : definitions_fault s ds ≡ None

abbrev pub Defines : Result (Unit {0}) NameFault → Scope → Always → List Def → Type 0
Defines (Ok t) s new ds = Defined s new ds
Defines (Err e) s new ds = Stops e (definitions_fault s ds)
