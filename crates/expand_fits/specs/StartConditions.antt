-- The start values of programs.
use Rattle.std.specs.Prelude.{◌≡◌, ℕ, List, [], ◌∷◌, length, IsTrue, All}
use Rattle.std.specs.List.{flat_map}
use Rattle.unity_syntax.specs.declared.declaration.Plain.{Plain}
use Rattle.unity_syntax.specs.declared.declaration.Var.{Var}
use Rattle.unity_syntax.specs.declared.document.Document.{Document}
use Rattle.meaning_documents.specs.Setting.{element_type}
use Rattle.core_terms.specs.Conditions.{EachPair, StartFits, is_shown}
use Rattle.names_rules.specs.WellNamed.{IsWellNamed}
use Rattle.expand_declarations.specs.Slots.{declared_by}
use Rattle.expand_fits_parts.specs.from_expand_documents.Cores.{core_document}
use Rattle.expand_fits_parts.specs.Forms.ShowingLaws.{HasApartNames}

-- an enumeration: the byte of its first word, and the number of its last one
abbrev pub plain_enumeration : Plain → List (ℕ × ℕ)
plain_enumeration (Plain.Boolean at) = []
plain_enumeration (Plain.Range at range) = []
plain_enumeration (Plain.Words at first rest) = (first.at, length rest) ∷ []

abbrev pub enumerations : List Var → List (ℕ × ℕ)
enumerations vs = flat_map (λ v. plain_enumeration (element_type v.kind)) vs

-- each enumeration stands at a byte of its own; so it is in each document that was read from a text
pub record HasApartWords (d : Document) : Type 0 where
  pub apart : EachPair (λ e f. e.0 ≡ f.0 → ⊥) (enumerations (declared_by d.parts))

-- in a well-named document a program, also a union, gives a slot one start value at most,
abbrev pub StartsOnce : Type 0
StartsOnce = (d : Document) → IsWellNamed d →
    All (λ c. EachPair (λ e f. e.0 ≡ f.0 → ⊥) c.start) (core_document d).programs

-- which lies in the range of the slot,
abbrev pub StartsFit : Type 0
StartsFit = (d : Document) → IsWellNamed d → HasApartWords d →
    All (λ c. All (StartFits (core_document d).slots) c.start) (core_document d).programs

-- and the program, also a union, shows the slot
abbrev pub StartsShown : Type 0
StartsShown = (d : Document) → IsWellNamed d → HasApartNames d →
    All (λ c. All (λ e. IsTrue (is_shown c.shown e.0)) c.start) (core_document d).programs
