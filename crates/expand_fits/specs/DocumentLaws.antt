-- The core form of a document meets all conditions of the calls above.
use Rattle.std.specs.Prelude.{◌≡◌, ◌⊎◌, ◌<◌, ◌^◌, sum, map, length, None}
use Rattle.unity_syntax.specs.declared.document.Document.{Document}
use Rattle.core_terms.specs.Conditions.{IsCoreDocument}
use Rattle.names_rules.specs.WellNamed.{IsWellNamed}
use Rattle.meaning_documents.specs.Steps.{proofs_among}
use Rattle.expand_fits_parts.specs.from_expand_correct.Declared.SlotLaws.{HasFewWords}
use Rattle.expand_fits_parts.specs.from_expand_documents.Cores.{core_document}
use Rattle.expand_fits_parts.specs.from_expand_documents.Faults.{expansion_fault}
use Rattle.expand_fits_parts.specs.Forms.ShowingLaws.{HasApartNames}
use Rattle.expand_fits_parts.specs.Conditions.ArgumentConditions.{HasLiterals}
use Rattle.expand_fits.specs.StartConditions.{HasApartWords}

-- so few steps that a number can say how many
pub record HasFewSteps (d : Document) : Type 0 where
  pub few : sum (map (λ p. length p.steps) (proofs_among d.parts)) < 2 ^ 31

-- a document without a fault, of one of the two versions, with no more words and steps and no larger numbers than can
-- be told, in which the names of programs and the enumerations stand at bytes of their own
pub record IsWellFormedForCore (d : Document) : Type 0 where
  pub named : IsWellNamed d
  pub expands : expansion_fault d ≡ None
  pub version : (d.number ≡ 1) ⊎ (d.number ≡ 2)
  pub words : HasFewWords d
  pub steps : HasFewSteps d
  pub literals : HasLiterals d
  pub programs : HasApartNames d
  pub enumerations : HasApartWords d

abbrev pub DocumentsSound : Type 0
DocumentsSound = (d : Document) → IsWellFormedForCore d → IsCoreDocument (core_document d)
