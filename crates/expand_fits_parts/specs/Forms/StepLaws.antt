-- The claims of steps fit the slots of the document and the parameters of the step; the parts of proof terms fit these
-- and the names that are bound around them.
use Rattle.std.specs.Prelude.{◌≡◌, ℕ, ◌+◌, List, [], ◌++◌, length, None, All, IsTrue, ⊤}
use Rattle.unity_syntax.specs.declared.document.Document.{Document}
use Rattle.names_rules.specs.WellNamed.{IsWellNamed}
use Rattle.core_terms.specs.declared.programs.CSlot.{CSlot}
use Rattle.core_terms.specs.declared.documents.CStep.{CStep}
use Rattle.core_terms.specs.declared.documents.CRule.{CRule}
use Rattle.core_terms.specs.declared.trees.Range.{Range}
use Rattle.unity_syntax.specs.declared.name.Range.{Range as TextRange}
use Rattle.meaning_documents.specs.Value.{range_ends}
use Rattle.names_rules.specs.Reading.{filled}
use Rattle.expand_declarations.specs.Numbers.{core_range}
use Rattle.core_terms.specs.Places.{form_names_only, term_names_only}
use Rattle.core_terms.specs.Conditions.{FormFits, TermFits, Parts, parts_of, bound_ranges, any_place, is_below}
use Rattle.core_terms.specs.Conditions.{NumbersBoundNames, rule_ranges}
use Rattle.expand_correct.specs.from_expand_documents.Cores.{core_document}
use Rattle.expand_correct.specs.from_expand_documents.Faults.{expansion_fault}

-- the formulas of a step's claim
pub record StepClaimFits (slots : List CSlot) (c : CStep) : Type 0 where
  pub p : FormFits slots c.params c.p
  pub q : FormFits slots c.params c.q

abbrev pub ClaimsFit : Type 0
ClaimsFit = (d : Document) → IsWellNamed d → expansion_fault d ≡ None →
    All (λ c. All (StepClaimFits (core_document d).slots) c.steps) (core_document d).proofs

-- the formulas and the terms in a proof term, each with the test of which parameters are visible at it
pub record ProofPartsFit (slots : List CSlot) (ranges : List Range) (parts : Parts) : Type 0 where
  pub forms : All (λ e. FormFits slots ranges e.1) parts.forms
  pub form_names : All (λ e. IsTrue (form_names_only any_place e.0 e.1)) parts.forms
  pub terms : All (λ e. TermFits slots ranges e.1) parts.terms
  pub term_names : All (λ e. IsTrue (term_names_only any_place e.0 e.1)) parts.terms

-- those of a rule, where the parameters of the step are visible
abbrev pub RuleFits : List CSlot → List Range → CRule → Type 0
RuleFits slots params (CRule.Proof t) =
    ProofPartsFit slots (params ++ bound_ranges t) (parts_of t (is_below (length params)))
RuleFits slots params _ = ⊤

abbrev pub TermsFit : Type 0
TermsFit = (d : Document) → IsWellNamed d → expansion_fault d ≡ None →
    All (λ c. All (λ s. RuleFits (core_document d).slots s.params s.rule) c.steps) (core_document d).proofs

-- the names that a rule binds have the numbers from this one on, in reading order
abbrev pub RuleNumbered : ℕ → CRule → Type 0
RuleNumbered first (CRule.Proof t) = NumbersBoundNames first t
RuleNumbered first _ = ⊤

-- those of a step come after its parameters,
abbrev pub NamesNumbered : Type 0
NamesNumbered = (d : Document) → IsWellNamed d → expansion_fault d ≡ None →
    All (λ c. All (λ s. RuleNumbered (length s.params) s.rule) c.steps) (core_document d).proofs

-- and each parameter and each bound name has a word
abbrev pub NamesCounted : Type 0
NamesCounted = (d : Document) → IsWellNamed d → expansion_fault d ≡ None →
    All (λ c. All (λ s. length s.param_names ≡ length s.params + length (rule_ranges s.rule)) c.steps)
    (core_document d).proofs

-- a range in the text that has no fault, in which no name stands, has this core form
pub record IsReadRange (r : Range) : Type 0 where
  pub text : TextRange
  pub sound : (filled [] text).fault ≡ None
  pub core : r ≡ core_range (range_ends [] text)

-- those of the names that a rule binds
abbrev pub RuleReads : List Range → CRule → Type 0
RuleReads params (CRule.Proof t) = All IsReadRange (parts_of t (is_below (length params))).ranges
RuleReads params _ = ⊤

abbrev pub RangesRead : Type 0
RangesRead = (d : Document) → IsWellNamed d → expansion_fault d ≡ None →
    All (λ c. All (λ s. RuleReads s.params s.rule) c.steps) (core_document d).proofs
