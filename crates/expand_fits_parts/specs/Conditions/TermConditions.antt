-- The names that proof terms bind.
use Rattle.std.specs.Prelude.{◌≡◌, ℕ, ◌+◌, Bool, length, All, ⊤}
use Rattle.unity_syntax.specs.declared.document.Document.{Document}
use Rattle.core_terms.specs.declared.documents.CRule.{CRule}
use Rattle.core_terms.specs.Conditions.{IsRange, NumbersBoundNames, rule_ranges, parts_of}
use Rattle.names_rules.specs.WellNamed.{IsWellNamed}
use Rattle.expand_correct.specs.from_expand_documents.Cores.{core_document}

-- a step has a name for each of its parameters and each name that its term binds,
abbrev pub ParametersNamed : Type 0
ParametersNamed = (d : Document) → All (λ p. All
    (λ s. length s.param_names ≡ length s.params + length (rule_ranges s.rule)) p.steps) (core_document d).proofs

-- the names that a rule binds have the numbers from this one on
abbrev pub RuleIsNumbered : ℕ → CRule → Type 0
RuleIsNumbered count (CRule.Proof t) = NumbersBoundNames count t
RuleIsNumbered count _ = ⊤

-- and these have the numbers after those of the parameters
abbrev pub TermsNumbered : Type 0
TermsNumbered = (d : Document) → IsWellNamed d →
    All (λ p. All (λ s. RuleIsNumbered (length s.params) s.rule) p.steps) (core_document d).proofs

-- the names that a rule binds have ranges, whatever is visible around it
abbrev pub RuleHasRanges : CRule → Type 0
RuleHasRanges (CRule.Proof t) = (visible : ℕ → Bool) → All IsRange (parts_of t visible).ranges
RuleHasRanges _ = ⊤

-- and so do those of each step
abbrev pub BoundNamesHaveRanges : Type 0
BoundNamesHaveRanges = (d : Document) → IsWellNamed d →
    All (λ p. All (λ s. RuleHasRanges s.rule) p.steps) (core_document d).proofs
