-- What the steps of a document name.
use Rattle.std.specs.Prelude.{ℕ, ◌+◌, List, length, Bool, IsTrue, All, ⊤}
use Rattle.unity_syntax.specs.declared.document.Document.{Document}
use Rattle.core_terms.specs.declared.documents.Arg.{Arg}
use Rattle.core_terms.specs.declared.documents.CRule.{CRule}
use Rattle.core_terms.specs.Conditions.{StepWords, arg_names_only, parts_of, is_below, rule_ranges, rule_refs}
use Rattle.names_rules.specs.WellNamed.{IsWellNamed}
use Rattle.expand_declarations.specs.WordNumbers.{document_words}
use Rattle.expand_correct.specs.from_expand_documents.Cores.{core_document}

-- the names of steps and their parameters, and what their rules and `using` name, are words
abbrev pub StepsHaveWords : Type 0
StepsHaveWords = (d : Document) → All (λ p. All (StepWords (document_words d)) p.steps) (core_document d).proofs

-- arguments name only parameters that are visible
abbrev pub ArgsNamed : (ℕ → Bool) → List Arg → Type 0
ArgsNamed visible args = All (λ a. IsTrue (arg_names_only visible a)) args

-- what is visible where a rule stands: the parameters of the step, and the names that are bound around it
abbrev pub RuleNamed : (ℕ → Bool) → CRule → Type 0
RuleNamed visible (CRule.TextWith h) = ArgsNamed visible h.args
RuleNamed visible (CRule.Proof t) = All (λ e. ArgsNamed e.0 e.1) (parts_of t visible).args
RuleNamed visible _ = ⊤

-- in a well-named document `using` names only the parameters of its step,
abbrev pub UsingNamed : Type 0
UsingNamed = (d : Document) → IsWellNamed d →
    All (λ p. All (λ s. All (λ r. ArgsNamed (is_below (length s.params)) r.args) s.using) p.steps)
    (core_document d).proofs

-- and a rule only these, and names that are bound around it
abbrev pub RulesNamed : Type 0
RulesNamed = (d : Document) → IsWellNamed d →
    All (λ p. All (λ s. RuleNamed (is_below (length s.params)) s.rule) p.steps) (core_document d).proofs

-- its references name only these, and names that it binds
abbrev pub RefsNamed : Type 0
RefsNamed = (d : Document) → IsWellNamed d →
    All (λ p. All (λ s. All (λ r. ArgsNamed (is_below (length s.params + length (rule_ranges s.rule))) r.args)
    (rule_refs s.rule)) p.steps) (core_document d).proofs
