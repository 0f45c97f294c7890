-- The numbers in arguments, and the indices of helpers.
use Rattle.std.specs.Prelude.{ℕ, ◌≤◌, ◌^◌, List, [], ◌++◌, Bool, Option, Some, None, All, ⊤}
use Rattle.case_tables.specs.declared.symbol_table.Symbol.{Symbol}
use Rattle.unity_syntax.specs.declared.name.End.{End}
use Rattle.unity_syntax.specs.declared.term.Inst.{Inst}
use Rattle.unity_syntax.specs.declared.term.Term.{Term, fold-Term}
use Rattle.unity_syntax.specs.declared.term.Term.TheOpen.{Term-F}
use Rattle.unity_syntax.specs.declared.proof.Rule.{Rule}
use Rattle.unity_syntax.specs.declared.proof.Step.{Step}
use Rattle.unity_syntax.specs.declared.document.Document.{Document}
use Rattle.core_terms.specs.declared.documents.CRule.{CRule}
use Rattle.core_terms.specs.declared.documents.CStep.{CStep}
use Rattle.core_terms.specs.Conditions.{ArgFits, IsIndex, term_refs, rule_refs, parts_of}
use Rattle.expand_correct.specs.from_expand_steps.ProofTerms.{Place, termed}
use Rattle.names_rules.specs.Declarations.{some_of}
use Rattle.names_rules.specs.Scope.{Bounds, Params}
use Rattle.names_rules.specs.WellNamed.{IsWellNamed}
use Rattle.expand_declarations.specs.References.{core_args}
use Rattle.meaning_documents.specs.Steps.{proofs_among}
use Rattle.expand_correct.specs.from_expand_documents.Cores.{core_document}

-- the number of an offset is within bounds
abbrev pub OffsetFits : Option (Symbol × ℕ) → Type 0
OffsetFits None = ⊤
OffsetFits (Some offset) = offset.1 ≤ 2 ^ 62

-- the number in an end is within bounds
abbrev pub EndFits : End → Type 0
EndFits (End.Number at minus number) = number ≤ 2 ^ 62
EndFits (End.Word at name offset) = OffsetFits offset

-- so are those of arguments whose ends are
abbrev pub ArgumentsFit : Type 0
ArgumentsFit = (bounds : Bounds) (params : Params) (args : Option (End × List End)) → All EndFits (some_of args) →
    All ArgFits (core_args bounds params args)

-- the ends in the references of a term
abbrev pub ends_layer : Term-F (List End) → List End
ends_layer (Term-F.Imply at p q) = []
ends_layer (Term-F.From at of) = some_of of.args
ends_layer (Term-F.Pair at which first second) = first ++ second
ends_layer (Term-F.Exists at name range of) = of
ends_layer (Term-F.Induct at name range measure p q of) = of
ends_layer (Term-F.Psp at of by) = of ++ some_of by.args
ends_layer (Term-F.Weaken at p q of) = of

abbrev pub term_ends : Term → List End
term_ends = fold-Term (List End) ends_layer

-- a term whose references have numbers within bounds has such references in core form
abbrev pub TermArgumentsFit : Type 0
TermArgumentsFit = (t : Term) → All EndFits (term_ends t) → (c : Place) (n : ℕ) →
    All (λ r. All ArgFits r.args) (term_refs (termed t c n).core)

-- the ends that a rule, a helper's indices too, has in arguments
abbrev pub helper_ends : Option Inst → List End
helper_ends None = []
helper_ends (Some helper) = some_of helper.indices

abbrev pub rule_ends : Rule → List End
rule_ends (Rule.Text at with) = helper_ends with
rule_ends (Rule.Weaken at of) = some_of of.args
rule_ends (Rule.Pair at which first second) = some_of first.args ++ some_of second.args
rule_ends (Rule.Superpose at of) = some_of of.args
rule_ends (Rule.Complete at first second third fourth) =
    (some_of first.args ++ some_of second.args) ++ (some_of third.args ++ some_of fourth.args)
rule_ends (Rule.Term at of) = term_ends of

-- the numbers in the arguments of a step are within bounds
pub record StepLiterals (step : Step) : Type 0 where
  pub rule : All EndFits (rule_ends step.rule)
  pub using : All (λ r. All EndFits (some_of r.args)) (some_of step.using)

-- so are those of all steps
pub record HasLiterals (d : Document) : Type 0 where
  pub steps : All (λ p. All StepLiterals p.steps) (proofs_among d.parts)

-- in core form the numbers in what a rule says are within bounds, whatever is visible around it
abbrev pub RuleArgumentsFit : CRule → Type 0
RuleArgumentsFit (CRule.TextWith h) = All ArgFits h.args
RuleArgumentsFit (CRule.Proof t) = (visible : ℕ → Bool) → All (λ e. All ArgFits e.1) (parts_of t visible).args
RuleArgumentsFit _ = ⊤

-- and those in its references and in `using`
pub record StepNumbersFit (s : CStep) : Type 0 where
  pub rule : RuleArgumentsFit s.rule
  pub refs : All (λ r. All ArgFits r.args) (rule_refs s.rule)
  pub using : All (λ r. All ArgFits r.args) s.using

abbrev pub StepsFit : Type 0
StepsFit = (d : Document) → HasLiterals d → All (λ p. All StepNumbersFit p.steps) (core_document d).proofs

-- helpers

-- no index of a helper is a variable
abbrev pub RuleIndexed : CRule → Type 0
RuleIndexed (CRule.TextWith h) = All IsIndex h.args
RuleIndexed _ = ⊤

-- so it is in a well-named document
abbrev pub HelpersIndexed : Type 0
HelpersIndexed = (d : Document) → IsWellNamed d → All (λ p. All (λ s. RuleIndexed s.rule) p.steps)
    (core_document d).proofs
