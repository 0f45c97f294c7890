-- Documents without `div` and `mod`, their expressions and assignments, and what becomes of them.
use Rattle.std.specs.Prelude.{◌≡◌, ℕ, Bool, true, false, ◌&&◌, List, ◌∷◌, Option, Some, None, IsTrue, All, ⊤}
use Rattle.std.specs.List.{list_all, flat_map}
use Rattle.std.specs.Map.{lookup}
use Rattle.std.specs.Str.{bytes_eq}
use Rattle.unity_syntax.specs.declared.expression.Expr.{Expr, fold-Expr}
use Rattle.unity_syntax.specs.declared.expression.Expr.TheOpen.{Expr-F}
use Rattle.unity_syntax.specs.declared.expression.Operator.{Operator}
use Rattle.unity_syntax.specs.declared.statement.Target.{Target}
use Rattle.unity_syntax.specs.declared.statement.Assign.{Assign, fold-Assign}
use Rattle.unity_syntax.specs.declared.statement.Component.TheOpen.{Component-F, Assign-F}
use Rattle.unity_syntax.specs.declared.program.Initially.{Initially}
use Rattle.unity_syntax.specs.declared.program.Program.{Program}
use Rattle.unity_syntax.specs.declared.term.Term.{fold-Term}
use Rattle.unity_syntax.specs.declared.term.Term.TheOpen.{Term-F}
use Rattle.unity_syntax.specs.declared.proof.Claim.{Claim}
use Rattle.unity_syntax.specs.declared.proof.Rule.{Rule}
use Rattle.unity_syntax.specs.declared.proof.Step.{Step}
use Rattle.unity_syntax.specs.declared.document.Document.{Document}
use Rattle.meaning_documents.specs.Instances.{instances}
use Rattle.meaning_documents.specs.Setting.{programs_among}
use Rattle.meaning_documents.specs.Steps.{proofs_among}
use Rattle.meaning_documents.specs.Writes.{Alternative, alternatives}
use Rattle.expand_rules.specs.declared.cores.Core.{Core}
use Rattle.expand_rules.specs.declared.cores.Formed.{Formed}
use Rattle.expand_rules.specs.declared.effects.Effect.{Effect}
use Rattle.expand_rules.specs.Forming.{Scope, formed}
use Rattle.expand_rules.specs.Assigning.{effect_of}
use Rattle.upgraded_texts.specs.from_expand_documents.Cores.{core_document, part_definitions}
use Rattle.plain_quotients.specs.Plain.{FormIsPlain, TermIsPlain, WriteIsPlain, DocumentIsPlain}

-- sources

abbrev pub is_times : Operator → Bool
is_times Operator.Times = true
is_times _ = false

abbrev pub index_times : Option Bool → Bool
index_times None = true
index_times (Some index) = index

-- whether the operators of all products are `*`, from whether those of the parts are
abbrev pub times_layer : Expr-F Bool → Bool
times_layer (Expr-F.Implies at left right) = left && right
times_layer (Expr-F.And at first rest) = first && list_all (λ m. m) rest
times_layer (Expr-F.Or at first rest) = first && list_all (λ m. m) rest
times_layer (Expr-F.Not at of) = of
times_layer (Expr-F.Compare at left relation right) = left && right
times_layer (Expr-F.Sum at minus first rest) = first && list_all (λ part. part.1) rest
times_layer (Expr-F.Product at first rest) = first && list_all (λ part. is_times part.0 && part.1) rest
times_layer (Expr-F.Number at number) = true
times_layer (Expr-F.True at) = true
times_layer (Expr-F.False at) = true
times_layer (Expr-F.Word at name index) = index_times index
times_layer (Expr-F.Brackets at of) = of
times_layer (Expr-F.Quantified at which name range of) = of

-- an expression has neither `div` nor `mod`
abbrev pub has_only_times : Expr → Bool
has_only_times = fold-Expr Bool times_layer

abbrev pub only_times_or_none : Option Expr → Bool
only_times_or_none None = true
only_times_or_none (Some e) = has_only_times e

abbrev pub target_times : Target → Bool
target_times t = only_times_or_none t.index

-- the values and the condition of an alternative
abbrev pub alternative_times : Alternative → Bool
alternative_times x = list_all has_only_times (x.0.first ∷ x.0.rest) && only_times_or_none x.1

abbrev pub component_times : Component-F Bool Bool → Bool
component_times (Component-F.Set at first rest alts) =
    list_all target_times (first ∷ rest) && list_all alternative_times (alternatives alts.values alts.condition)
component_times (Component-F.Quantified at name range of) = of

abbrev pub assign_times : Assign-F Bool Bool → Bool
assign_times a = a.first && list_all (λ m. m) a.rest

-- nor has an assignment
abbrev pub assigns_only_times : Assign → Bool
assigns_only_times = fold-Assign Bool Bool component_times assign_times

-- nor has a proof term
abbrev pub term_times : Term-F Bool → Bool
term_times (Term-F.Imply at p q) = has_only_times p && has_only_times q
term_times (Term-F.From at of) = true
term_times (Term-F.Pair at which first second) = first && second
term_times (Term-F.Exists at name range of) = of
term_times (Term-F.Induct at name range measure p q of) =
    (has_only_times measure && (has_only_times p && has_only_times q)) && of
term_times (Term-F.Psp at of by) = of
term_times (Term-F.Weaken at p q of) = (has_only_times p && has_only_times q) && of

abbrev pub claim_times : Claim → Bool
claim_times (Claim.Defined at) = true
claim_times (Claim.Invariant at of) = has_only_times of
claim_times (Claim.Stable at of) = has_only_times of
claim_times (Claim.Constant at of) = has_only_times of
claim_times (Claim.Fixed at of) = has_only_times of
claim_times (Claim.Between at p which q) = has_only_times p && has_only_times q

abbrev pub rule_times : Rule → Bool
rule_times (Rule.Term at of) = fold-Term Bool term_times of
rule_times _ = true

abbrev pub step_times : Step → Bool
step_times s = claim_times s.claim && rule_times s.rule

abbrev pub initially_times : Option Initially → Bool
initially_times None = true
initially_times (Some section) = has_only_times section.of

-- the formula of first states and all instances of statements; a union has none of its own
abbrev pub ProgramOnlyTimes : Program → Type 0
ProgramOnlyTimes (Program.Union at name left right) = ⊤
ProgramOnlyTimes (Program.Plain at name declare always initially start items) =
    IsTrue (initially_times initially) × All (λ i. IsTrue (assigns_only_times i.assign)) (instances items)

-- a document has neither `div` nor `mod` in an always name, a program or a step
pub record HasOnlyTimes (d : Document) : Type 0 where
  pub definitions : All (λ x. IsTrue (has_only_times x.of)) (flat_map part_definitions d.parts)
  pub programs : All ProgramOnlyTimes (programs_among d.parts)
  pub steps : All (λ p. All (λ s. IsTrue (step_times s)) p.steps) (proofs_among d.parts)

-- what becomes of them

abbrev pub CoreIsPlain : Core → Type 0
CoreIsPlain (Core.Number t known) = TermIsPlain t
CoreIsPlain (Core.Truth f known) = FormIsPlain f

-- the always names of a place have no quotients
abbrev pub ScopeIsPlain : Scope → Type 0
ScopeIsPlain s = (name : List ℕ) (a : Formed) → lookup (bytes_eq name) s.always ≡ Some a → CoreIsPlain a.core

pub record EffectIsPlain (e : Effect) : Type 0 where
  pub outside : All FormIsPlain e.outside
  pub writes : All WriteIsPlain e.writes

-- at such a place an expression without `div` and `mod` becomes a term or a formula without quotients
abbrev pub ExpressionsPlain : Type 0
ExpressionsPlain = (e : Expr) (s : Scope) → IsTrue (has_only_times e) → ScopeIsPlain s → CoreIsPlain (formed e s).core

-- and an assignment an effect without them
abbrev pub AssignmentsPlain : Type 0
AssignmentsPlain = (a : Assign) (s : Scope) → IsTrue (assigns_only_times a) → ScopeIsPlain s →
    EffectIsPlain (effect_of a s)

-- and such a document has a core form without quotients
abbrev pub DocumentsPlain : Type 0
DocumentsPlain = (d : Document) → HasOnlyTimes d → DocumentIsPlain (core_document d)
