-- The claims of proofs in core form say what they say in the document.
use Rattle.std.specs.Prelude.{◌≡◌, ℤ, List, true, IsTrue, None, ⊤}
use Rattle.unity_syntax.specs.declared.expression.Expr.{Expr}
use Rattle.unity_syntax.specs.declared.proof.Claim.{Claim}
use Rattle.unity_syntax.specs.declared.proof.Step.{Step}
use Rattle.unity_syntax.specs.declared.proof.Proof.{Proof}
use Rattle.unity_syntax.specs.declared.document.Document.{Document}
use Rattle.meaning_states.specs.State.{State, is_state}
use Rattle.meaning_documents.specs.Names.{Bindings}
use Rattle.meaning_documents.specs.Setting.{slot_ranges, is_true_at}
use Rattle.meaning_documents.specs.Programs.{document_setting}
use Rattle.meaning_documents.specs.Claims.{parameters, are_parameter_values, argument_bindings}
use Rattle.meaning_documents.specs.Steps.{EachStep}
use Rattle.names_rules.specs.WellNamed.{IsWellNamed}
use Rattle.names_rules.specs.Declarations.{some_of}
use Rattle.core_terms.specs.declared.trees.CForm.{CForm}
use Rattle.core_terms.specs.declared.documents.CStep.{CStep}
use Rattle.core_terms.specs.Values.{form_value}
use Rattle.expand_declarations.specs.WordNumbers.{document_words}
use Rattle.expand_correct.specs.Values.Worth.{values_of}
use Rattle.expand_documents.specs.from_expand_steps.Steps.{param_bounds, core_step}
use Rattle.expand_documents.specs.Cores.{document_scope}
use Rattle.expand_documents.specs.Faults.{expansion_fault}

-- at each state of the document a core formula is true, for these numbers of the parameters, where an expression is
abbrev pub SameTruth : Document → Bindings → List ℤ → CForm → Expr → Type 0
SameTruth d bindings zs f e = (state : State) → is_state (slot_ranges (document_setting d).variables) state ≡ true →
    form_value state zs f ≡ is_true_at (document_setting d) bindings e state

-- two core formulas are those of a claim
abbrev pub ClaimSays : Document → Bindings → List ℤ → CForm → CForm → Claim → Type 0
ClaimSays d bindings zs f g (Claim.Defined at) = ⊤
ClaimSays d bindings zs f g (Claim.Invariant at of) = SameTruth d bindings zs f of
ClaimSays d bindings zs f g (Claim.Stable at of) = SameTruth d bindings zs f of
ClaimSays d bindings zs f g (Claim.Constant at of) = SameTruth d bindings zs f of
ClaimSays d bindings zs f g (Claim.Fixed at of) = SameTruth d bindings zs f of
ClaimSays d bindings zs f g (Claim.Between at p which q) =
    SameTruth d bindings zs f p × SameTruth d bindings zs g q

-- a step in core form, in a proof of this program
abbrev pub step_in : Document → Proof → Step → CStep
step_in d proof step = core_step (document_words d) proof.program.text (document_scope d.parts) step

-- its formulas are those of its claim, whatever the numbers of its parameters;
abbrev pub ClaimsByBounds : Type 0
ClaimsByBounds = (d : Document) → IsWellNamed d → expansion_fault d ≡ None →
    EachStep (λ e proof step. (zs : List ℤ) → ClaimSays e (values_of zs (param_bounds (some_of step.params))) zs
    (step_in e proof step).p (step_in e proof step).q step.claim) d

-- numbers of parameters stand for what the arguments of a claim stand for;
abbrev pub ArgumentsBound : Type 0
ArgumentsBound = (d : Document) → IsWellNamed d → EachStep (λ e proof step. (zs : List ℤ) →
    IsTrue (are_parameter_values (parameters step.params) zs) →
    values_of zs (param_bounds (some_of step.params)) ≡ argument_bindings (parameters step.params) zs) d

-- so its formulas are those of its claim for all arguments
abbrev pub ClaimsSay : Type 0
ClaimsSay = (d : Document) → IsWellNamed d → expansion_fault d ≡ None → EachStep (λ e proof step. (zs : List ℤ) →
    IsTrue (are_parameter_values (parameters step.params) zs) →
    ClaimSays e (argument_bindings (parameters step.params) zs) zs (step_in e proof step).p (step_in e proof step).q
    step.claim) d
