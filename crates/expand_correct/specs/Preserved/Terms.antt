-- The formulas of proof terms in core form say what they say in the document.
use Rattle.std.specs.Prelude.{◌≡◌, ℕ, ◌+◌, ℤ, List, [], ◌∷◌, ◌++◌, true, None, length}
use Rattle.unity_syntax.specs.declared.expression.Expr.{Expr}
use Rattle.unity_syntax.specs.declared.term.Term.{Term, fold-Term}
use Rattle.unity_syntax.specs.declared.term.Term.TheOpen.{Term-F}
use Rattle.unity_syntax.specs.declared.proof.Rule.{Rule}
use Rattle.unity_syntax.specs.declared.document.Document.{Document}
use Rattle.meaning_states.specs.State.{State, is_state}
use Rattle.meaning_documents.specs.Names.{Bindings}
use Rattle.meaning_documents.specs.Value.{value, truth}
use Rattle.meaning_documents.specs.Setting.{Setting, seen, slot_ranges, is_true_at}
use Rattle.meaning_documents.specs.Programs.{document_setting}
use Rattle.names_rules.specs.WellNamed.{IsWellNamed}
use Rattle.names_rules.specs.Declarations.{some_of}
use Rattle.core_terms.specs.declared.documents.CRule.{CRule}
use Rattle.core_terms.specs.declared.documents.PTerm.{PTerm, fold-PTerm}
use Rattle.core_terms.specs.declared.documents.PTerm.TheOpen.{PTerm-F}
use Rattle.core_terms.specs.declared.trees.CForm.{CForm}
use Rattle.core_terms.specs.Values.{number_at, term_value, form_value}
use Rattle.expand_correct.specs.Values.Worth.{values_of}
use Rattle.expand_declarations.specs.References.{step_params}
use Rattle.expand_documents.specs.from_expand_steps.Steps.{param_bounds}
use Rattle.expand_documents.specs.Faults.{expansion_fault}
use Rattle.meaning_documents.specs.Steps.{EachStep}
use Rattle.expand_correct.specs.Preserved.Claims.{step_in}

-- in core form

abbrev pub form_worth : State → List ℤ → CForm → ℤ
form_worth state zs f = truth (form_value state zs f)

-- what the formulas and the measures of a core term are worth, in reading order, for these numbers of the parameters
-- and of the names that it binds
abbrev pub core_layer : State → List ℤ → PTerm-F (List ℤ) → List ℤ
core_layer state zs (PTerm-F.Imply p q) = form_worth state zs p ∷ form_worth state zs q ∷ []
core_layer state zs (PTerm-F.From r) = []
core_layer state zs (PTerm-F.Trans t u) = t ++ u
core_layer state zs (PTerm-F.Either t u) = t ++ u
core_layer state zs (PTerm-F.Exists number range t) = t
core_layer state zs (PTerm-F.Induct number range measure p q t) =
    term_value state zs measure ∷ form_worth state zs p ∷ form_worth state zs q ∷ t
core_layer state zs (PTerm-F.Psp t r) = t
core_layer state zs (PTerm-F.Weaken p q t) = form_worth state zs p ∷ form_worth state zs q ∷ t

abbrev pub core_worths : State → List ℤ → PTerm → List ℤ
core_worths state zs = fold-PTerm (List ℤ) (core_layer state zs)

-- in the document

-- what the formulas and the measures of a term are worth, in reading order, and the number after those of the names
-- that it binds
pub record Worths : Type 0 where
  pub values : List ℤ
  pub next : ℕ

-- what a term is worth for these numbers of the names around it, where those that it binds are numbered from here on
abbrev pub Weighing : Type 0
Weighing = Bindings → ℕ → Worths

abbrev pub truth_worth : Setting → State → Bindings → Expr → ℤ
truth_worth g state bindings e = truth (is_true_at g bindings e state)

-- both terms, one after the other
abbrev pub joined : Worths → Worths → Worths
joined t u = record { values = t.values ++ u.values; next = u.next }

-- formulas before a term
abbrev pub after_values : List ℤ → Worths → Worths
after_values values t = record { values = values ++ t.values; next = t.next }

abbrev pub source_layer : Setting → State → List ℤ → Term-F Weighing → Weighing
source_layer g state zs (Term-F.Imply at p q) bindings next = record {
  values = truth_worth g state bindings p ∷ truth_worth g state bindings q ∷ [];
  next = next;
}
source_layer g state zs (Term-F.From at of) bindings next = record { values = []; next = next }
source_layer g state zs (Term-F.Pair at which first second) bindings next =
    joined (first bindings next) (second bindings (first bindings next).next)
source_layer g state zs (Term-F.Exists at name range of) bindings next =
    of ((name.text, number_at zs next) ∷ bindings) (next + 1)
source_layer g state zs (Term-F.Induct at name range measure p q of) bindings next = after_values
    (value measure (seen g bindings state) ∷ truth_worth g state bindings p ∷ truth_worth g state bindings q ∷ [])
    (of ((name.text, number_at zs next) ∷ bindings) (next + 1))
source_layer g state zs (Term-F.Psp at of by) bindings next = of bindings next
source_layer g state zs (Term-F.Weaken at p q of) bindings next = after_values
    (truth_worth g state bindings p ∷ truth_worth g state bindings q ∷ []) (of bindings next)

abbrev pub source_worths : Setting → State → List ℤ → Term → Weighing
source_worths g state zs = fold-Term Weighing (source_layer g state zs)

-- at each state of the document, and for all numbers of the parameters and of the names that terms bind, the formulas
-- and the measures of a core term are worth what those of its term are
abbrev pub SaysTerm : Document → Bindings → ℕ → List ℤ → PTerm → Term → Type 0
SaysTerm d bindings next zs core of = (state : State) →
    is_state (slot_ranges (document_setting d).variables) state ≡ true →
    core_worths state zs core ≡ (source_worths (document_setting d) state zs of bindings next).values

-- each term that justifies a step says what it says in the document
abbrev pub TermsSay : Type 0
TermsSay = (d : Document) → IsWellNamed d → expansion_fault d ≡ None → EachStep (λ e proof step.
    (at : ℕ) (of : Term) → step.rule ≡ Rule.Term at of →
    (core : PTerm) × ((step_in e proof step).rule ≡ CRule.Proof core) × ((zs : List ℤ) →
    SaysTerm e (values_of zs (param_bounds (some_of step.params))) (length (step_params (some_of step.params))) zs
    core of)) d
