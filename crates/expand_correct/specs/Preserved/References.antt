-- The references of steps and terms in core form refer to what they refer to in the document.
use Rattle.std.specs.Prelude.{◌≡◌, ℕ, ◌+◌, ℤ, pos, ◌+ℤ◌, List, [], ◌∷◌, ◌++◌, map, Option, Some, None, option_map}
use Rattle.std.specs.Prelude.{length}
use Rattle.unity_syntax.specs.declared.name.End.{End}
use Rattle.unity_syntax.specs.declared.term.Inst.{Inst}
use Rattle.unity_syntax.specs.declared.term.Ref.{Ref as TextRef}
use Rattle.unity_syntax.specs.declared.term.Term.{Term, fold-Term}
use Rattle.unity_syntax.specs.declared.term.Term.TheOpen.{Term-F}
use Rattle.unity_syntax.specs.declared.proof.Rule.{Rule}
use Rattle.unity_syntax.specs.declared.document.Document.{Document}
use Rattle.meaning_documents.specs.Names.{Bindings, number_of}
use Rattle.meaning_documents.specs.Value.{signed, with_offset}
use Rattle.names_rules.specs.Declarations.{some_of}
use Rattle.core_terms.specs.declared.documents.Arg.{Arg}
use Rattle.core_terms.specs.declared.documents.Ref.{Ref}
use Rattle.core_terms.specs.declared.documents.Helper.{Helper}
use Rattle.core_terms.specs.declared.documents.CRule.{CRule}
use Rattle.core_terms.specs.declared.documents.PTerm.{PTerm, fold-PTerm}
use Rattle.core_terms.specs.declared.documents.PTerm.TheOpen.{PTerm-F}
use Rattle.core_terms.specs.Values.{number_at}
use Rattle.expand_declarations.specs.Texts.{Texts}
use Rattle.expand_declarations.specs.WordNumbers.{document_words, word_number}
use Rattle.expand_correct.specs.Values.Worth.{values_of}
use Rattle.expand_declarations.specs.References.{step_params, ref_program, ref_step}
use Rattle.expand_documents.specs.from_expand_steps.Steps.{param_bounds}
use Rattle.meaning_documents.specs.Steps.{EachStep}
use Rattle.expand_correct.specs.Preserved.Claims.{step_in}

-- a program and a step, by the numbers of their words, and the numbers for the step's parameters; None where an
-- argument has no number, as one that names a variable
pub record Referred : Type 0 where
  pub program : ℕ
  pub step : ℕ
  pub numbers : List (Option ℤ)

-- in core form, for these numbers of the parameters and of the names that terms bind

abbrev pub arg_number : List ℤ → Arg → Option ℤ
arg_number zs (Arg.Number k) = Some k
arg_number zs (Arg.Param n add) = Some (number_at zs n +ℤ add)
arg_number zs Arg.Slot = None

abbrev pub core_referred : List ℤ → Ref → Referred
core_referred zs r = record { program = r.program; step = r.step; numbers = map (arg_number zs) r.args }

-- the references of a term, in reading order
abbrev pub core_referred_layer : List ℤ → PTerm-F (List Referred) → List Referred
core_referred_layer zs (PTerm-F.Imply p q) = []
core_referred_layer zs (PTerm-F.From r) = core_referred zs r ∷ []
core_referred_layer zs (PTerm-F.Trans t u) = t ++ u
core_referred_layer zs (PTerm-F.Either t u) = t ++ u
core_referred_layer zs (PTerm-F.Exists number range t) = t
core_referred_layer zs (PTerm-F.Induct number range measure p q t) = t
core_referred_layer zs (PTerm-F.Psp t r) = t ++ core_referred zs r ∷ []
core_referred_layer zs (PTerm-F.Weaken p q t) = t

abbrev pub core_references : List ℤ → PTerm → List Referred
core_references zs = fold-PTerm (List Referred) (core_referred_layer zs)

-- the references of a rule
abbrev pub rule_references : List ℤ → CRule → List Referred
rule_references zs CRule.Text = []
rule_references zs (CRule.TextWith helper) = []
rule_references zs (CRule.WeakenStep r) = core_referred zs r ∷ []
rule_references zs (CRule.Pair which r s) = core_referred zs r ∷ core_referred zs s ∷ []
rule_references zs (CRule.Union r s) = core_referred zs r ∷ core_referred zs s ∷ []
rule_references zs (CRule.Superpose r) = core_referred zs r ∷ []
rule_references zs (CRule.Complete r s t u) =
    core_referred zs r ∷ core_referred zs s ∷ core_referred zs t ∷ core_referred zs u ∷ []
rule_references zs (CRule.Proof t) = core_references zs t

-- in the document, in a proof of this program, for these numbers of the names around

abbrev pub end_number : Bindings → End → Option ℤ
end_number bindings (End.Number at minus number) = Some (signed minus (pos number))
end_number bindings (End.Word at name offset) =
    option_map (λ z. with_offset z offset) (number_of name.text bindings)

abbrev pub source_referred : Texts → List ℕ → Bindings → TextRef → Referred
source_referred words owner bindings r = record {
  program = word_number words (ref_program owner r.name r.step);
  step = word_number words (ref_step r.name r.step);
  numbers = map (end_number bindings) (some_of r.args);
}

-- the references of a term, in reading order, and the number after those of the names that it binds
pub record References : Type 0 where
  pub all : List Referred
  pub next : ℕ

abbrev pub Referring : Type 0
Referring = Bindings → ℕ → References

abbrev pub both_references : References → References → References
both_references t u = record { all = t.all ++ u.all; next = u.next }

abbrev pub referred_layer : Texts → List ℕ → List ℤ → Term-F Referring → Referring
referred_layer words owner zs (Term-F.Imply at p q) bindings next = record { all = []; next = next }
referred_layer words owner zs (Term-F.From at of) bindings next =
    record { all = source_referred words owner bindings of ∷ []; next = next }
referred_layer words owner zs (Term-F.Pair at which first second) bindings next =
    both_references (first bindings next) (second bindings (first bindings next).next)
referred_layer words owner zs (Term-F.Exists at name range of) bindings next =
    of ((name.text, number_at zs next) ∷ bindings) (next + 1)
referred_layer words owner zs (Term-F.Induct at name range measure p q of) bindings next =
    of ((name.text, number_at zs next) ∷ bindings) (next + 1)
referred_layer words owner zs (Term-F.Psp at of by) bindings next = record {
  all = (of bindings next).all ++ source_referred words owner bindings by ∷ [];
  next = (of bindings next).next;
}
referred_layer words owner zs (Term-F.Weaken at p q of) bindings next = of bindings next

abbrev pub term_references : Texts → List ℕ → List ℤ → Term → Referring
term_references words owner zs = fold-Term Referring (referred_layer words owner zs)

-- the references of a rule, where the names that its term binds are numbered from here on
abbrev pub source_references : Texts → List ℕ → List ℤ → Bindings → ℕ → Rule → List Referred
source_references words owner zs bindings next (Rule.Text at with) = []
source_references words owner zs bindings next (Rule.Weaken at of) = source_referred words owner bindings of ∷ []
source_references words owner zs bindings next (Rule.Pair at which first second) =
    source_referred words owner bindings first ∷ source_referred words owner bindings second ∷ []
source_references words owner zs bindings next (Rule.Superpose at of) = source_referred words owner bindings of ∷ []
source_references words owner zs bindings next (Rule.Complete at first second third fourth) =
    source_referred words owner bindings first ∷ source_referred words owner bindings second
    ∷ source_referred words owner bindings third ∷ source_referred words owner bindings fourth ∷ []
source_references words owner zs bindings next (Rule.Term at of) =
    (term_references words owner zs of bindings next).all

-- the invariants that a step uses are those that it uses in the document;
abbrev pub UsingRefers : Type 0
UsingRefers = (d : Document) → EachStep (λ e proof step. (zs : List ℤ) →
    map (core_referred zs) (step_in e proof step).using
    ≡ map (source_referred (document_words e) proof.program.text (values_of zs (param_bounds (some_of step.params))))
    (some_of step.using)) d

-- its rule refers to what it refers to there;
abbrev pub RulesRefer : Type 0
RulesRefer = (d : Document) → EachStep (λ e proof step. (zs : List ℤ) →
    rule_references zs (step_in e proof step).rule
    ≡ source_references (document_words e) proof.program.text zs (values_of zs (param_bounds (some_of step.params)))
    (length (step_params (some_of step.params))) step.rule) d

-- and the instance that helps it is the one that the document names
pub record HelperRefers (words : Texts) (bindings : Bindings) (zs : List ℤ) (core : Helper) (helper : Inst) : Type 0
  where
    pub label : core.label ≡ word_number words helper.label.text
    pub indices : map (arg_number zs) core.args ≡ map (end_number bindings) (some_of helper.indices)

abbrev pub HelpersRefer : Type 0
HelpersRefer = (d : Document) → EachStep (λ e proof step. (at : ℕ) (helper : Inst) →
    step.rule ≡ Rule.Text at (Some helper) →
    (core : Helper) × ((step_in e proof step).rule ≡ CRule.TextWith core) × ((zs : List ℤ) →
    HelperRefers (document_words e) (values_of zs (param_bounds (some_of step.params))) zs core helper)) d
