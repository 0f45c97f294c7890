-- The numbers in the arguments of steps are numbers of the document's tree.
use Rattle.std.proofs.Common.{◌^◌, List, [], ◌∷◌, ◌++◌, Option, Some, None, All}
use Rattle.std.proofs.lemmas.List.Elements.{All-nil, All-cons, All-append}
use Rattle.grammar_theory.specs.Ebnf.{Tree}
use Rattle.unity_syntax.specs.declared.name.End.{End}
use Rattle.unity_syntax.specs.declared.term.Inst.{Inst}
use Rattle.unity_syntax.specs.declared.term.Ref.{Ref}
use Rattle.unity_syntax.specs.declared.term.Term.{Term}
use Rattle.unity_syntax.specs.declared.term.Term.TheOpen.{Term-F}
use Rattle.unity_syntax.specs.declared.proof.Rule.{Rule}
use Rattle.unity_syntax.specs.declared.proof.Step.{Step}
use Rattle.unity_syntax.specs.declared.document.Part.{Part}
use Rattle.unity_syntax.specs.declared.document.Document.{Document}
use Rattle.unity_syntax.specs.TwoFolds.{TermLayers}
use Rattle.unity_syntax.specs.View.{view_option, view_list, view_some, view_end, view_inst, view_ref, view_term_step}
use Rattle.unity_syntax.specs.View.{view_term, view_rule, view_step, view_part, view}
use Rattle.unity_syntax.proofs.TermFolds.{two_terms}
use Rattle.names_rules.specs.Declarations.{some_of}
use Rattle.meaning_documents.specs.Steps.{proofs_among}
use Rattle.expand_fits_parts.specs.Conditions.ArgumentConditions.{EndFits, ends_layer, term_ends, helper_ends}
use Rattle.expand_fits_parts.specs.Conditions.ArgumentConditions.{rule_ends}
use Rattle.expand_fits_parts.specs.Conditions.ArgumentConditions.{StepLiterals, HasLiterals}
use Rattle.expand_fits.proofs.Parsed.Numerals.{NoneLarger}

-- no number in the tree is larger than is allowed
abbrev Small : Tree → Type 0
Small x = NoneLarger (2 ^ 62) x

small_list : {A : Type 0} (view_part : A → Tree) (P : A → Type 0) → ((x : A) → Small (view_part x) → P x) →
    (xs : List A) → Small (view_list view_part xs) → All P xs
small_list view_part P f [] h = All-nil P
small_list view_part P f (x ∷ xs) h = All-cons P x xs (f x h.0) (small_list view_part P f xs h.1)

small_some : {A : Type 0} (view_part : A → Tree) (P : A → Type 0) → ((x : A) → Small (view_part x) → P x) →
    (o : Option (A × List A)) → Small (view_option (view_some view_part) o) → All P (some_of o)
small_some view_part P f None h = All-nil P
small_some view_part P f (Some x) h = All-cons P x.0 x.1 (f x.0 h.0) (small_list view_part P f x.1 h.1)

end_fits : (e : End) → Small (view_end e) → EndFits e
end_fits (End.Number at minus number) h = h.1
end_fits (End.Word at name None) h = tt
end_fits (End.Word at name (Some offset)) h = h.1.1

ends_fit : (o : Option (End × List End)) → Small (view_option (view_some view_end) o) → All EndFits (some_of o)
ends_fit o h = small_some view_end EndFits end_fits o h

ref_fits : (r : Ref) → Small (view_ref r) → All EndFits (some_of r.args)
ref_fits r h = ends_fit r.args h.1.1

abbrev Bounded : Tree → List End → Type 0
Bounded x ends = Small x → All EndFits ends

layer : TermLayers Bounded view_term_step ends_layer
layer (Term-F.Imply at p q) h = All-nil EndFits
layer (Term-F.From at of) h = ref_fits of h
layer (Term-F.Pair at which first second) h =
    All-append EndFits first.1 second.1 (first.2 h.1.0) (second.2 h.1.1)
layer (Term-F.Exists at name range of) h = of.2 h.1.1
layer (Term-F.Induct at name range measure p q of) h = of.2 h.1.1.1.1.1
layer (Term-F.Psp at of by) h = All-append EndFits of.1 (some_of by.args) (of.2 h.0) (ref_fits by h.1)
layer (Term-F.Weaken at p q of) h = of.2 h.1.1

term_fits : (t : Term) → Small (view_term t) → All EndFits (term_ends t)
term_fits t h = two_terms Bounded view_term_step ends_layer layer t h

helper_fits : (o : Option Inst) → Small (view_option view_inst o) → All EndFits (helper_ends o)
helper_fits None h = All-nil EndFits
helper_fits (Some helper) h = ends_fit helper.indices h.1

rule_fits : (r : Rule) → Small (view_rule r) → All EndFits (rule_ends r)
rule_fits (Rule.Text at with) h = helper_fits with h
rule_fits (Rule.Weaken at of) h = ref_fits of h
rule_fits (Rule.Pair at which first second) h =
    All-append EndFits (some_of first.args) (some_of second.args) (ref_fits first h.1.0) (ref_fits second h.1.1)
rule_fits (Rule.Superpose at of) h = ref_fits of h
rule_fits (Rule.Complete at first second third fourth) h =
    All-append EndFits (some_of first.args ++ some_of second.args) (some_of third.args ++ some_of fourth.args)
    (All-append EndFits (some_of first.args) (some_of second.args) (ref_fits first h.0) (ref_fits second h.1.0))
    (All-append EndFits (some_of third.args) (some_of fourth.args) (ref_fits third h.1.1.0) (ref_fits fourth h.1.1.1))
rule_fits (Rule.Term at of) h = term_fits of h

step_fits : (s : Step) → Small (view_step s) → StepLiterals s
step_fits s h = record {
  rule = rule_fits s.rule h.1.1.1.0;
  using = small_some view_ref (λ r. All EndFits (some_of r.args)) ref_fits s.using h.1.1.1.1;
}

parts_fit : (parts : List Part) → Small (view_list view_part parts) →
    All (λ p. All StepLiterals p.steps) (proofs_among parts)
parts_fit [] h = All-nil (λ p. All StepLiterals p.steps)
parts_fit (Part.Program at program ∷ rest) h = parts_fit rest h.1
parts_fit (Part.Proof at proof ∷ rest) h = All-cons (λ p. All StepLiterals p.steps) proof (proofs_among rest)
    (small_list view_step StepLiterals step_fits proof.steps h.0.1) (parts_fit rest h.1)

pub literals_fit : (d : Document) → NoneLarger (2 ^ 62) (view d) → HasLiterals d
literals_fit d h = record { steps = parts_fit d.parts h.1.0 }
