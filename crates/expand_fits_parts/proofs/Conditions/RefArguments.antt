-- The parameters and bound names that the references of a rule name.
use Rattle.std.proofs.Common.{◌≡◌, ℕ, suc, ◌+◌, ◌<◌, ◌≤◌, List, [], ◌∷◌, length, length-append, Bool, true}
use Rattle.std.proofs.Common.{false, cond, Option, Some, None, sym, subst, arith, All}
use Rattle.std.specs.Prelude.{if◌then◌else◌, fold}
use Rattle.std.specs.Option.{option_or, option_and_then}
use Rattle.std.specs.Map.{lookup}
use Rattle.std.specs.Str.{bytes_eq}
use Rattle.std.proofs.lemmas.List.Elements.{All-nil, All-cons, All-append}
use borrow.Author.Tests.{ltb-true}
use Rattle.indexmap.specs.IndexMap.{insert_entry}
use Rattle.case_tables.specs.declared.word_table.Word.{Word}
use Rattle.unity_syntax.specs.declared.name.Range.{Range as TextRange}
use Rattle.unity_syntax.specs.declared.term.Inst.{Inst}
use Rattle.unity_syntax.specs.declared.term.Ref.{Ref as TextRef}
use Rattle.unity_syntax.specs.declared.term.Term.{Term}
use Rattle.unity_syntax.specs.declared.term.Term.TheOpen.{Term-F}
use Rattle.unity_syntax.specs.declared.proof.Param.{Param}
use Rattle.unity_syntax.specs.declared.proof.Rule.{Rule}
use Rattle.unity_syntax.specs.declared.proof.Step.{Step}
use Rattle.unity_syntax.specs.TwoFolds.{TermLayers}
use Rattle.unity_syntax.proofs.TermFolds.{two_terms}
use Rattle.core_terms.specs.declared.documents.Ref.{Ref}
use Rattle.core_terms.specs.declared.documents.PTerm.{PTerm}
use Rattle.core_terms.specs.declared.documents.PTerm.TheVariants.{Imply, From, Trans, Either, Exists, Induct, Psp}
use Rattle.core_terms.specs.declared.documents.PTerm.TheVariants.{Weaken}
use Rattle.core_terms.specs.Conditions.{is_below, refs_step, term_refs, rule_refs, rule_ranges}
use Rattle.names_rules.specs.declared.named.Meaning.{Meaning}
use Rattle.names_rules.specs.Scope.{Params}
use Rattle.names_rules.specs.Declarations.{some_of}
use Rattle.names_rules.specs.WellNamed.{param_number}
use Rattle.expand_declarations.specs.Texts.{Texts}
use Rattle.expand_declarations.specs.WordNumbers.{document_words}
use Rattle.expand_declarations.specs.References.{with_param, param_range, text_rule}
use Rattle.expand_declarations.specs.References.{names_layer, term_names}
use Rattle.expand_declarations.proofs.PairRules.{of_pair_rule}
use Rattle.expand_rules.specs.Forming.{Scope}
use Rattle.expand_correct.specs.from_expand_steps.ProofTerms.{Place, Terming, term_layer, termed, pair_term, ref_in}
use Rattle.expand_correct.specs.from_expand_steps.ProofTerms.{with_bound_name}
use Rattle.expand_correct.specs.from_expand_steps.Steps.{step_place, core_rule, core_step}
use Rattle.expand_correct.specs.from_expand_documents.Cores.{document_scope}
use Rattle.expand_fits_parts.specs.Conditions.StepConditions.{ArgsNamed, RefsNamed}
use Rattle.expand_fits_parts.proofs.Conditions.Terms.{at-Imply, at-From, at-Trans, at-Either, at-Exists, at-Induct}
use Rattle.expand_fits_parts.proofs.Conditions.Terms.{at-Psp}
use Rattle.expand_fits_parts.proofs.Conditions.Terms.{at-Weaken}
use Rattle.expand_fits_parts.proofs.Conditions.Terms.{counted}
use Rattle.expand_fits_parts.proofs.Conditions.Arguments.{lt_true, Sees, Fits, ref_seen, step_sees, all_steps}
use Rattle.expand_fits_parts.proofs.Conditions.Arguments.{length_mapped}

-- numbers below a limit

abbrev RefNamed : ℕ → Ref → Type 0
RefNamed limit r = ArgsNamed (is_below limit) r.args

abbrev AllNamed : ℕ → List Ref → Type 0
AllNamed limit rs = All (RefNamed limit) rs

sees_more : (few many : ℕ) (c : Place) → few ≤ many → Sees (is_below few) c → Sees (is_below many) c
sees_more few many c le h word k e = let small = ltb-true k few (h word k e) in lt_true k many (omega arith)

bound_below : (limit : ℕ) (c : Place) (name : List ℕ) (n : ℕ) (range : TextRange) → n < limit →
    Sees (is_below limit) c → Sees (is_below limit) (with_bound_name c name n range)
bound_below limit c name n range small h word k e = by (bytes_eq word name) e
  where
    by : (b : Bool) → option_or (option_and_then param_number (cond b (Some (Meaning.Param n))
        (lookup (bytes_eq word) c.bounds))) (lookup (bytes_eq word) c.params) ≡ Some k → is_below limit k ≡ true
    by true f = let same : n ≡ k = cc in subst (λ j. is_below limit j ≡ true) same (lt_true n limit small)
    by false f = h word k f

-- terms

-- a term that binds so many names, and whose references name what is below this limit
record Refers (limit n : ℕ) (ts : Texts) (next : ℕ) (t : PTerm) : Type 0 where
  pub next_is : next ≡ n + length ts
  pub named : AllNamed limit (term_refs t)

refers_as : (limit : ℕ) (t : PTerm) (rs : List Ref) → term_refs t ≡ rs → AllNamed limit rs →
    AllNamed limit (term_refs t)
refers_as limit t rs e h = subst (λ (xs : List Ref). AllNamed limit xs) (sym e) h

both_refer : (which : Word) (limit : ℕ) (t u : PTerm) → AllNamed limit (term_refs t) →
    AllNamed limit (term_refs u) → AllNamed limit (term_refs (pair_term which t u))
both_refer which limit t u h k =
    let all = All-append (RefNamed limit) (term_refs t) (term_refs u) h k in
    by which (refers_as limit (Either t u) _ (at-Either (List Ref) refs_step t u) all)
    (refers_as limit (Trans t u) _ (at-Trans (List Ref) refs_step t u) all)
  where
    by : (w : Word) → AllNamed limit (term_refs (Either t u)) → AllNamed limit (term_refs (Trans t u)) →
        AllNamed limit (term_refs (pair_term w t u))
    by Word.Either e f = e
    by _ e f = f

one_refers : (limit : ℕ) (c : Place) → Sees (is_below limit) c → (r : TextRef) → AllNamed limit (ref_in c r ∷ [])
one_refers limit c h r =
    All-cons (RefNamed limit) (ref_in c r) [] (ref_seen (is_below limit) c h r) (All-nil (RefNamed limit))

abbrev Limits : Terming → Texts → Type 0
Limits m ts = (c : Place) (n limit : ℕ) → Sees (is_below limit) c → n + length ts ≤ limit →
    Refers limit n ts (m c n).next (m c n).core

layer : TermLayers Limits term_layer names_layer
layer (Term-F.Imply at p q) c n limit h k = record {
  next_is = omega arith;
  named = refers_as limit (Imply _ _) [] (at-Imply (List Ref) refs_step _ _) (All-nil (RefNamed limit));
}
layer (Term-F.From at of) c n limit h k = record {
  next_is = omega arith;
  named = refers_as limit (From (ref_in c of)) _ (at-From (List Ref) refs_step (ref_in c of)) (one_refers limit c h of);
}
layer (Term-F.Pair at which first second) c n limit h k =
    let t = first.0 c n in let u = second.0 c t.next in
    let sizes = length-append first.1 second.1 in
    let one = first.2 c n limit h (omega arith) in
    let after = one.next_is in
    let two = second.2 c t.next limit h (omega arith) in
    let last = two.next_is in record {
      next_is = omega arith;
      named = both_refer which limit t.core u.core one.named two.named;
    }
layer (Term-F.Exists at name range of) c n limit h k =
    let inner = of.0 (with_bound_name c name.text n range) (n + 1) in
    let rest = of.2 (with_bound_name c name.text n range) (n + 1) limit
    (bound_below limit c name.text n range (omega arith) h) (omega arith) in
    let last = rest.next_is in record {
      next_is = omega arith;
      named = refers_as limit (Exists n _ inner.core) _ (at-Exists (List Ref) refs_step n _ inner.core) rest.named;
    }
layer (Term-F.Induct at name range measure p q of) c n limit h k =
    let inner = of.0 (with_bound_name c name.text n range) (n + 1) in
    let rest = of.2 (with_bound_name c name.text n range) (n + 1) limit
    (bound_below limit c name.text n range (omega arith) h) (omega arith) in
    let last = rest.next_is in record {
      next_is = omega arith;
      named = refers_as limit (Induct n _ _ _ _ inner.core) _ (at-Induct (List Ref) refs_step n _ _ _ _ inner.core)
          rest.named;
    }
layer (Term-F.Psp at of by) c n limit h k =
    let inner = of.0 c n in let rest = of.2 c n limit h k in record {
      next_is = rest.next_is;
      named = refers_as limit (Psp inner.core (ref_in c by)) _
          (at-Psp (List Ref) refs_step inner.core (ref_in c by))
          (All-append (RefNamed limit) (term_refs inner.core) (ref_in c by ∷ []) rest.named
          (one_refers limit c h by));
    }
layer (Term-F.Weaken at p q of) c n limit h k =
    let inner = of.0 c n in let rest = of.2 c n limit h k in record {
      next_is = rest.next_is;
      named = refers_as limit (Weaken _ _ inner.core) _ (at-Weaken (List Ref) refs_step _ _ inner.core) rest.named;
    }

term_refers : (t : Term) → Limits (termed t) (term_names t)
term_refers t = two_terms Limits term_layer names_layer layer t

-- rules

text_refers : (limit : ℕ) (c : Place) (with : Option Inst) →
    AllNamed limit (rule_refs (text_rule c.words c.bounds c.params with))
text_refers limit c None = All-nil (RefNamed limit)
text_refers limit c (Some helper) = All-nil (RefNamed limit)

rule_refers : (limit : ℕ) (c : Place) → Sees (is_below limit) c → (rule : Rule) →
    length c.params + length (rule_ranges (core_rule c rule)) ≤ limit → AllNamed limit (rule_refs (core_rule c rule))
rule_refers limit c h (Rule.Text at with) k = text_refers limit c with
rule_refers limit c h (Rule.Weaken at of) k = one_refers limit c h of
rule_refers limit c h (Rule.Pair at which first second) k =
    let all = All-cons (RefNamed limit) (ref_in c first) (ref_in c second ∷ []) (ref_seen (is_below limit) c h first)
    (one_refers limit c h second) in
    of_pair_rule (λ rule. AllNamed limit (rule_refs rule)) which (ref_in c first) (ref_in c second) (λ name. all) all
rule_refers limit c h (Rule.Superpose at of) k = one_refers limit c h of
rule_refers limit c h (Rule.Complete at first second third fourth) k =
    let v = is_below limit in
    All-cons (RefNamed limit) (ref_in c first) (ref_in c second ∷ ref_in c third ∷ ref_in c fourth ∷ [])
    (ref_seen v c h first)
    (All-cons (RefNamed limit) (ref_in c second) (ref_in c third ∷ ref_in c fourth ∷ []) (ref_seen v c h second)
    (All-cons (RefNamed limit) (ref_in c third) (ref_in c fourth ∷ []) (ref_seen v c h third)
    (one_refers limit c h fourth)))
rule_refers limit c h (Rule.Term at of) k =
    let same = (counted of c (length c.params)).names in
    (term_refers of c (length c.params) limit h (omega arith)).named

-- steps

entered_few : (es : Params) (word : List ℕ) (v : ℕ) → length (insert_entry bytes_eq es word v) ≤ suc (length es)
entered_few [] word v = omega arith
entered_few (e ∷ es) word v = by (bytes_eq word e.0) (entered_few es word v)
  where
    by : (b : Bool) → length (insert_entry bytes_eq es word v) ≤ suc (length es) →
        length (if b then (e.0, v) ∷ es else e ∷ insert_entry bytes_eq es word v) ≤ suc (suc (length es))
    by true rest = omega arith
    by false rest = omega arith

params_few : (es : Params) (ps : List Param) → length (fold with_param es ps) ≤ length es + length ps
params_few es [] = omega arith
params_few es (p ∷ ps) =
    let one = entered_few es p.name.text (length es) in
    let rest = params_few (with_param es p) ps in omega arith

step_refers : (words : Texts) (owner : List ℕ) (s : Scope) (step : Step) → Fits step →
    let c = core_step words owner s step in
    AllNamed (length c.params + length (rule_ranges c.rule)) (rule_refs c.rule)
step_refers words owner s step h =
    let c = core_step words owner s step in let place = step_place words owner s step in
    let limit = length c.params + length (rule_ranges c.rule) in
    let few = params_few [] (some_of step.params) in
    let same = length_mapped param_range (some_of step.params) in
    rule_refers limit place
    (sees_more (length c.params) limit place (omega arith) (step_sees words owner s step h)) step.rule (omega arith)

pub refs_named : RefsNamed
refs_named d h =
    all_steps (λ c. AllNamed (length c.params + length (rule_ranges c.rule)) (rule_refs c.rule)) d h
    (λ owner t k. step_refers (document_words d) owner (document_scope d.parts) t k)
