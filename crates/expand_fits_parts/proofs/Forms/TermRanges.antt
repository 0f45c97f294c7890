-- The ranges of the names that proof terms bind have no fault in the text.
use Rattle.std.proofs.Common.{◌≡◌, ℕ, ◌+◌, List, [], Bool, Some, None, refl, sym, subst, All, length, map}
use Rattle.std.proofs.lemmas.List.Elements.{All-nil, All-cons, All-append}
use Rattle.unity_syntax.specs.declared.proof.Rule.{Rule}
use Rattle.unity_syntax.specs.declared.proof.Step.{Step}
use Rattle.unity_syntax.specs.declared.term.Term.{Term}
use Rattle.unity_syntax.specs.declared.term.Term.TheOpen.{Term-F}
use Rattle.unity_syntax.specs.declared.term.Term.TheFolds.{map-Term}
use Rattle.unity_syntax.specs.TwoFolds.{Related}
use Rattle.unity_syntax.proofs.TermFolds.{two_terms}
use Rattle.names_rules.specs.declared.named.Meaning.{Meaning}
use Rattle.names_rules.specs.Scope.{Scope as NameScope, with_bound}
use Rattle.names_rules.specs.Reading.{binding, filled, beside, all_beside, earlier}
use Rattle.names_rules.specs.Part.{run}
use Rattle.names_rules.specs.Declarations.{some_of}
use Rattle.names_rules.specs.Proofs.{Programs, Derived, boolean, number, ref_reading, claim_reading, rule_part}
use Rattle.names_rules.specs.Proofs.{term_part, term_layer as walk_layer, proof_scope, param_part, step_body}
use Rattle.names_rules.proofs.Faults.{earlier_first, earlier_second}
use Rattle.core_terms.specs.declared.trees.Range.{Range}
use Rattle.core_terms.specs.declared.documents.CStep.{CStep}
use Rattle.core_terms.specs.Conditions.{Parts, parts_of, also, is_below}
use Rattle.expand_declarations.specs.WordNumbers.{document_words}
use Rattle.expand_declarations.specs.Numbers.{core_range}
use Rattle.expand_declarations.specs.References.{param_range}
use Rattle.expand_declarations.proofs.PairRules.{of_pair_rule}
use Rattle.expand_correct.specs.from_expand_steps.Elements.{form_in, term_in}
use Rattle.expand_correct.specs.from_expand_steps.ProofTerms.{Place, Terming, fixed_ends, with_bound_name, ref_in}
use Rattle.expand_correct.specs.from_expand_steps.ProofTerms.{term_layer, termed}
use Rattle.expand_correct.specs.from_expand_steps.Steps.{step_place, core_rule}
use Rattle.expand_correct.specs.from_expand_documents.Cores.{document_scope}
use Rattle.expand_fits_parts.specs.Forms.StepLaws.{IsReadRange, RuleReads, RangesRead}
use Rattle.expand_fits_parts.proofs.Forms.Claims.{proofs_have}
use Rattle.expand_fits_parts.proofs.Forms.TermParts.{parts-Imply, parts-From, parts-Exists, parts-Induct, parts-Psp}
use Rattle.expand_fits_parts.proofs.Forms.TermParts.{parts-Weaken, pair_parts}

abbrev Read : Parts → Type 0
Read ps = All IsReadRange ps.ranges

abbrev AllRead : Terming → Derived → Type 0
AllRead m walk = (c : Place) (next : ℕ) (v : ℕ → Bool) (s : NameScope) (k : ℕ) → (walk s k).fault ≡ None →
    Read (parts_of (m c next).core v)

module _ (programs : Programs) where
  layer : (y : Term-F (Related AllRead)) →
      AllRead (term_layer (map-Term (Related AllRead) Terming (λ r. r.0) y))
      (walk_layer programs (map-Term (Related AllRead) Derived (λ r. r.1) y))
  layer (Term-F.Imply at p q) c next v s k fault =
      subst (λ ps. Read ps) (sym (parts-Imply (form_in c.scope p) (form_in c.scope q) v)) (All-nil IsReadRange)
  layer (Term-F.From at of) c next v s k fault =
      subst (λ ps. Read ps) (sym (parts-From (ref_in c of) v)) (All-nil IsReadRange)
  layer (Term-F.Pair at which x y) c next v s k fault =
      let t = x.0 c next in
      let u = y.0 c t.next in
      let first = x.1 s k in
      let second = y.1 s first.after in
      subst (λ ps. Read ps) (sym ((pair_parts which t.core u.core).parts v))
      (All-append IsReadRange (parts_of t.core v).ranges (parts_of u.core v).ranges
      (x.2 c next v s k (earlier_first first.fault second.fault fault))
      (y.2 c t.next v s first.after (earlier_second first.fault second.fault fault)))
  layer (Term-F.Exists at name range x) c next v s k fault =
      let inner = with_bound_name c name.text next range in
      let t = x.0 inner (next + 1) in
      let r = core_range (fixed_ends range) in
      let b = binding s name (Meaning.Param k) in
      let own = beside b (filled [] range) in
      let rest = x.1 (with_bound s name.text (Meaning.Param k)) (k + 1) in
      let sound = earlier_second b.fault (filled [] range).fault (earlier_first own.fault rest.fault fault) in
      subst (λ ps. Read ps) (sym (parts-Exists next r t.core v))
      (All-cons IsReadRange r (parts_of t.core (also next v)).ranges
      (record { text = range; sound = sound; core = refl })
      (x.2 inner (next + 1) (also next v) (with_bound s name.text (Meaning.Param k)) (k + 1)
      (earlier_second own.fault rest.fault fault)))
  layer (Term-F.Induct at name range measure p q x) c next v s k fault =
      let inner = with_bound_name c name.text next range in
      let t = x.0 inner (next + 1) in
      let r = core_range (fixed_ends range) in
      let b = binding s name (Meaning.Param k) in
      let bound = beside b (filled [] range) in
      let parts = beside (number measure s) (beside (boolean p s) (boolean q s)) in
      let own = beside bound parts in
      let rest = x.1 (with_bound s name.text (Meaning.Param k)) (k + 1) in
      let sound = earlier_second b.fault (filled [] range).fault
      (earlier_first bound.fault parts.fault (earlier_first own.fault rest.fault fault)) in
      subst (λ ps. Read ps)
      (sym (parts-Induct next r (term_in c.scope measure) (form_in c.scope p) (form_in c.scope q) t.core v))
      (All-cons IsReadRange r (parts_of t.core (also next v)).ranges
      (record { text = range; sound = sound; core = refl })
      (x.2 inner (next + 1) (also next v) (with_bound s name.text (Meaning.Param k)) (k + 1)
      (earlier_second own.fault rest.fault fault)))
  layer (Term-F.Psp at x by) c next v s k fault =
      let t = x.0 c next in
      let first = x.1 s k in
      subst (λ ps. Read ps) (sym (parts-Psp t.core (ref_in c by) v))
      (All-append IsReadRange (parts_of t.core v).ranges []
      (x.2 c next v s k (earlier_first first.fault (ref_reading programs s by).fault fault)) (All-nil IsReadRange))
  layer (Term-F.Weaken at p q x) c next v s k fault =
      let t = x.0 c next in
      let own = beside (boolean p s) (boolean q s) in
      subst (λ ps. Read ps) (sym (parts-Weaken (form_in c.scope p) (form_in c.scope q) t.core v))
      (x.2 c next v s k (earlier_second own.fault (x.1 s k).fault fault))

  terms_read : (t : Term) → AllRead (termed t) (term_part programs t)
  terms_read t = two_terms AllRead term_layer (walk_layer programs) layer t

rule_reads : (programs : Programs) (c : Place) (params : List Range) (rule : Rule) (s : NameScope) (k : ℕ) →
    (rule_part programs s k rule).fault ≡ None → RuleReads params (core_rule c rule)
rule_reads programs c params (Rule.Text at None) s k fault = tt
rule_reads programs c params (Rule.Text at (Some helper)) s k fault = tt
rule_reads programs c params (Rule.Weaken at of) s k fault = tt
rule_reads programs c params (Rule.Pair at which q r) s k fault =
    of_pair_rule (RuleReads params) which (ref_in c q) (ref_in c r) (λ name. tt) tt
rule_reads programs c params (Rule.Superpose at of) s k fault = tt
rule_reads programs c params (Rule.Complete at q r t u) s k fault = tt
rule_reads programs c params (Rule.Term at of) s k fault =
    terms_read programs of c (length c.params) (is_below (length params)) s k fault

-- the rule of a step without a fault of names has none
rule_faultless : (programs : Programs) (s : NameScope) (step : Step) → (step_body programs s step).fault ≡ None →
    (rule_part programs s (length s.params) step.rule).fault ≡ None
rule_faultless programs s step fault =
    let rule = rule_part programs s (length s.params) step.rule in
    let using = (all_beside (map (ref_reading programs s) (some_of step.using))).fault in
    earlier_first rule.fault using
    (earlier_second (claim_reading s step.claim).fault (earlier rule.fault using) fault)

pub ranges_read : RangesRead
ranges_read d named h = proofs_have d (λ (step : CStep). RuleReads step.params step.rule) named h
    (λ owner programs names step fault none.
    let ps = run (param_part names) [] (some_of step.params) in
    let s = proof_scope names ps.after in
    rule_reads programs (step_place (document_words d) owner (document_scope d.parts) step)
    (map param_range (some_of step.params)) step.rule s (length s.params)
    (rule_faultless programs s step (earlier_second ps.fault (step_body programs s step).fault fault)))
