-- The formulas and the terms in the proof terms of steps fit.
use Rattle.std.proofs.Common.{◌≡◌, ℕ, ◌+◌, List, [], ◌∷◌, ◌++◌, map, length, not, Some, None, refl, ap, arith}
use Rattle.std.proofs.Common.{suc, subst}
use Rattle.std.specs.Prelude.{fold}
use Rattle.std.specs.Option.{is_some}
use Rattle.case_tables.specs.declared.code_table.Code.{Code}
use Rattle.unity_syntax.specs.declared.proof.Param.{Param}
use Rattle.unity_syntax.specs.declared.proof.Rule.{Rule}
use Rattle.unity_syntax.specs.declared.proof.Step.{Step}
use Rattle.names_rules.specs.declared.named.Meaning.{Meaning}
use Rattle.names_rules.specs.Scope.{Table, Params, found}
use Rattle.names_rules.specs.Reading.{binding, filled}
use Rattle.names_rules.specs.Part.{run}
use Rattle.names_rules.specs.Declarations.{some_of}
use Rattle.names_rules.specs.Proofs.{proof_scope, param_part}
use Rattle.names_rules.proofs.Faults.{earlier_first, earlier_second, unless_none}
use Rattle.names_laws.proofs.Mirrored.{not_some}
use Rattle.core_terms.specs.declared.trees.Range.{Range}
use Rattle.core_terms.specs.declared.programs.CSlot.{CSlot}
use Rattle.core_terms.specs.declared.documents.CStep.{CStep}
use Rattle.core_terms.specs.Conditions.{is_below, bound_ranges, NumbersBoundNames}
use Rattle.expand_declarations.specs.Texts.{Texts}
use Rattle.expand_declarations.specs.WordNumbers.{document_words}
use Rattle.expand_declarations.specs.References.{with_param, param_range}
use Rattle.expand_declarations.proofs.PairRules.{of_pair_rule}
use Rattle.expand_rules.specs.Forming.{Scope}
use Rattle.expand_correct.specs.from_expand_steps.ProofTerms.{Place, termed, ref_in}
use Rattle.expand_correct.specs.from_expand_steps.Steps.{param_bounds, step_place, claim_formulas, rule_formulas}
use Rattle.expand_correct.specs.from_expand_steps.Steps.{step_formulas}
use Rattle.expand_correct.specs.from_expand_steps.Steps.{core_rule, core_step, step_fault}
use Rattle.expand_correct.specs.from_expand_documents.Cores.{document_scope, core_document}
use Rattle.expand_fits_parts.specs.Forms.Fitting.{ScopeNames, ScopeFits}
use Rattle.expand_fits_parts.specs.Forms.StepLaws.{RuleFits, RuleNumbered, TermsFit, NamesNumbered}
use Rattle.expand_fits_parts.proofs.Forms.TermNumbers.{terms_numbered}
use Rattle.expand_fits_parts.proofs.Forms.Bodies.{Smalls, small_elements, documents_fit}
use Rattle.expand_fits_parts.proofs.Forms.Claims.{length_inserted, fresh_param, params_fit, bounds_more}
use Rattle.expand_fits_parts.proofs.Forms.Claims.{step_scope_fits}
use Rattle.expand_fits_parts.proofs.Forms.Claims.{proofs_have, params_faultless}
use Rattle.expand_fits_parts.proofs.Forms.TermForms.{at_start, smalls_right, terms_fine}

-- each parameter of a step has a number of its own
params_count : (names : Table) (ps : List Param) (params : Params) → (run (param_part names) params ps).fault ≡ None →
    length (fold with_param params ps) ≡ length params + length ps
params_count names [] params fault = omega arith
params_count names (p ∷ ps) params fault =
    let scope = proof_scope names params in
    let first = param_part names params p in
    let b = (binding scope p.name (Meaning.Param (length params))).fault in
    let none = fresh_param names params p.name.text (not_some (found scope p.name.text)
    (unless_none (not (is_some (found scope p.name.text))) Code.DeclaredTwice p.name.at
    (earlier_first b (filled [] p.range).fault
    (earlier_first first.fault (run (param_part names) first.after ps).fault fault)))) in
    let l : length (with_param params p) ≡ suc (length params) =
    length_inserted params p.name.text (length params) none in
    let rest = params_count names ps (with_param params p)
    (earlier_second first.fault (run (param_part names) first.after ps).fault fault) in
    omega (arith, l, rest)

ranges_count : (ps : List Param) → length (map param_range ps) ≡ length ps
ranges_count [] = refl
ranges_count (p ∷ ps) = ap suc (ranges_count ps)

module _ (slots : List CSlot) (params : List Range) where
  rule_fits : (c : Place) → ((more : List Range) → ScopeFits slots (params ++ more) c.scope) →
      ScopeNames (is_below (length slots)) (is_below (length params)) c.scope → length c.params ≡ length params →
      (rule : Rule) → Smalls (rule_formulas c rule) → RuleFits slots params (core_rule c rule)
  rule_fits c g names count (Rule.Text at None) small = tt
  rule_fits c g names count (Rule.Text at (Some helper)) small = tt
  rule_fits c g names count (Rule.Weaken at of) small = tt
  rule_fits c g names count (Rule.Pair at which r s) small =
      of_pair_rule (RuleFits slots params) which (ref_in c r) (ref_in c s) (λ name. tt) tt
  rule_fits c g names count (Rule.Superpose at of) small = tt
  rule_fits c g names count (Rule.Complete at r s t u) small = tt
  rule_fits c g names count (Rule.Term at of) small =
      let more = bound_ranges (termed of c (length c.params)).core in
      (terms_fine slots (params ++ more) of c (length c.params) (is_below (length params)) (g more) names
      (at_start params more (length c.params) count) small).parts

step_rule_fits : (words : Texts) (s : Scope) (slots : List CSlot) →
    ((params : List Range) → ScopeFits slots params s) → (owner : List ℕ) (names : Table) (step : Step) →
    (run (param_part names) [] (some_of step.params)).fault ≡ None → step_fault words owner s step ≡ None →
    RuleFits slots (core_step words owner s step).params (core_step words owner s step).rule
step_rule_fits words s slots g owner names step fault none =
    let place = step_place words owner s step in
    let ps = some_of step.params in
    let params = map param_range ps in
    let bs = param_bounds ps in
    let fits = params_fit names ps [] [] [] refl (λ word b e. cc e) (λ word n weight e. cc e) fault in
    let counted = params_count names ps [] fault in
    let ranges = ranges_count ps in
    let small = smalls_right (claim_formulas place.scope step.claim) (rule_formulas place step.rule)
    (small_elements step.name.at (step_formulas place step) none) in
    rule_fits slots params place
    (λ more. step_scope_fits slots s (params ++ more) bs (g (params ++ more)) (bounds_more params more bs fits))
    (step_scope_fits slots s params bs (g params) fits).names
    (omega (arith, counted, ranges)) step.rule small

pub terms_fit : TermsFit
terms_fit d named h =
    let slots = (core_document d).slots in
    proofs_have d (λ (step : CStep). RuleFits slots step.params step.rule) named h
    (λ owner programs names step fault. step_rule_fits (document_words d) (document_scope d.parts) slots
    (documents_fit d) owner names step (params_faultless programs names step fault))

-- the numbers of bound names

rule_numbered : (c : Place) (first : ℕ) → length c.params ≡ first → (rule : Rule) →
    RuleNumbered first (core_rule c rule)
rule_numbered c first count (Rule.Text at None) = tt
rule_numbered c first count (Rule.Text at (Some helper)) = tt
rule_numbered c first count (Rule.Weaken at of) = tt
rule_numbered c first count (Rule.Pair at which r s) =
    of_pair_rule (RuleNumbered first) which (ref_in c r) (ref_in c s) (λ name. tt) tt
rule_numbered c first count (Rule.Superpose at of) = tt
rule_numbered c first count (Rule.Complete at r s t u) = tt
rule_numbered c first count (Rule.Term at of) =
    subst (λ n. NumbersBoundNames n (termed of c (length c.params)).core) count
    (ap (λ o. is_some o) (terms_numbered of c (length c.params)))

pub names_numbered : NamesNumbered
names_numbered d named h = proofs_have d (λ (step : CStep). RuleNumbered (length step.params) step.rule) named h
    (λ owner programs names step fault none.
    let ps = some_of step.params in
    let counted = params_count names ps [] (params_faultless programs names step fault) in
    let ranges = ranges_count ps in
    rule_numbered (step_place (document_words d) owner (document_scope d.parts) step)
    (length (map param_range ps)) (omega (arith, counted, ranges)) step.rule)
