-- What is violated of a core program's records is what is violated of the document's claims.
use Rattle.std.proofs.Common.{◌≡◌, ℕ, zero, suc, ◌+◌, ℤ, List, [], ◌∷◌, ◌++◌, map, slice_get, Bool, true, false}
use Rattle.std.proofs.Common.{cond, ◌&&◌, IsTrue, Option, Some, None, refl, sym, ap, ◌∙◌, subst}
use Rattle.std.specs.Option.{option_map, option_or}
use Rattle.std.specs.List.{flat_map, position_from}
use Rattle.unity_syntax.specs.declared.proof.Param.{Param}
use Rattle.unity_syntax.specs.declared.proof.Claim.{Claim}
use Rattle.unity_syntax.specs.declared.document.Document.{Document}
use Rattle.meaning_states.specs.State.{State, in_range}
use Rattle.meaning_documents.specs.Names.{Bindings}
use Rattle.meaning_documents.specs.Value.{range_ends, range_values}
use Rattle.meaning_documents.specs.Setting.{slot_ranges}
use Rattle.meaning_documents.specs.Programs.{document_setting}
use Rattle.meaning_executions.specs.Execution.{System}
use Rattle.meaning_documents.specs.AsSystem.{system_of}
use Rattle.meaning_documents.specs.Claims.{parameters, are_parameter_values, argument_bindings}
use Rattle.meaning_executions.specs.Pairwise.{Pairwise}
use Rattle.meaning_documents.specs.Steps.{ProofStep, document_steps}
use Rattle.meaning_executions.specs.Alike.{StepEquivalent, SameAt}
use Rattle.meaning_laws.proofs.AlikeTheorems.{alike_back}
use Rattle.names_rules.specs.WellNamed.{IsWellNamed}
use Rattle.names_rules.specs.Declarations.{some_of}
use Rattle.core_terms.specs.declared.trees.CForm.{CForm}
use Rattle.core_terms.specs.declared.programs.CProgram.{CProgram}
use Rattle.core_terms.specs.Values.{form_value}
use Rattle.core_terms.proofs.PartLaws.{value-Bottom, value-Top}
use Rattle.fair_rounds.specs.declared.records.Record.{Record}
use Rattle.executor.specs.CoreSystem.{core_system}
use Rattle.fair_rounds.specs.Records.{holding, are_in_ranges}
use Rattle.rules_table.proofs.EachLaws.{Each}
use Rattle.soundness.specs.from_expand_declarations.References.{param_range}
use Rattle.soundness.specs.from_expand_declarations.WordNumbers.{document_words}
use Rattle.expand_rules.specs.Forming.{Scope}
use Rattle.soundness.specs.from_expand_steps.Steps.{claim_p, claim_q, step_place}
use Rattle.soundness.specs.from_expand_documents.Cores.{document_scope, core_document}
use Rattle.soundness.specs.from_expand_documents.Faults.{expansion_fault}
use Rattle.soundness.specs.from_expand_correct.Preserved.Claims.{ClaimSays}
use Rattle.soundness.proofs.lemmas_from_expand_correct.Preserved.Arguments.{claims_say}
use Rattle.soundness.proofs.lemmas_from_expand_correct.Preserved.Meaning.{programs_alike}
use Rattle.soundness.specs.PlanSteps.{IsRecordOf}
use Rattle.soundness.specs.Properties.{core_of}
use Rattle.soundness.proofs.PlanRecords.{plan_is_steps}
use Rattle.soundness.proofs.Sources.{core_steps_are, StandsIn, each_stands}
use Rattle.trace_watch.specs.declared.violations.Violation.{Violation}
use Rattle.trace_watch.specs.Readings.{Reading, fails_over, is_violated}
use Rattle.trace_watch.specs.Cases.{environments, helper_place, reading_of, is_of, WatchedStep, watched_step}
use Rattle.trace_watch.specs.Cases.{watched_from}
use Rattle.trace_watch.specs.Violations.{violation_of, first_case, first_failing}
use Rattle.trace_watch.proofs.TraceLaws.{made_of}
use Rattle.trace_watch.proofs.CaseLaws.{environments_in}
use Rattle.watch_laws.specs.Claimed.{first_test, second_test, claim_reading, arguments, claimed_step}
use Rattle.watch_laws.specs.Claimed.{claimed_from}
use Rattle.watch_laws.specs.WatchLaws.{ViolationsAlike}
use Rattle.watch_laws.proofs.Readings.{Inside, all_inside, fails_alike}

-- numbers of parameters

same_params : (o : Option (Param × List Param)) → parameters o ≡ some_of o
same_params None = refl
same_params (Some ps) = refl

same_numbers : (ps : List Param) (zs : List ℤ) → are_in_ranges (map param_range ps) zs ≡ are_parameter_values ps zs
same_numbers [] [] = refl
same_numbers [] (z ∷ zs) = refl
same_numbers (p ∷ ps) [] = refl
same_numbers (p ∷ ps) (z ∷ zs) =
    ap (λ b. in_range (Some (range_ends [] p.range)) z && b) (same_numbers ps zs)

pub same_arguments : (ps : List Param) → environments (map param_range ps) ≡ arguments ps
same_arguments [] = refl
same_arguments (p ∷ ps) =
    ap (λ es. flat_map (λ z. map (λ e. z ∷ e) es) (range_values [] p.range)) (same_arguments ps)

-- the first that fails, of what is read in two ways

cases_same : (f g : Reading → Bool) (a b : List ℤ → Reading) (es : List (List ℤ)) (i : ℕ) →
    ((n : ℕ) (e : List ℤ) → slice_get es n ≡ Some e → f (a e) ≡ g (b e)) →
    position_from f i (map a es) ≡ position_from g i (map b es)
cases_same f g a b [] i each = refl
cases_same f g a b (e ∷ es) i each =
    ap (λ v. cond v (Some i) (position_from f (i + 1) (map a es))) (each zero e refl)
    ∙ ap (λ o. cond (g (b e)) (Some i) o) (cases_same f g a b es (i + 1) (λ n d h. each (suc n) d h))

one_failing : (f : Reading → Bool) (b : Bool) (w : WatchedStep) (ws : List WatchedStep) →
    first_failing f (cond b (w ∷ []) [] ++ ws) ≡ option_or (cond b (first_case f w) None) (first_failing f ws)
one_failing f true w ws = refl
one_failing f false w ws = refl

one_same : (b : Bool) (o p : Option Violation) → (IsTrue b → o ≡ p) → cond b o None ≡ cond b p None
one_same true o p h = h refl
one_same false o p h = refl

module _ (d : Document) (named : IsWellNamed d) (faultless : expansion_fault d ≡ None) (core : CProgram) (y : System)
    (alike : StepEquivalent (slot_ranges (document_setting d).variables) (core_system (core_document d).slots core) y)
    (states : List State) (choices : List ℕ)
    (inside : Inside (slot_ranges (document_setting d).variables) states) where
  abbrev x : System
  x = core_system (core_document d).slots core

  abbrev Same : (zs : List ℤ) → CForm → (State → Bool) → Type 0
  Same zs f t = SameAt (slot_ranges (document_setting d).variables) (holding zs f) t

  -- a claim's tests are those of its formulas
  first_same : (zs : List ℤ) (b : Bindings) (s : Scope) (f : CForm) (claim : Claim) → f ≡ claim_p s claim →
      ClaimSays d b zs (claim_p s claim) (claim_q s claim) claim → Same zs f (first_test (document_setting d) b claim)
  first_same zs b s f (Claim.Defined at) is says state h = ap (form_value state zs) is ∙ value-Top state zs
  first_same zs b s f (Claim.Invariant at of) is says state h = ap (form_value state zs) is ∙ says state h
  first_same zs b s f (Claim.Stable at of) is says state h = ap (form_value state zs) is ∙ says state h
  first_same zs b s f (Claim.Constant at of) is says state h = ap (form_value state zs) is ∙ says state h
  first_same zs b s f (Claim.Fixed at of) is says state h = ap (form_value state zs) is ∙ says state h
  first_same zs b s f (Claim.Between at p which q) is says state h = ap (form_value state zs) is ∙ says.0 state h

  second_same : (zs : List ℤ) (b : Bindings) (s : Scope) (f : CForm) (claim : Claim) → f ≡ claim_q s claim →
      ClaimSays d b zs (claim_p s claim) (claim_q s claim) claim → Same zs f (second_test (document_setting d) b claim)
  second_same zs b s f (Claim.Defined at) is says state h = ap (form_value state zs) is ∙ value-Top state zs
  second_same zs b s f (Claim.Invariant at of) is says state h = ap (form_value state zs) is ∙ value-Bottom state zs
  second_same zs b s f (Claim.Stable at of) is says state h = ap (form_value state zs) is ∙ value-Bottom state zs
  second_same zs b s f (Claim.Constant at of) is says state h = ap (form_value state zs) is ∙ value-Bottom state zs
  second_same zs b s f (Claim.Fixed at of) is says state h = ap (form_value state zs) is ∙ value-Bottom state zs
  second_same zs b s f (Claim.Between at p which q) is says state h = ap (form_value state zs) is ∙ says.1 state h

  -- a case
  case_same : (s : ProofStep) (r : Record) → StandsIn d s → IsRecordOf (core_of d s) r → (zs : List ℤ) →
      IsTrue (are_in_ranges r.params zs) →
      is_violated x (reading_of core r zs) states choices
      ≡ is_violated y (claim_reading (document_setting d) (argument_bindings (parameters s.step.params) zs) r.bound
      (helper_place core r.helper zs) s.step.claim) states choices
  case_same s r stands is zs fit =
      let b = argument_bindings (parameters s.step.params) zs in
      let scope = (step_place (document_words d) s.proof.program.text (document_scope d.parts) s.step).scope in
      let argued = ap (λ ps. are_in_ranges (map param_range ps) zs) (same_params s.step.params)
      ∙ sym (ap (λ rs. are_in_ranges rs zs) is.params) ∙ fit in
      let says = claims_say d named faultless stands.place stands.at s.proof stands.proof stands.number s.step
      stands.step zs (sym (same_numbers (parameters s.step.params) zs) ∙ argued) in
      fails_alike (slot_ranges (document_setting d).variables) x y alike (holding zs r.p)
      (first_test (document_setting d) b s.step.claim) (holding zs r.q)
      (second_test (document_setting d) b s.step.claim)
      r.bound (helper_place core r.helper zs) (first_same zs b scope r.p s.step.claim is.p says)
      (second_same zs b scope r.q s.step.claim is.q says) states choices inside r.kind
      ∙ ap (λ k. fails_over k y (made_of k (first_test (document_setting d) b s.step.claim)
      (second_test (document_setting d) b s.step.claim) r.bound (helper_place core r.helper zs)) states choices) is.kind

  -- a step
  step_same : (place : ℕ) (s : ProofStep) (r : Record) → StandsIn d s → IsRecordOf (core_of d s) r →
      first_case (λ q. is_violated x q states choices) (watched_step core place r)
      ≡ first_case (λ q. is_violated y q states choices) (claimed_step d core place s r)
  step_same place s r stands is =
      let lists : environments r.params ≡ arguments (parameters s.step.params) =
      ap environments is.params ∙ ap (λ ps. environments (map param_range ps)) (sym (same_params s.step.params))
      ∙ same_arguments (parameters s.step.params) in
      ap (option_map (violation_of place))
      (cases_same (λ q. is_violated x q states choices) (λ q. is_violated y q states choices) (reading_of core r)
      (λ zs. claim_reading (document_setting d) (argument_bindings (parameters s.step.params) zs) r.bound
      (helper_place core r.helper zs) s.step.claim) (environments r.params) 0
      (λ n zs e. case_same s r stands is zs (environments_in r.params n zs e))
      ∙ ap (λ es. position_from (λ q. is_violated y q states choices) 0
      (map (λ zs. claim_reading (document_setting d) (argument_bindings (parameters s.step.params) zs) r.bound
      (helper_place core r.helper zs) s.step.claim) es)) lists)

  -- all steps
  pub steps_same : (place : ℕ) (ss : List ProofStep) (rs : List Record) → Pairwise IsRecordOf (map (core_of d) ss) rs →
      Each (StandsIn d) ss →
      first_failing (λ q. is_violated x q states choices) (watched_from core place rs)
      ≡ first_failing (λ q. is_violated y q states choices) (claimed_from d core place ss rs)
  steps_same place [] [] pairs each = refl
  steps_same place [] (r ∷ rs) pairs each = absurd pairs
  steps_same place (s ∷ ss) [] pairs each = absurd pairs
  steps_same place (s ∷ ss) (r ∷ rs) pairs each =
      one_failing (λ q. is_violated x q states choices) (is_of core r) (watched_step core place r)
      (watched_from core (place + 1) rs)
      ∙ ap (λ o. option_or o (first_failing (λ q. is_violated x q states choices) (watched_from core (place + 1) rs)))
      (one_same (is_of core r) (first_case (λ q. is_violated x q states choices) (watched_step core place r))
      (first_case (λ q. is_violated y q states choices) (claimed_step d core place s r))
      (λ _. step_same place s r each.0 pairs.0))
      ∙ ap (λ o. option_or (cond (is_of core r)
      (first_case (λ q. is_violated y q states choices) (claimed_step d core place s r)) None) o)
      (steps_same (place + 1) ss rs pairs.1 each.1)
      ∙ sym (one_failing (λ q. is_violated y q states choices) (is_of core r) (claimed_step d core place s r)
      (claimed_from d core (place + 1) ss rs))

pub violations_alike : ViolationsAlike
violations_alike d starts plan planned name program core found states choices within =
    let ranges = slot_ranges (document_setting d).variables in
    let y = system_of (document_setting d) program in
    let alike = alike_back ranges y (core_system (core_document d).slots core)
    (programs_alike d name program core found) in
    steps_same d planned.named planned.faultless core y alike states choices (all_inside ranges states within) 0
    (document_steps d) plan.records
    (subst (λ ss. Pairwise IsRecordOf ss plan.records) (core_steps_are d)
    (plan_is_steps (core_document d) planned.core starts plan planned.walked))
    (each_stands d)
