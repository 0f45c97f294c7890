-- What the steps of an accepted document claim is true.
use Rattle.std.proofs.Common.{◌≡◌, ℕ, ℤ, List, [], ◌∷◌, map, Bool, not, ◌&&◌, ◌||◌, Option, Some, None, IsTrue}
use Rattle.std.proofs.Common.{refl, sym, ap, ◌∙◌, subst, slice_get}
use Rattle.case_tables.specs.declared.word_table.Word.{Word}
use Rattle.unity_syntax.specs.declared.expression.Expr.{Expr}
use Rattle.unity_syntax.specs.declared.proof.Param.{Param}
use Rattle.unity_syntax.specs.declared.proof.Claim.{Claim}
use Rattle.unity_syntax.specs.declared.proof.Step.{Step}
use Rattle.unity_syntax.specs.declared.proof.Proof.{Proof}
use Rattle.unity_syntax.specs.declared.document.Document.{Document}
use Rattle.meaning_states.specs.State.{in_range}
use Rattle.meaning_documents.specs.Names.{Bindings}
use Rattle.meaning_documents.specs.Value.{range_ends}
use Rattle.meaning_documents.specs.Setting.{slot_ranges, is_true_at}
use Rattle.meaning_documents.specs.Programs.{Composed, document_setting}
use Rattle.meaning_executions.specs.Execution.{System}
use Rattle.meaning_documents.specs.AsSystem.{system_of}
use Rattle.meaning_executions.specs.Properties.{never, implied}
use Rattle.meaning_documents.specs.Claims.{parameters, are_parameter_values, argument_bindings, ClaimsOf}
use Rattle.meaning_executions.specs.Alike.{StepEquivalent, SameAt}
use Rattle.meaning_laws.proofs.AlikeTheorems.{alike_back, defined_alike, invariant_alike, unless_alike}
use Rattle.meaning_laws.proofs.AlikeTheorems.{ensures_alike, leads_alike, fixed_alike, constant_alike}
use Rattle.names_rules.specs.Declarations.{some_of}
use Rattle.core_terms.specs.declared.trees.CForm.{CForm}
use Rattle.core_terms.specs.declared.programs.CSlot.{CSlot}
use Rattle.core_terms.specs.declared.programs.CProgram.{CProgram}
use Rattle.core_terms.specs.Values.{form_value}
use Rattle.core_terms.proofs.PartLaws.{value-Bottom}
use Rattle.fair_rounds.specs.declared.records.Record.{Record}
use Rattle.executor.specs.CoreSystem.{core_system}
use Rattle.fair_rounds.specs.Records.{holding, are_in_ranges, KindHolds, Holds}
use Rattle.rules_table.specs.Walk.{Plan, program_of}
use Rattle.rules_table.proofs.WalkTheorems.{walk_sound}
use Rattle.meaning_documents.specs.Steps.{claim_kind, ProofStep, of_proof, document_steps}
use Rattle.meaning_executions.specs.Pairwise.{Pairwise}
use Rattle.expand_fits_parts.specs.from_expand_declarations.References.{param_range}
use Rattle.expand_fits_parts.specs.from_expand_rules.Forming.{Scope}
use Rattle.expand_fits_parts.specs.from_expand_steps.Steps.{claim_p, claim_q, step_place}
use Rattle.expand_fits_parts.specs.from_expand_declarations.WordNumbers.{document_words}
use Rattle.expand_fits_parts.specs.from_expand_documents.Cores.{document_scope, core_document}
use Rattle.expand_fits_parts.specs.from_expand_correct.Preserved.Claims.{SameTruth, ClaimSays}
use Rattle.expand_fits_parts.proofs.lemmas_from_expand_correct.Preserved.Arguments.{claims_say}
use Rattle.expand_fits_parts.proofs.lemmas_from_expand_correct.Preserved.Meaning.{programs_alike}
use Rattle.expand_fits_parts.proofs.lemmas_from_expand_correct.Preserved.Proofs.{proofs_found}
use Rattle.soundness.specs.PlanSteps.{IsRecordOf}
use Rattle.soundness.specs.Written.{is_claim, AreClaims}
use Rattle.soundness.specs.Properties.{core_of}
use Rattle.soundness.specs.Properties.{StepIsProved, IsValidlyPlanned, PlannedStepsAreTrue, EachClaimIsTrue}
use Rattle.soundness.proofs.PlanRecords.{plan_is_steps}
use Rattle.soundness.proofs.Sources.{core_steps_are, StandsIn, each_stands, among_steps, pairs_with, pair_at}

-- numbers of parameters

same_params : (o : Option (Param × List Param)) → parameters o ≡ some_of o
same_params None = refl
same_params (Some ps) = refl

same_numbers : (ps : List Param) (zs : List ℤ) → are_in_ranges (map param_range ps) zs ≡ are_parameter_values ps zs
same_numbers [] [] = refl
same_numbers [] (z ∷ zs) = refl
same_numbers (p ∷ ps) [] = refl
same_numbers (p ∷ ps) (z ∷ zs) =
    ap (λ b. in_range (Some (range_ends [] p.range)) z && b) (same_numbers ps zs)

-- a claim of a program, by what a record says of its core program

module _ (d : Document) (x : System) (slots : List CSlot) (p : CProgram)
    (alike : StepEquivalent (slot_ranges (document_setting d).variables) (core_system slots p) x) (b : Bindings)
    (zs : List ℤ)
    (s : Scope) (r : Record) where
  abbrev Same : (CForm) → Expr → Type 0
  Same f of = SameAt (slot_ranges (document_setting d).variables) (holding zs f) (is_true_at (document_setting d) b of)

  same_at : (f g : CForm) (of : Expr) → f ≡ g → SameTruth d b zs g of → Same f of
  same_at f g of same says = λ state h. ap (λ k. form_value state zs k) same ∙ says state h

  implied_same : (f g : Expr) → Same r.p f → Same r.q g → SameAt (slot_ranges (document_setting d).variables)
      (implied (holding zs r.p) (holding zs r.q))
      (implied (is_true_at (document_setting d) b f) (is_true_at (document_setting d) b g))
  implied_same f g here there state h =
      ap (λ v. not v || holding zs r.q state) (here state h)
      ∙ ap (λ v. not (is_true_at (document_setting d) b f state) || v) (there state h)

  claim_true : (claim : Claim) → IsTrue (is_claim claim) → r.p ≡ claim_p s claim → r.q ≡ claim_q s claim →
      ClaimSays d b zs (claim_p s claim) (claim_q s claim) claim → KindHolds (claim_kind claim) slots p r zs →
      ClaimsOf (document_setting d) x b r.bound claim
  claim_true (Claim.Defined at) t p_is q_is says holds =
      defined_alike (slot_ranges (document_setting d).variables) (core_system slots p) x alike holds
  claim_true (Claim.Invariant at of) t p_is q_is says holds =
      invariant_alike (slot_ranges (document_setting d).variables) (core_system slots p) x alike (holding zs r.p)
      (is_true_at (document_setting d) b of) (same_at r.p (claim_p s (Claim.Invariant at of)) of p_is says) holds
  claim_true (Claim.Stable at of) t p_is q_is says holds =
      unless_alike (slot_ranges (document_setting d).variables) (core_system slots p) x alike (holding zs r.p)
      (holding zs r.q) (is_true_at (document_setting d) b of) never
      (same_at r.p (claim_p s (Claim.Stable at of)) of p_is says)
      (λ state h. ap (λ k. form_value state zs k) q_is ∙ value-Bottom state zs) holds
  claim_true (Claim.Constant at of) t p_is q_is says holds =
      constant_alike (slot_ranges (document_setting d).variables) (core_system slots p) x alike (holding zs r.p)
      (is_true_at (document_setting d) b of) (same_at r.p (claim_p s (Claim.Constant at of)) of p_is says) holds
  claim_true (Claim.Fixed at of) t p_is q_is says holds =
      fixed_alike (slot_ranges (document_setting d).variables) (core_system slots p) x alike (holding zs r.p)
      (is_true_at (document_setting d) b of) (same_at r.p (claim_p s (Claim.Fixed at of)) of p_is says) holds
  claim_true (Claim.Between at f Word.Unless g) t p_is q_is says holds =
      unless_alike (slot_ranges (document_setting d).variables) (core_system slots p) x alike (holding zs r.p)
      (holding zs r.q) (is_true_at (document_setting d) b f) (is_true_at (document_setting d) b g)
      (same_at r.p (claim_p s (Claim.Between at f Word.Unless g)) f p_is says.0)
      (same_at r.q (claim_q s (Claim.Between at f Word.Unless g)) g q_is says.1) holds
  claim_true (Claim.Between at f Word.Ensures g) t p_is q_is says holds =
      ensures_alike (slot_ranges (document_setting d).variables) (core_system slots p) x alike (holding zs r.p)
      (holding zs r.q) (is_true_at (document_setting d) b f) (is_true_at (document_setting d) b g)
      (same_at r.p (claim_p s (Claim.Between at f Word.Ensures g)) f p_is says.0)
      (same_at r.q (claim_q s (Claim.Between at f Word.Ensures g)) g q_is says.1) holds
  claim_true (Claim.Between at f Word.Leadsto g) t p_is q_is says holds =
      leads_alike (slot_ranges (document_setting d).variables) (core_system slots p) x alike (holding zs r.p)
      (holding zs r.q) (is_true_at (document_setting d) b f) (is_true_at (document_setting d) b g) r.bound
      (same_at r.p (claim_p s (Claim.Between at f Word.Leadsto g)) f p_is says.0)
      (same_at r.q (claim_q s (Claim.Between at f Word.Leadsto g)) g q_is says.1) holds
  claim_true (Claim.Between at f Word.Until g) t p_is q_is says holds =
      let here = same_at r.p (claim_p s (Claim.Between at f Word.Until g)) f p_is says.0 in
      let there = same_at r.q (claim_q s (Claim.Between at f Word.Until g)) g q_is says.1 in
      record {
        unless = unless_alike (slot_ranges (document_setting d).variables) (core_system slots p) x alike
            (holding zs r.p) (holding zs r.q) (is_true_at (document_setting d) b f)
            (is_true_at (document_setting d) b g)
            here there holds.unless;
        leads = leads_alike (slot_ranges (document_setting d).variables) (core_system slots p) x alike
            (holding zs r.p) (holding zs r.q) (is_true_at (document_setting d) b f)
            (is_true_at (document_setting d) b g)
            r.bound here there holds.leads;
      }
  claim_true (Claim.Between at f Word.Detects g) t p_is q_is says holds =
      let here = same_at r.p (claim_p s (Claim.Between at f Word.Detects g)) f p_is says.0 in
      let there = same_at r.q (claim_q s (Claim.Between at f Word.Detects g)) g q_is says.1 in
      record {
        always = invariant_alike (slot_ranges (document_setting d).variables) (core_system slots p) x alike
            (implied (holding zs r.p) (holding zs r.q))
            (implied (is_true_at (document_setting d) b f) (is_true_at (document_setting d) b g))
            (implied_same f g here there) holds.always;
        leads = leads_alike (slot_ranges (document_setting d).variables) (core_system slots p) x alike
            (holding zs r.q) (holding zs r.p) (is_true_at (document_setting d) b g)
            (is_true_at (document_setting d) b f)
            r.bound there here holds.leads;
      }
  claim_true (Claim.Between at f _ g) t p_is q_is says holds = cc t

module _ (d : Document) (starts : CProgram → Bool) (plan : Plan) (accepted : IsValidlyPlanned d starts plan)
    (words : AreClaims d) where
  -- the record at a place of the plan, and the step whose it is
  step_proved : (n : ℕ) (s : ProofStep) (r : Record) → slice_get plan.records n ≡ Some r → StandsIn d s →
      IsRecordOf (core_of d s) r → StepIsProved d s r
  step_proved n s r there stands of_step =
      let proof : Proof = s.proof in
      let step : Step = s.step in
      let slots : List CSlot = (core_document d).slots in
      let found = proofs_found d accepted.named accepted.faultless stands.place stands.at proof stands.proof in
      let c : Composed = found.0 in
      let p : CProgram = found.1 in
      let holds : Holds slots p r = walk_sound (core_document d) accepted.core starts plan accepted.walked
      accepted.valid n r p there (ap (program_of (core_document d).programs) of_step.program ∙ found.2.found) in
      let x : System = system_of (document_setting d) c in
      let alike = alike_back (slot_ranges (document_setting d).variables) x (core_system slots p)
      (programs_alike d proof.program.text c p found.2) in
      record {
        recorded = of_step;
        claims = record {
          program = c;
          named = found.2.source;
          claimed = λ zs fit.
              let inside : IsTrue (are_in_ranges r.params zs) =
              ap (λ rs. are_in_ranges rs zs) of_step.params ∙ same_numbers (some_of step.params) zs
              ∙ ap (λ ps. are_parameter_values ps zs) (sym (same_params step.params)) ∙ fit in
              claim_true d x slots p alike (argument_bindings (parameters step.params) zs) zs
              (step_place (document_words d) proof.program.text (document_scope d.parts) step).scope r step.claim
              (words stands.place stands.at proof stands.proof stands.number step stands.step) of_step.p of_step.q
              (claims_say d accepted.named accepted.faultless stands.place stands.at proof stands.proof
              stands.number step stands.step zs fit)
              (subst (λ k. KindHolds k slots p r zs) of_step.kind (holds zs inside));
        };
      }

pub claims_are_true : PlannedStepsAreTrue
claims_are_true d starts plan accepted words =
    pairs_with (core_of d) IsRecordOf (StandsIn d) (StepIsProved d) (document_steps d) plan.records
    (subst (λ ss. Pairwise IsRecordOf ss plan.records) (core_steps_are d)
    (plan_is_steps (core_document d) accepted.core starts plan accepted.walked))
    (each_stands d) (λ n s r there stands of_step. step_proved d starts plan accepted words n s r there stands of_step)

pub each_claim_is_true : EachClaimIsTrue
each_claim_is_true d starts plan accepted words place at proof e number step f =
    let inside = among_steps d.parts place at proof e number step f in
    let r = pair_at (StepIsProved d) (document_steps d) plan.records (claims_are_true d starts plan accepted words)
    inside.0 (of_proof proof step) inside.1 in
    (r.place, r.item, r.there, r.related)
