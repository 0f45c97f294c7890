-- Certificates that a search can write, with which a document is accepted, have small numbers.
use Rattle.std.proofs.Common.{◌≡◌, ℕ, zero, suc, ◌+◌, ◌≤◌, ◌<◌, nat_lt, nat_eq, List, [], ◌∷◌, ◌++◌, length, slice_get}
use Rattle.std.proofs.Common.{Bool, true, false, cond, Option, Some, None, Ok, Err, refl, sym, ap, ◌∙◌, subst}
use Rattle.std.proofs.Common.{length-append, arith}
use Rattle.std.specs.Prelude.{All}
use Rattle.std.specs.List.{list_all}
use Rattle.std.proofs.lemmas.List.Elements.{All-head, All-tail}
use Rattle.case_tables.specs.declared.code_table.Code.{Code}
use Rattle.core_terms.specs.declared.programs.CProgram.{CProgram}
use Rattle.core_terms.specs.declared.documents.CStep.{CStep}
use Rattle.core_terms.specs.declared.documents.CProof.{CProof}
use Rattle.core_terms.specs.Conditions.{IsProgram, IsProof, IsSlot, IsStep}
use Rattle.obligations.specs.declared.branches.Obligation.{Obligation}
use Rattle.obligations.specs.declared.certificates.Cert.{Cert}
use Rattle.obligations.specs.Obligations.{IsObligation}
use Rattle.certificate_rules.specs.Refutation.{walk_from_root}
use Rattle.certificate_rules.specs.Trees.{is_whole}
use Rattle.search_tree.specs.Searching.{is_found_node}
use Rattle.certificate_roundtrip.specs.Small.{IsSmallCertificate}
use Rattle.certificate_roundtrip.proofs.PlainLaws.{refuting_is_small}
use Rattle.rules_table.specs.Conclusion.{Conclusion}
use Rattle.rules_table.specs.Table.{needs}
use Rattle.rules_table.specs.Walk.{Around, has_defined, program_of, rule_of}
use Rattle.rules_table.proofs.EachLaws.{Each, from_all, each_at}
use Rattle.rules_table.proofs.SiteLaws.{met}
use Rattle.proof_script.specs.from_safety_rules.declared.places.Derived.{Derived}
use Rattle.proof_script.specs.from_safety_rules.Answers.{derived_of}
use Rattle.proof_script.specs.from_rules_steps.Starts.{document_seen}
use Rattle.proof_script.specs.from_rules_steps.Using.{BookFits}
use Rattle.proof_script.proofs.lemmas_from_rules_steps.GoalLaws.{IsStepRow, told_step}
use Rattle.proof_script.proofs.lemmas_from_rules_steps.ItemLaws.{to_all}
use Rattle.proof_script.specs.from_proof_plans.declared.plans.Plan.{Plan}
use Rattle.proof_script.specs.from_proof_plans.Giving.{AreWhole}
use Rattle.proof_script.specs.Proving.{AreFound}
use Rattle.proof_script.specs.from_proof_plans.Reaching.{by_row}
use Rattle.proof_script.specs.from_proof_plans.Verdicts.{end_verdict, failing, failing_node, grown, last_verdict}
use Rattle.proof_script.specs.from_proof_plans.Verdicts.{no_plan}
use Rattle.proof_script.specs.from_proof_plans.Verdicts.{or_refutation_fault, or_rule_fault, proof_verdict}
use Rattle.proof_script.specs.from_proof_plans.Verdicts.{proofs_verdict, refuted_by}
use Rattle.proof_script.specs.from_proof_plans.Verdicts.{most_levels, step_verdict, steps_verdict, surplus_fault, taken}
use Rattle.proof_script.proofs.lemmas_from_proof_plans.Equations.{proofs-more, proofs-none, refuted-more, step-is}
use Rattle.proof_script.proofs.lemmas_from_proof_plans.Equations.{steps-more, steps-none}
use Rattle.proof_script.proofs.lemmas_from_proof_plans.Equations.{taken-is, then_so}
use Rattle.proof_script.proofs.lemmas_from_proof_plans.LoopLaws.{named_program, rule_passed}
use Rattle.proof_script.proofs.lemmas_from_proof_plans.ReachLaws.{reach-is, reach_fits}
use Rattle.proof_script.proofs.lemmas_from_proof_plans.VerdictLaws.{unfailing}
use Rattle.certificate_roundtrip.specs.TextLaws.{ProvedAreSmall}

no_fault : (program step number : ℕ) (code : Option Code) (done : Unit {0}) →
    or_refutation_fault program step number code ≡ Ok done → code ≡ None
no_fault program step number None done e = refl
no_fault program step number (Some code) done e = cc

below : {X : Type 0} (xs : List X) (n : ℕ) (x : X) → slice_get xs n ≡ Some x → n < length xs
below [] n x e = cc
below (y ∷ xs) zero x e = omega arith
below (y ∷ xs) (suc n) x e = let h = below xs n x e in omega (arith, h)

each_small : (certs : List Cert) → ((k : ℕ) (c : Cert) → slice_get certs k ≡ Some c → IsSmallCertificate c) →
    Each IsSmallCertificate certs
each_small [] h = tt
each_small (c ∷ cs) h = (h 0 c refl, each_small cs (λ k d e. h (suc k) d e))

module _ (seen : Around) (certs : List Cert) (all : All IsSlot seen.slots)
    (programs : All (IsProgram seen.slots) seen.programs) (whole : AreWhole certs) (found : AreFound certs) where
  -- the most levels of a certificate
  abbrev levels : ℕ
  levels = most_levels seen.version

  -- the certificates with numbers below this one are small
  abbrev AreSmall : ℕ → Type 0
  AreSmall n = (k : ℕ) (c : Cert) → k < n → slice_get certs k ≡ Some c → IsSmallCertificate c

  one_small : (o : Obligation) → IsObligation o → (number : ℕ) (c : Cert) → slice_get certs number ≡ Some c →
      failing levels o (slice_get certs number) ≡ None → IsSmallCertificate c
  one_small o is number c there passes =
      let few : levels ≤ 4096 = few_at (nat_eq seen.version 2) in
      let one_tree : is_whole c.nodes 1 ≡ true =
      each_at (λ (x : Cert). is_whole x.nodes 1 ≡ true) certs
      (from_all (λ (x : Cert). is_whole x.nodes 1 ≡ true) certs whole) number c there in
      let one_found : list_all is_found_node c.nodes ≡ true =
      each_at (λ (x : Cert). list_all is_found_node x.nodes ≡ true) certs
      (from_all (λ (x : Cert). list_all is_found_node x.nodes ≡ true) certs found) number c there in
      let none : failing_node (walk_from_root levels o c.nodes) ≡ None =
      sym (ap (failing levels o) there) ∙ passes in
      refuting_is_small levels o c few is one_tree (unfailing (walk_from_root levels o c.nodes) none)
      one_found
    where
      few_at : (b : Bool) → cond b 4096 1024 ≤ 4096
      few_at true = omega arith
      few_at false = omega arith

  next_small : (n : ℕ) → AreSmall n → ((c : Cert) → slice_get certs n ≡ Some c → IsSmallCertificate c) →
      (k : ℕ) (c : Cert) →
      k < suc n → slice_get certs k ≡ Some c → IsSmallCertificate c
  next_small n small here k c h there = by_last (nat_lt k n) refl
    where
      by_last : (b : Bool) → nat_lt k n ≡ b → IsSmallCertificate c
      by_last true e = small k c (grind (arith, e)) there
      by_last false e =
          let least : n ≤ k = grind (arith, e) in
          let same : k ≡ n = omega (arith, h, least) in
          here c (subst (λ m. slice_get certs m ≡ Some c) same there)

  -- the obligations of a step
  refuted_small : (program step number : ℕ) (os : List Obligation) (done : Unit {0}) → Each IsObligation os →
      AreSmall number → refuted_by levels certs program step number os ≡ Ok done → AreSmall (number + length os)
  refuted_small program step number [] done are small e = λ k c h there. small k c (omega (arith, h)) there
  refuted_small program step number (o ∷ os) done are small e =
      let parts = then_so (or_refutation_fault program step number (failing levels o (slice_get certs number)))
      (λ (x : Unit {0}). refuted_by levels certs program step (suc number) os) done
      (sym (refuted-more levels certs program step number o os) ∙ e) in
      let passes = no_fault program step number (failing levels o (slice_get certs number)) parts.0 parts.1 in
      let rest = refuted_small program step (suc number) os done are.1
      (next_small number small (λ c there. one_small o are.0 number c there passes)) parts.2 in
      λ k c h there. rest k c (omega (arith, h)) there

  -- what was taken so far
  record IsFine (plan : Plan) : Type 0 where
    fits : BookFits seen.slots plan.records
    small : AreSmall (length plan.obligations)

  step_fine : (c : CProgram) (s : CStep) (plan new : Plan) → IsProgram seen.slots c → IsStep seen.slots s →
      IsFine plan → step_verdict seen certs c s plan ≡ Ok new → IsFine new
  step_fine c s plan new program good fine e =
      let ruled = then_so (or_rule_fault c.name (Some s.name) (rule_of seen c s plan.records))
      (λ (x : Conclusion). taken levels certs c.name s.name plan (derived_of seen.slots x)) new
      (sym (step-is seen certs c s plan) ∙ e) in
      let x : Conclusion = ruled.0 in
      let d : Derived = derived_of seen.slots x in
      let is : rule_of seen c s plan.records ≡ Ok x =
      rule_passed c.name (Some s.name) (rule_of seen c s plan.records) x ruled.1 in
      let told : IsStepRow seen.slots c s x = told_step seen c s plan.records all programs program good
      fine.fits x is in
      let parts = then_so (refuted_by levels certs c.name s.name (length plan.obligations) d.obligations)
      (λ (done : Unit {0}). Ok (grown plan d)) new (sym (taken-is levels certs c.name s.name plan d) ∙ ruled.2) in
      let made : grown plan d ≡ new = cc (parts.2) in
      let small = refuted_small c.name s.name (length plan.obligations) d.obligations parts.0 told.obligations
      fine.small parts.1 in
      let long : length (plan.obligations ++ d.obligations) ≡ length plan.obligations + length d.obligations =
      length-append plan.obligations d.obligations in
      subst IsFine made (record {
        fits = reach_fits seen c s plan (grown plan d) good fine.fits
            (reach-is seen c s plan ∙ ap (by_row seen.slots c.name s.name plan) is);
        small = subst AreSmall (sym long) small;
      })

  steps_fine : (c : CProgram) (steps : List CStep) (plan new : Plan) → IsProgram seen.slots c →
      All (IsStep seen.slots) steps → IsFine plan → steps_verdict seen certs c steps plan ≡ Ok new → IsFine new
  steps_fine c [] plan new program good fine e =
      let same : plan ≡ new = cc (sym (steps-none seen certs c plan) ∙ e) in subst IsFine same fine
  steps_fine c (s ∷ rest) plan new program good fine e =
      let parts = then_so (step_verdict seen certs c s plan) (steps_verdict seen certs c rest) new
      (sym (steps-more seen certs c s rest plan) ∙ e) in
      steps_fine c rest parts.0 new program (All-tail (IsStep seen.slots) s rest good)
      (step_fine c s plan parts.0 program (All-head (IsStep seen.slots) s rest good) fine parts.1) parts.2

  proof_fine : (named : Option CProgram) (proof : CProof) (plan new : Plan) →
      ((c : CProgram) → named ≡ Some c → IsProgram seen.slots c) → All (IsStep seen.slots) proof.steps → IsFine plan →
      proof_verdict seen certs named proof plan ≡ Ok new → IsFine new
  proof_fine None proof plan new program good fine e =
      let same : plan ≡ new = cc in subst IsFine same fine
  proof_fine (Some c) proof plan new program good fine e =
      let parts = then_so (steps_verdict seen certs c proof.steps plan) (end_verdict c) new e in
      let mid : Plan = parts.0 in
      let passed = met (has_defined c.name mid.records) Code.DefinedMissing (Ok mid) new
      (rule_passed c.name None (needs (has_defined c.name mid.records) Code.DefinedMissing (Ok mid)) new parts.2) in
      let same : mid ≡ new = cc (passed.1) in
      subst IsFine same (steps_fine c proof.steps plan mid (program c refl) good fine parts.1)

  proofs_fine : (proofs : List CProof) (plan new : Plan) →
      All (IsProof seen.slots seen.programs) proofs → IsFine plan → proofs_verdict seen certs proofs plan ≡ Ok new →
      IsFine new
  proofs_fine [] plan new good fine e =
      let same : plan ≡ new = cc (sym (proofs-none seen certs plan) ∙ e) in subst IsFine same fine
  proofs_fine (proof ∷ rest) plan new good fine e =
      let named : Option CProgram = program_of seen.programs proof.program in
      let parts = then_so (proof_verdict seen certs named proof plan) (proofs_verdict seen certs rest) new
      (sym (proofs-more seen certs proof rest plan) ∙ e) in
      let first = proof_fine named proof plan parts.0
      (λ c e. named_program seen.slots seen.programs proof.program c programs e)
      (All-head (IsProof seen.slots seen.programs) proof rest good).steps fine parts.1 in
      proofs_fine rest parts.0 new (All-tail (IsProof seen.slots seen.programs) proof rest good) first parts.2

  last_so : (plan last : Plan) (b : Bool) → nat_lt (length plan.obligations) (length certs) ≡ b →
      cond b (Err (surplus_fault (length plan.obligations))) (Ok plan) ≡ Ok last →
      length certs ≤ length plan.obligations
  last_so plan last true e h = cc
  last_so plan last false e h = grind arith

pub proved_are_small : ProvedAreSmall
proved_are_small d certs plan good whole found e =
    let parts = then_so (proofs_verdict (document_seen d) certs d.proofs no_plan) (last_verdict certs) plan e in
    let first : IsFine (document_seen d) certs good.slots good.programs whole found no_plan =
    record { fits = tt; small = λ k c h there. absurd (omega (arith, h)) } in
    let fine = proofs_fine (document_seen d) certs good.slots good.programs whole found d.proofs no_plan parts.0
    good.proofs first parts.1 in
    let few = last_so (document_seen d) certs good.slots good.programs whole found parts.0 plan
    (nat_lt (length parts.0.obligations) (length certs)) refl parts.2 in
    to_all IsSmallCertificate certs (each_small certs (λ k c there.
    let here = below certs k c there in fine.small k c (omega (arith, here, few)) there))
