-- What is accepted of a document is accepted of it in version 2.
use Rattle.std.proofs.Common.{◌≡◌, ◌≤◌, ℕ, suc, Bool, true, false, cond, ◌&&◌, ◌||◌, nat_eq, List, [], ◌∷◌, length}
use Rattle.std.proofs.Common.{slice_get, Option, Some, None, Result, Ok, Err, refl, sym, ap, ◌∙◌, arith}
use Rattle.case_tables.specs.declared.code_table.Code.{Code}
use Rattle.case_tables.specs.declared.kind_table.Kind.{Kind}
use Rattle.case_tables.specs.declared.rule_table.RuleName.{RuleName}
use Rattle.core_terms.specs.declared.programs.CProgram.{CProgram}
use Rattle.core_terms.specs.declared.documents.Ref.{Ref}
use Rattle.core_terms.specs.declared.documents.CRule.{CRule}
use Rattle.core_terms.specs.declared.documents.CStep.{CStep}
use Rattle.core_terms.specs.declared.documents.CProof.{CProof}
use Rattle.obligations.specs.declared.branches.Obligation.{Obligation}
use Rattle.obligations.specs.declared.certificates.Cert.{Cert}
use Rattle.certificate_rules.specs.Refutation.{WalkResult, walk_from_root}
use Rattle.certificate_rules.proofs.WholeLaws.{more-levels}
use Rattle.fair_rounds.specs.declared.records.Record.{Record}
use Rattle.rules_table.specs.Conclusion.{Conclusion}
use Rattle.rules_table.specs.Table.{Site, needs, go_on, is_unless}
use Rattle.rules_table.specs.Further.{is_leadsto}
use Rattle.rules_table.specs.Walk.{Around, is_first, has_defined, program_of, used, suits, applied, claims, step_site}
use Rattle.rules_table.specs.Walk.{rule_of}
use Rattle.proof_plans.specs.from_safety_rules.declared.places.Derived.{Derived}
use Rattle.proof_plans.specs.from_safety_rules.Answers.{derived_of}
use Rattle.proof_plans.specs.from_rules_steps.Starts.{document_seen}
use Rattle.proof_plans.specs.declared.plans.Plan.{Plan}
use Rattle.proof_plans.specs.declared.plans.StepFault.{StepFault}
use Rattle.proof_plans.specs.Verdicts.{then_by, or_rule_fault, failing_node, failing, most_levels, or_refutation_fault}
use Rattle.proof_plans.specs.Verdicts.{refuted_by, taken, step_verdict, steps_verdict, end_verdict, proof_verdict}
use Rattle.proof_plans.specs.Verdicts.{proofs_verdict, last_verdict, no_plan}
use Rattle.proof_plans.proofs.Equations.{refuted-none, refuted-more, taken-is, step-is, steps-none, steps-more}
use Rattle.proof_plans.proofs.Equations.{proofs-none, proofs-more, then_so}
use Rattle.upgraded_texts.specs.VerdictLaws.{UpgradedIsAccepted}

-- rules: what a version allows, version 2 does

or_kept : (a b c : Bool) → (a || (b && c)) ≡ true → (a || (b && true)) ≡ true
or_kept true b c h = refl
or_kept false true c h = refl
or_kept false false c h = h

suits_pair_two : (version : ℕ) (which : RuleName) (r s : Ref) (kind : Kind) →
    suits version (CRule.Pair which r s) kind ≡ true → suits 2 (CRule.Pair which r s) kind ≡ true
suits_pair_two version RuleName.Text r s kind h = h
suits_pair_two version RuleName.Weaken r s kind h = h
suits_pair_two version RuleName.Conj r s kind h = h
suits_pair_two version RuleName.Simpleconj r s kind h = h
suits_pair_two version RuleName.Disj r s kind h = h
suits_pair_two version RuleName.Simpledisj r s kind h = h
suits_pair_two version RuleName.Cancel r s kind h = or_kept (is_unless kind) (is_leadsto kind) (nat_eq version 2) h
suits_pair_two version RuleName.Union r s kind h = h
suits_pair_two version RuleName.Imply r s kind h = h
suits_pair_two version RuleName.From r s kind h = h
suits_pair_two version RuleName.Trans r s kind h = h
suits_pair_two version RuleName.Either r s kind h = h
suits_pair_two version RuleName.Exists r s kind h = h
suits_pair_two version RuleName.Induct r s kind h = h
suits_pair_two version RuleName.Psp r s kind h = h
suits_pair_two version RuleName.Superpose r s kind h = h
suits_pair_two version RuleName.Complete r s kind h = h
suits_pair_two version RuleName.Until r s kind h = h
suits_pair_two version RuleName.Detects r s kind h = h
suits_pair_two version RuleName.Constant r s kind h = h

suits_two : (version : ℕ) (rule : CRule) (kind : Kind) → suits version rule kind ≡ true → suits 2 rule kind ≡ true
suits_two version CRule.Text kind h = h
suits_two version (CRule.TextWith p) kind h = h
suits_two version (CRule.WeakenStep r) kind h = h
suits_two version (CRule.Pair which r s) kind h = suits_pair_two version which r s kind h
suits_two version (CRule.Union r s) kind h = h
suits_two version (CRule.Superpose r) kind h = h
suits_two version (CRule.Complete r s t u) kind h = h
suits_two version (CRule.Proof t) kind h = h

-- what a step sees of its document in version 2
abbrev in_two : Around → Around
in_two seen = record seen { version = 2 }

applied_same : (seen : Around) (site : Site) (step : CStep) (book : List Record) (rule : CRule) →
    applied (in_two seen) site step book rule ≡ applied seen site step book rule
applied_same seen site step book CRule.Text = refl
applied_same seen site step book (CRule.TextWith p) = refl
applied_same seen site step book (CRule.WeakenStep r) = refl
applied_same seen site step book (CRule.Pair which r s) = refl
applied_same seen site step book (CRule.Union r s) = refl
applied_same seen site step book (CRule.Superpose r) = refl
applied_same seen site step book (CRule.Complete r s t u) = refl
applied_same seen site step book (CRule.Proof t) = refl

needs_so : {A : Type 0} (b : Bool) (code : Code) (r : Result A Code) (x : A) → needs b code r ≡ Ok x →
    (b ≡ true) × (r ≡ Ok x)
needs_so true code r x e = (refl, e)
needs_so false code r x e = cc

go_on_so : {A B : Type 0} (r : Result A Code) (f : A → Result B Code) (y : B) → go_on r f ≡ Ok y →
    (x : A) × (r ≡ Ok x) × (f x ≡ Ok y)
go_on_so (Ok x) f y e = (x, refl, e)
go_on_so (Err code) f y e = cc

rule_suits : (seen : Around) (c : CProgram) (s : CStep) (book : List Record) (x : Conclusion) →
    rule_of seen c s book ≡ Ok x → suits seen.version s.rule s.kind ≡ true
unfolding rule_of
rule_suits seen c s book x e =
    let first = needs_so (is_first s.kind || has_defined c.name book) Code.DefinedMissing _ x e in
    let using = go_on_so (used c book s.using) _ x first.1 in
    (needs_so (suits seen.version s.rule s.kind) Code.WrongKind _ x using.2).0

rule_same : (seen : Around) (c : CProgram) (s : CStep) (book : List Record) →
    suits seen.version s.rule s.kind ≡ true → rule_of (in_two seen) c s book ≡ rule_of seen c s book
unfolding rule_of
rule_same seen c s book h =
    let same : suits 2 s.rule s.kind ≡ suits seen.version s.rule s.kind = suits_two seen.version s.rule s.kind h ∙ sym h
    in
    λ i. needs (is_first s.kind || has_defined c.name book) Code.DefinedMissing
    (go_on (used c book s.using) (λ using.
    needs (same i) Code.WrongKind
    (go_on (applied_same seen (step_site seen.slots c s using) s book s.rule i) (λ x.
    needs (claims s x) Code.ConclusionDiffers (Ok x)))))

rule_two : (seen : Around) (c : CProgram) (s : CStep) (book : List Record) (x : Conclusion) →
    rule_of seen c s book ≡ Ok x → rule_of (in_two seen) c s book ≡ Ok x
rule_two seen c s book x e = rule_same seen c s book (rule_suits seen c s book x e) ∙ e

-- certificates: as many levels as a version allows, version 2 does

levels_two : (version : ℕ) → most_levels version ≤ most_levels 2
levels_two version = go (nat_eq version 2)
  where
    go : (b : Bool) → cond b 4096 1024 ≤ 4096
    go true = omega arith
    go false = omega arith

none_fails : (r : WalkResult) → failing_node r ≡ None → r ≡ Ok []
none_fails (Ok []) e = refl
none_fails (Ok (p ∷ ps)) e = cc
none_fails (Err f) e = cc

failing_less : (few many : ℕ) → few ≤ many → (o : Obligation) (cert : Option Cert) → failing few o cert ≡ None →
    failing many o cert ≡ None
failing_less few many h o None e = cc
failing_less few many h o (Some cert) e =
    ap failing_node (more-levels few many o cert.nodes h (none_fails (walk_from_root few o cert.nodes) e))

no_fault : (program step number : ℕ) (code : Option Code) → or_refutation_fault program step number code ≡ Ok tt →
    code ≡ None
no_fault program step number None e = refl
no_fault program step number (Some code) e = cc

then_back : {A B : Type 0} (r : Result A StepFault) (f : A → Result B StepFault) (x : A) (y : B) → r ≡ Ok x →
    f x ≡ Ok y → then_by r f ≡ Ok y
then_back r f x y e h = ap (λ q. then_by q f) e ∙ h

refuted_less : (few many : ℕ) → few ≤ many → (certs : List Cert) (program step number : ℕ) (os : List Obligation) →
    refuted_by few certs program step number os ≡ Ok tt → refuted_by many certs program step number os ≡ Ok tt
refuted_less few many h certs program step number [] e = refuted-none many certs program step number
refuted_less few many h certs program step number (o ∷ os) e =
    let parts = then_so (or_refutation_fault program step number (failing few o (slice_get certs number)))
    (λ done. refuted_by few certs program step (suc number) os) tt
    (sym (refuted-more few certs program step number o os) ∙ e) in
    let none = failing_less few many h o (slice_get certs number)
    (no_fault program step number (failing few o (slice_get certs number)) parts.1) in
    refuted-more many certs program step number o os
    ∙ then_back (or_refutation_fault program step number (failing many o (slice_get certs number)))
    (λ done. refuted_by many certs program step (suc number) os) tt tt
    (ap (or_refutation_fault program step number) none)
    (refuted_less few many h certs program step (suc number) os parts.2)

taken_less : (few many : ℕ) → few ≤ many → (certs : List Cert) (program step : ℕ) (plan : Plan) (d : Derived)
    (new : Plan) → taken few certs program step plan d ≡ Ok new → taken many certs program step plan d ≡ Ok new
taken_less few many h certs program step plan d new e =
    let parts = then_so (refuted_by few certs program step (length plan.obligations) d.obligations) _ new
    (sym (taken-is few certs program step plan d) ∙ e) in
    taken-is many certs program step plan d
    ∙ then_back (refuted_by many certs program step (length plan.obligations) d.obligations) _ tt new
    (refuted_less few many h certs program step (length plan.obligations) d.obligations parts.1) parts.2

-- steps, proofs and documents

rule_passed : (program : ℕ) (step : Option ℕ) (r : Result Conclusion Code) (x : Conclusion) →
    or_rule_fault program step r ≡ Ok x → r ≡ Ok x
rule_passed program step (Ok y) x e = let same : y ≡ x = cc in ap (λ z. Ok z) same
rule_passed program step (Err code) x e = cc

module _ (seen : Around) (certs : List Cert) where
  step_two : (c : CProgram) (s : CStep) (plan new : Plan) → step_verdict seen certs c s plan ≡ Ok new →
      step_verdict (in_two seen) certs c s plan ≡ Ok new
  step_two c s plan new e =
      let parts = then_so (or_rule_fault c.name (Some s.name) (rule_of seen c s plan.records)) _ new
      (sym (step-is seen certs c s plan) ∙ e) in
      let rule = rule_two seen c s plan.records parts.0
      (rule_passed c.name (Some s.name) (rule_of seen c s plan.records) parts.0 parts.1) in
      step-is (in_two seen) certs c s plan
      ∙ then_back (or_rule_fault c.name (Some s.name) (rule_of (in_two seen) c s plan.records)) _ parts.0 new
      (ap (or_rule_fault c.name (Some s.name)) rule)
      (taken_less (most_levels seen.version) (most_levels 2) (levels_two seen.version) certs c.name s.name plan
      (derived_of seen.slots parts.0) new parts.2)

  steps_two : (c : CProgram) (steps : List CStep) (plan new : Plan) → steps_verdict seen certs c steps plan ≡ Ok new →
      steps_verdict (in_two seen) certs c steps plan ≡ Ok new
  steps_two c [] plan new e =
      steps-none (in_two seen) certs c plan ∙ sym (steps-none seen certs c plan) ∙ e
  steps_two c (s ∷ rest) plan new e =
      let parts = then_so (step_verdict seen certs c s plan) _ new (sym (steps-more seen certs c s rest plan) ∙ e) in
      steps-more (in_two seen) certs c s rest plan
      ∙ then_back (step_verdict (in_two seen) certs c s plan) _ parts.0 new (step_two c s plan parts.0 parts.1)
      (steps_two c rest parts.0 new parts.2)

  proof_two : (c : Option CProgram) (proof : CProof) (plan new : Plan) →
      proof_verdict seen certs c proof plan ≡ Ok new → proof_verdict (in_two seen) certs c proof plan ≡ Ok new
  proof_two None proof plan new e = e
  proof_two (Some c) proof plan new e =
      let parts = then_so (steps_verdict seen certs c proof.steps plan) (end_verdict c) new e in
      then_back (steps_verdict (in_two seen) certs c proof.steps plan) (end_verdict c) parts.0 new
      (steps_two c proof.steps plan parts.0 parts.1) parts.2

  proofs_two : (proofs : List CProof) (plan new : Plan) → proofs_verdict seen certs proofs plan ≡ Ok new →
      proofs_verdict (in_two seen) certs proofs plan ≡ Ok new
  proofs_two [] plan new e = proofs-none (in_two seen) certs plan ∙ sym (proofs-none seen certs plan) ∙ e
  proofs_two (proof ∷ rest) plan new e =
      let parts = then_so (proof_verdict seen certs (program_of seen.programs proof.program) proof plan) _ new
      (sym (proofs-more seen certs proof rest plan) ∙ e) in
      proofs-more (in_two seen) certs proof rest plan
      ∙ then_back (proof_verdict (in_two seen) certs (program_of seen.programs proof.program) proof plan) _ parts.0 new
      (proof_two (program_of seen.programs proof.program) proof plan parts.0 parts.1)
      (proofs_two rest parts.0 new parts.2)

pub upgraded_is_accepted : UpgradedIsAccepted
upgraded_is_accepted d certs plan e =
    let parts = then_so (proofs_verdict (document_seen d) certs d.proofs no_plan) (last_verdict certs) plan e in
    then_back (proofs_verdict (in_two (document_seen d)) certs d.proofs no_plan) (last_verdict certs) parts.0 plan
    (proofs_two (document_seen d) certs d.proofs no_plan parts.0 parts.1) parts.2
