-- What a verdict says of the walk along the steps.
use Rattle.std.proofs.Common.{◌≡◌, ℕ, zero, suc, ◌+◌, ◌<◌, ◌≤◌, nat_lt, List, [], ◌∷◌, ◌++◌, map, length, slice_get}
use Rattle.std.proofs.Common.{Bool, true, false, cond, Option, Some, None, Result, Ok, Err, refl, sym, ap, ◌∙◌, subst}
use Rattle.std.proofs.Common.{arith}
use Rattle.std.proofs.lemmas.List.{length-map}
use Rattle.case_tables.specs.declared.code_table.Code.{Code}
use Rattle.core_terms.specs.declared.programs.CSlot.{CSlot}
use Rattle.core_terms.specs.declared.programs.CProgram.{CProgram}
use Rattle.core_terms.specs.declared.documents.CStep.{CStep}
use Rattle.core_terms.specs.declared.documents.CProof.{CProof}
use Rattle.core_terms.specs.declared.documents.CDocument.{CDocument}
use Rattle.obligations.specs.declared.branches.Obligation.{Obligation}
use Rattle.obligations.specs.declared.certificates.Cert.{Cert}
use Rattle.obligations.specs.Obligations.{IsObligation}
use Rattle.certificate_rules.specs.Refutation.{WalkResult, walk_from_root}
use Rattle.certificate_rules.proofs.SoundLaws.{sound}
use Rattle.safety_rules.specs.from_rules_table.Conclusion.{Conclusion}
use Rattle.safety_rules.specs.from_rules_table.Validity.{Goal, goal_obligation, AllValid}
use Rattle.safety_rules.specs.from_rules_table.Table.{needs}
use Rattle.safety_rules.specs.from_rules_table.Walk as walk
use Rattle.safety_rules.specs.from_rules_table.Walk.{Around, Failure, has_defined, or_failure, further, rule_of}
use Rattle.safety_rules.specs.from_rules_table.Walk.{planned, steps_of}
use Rattle.safety_rules.specs.from_rules_table.Walk.{proof_end}
use Rattle.safety_rules.specs.from_rules_table.Walk.{program_of, proof_steps, proofs_of}
use Rattle.safety_rules.proofs.lemmas_from_rules_table.EachLaws.{Each}
use Rattle.safety_rules.proofs.lemmas_from_rules_table.GoalLaws.{goal_shown}
use Rattle.safety_rules.proofs.lemmas_from_rules_table.SiteLaws.{met}
use Rattle.safety_rules.proofs.lemmas_from_rules_table.WalkTheorems.{walk_sound}
use Rattle.safety_rules.specs.Answers.{obligations_of, derived_of}
use Rattle.proof_plans.specs.declared.plans.Plan.{Plan}
use Rattle.proof_plans.specs.Laws.{plan_of, AcceptedIsValid, AcceptedHolds}
use Rattle.proof_plans.specs.Shown.{ShownAt, AreShown}
use Rattle.rules_steps.specs.Starts.{document_seen, starts_in}
use Rattle.proof_plans.specs.Verdicts.{or_rule_fault, failing_node, failing, or_refutation_fault}
use Rattle.proof_plans.specs.Verdicts.{most_levels, refuted_by, grown, taken, step_verdict, steps_verdict, end_verdict}
use Rattle.proof_plans.specs.Verdicts.{proof_verdict, proofs_verdict, surplus_fault, last_verdict, no_plan, verdict_of}
use Rattle.proof_plans.proofs.Equations.{refuted-more, taken-is, step-is, steps-none, steps-more}
use Rattle.proof_plans.proofs.LoopLaws.{rule_passed}
use Rattle.proof_plans.proofs.MadeLaws.{accepted_makes}
use Rattle.proof_plans.proofs.Equations.{proofs-none, proofs-more, then_so}
use Rattle.proof_plans.proofs.ReachLaws.{shown_join}

-- obligations whose certificates do not fail are refuted

-- no node of the certificate fails, and no branch is left
pub unfailing : (r : WalkResult) → failing_node r ≡ None → r ≡ Ok []
unfailing (Ok []) none = refl
unfailing (Ok (p ∷ ps)) none = cc
unfailing (Err failure) none = cc

below : {X : Type 0} (xs : List X) (n : ℕ) (x : X) → slice_get xs n ≡ Some x → n < length xs
below [] n x e = cc
below (y ∷ xs) zero x e = omega arith
below (y ∷ xs) (suc n) x e = let h = below xs n x e in omega (arith, h)

one_shown : (levels : ℕ) (certs : List Cert) (o : Obligation) (number : ℕ) (found : Option Cert) →
    slice_get certs number ≡ found → failing levels o found ≡ None → ShownAt levels certs number o
    × (number < length certs)
one_shown levels certs o number None e none = cc
one_shown levels certs o number (Some cert) e none =
    ((cert, e, unfailing (walk_from_root levels o cert.nodes) none), below certs number cert e)

no_fault : (program step number : ℕ) (code : Option Code) (done : Unit {0}) →
    or_refutation_fault program step number code ≡ Ok done → code ≡ None
no_fault program step number None done e = refl
no_fault program step number (Some code) done e = cc

all_shown : (levels : ℕ) (certs : List Cert) (program step number : ℕ) (os : List Obligation) (done : Unit {0}) →
    number ≤ length certs → refuted_by levels certs program step number os ≡ Ok done →
    AreShown levels certs number os × (number + length os ≤ length certs)
all_shown levels certs program step number [] done less e = (tt, omega arith)
all_shown levels certs program step number (o ∷ os) done less e =
    let parts = then_so (or_refutation_fault program step number (failing levels o (slice_get certs number)))
    (λ (x : Unit {0}). refuted_by levels certs program step (suc number) os) done
    (sym (refuted-more levels certs program step number o os) ∙ e) in
    let one = one_shown levels certs o number (slice_get certs number) refl
    (no_fault program step number (failing levels o (slice_get certs number)) parts.0 parts.1) in
    let there : number < length certs = one.1 in
    let rest = all_shown levels certs program step (suc number) os done (omega (arith, there)) parts.2 in
    let all : suc number + length os ≤ length certs = rest.1 in
    ((one.0, rest.0), omega (arith, all))

-- and so they are valid
shown_valid : (levels : ℕ) (slots : List CSlot) (certs : List Cert) (number : ℕ) (goals : List Goal) →
    Each IsObligation (obligations_of slots goals) → AreShown levels certs number (obligations_of slots goals) →
    AllValid slots goals
shown_valid levels slots certs number [] are h = tt
shown_valid levels slots certs number (g ∷ goals) are h =
    let o : Obligation = goal_obligation slots g.params g.form in (
      goal_shown slots g.params g.form (sound levels o h.0.0.nodes are.0 h.0.2),
      shown_valid levels slots certs (suc number) goals are.1 h.1,
    )

-- the plans of verdict and walk

obligations_join : (slots : List CSlot) (gs hs : List Goal) →
    obligations_of slots gs ++ obligations_of slots hs ≡ obligations_of slots (gs ++ hs)
obligations_join slots [] hs = refl
obligations_join slots (g ∷ gs) hs =
    ap (λ (os : List Obligation). goal_obligation slots g.params g.form ∷ os) (obligations_join slots gs hs)

same_owners : (slots : List CSlot) (place : ℕ) (gs : List Goal) →
    map (λ (o : Obligation). place) (obligations_of slots gs) ≡ map (λ (g : Goal). place) gs
same_owners slots place [] = refl
same_owners slots place (g ∷ gs) = ap (λ (ns : List ℕ). place ∷ ns) (same_owners slots place gs)

pub grown_is : (slots : List CSlot) (w : walk.Plan) (x : Conclusion) →
    grown (plan_of slots w) (derived_of slots x) ≡ plan_of slots (planned w x)
grown_is slots w x =
    ap (λ (os : List Obligation). record {
      records = w.records ++ x.made ∷ [];
      obligations = os;
      owner = w.owner ++ map (λ (o : Obligation). length w.records) (obligations_of slots x.goals);
    }) (obligations_join slots w.goals x.goals)
    ∙ ap (λ (ns : List ℕ). record {
      records = w.records ++ x.made ∷ [];
      obligations = obligations_of slots (w.goals ++ x.goals);
      owner = w.owner ++ ns;
    }) (same_owners slots (length w.records) x.goals)

length-join : (gs hs : List Goal) → length (gs ++ hs) ≡ length gs + length hs
length-join [] hs = omega arith
length-join (g ∷ gs) hs = let e = length-join gs hs in omega (arith, e)

-- what was taken so far is shown, each obligation by a certificate
record Shown (levels : ℕ) (slots : List CSlot) (certs : List Cert) (w : walk.Plan) : Type 0 where
  shown : AreShown levels certs 0 (obligations_of slots w.goals)
  certified : length w.goals ≤ length certs

abbrev pub no_walk : walk.Plan
no_walk = record { records = []; goals = []; owner = [] }

-- the walk gives the plan
record Went (levels : ℕ) (slots : List CSlot) (certs : List Cert) (walked : Result walk.Plan Failure) (plan : Plan) :
    Type 0 where
  steps : walk.Plan
  is : walked ≡ Ok steps
  same : plan ≡ plan_of slots steps
  shown : Shown levels slots certs steps

module _ (seen : Around) (certs : List Cert) where
  taken_shown : (program step : ℕ) (w : walk.Plan) (x : Conclusion) (plan : Plan) →
      Shown (most_levels seen.version) seen.slots certs w →
      taken (most_levels seen.version) certs program step (plan_of seen.slots w) (derived_of seen.slots x) ≡ Ok plan →
      (plan ≡ plan_of seen.slots (planned w x)) × Shown (most_levels seen.version) seen.slots certs (planned w x)
  taken_shown program step w x plan shown e =
      let many : length (obligations_of seen.slots w.goals) ≡ length w.goals = length-map w.goals _ in
      let few : length w.goals ≤ length certs = shown.certified in
      let parts = then_so
      (refuted_by (most_levels seen.version) certs program step (length (obligations_of seen.slots w.goals))
      (obligations_of seen.slots x.goals))
      (λ (done : Unit {0}). Ok (grown (plan_of seen.slots w) (derived_of seen.slots x))) plan
      (sym (taken-is (most_levels seen.version) certs program step (plan_of seen.slots w) (derived_of seen.slots x))
      ∙ e) in
      let given = all_shown (most_levels seen.version) certs program step (length (obligations_of seen.slots w.goals))
      (obligations_of seen.slots x.goals)
      parts.0 (omega (arith, many, few)) parts.1 in
      let some : length (obligations_of seen.slots x.goals) ≡ length x.goals = length-map x.goals _ in
      let all : length (obligations_of seen.slots w.goals) + length (obligations_of seen.slots x.goals) ≤ length certs =
      given.1 in
      let sum = length-join w.goals x.goals in
      let made : grown (plan_of seen.slots w) (derived_of seen.slots x) ≡ plan = cc (parts.2) in (
        sym made ∙ grown_is seen.slots w x,
        record {
          shown = subst (λ os. AreShown (most_levels seen.version) certs 0 os)
              (obligations_join seen.slots w.goals x.goals)
              (shown_join (most_levels seen.version) certs 0 (obligations_of seen.slots w.goals)
              (obligations_of seen.slots x.goals) shown.shown
              (subst (λ n. AreShown (most_levels seen.version) certs n (obligations_of seen.slots x.goals))
              (zero_more (length (obligations_of seen.slots w.goals))) given.0));
          certified = omega (arith, all, sum, many, some);
        },
      )
    where
      zero_more : (n : ℕ) → n ≡ 0 + n
      zero_more n = omega arith

  steps_shown : (c : CProgram) (steps : List CStep) (w : walk.Plan) (plan : Plan) →
      Shown (most_levels seen.version) seen.slots certs w →
      steps_verdict seen certs c steps (plan_of seen.slots w) ≡ Ok plan →
      Went (most_levels seen.version) seen.slots certs (steps_of seen c steps w) plan
  steps_shown c [] w plan shown e =
      let same : plan_of seen.slots w ≡ plan = cc (sym (steps-none seen certs c (plan_of seen.slots w)) ∙ e) in
      record { steps = w; is = refl; same = sym same; shown = shown }
  steps_shown c (s ∷ rest) w plan shown e =
      let parts = then_so (step_verdict seen certs c s (plan_of seen.slots w)) (steps_verdict seen certs c rest) plan
      (sym (steps-more seen certs c s rest (plan_of seen.slots w)) ∙ e) in
      let step = then_so
      (or_rule_fault c.name (Some s.name) (rule_of seen c s w.records)) (λ (x : Conclusion).
      taken (most_levels seen.version) certs c.name s.name (plan_of seen.slots w) (derived_of seen.slots x)) parts.0
      (sym (step-is seen certs c s (plan_of seen.slots w)) ∙ parts.1) in
      let x : Conclusion = step.0 in
      let ruled : rule_of seen c s w.records ≡ Ok x =
      rule_passed c.name (Some s.name) (rule_of seen c s w.records) x step.1 in
      let next = taken_shown c.name s.name w x parts.0 shown step.2 in
      let more = steps_shown c rest (planned w x) plan next.1
      (subst (λ (p : Plan). steps_verdict seen certs c rest p ≡ Ok plan) next.0 parts.2) in
      record {
        steps = more.steps;
        is = ap (λ (r : Result Conclusion Code). further (or_failure c.name (Some s.name) r) (λ y.
            steps_of seen c rest (planned w y))) ruled
            ∙ more.is;
        same = more.same;
        shown = more.shown;
      }

  proof_shown : (found : Option CProgram) (proof : CProof) (w : walk.Plan) (plan : Plan) →
      Shown (most_levels seen.version) seen.slots certs w →
      proof_verdict seen certs found proof (plan_of seen.slots w) ≡ Ok plan →
      Went (most_levels seen.version) seen.slots certs (proof_steps seen found proof w) plan
  proof_shown None proof w plan shown e =
      let same : plan_of seen.slots w ≡ plan = cc in
      record { steps = w; is = refl; same = sym same; shown = shown }
  proof_shown (Some c) proof w plan shown e =
      let parts = then_so (steps_verdict seen certs c proof.steps (plan_of seen.slots w)) (end_verdict c) plan e in
      let went = steps_shown c proof.steps w parts.0 shown parts.1 in
      let v : walk.Plan = went.steps in
      let ends : end_verdict c (plan_of seen.slots v) ≡ Ok plan =
      subst (λ (p : Plan). end_verdict c p ≡ Ok plan) went.same parts.2 in
      let passed = met (has_defined c.name v.records) Code.DefinedMissing (Ok (plan_of seen.slots v)) plan
      (rule_passed c.name None (needs (has_defined c.name v.records) Code.DefinedMissing (Ok (plan_of seen.slots v)))
      plan
      ends) in
      let same : plan_of seen.slots v ≡ plan = cc (passed.1) in
      record {
        steps = v;
        is = ap (λ (r : Result walk.Plan Failure). further r (proof_end c)) went.is
            ∙ ap (λ (b : Bool). or_failure c.name None (needs b Code.DefinedMissing (Ok v))) passed.0;
        same = sym same;
        shown = went.shown;
      }

  proofs_shown : (proofs : List CProof) (w : walk.Plan) (plan : Plan) →
      Shown (most_levels seen.version) seen.slots certs w →
      proofs_verdict seen certs proofs (plan_of seen.slots w) ≡ Ok plan →
      Went (most_levels seen.version) seen.slots certs (proofs_of seen proofs w) plan
  proofs_shown [] w plan shown e =
      let same : plan_of seen.slots w ≡ plan = cc (sym (proofs-none seen certs (plan_of seen.slots w)) ∙ e) in
      record { steps = w; is = refl; same = sym same; shown = shown }
  proofs_shown (proof ∷ rest) w plan shown e =
      let found : Option CProgram = program_of seen.programs proof.program in
      let parts = then_so (proof_verdict seen certs found proof (plan_of seen.slots w))
      (proofs_verdict seen certs rest) plan
      (sym (proofs-more seen certs proof rest (plan_of seen.slots w)) ∙ e) in
      let went = proof_shown found proof w parts.0 shown parts.1 in
      let more = proofs_shown rest went.steps plan went.shown
      (subst (λ (p : Plan). proofs_verdict seen certs rest p ≡ Ok plan) went.same parts.2) in
      record {
        steps = more.steps;
        is = ap (λ (r : Result walk.Plan Failure). further r (proofs_of seen rest)) went.is ∙ more.is;
        same = more.same;
        shown = more.shown;
      }

last_so : (certs : List Cert) (plan last : Plan) (b : Bool) → nat_lt (length plan.obligations) (length certs) ≡ b →
    cond b (Err (surplus_fault (length plan.obligations))) (Ok plan) ≡ Ok last →
    (plan ≡ last) × (length certs ≤ length plan.obligations)
last_so certs plan last true e h = cc
last_so certs plan last false e h = (cc, grind arith)

-- what a verdict that is a plan says of the walk: its plan, all of which is shown, with no certificate left
pub record IsShownPlan (d : CDocument) (certs : List Cert) (plan : Plan) : Type 0 where
  pub steps : walk.Plan
  pub walked : proofs_of (document_seen d) d.proofs no_walk ≡ Ok steps
  pub planned : plan ≡ plan_of d.slots steps
  pub shown : AreShown (most_levels d.version) certs 0 (obligations_of d.slots steps.goals)
  pub certified : length certs ≡ length steps.goals

pub accepted_shown : (d : CDocument) (certs : List Cert) (plan : Plan) → verdict_of d certs ≡ Ok plan →
    IsShownPlan d certs plan
accepted_shown d certs plan e =
    let parts = then_so (proofs_verdict (document_seen d) certs d.proofs no_plan) (last_verdict certs) plan e in
    let went = proofs_shown (document_seen d) certs d.proofs no_walk parts.0
    (record { shown = tt; certified = omega arith }) parts.1 in
    let last = last_so certs parts.0 plan (nat_lt (length parts.0.obligations) (length certs)) refl parts.2 in
    let enough : length certs ≤ length parts.0.obligations = last.1 in
    let many : length (obligations_of d.slots went.steps.goals) ≡ length went.steps.goals =
    length-map went.steps.goals _ in
    let same : length parts.0.obligations ≡ length (obligations_of d.slots went.steps.goals) =
    ap (λ (p : Plan). length p.obligations) went.same in
    let few : length went.steps.goals ≤ length certs = went.shown.certified in
    record {
      steps = went.steps;
      walked = went.is;
      planned = sym last.0 ∙ went.same;
      shown = went.shown.shown;
      certified = omega (arith, enough, many, same, few);
    }

pub accepted_valid : AcceptedIsValid
accepted_valid d certs plan good e =
    let s = accepted_shown d certs plan e in
    let are : Each IsObligation (obligations_of d.slots s.steps.goals) =
    subst (λ (p : Plan). Each IsObligation p.obligations) s.planned (accepted_makes d certs plan good e) in
    record {
      steps = s.steps;
      walked = s.walked;
      planned = s.planned;
      valid = shown_valid (most_levels d.version) d.slots certs 0 s.steps.goals are s.shown;
      certified = s.certified;
    }

pub accepted_holds : AcceptedHolds
accepted_holds d certs plan good e place a c there named =
    let f = accepted_valid d certs plan good e in
    walk_sound d good (starts_in d.slots) f.steps f.walked f.valid place a c
    (ap (λ (p : Plan). slice_get p.records place) (sym f.planned) ∙ there) named
