-- The verdict on a document is a plan exactly where the document follows.
use Rattle.std.proofs.Common.{◌≡◌, ℕ, suc, ◌≤◌, Bool, true, List, [], ◌∷◌, ◌++◌, length}
use Rattle.std.proofs.Common.{nat_eq, cond, ◌||◌, false, Option, Some, None, Result, Ok, Err, refl, sym, ap, ◌∙◌, subst}
use Rattle.std.proofs.Common.{append_assoc, arith}
use Rattle.std.specs.Prelude.{All}
use Rattle.std.specs.List.{list_any, find}
use Rattle.std.proofs.lemmas.List.{length-map}
use Rattle.std.proofs.lemmas.List.Elements.{All-head, All-tail}
use Rattle.case_tables.specs.declared.code_table.Code.{Code}
use Rattle.meaning_executions.specs.Pairwise.{Pairwise}
use Rattle.core_terms.specs.declared.programs.CSlot.{CSlot}
use Rattle.core_terms.specs.declared.programs.CProgram.{CProgram}
use Rattle.core_terms.specs.declared.documents.CStep.{CStep}
use Rattle.core_terms.specs.declared.documents.CProof.{CProof}
use Rattle.core_terms.specs.declared.documents.CDocument.{CDocument}
use Rattle.core_terms.specs.Conditions.{IsCoreDocument, IsProof}
use Rattle.obligations.specs.declared.branches.Obligation.{Obligation}
use Rattle.obligations.specs.declared.certificates.Cert.{Cert}
use Rattle.certificate_rules.specs.Refutation.{walk_from_root}
use Rattle.certificate_rules.specs.Trees.{is_whole}
use Rattle.certificate_rules.proofs.WholeLaws.{walked-refutes, refutes-walked}
use Rattle.fair_rounds.specs.declared.records.Record.{Record}
use Rattle.safety_rules.specs.from_rules_table.Conclusion.{Conclusion}
use Rattle.safety_rules.specs.from_rules_table.Validity.{Goal, goal_obligation}
use Rattle.safety_rules.specs.from_rules_table.Table.{needs}
use Rattle.safety_rules.specs.from_rules_table.Walk as walk
use Rattle.safety_rules.specs.from_rules_table.Walk.{Around, Failure, has_defined, or_failure, further, rule_of}
use Rattle.safety_rules.specs.from_rules_table.Walk.{planned, steps_of}
use Rattle.safety_rules.specs.from_rules_table.Walk.{proof_end}
use Rattle.safety_rules.specs.from_rules_table.Walk.{program_of, proof_steps, proofs_of}
use Rattle.safety_rules.proofs.lemmas_from_rules_table.SiteLaws.{met}
use Rattle.safety_rules.specs.Answers.{obligations_of}
use Rattle.rules_steps.specs.Starts.{document_seen}
use Rattle.proof_plans.specs.declared.plans.Plan.{Plan}
use Rattle.proof_plans.specs.Following.{StepsFollow, ProofsFollow, GoalRefuted, Follows, AcceptedFollows}
use Rattle.proof_plans.specs.Giving.{AreWhole}
use Rattle.proof_plans.specs.Laws.{ReachAgrees, plan_of}
use Rattle.proof_plans.specs.Reaching.{reach_of}
use Rattle.proof_plans.specs.Shown.{ShownAt, AreShown}
use Rattle.proof_plans.specs.Verdicts.{most_levels, verdict_of}
use Rattle.proof_plans.proofs.ReachLaws.{accepted, no_more}
use Rattle.proof_plans.proofs.VerdictLaws.{no_walk, accepted_shown}
use Rattle.proof_plans.proofs.WalkLaws.{reach_is_walk}

-- ---- the walk along steps

-- a part's answer, and what follows it
further_so : {A B : Type 0} (r : Result A Failure) (f : A → Result B Failure) (y : B) → further r f ≡ Ok y →
    (x : A) × (r ≡ Ok x) × (f x ≡ Ok y)
further_so (Ok x) f y e = (x, refl, e)
further_so (Err failure) f y e = cc

passed : {A : Type 0} (program : ℕ) (step : Option ℕ) (r : Result A Code) (x : A) → or_failure program step r ≡ Ok x →
    r ≡ Ok x
passed program step (Ok y) x e = let same : y ≡ x = cc in ap (λ z. Ok z) same
passed program step (Err code) x e = cc

module _ (seen : Around) where
  -- steps that a walk goes along follow
  steps_follow : (c : CProgram) (steps : List CStep) (w last : walk.Plan) →
      steps_of seen c steps w ≡ Ok last →
      (goals : List Goal) × StepsFollow seen c steps w.records last.records goals × (last.goals ≡ w.goals ++ goals)
  steps_follow c [] w last e =
      let same : w ≡ last = cc in (
        [],
        (ap (λ (p : walk.Plan). p.records) (sym same), refl),
        ap (λ (p : walk.Plan). p.goals) (sym same) ∙ no_more w.goals,
      )
  steps_follow c (s ∷ rest) w last e =
      let parts = further_so (or_failure c.name (Some s.name) (rule_of seen c s w.records)) (λ x.
      steps_of seen c rest (planned w x)) last e in
      let x : Conclusion = parts.0 in
      let ruled = passed c.name (Some s.name) (rule_of seen c s w.records) x parts.1 in
      let more = steps_follow c rest (planned w x) last parts.2 in (
        x.goals ++ more.0,
        (x, more.0, ruled, more.1, refl),
        more.2 ∙ append_assoc w.goals x.goals more.0,
      )

  -- and the other way round
  steps_walk : (c : CProgram) (steps : List CStep) (w : walk.Plan) (last : List Record) (goals : List Goal) →
      StepsFollow seen c steps w.records last goals →
      (v : walk.Plan) × (steps_of seen c steps w ≡ Ok v) × (v.records ≡ last) × (v.goals ≡ w.goals ++ goals)
  steps_walk c [] w last goals h =
      (w, refl, sym h.0, no_more w.goals ∙ ap (λ gs. w.goals ++ gs) (sym h.1))
  steps_walk c (s ∷ rest) w last goals h =
      let x : Conclusion = h.0 in
      let more = steps_walk c rest (planned w x) last h.1 h.3 in (
        more.0,
        ap (λ (r : Result Conclusion Code). further (or_failure c.name (Some s.name) r) (λ y.
            steps_of seen c rest (planned w y))) h.2
            ∙ more.1,
        more.2,
        more.3 ∙ append_assoc w.goals x.goals h.1 ∙ ap (λ gs. w.goals ++ gs) (sym h.4),
      )

-- ---- the walk along proofs

found_any : {X : Type 0} (p : X → Bool) (xs : List X) → list_any p xs ≡ true → (x : X) × (find p xs ≡ Some x)
found_any p [] h = cc
found_any {X} p (x ∷ xs) h = first (p x) (found_any p xs) h
  where
    first : (b : Bool) → (list_any p xs ≡ true → (y : X) × (find p xs ≡ Some y)) → (b || list_any p xs) ≡ true →
        (y : X) × (cond b (Some x) (find p xs) ≡ Some y)
    first true rest h = (x, refl)
    first false rest h = rest h

module _ (d : CDocument) where
  abbrev seen : Around
  seen = document_seen d

  -- a proof whose program is there
  record ProofFollows (proof : CProof) (w last : walk.Plan) : Type 0 where
    program : CProgram
    found : program_of d.programs proof.program ≡ Some program
    goals : List Goal
    steps : StepsFollow seen program proof.steps w.records last.records goals
    has_its : has_defined program.name last.records ≡ true
    left : last.goals ≡ w.goals ++ goals

  proof_follows : (proof : CProof) (w last : walk.Plan) (c : CProgram) →
      program_of d.programs proof.program ≡ Some c → proof_steps seen (Some c) proof w ≡ Ok last →
      ProofFollows proof w last
  proof_follows proof w last c found e =
      let parts = further_so (steps_of seen c proof.steps w) (proof_end c) last e in
      let mid : walk.Plan = parts.0 in
      let ends = met (has_defined c.name mid.records) Code.DefinedMissing (Ok mid) last
      (passed c.name None (needs (has_defined c.name mid.records) Code.DefinedMissing (Ok mid)) last parts.2) in
      let same : mid ≡ last = cc (ends.1) in
      let steps = steps_follow seen c proof.steps w mid parts.1 in
      record {
        program = c;
        found = found;
        goals = steps.0;
        steps = subst (λ (p : walk.Plan). StepsFollow seen c proof.steps w.records p.records steps.0) same steps.1;
        has_its = ap (λ (p : walk.Plan). has_defined c.name p.records) (sym same) ∙ ends.0;
        left = ap (λ (p : walk.Plan). p.goals) (sym same) ∙ steps.2;
      }

  -- proofs that a walk goes along follow
  proofs_follow : (proofs : List CProof) → All (IsProof d.slots d.programs) proofs → (w last : walk.Plan) →
      proofs_of seen proofs w ≡ Ok last →
      (goals : List Goal) × ProofsFollow d proofs w.records last.records goals × (last.goals ≡ w.goals ++ goals)
  proofs_follow [] all w last e =
      let same : w ≡ last = cc in (
        [],
        (ap (λ (p : walk.Plan). p.records) (sym same), refl),
        ap (λ (p : walk.Plan). p.goals) (sym same) ∙ no_more w.goals,
      )
  proofs_follow (proof ∷ rest) all w last e =
      let is = All-head (IsProof d.slots d.programs) proof rest all in
      let named = found_any (λ (c : CProgram). nat_eq c.name proof.program) d.programs is.program in
      let parts = further_so (proof_steps seen (program_of d.programs proof.program) proof w)
      (proofs_of seen rest) last e in
      let mid : walk.Plan = parts.0 in
      let one = proof_follows proof w mid named.0 named.1
      (ap (λ p. proof_steps seen p proof w) (sym named.1) ∙ parts.1) in
      let more = proofs_follow rest (All-tail (IsProof d.slots d.programs) proof rest all) mid last parts.2 in (
        one.goals ++ more.0,
        (one.program, mid.records, one.goals, more.0, one.found, one.steps, one.has_its, more.1, refl),
        more.2 ∙ ap (λ gs. gs ++ more.0) one.left ∙ append_assoc w.goals one.goals more.0,
      )

  -- and the other way round
  proofs_walk : (proofs : List CProof) (w : walk.Plan) (last : List Record) (goals : List Goal) →
      ProofsFollow d proofs w.records last goals →
      (v : walk.Plan) × (proofs_of seen proofs w ≡ Ok v) × (v.records ≡ last) × (v.goals ≡ w.goals ++ goals)
  proofs_walk [] w last goals h =
      (w, refl, sym h.0, no_more w.goals ∙ ap (λ gs. w.goals ++ gs) (sym h.1))
  proofs_walk (proof ∷ rest) w last goals h =
      let c : CProgram = h.0 in
      let steps = steps_walk seen c proof.steps w h.1 h.2 h.5 in
      let mid : walk.Plan = steps.0 in
      let ends : proof_end c mid ≡ Ok mid =
      ap (λ (b : Bool). or_failure c.name None (needs b Code.DefinedMissing (Ok mid)))
      (ap (has_defined c.name) steps.2 ∙ h.6) in
      let one : proof_steps seen (Some c) proof w ≡ Ok mid =
      ap (λ (r : Result walk.Plan Failure). further r (proof_end c)) steps.1 ∙ ends in
      let more = proofs_walk rest mid last h.3
      (subst (λ book. ProofsFollow d rest book last h.3) (sym steps.2) h.7) in (
        more.0,
        ap (λ p. further (proof_steps seen p proof w) (proofs_of seen rest)) h.4
            ∙ ap (λ (r : Result walk.Plan Failure). further r (proofs_of seen rest)) one
            ∙ more.1,
        more.2,
        more.3 ∙ ap (λ gs. gs ++ h.3) steps.3 ∙ append_assoc w.goals h.2 h.3 ∙ ap (λ gs. w.goals ++ gs) (sym h.8),
      )

-- ---- certificates, in order

-- the certificates behind the first
shift : (levels : ℕ) (c : Cert) (certs : List Cert) (number : ℕ) (os : List Obligation) →
    AreShown levels (c ∷ certs) (suc number) os → AreShown levels certs number os
shift levels c certs number [] h = tt
shift levels c certs number (o ∷ os) h = (h.0, shift levels c certs (suc number) os h.1)

shift_back : (levels : ℕ) (c : Cert) (certs : List Cert) (number : ℕ) (os : List Obligation) →
    AreShown levels certs number os →
    AreShown levels (c ∷ certs) (suc number) os
shift_back levels c certs number [] h = tt
shift_back levels c certs number (o ∷ os) h = (h.0, shift_back levels c certs (suc number) os h.1)

abbrev IsWhole : Cert → Type 0
IsWhole c = is_whole c.nodes 1 ≡ true

module _ (levels : ℕ) (slots : List CSlot) where
  goal_refuted : (g : Goal) (c : Cert) (certs : List Cert) → IsWhole c →
      ShownAt levels (c ∷ certs) 0 (goal_obligation slots g.params g.form) → GoalRefuted levels slots g c
  goal_refuted g c certs whole h =
      let o : Obligation = goal_obligation slots g.params g.form in
      let same : c ≡ h.0 = cc (h.1) in
      walked-refutes levels o c.nodes whole (ap (λ (x : Cert). walk_from_root levels o x.nodes) same ∙ h.2)

  paired : (goals : List Goal) (certs : List Cert) → AreWhole certs →
      AreShown levels certs 0 (obligations_of slots goals) →
      length certs ≡ length goals → Pairwise (GoalRefuted levels slots) goals certs
  paired [] [] whole h same = tt
  paired [] (c ∷ certs) whole h same = absurd (omega (arith, same))
  paired (g ∷ goals) [] whole h same = absurd (omega (arith, same))
  paired (g ∷ goals) (c ∷ certs) whole h same = (
    goal_refuted g c certs (All-head IsWhole c certs whole) h.0,
    paired goals certs (All-tail IsWhole c certs whole) (shift levels c certs 0 (obligations_of slots goals) h.1)
        (omega (arith, same)),
  )

  pairs_shown : (goals : List Goal) (certs : List Cert) → Pairwise (GoalRefuted levels slots) goals certs →
      AreShown levels certs 0 (obligations_of slots goals) × (length certs ≡ length goals)
  pairs_shown [] [] h = (tt, refl)
  pairs_shown [] (c ∷ certs) h = absurd h
  pairs_shown (g ∷ goals) [] h = absurd h
  pairs_shown (g ∷ goals) (c ∷ certs) h =
      let rest = pairs_shown goals certs h.1 in
      let count = rest.1 in (
        (
          (c, refl, refutes-walked levels (goal_obligation slots g.params g.form) c.nodes h.0),
          shift_back levels c certs 0 (obligations_of slots goals) rest.0,
        ),
        omega (arith, count),
      )

-- ---- the whole document

accepted_so : (d : CDocument) (certs : List Cert) → IsCoreDocument d → AreWhole certs →
    (plan : Plan) × (verdict_of d certs ≡ Ok plan) → Follows d certs
accepted_so d certs good whole a =
    let s = accepted_shown d certs a.0 a.1 in
    let f = proofs_follow d d.proofs good.proofs no_walk s.steps s.walked in
    record {
      records = s.steps.records;
      goals = s.steps.goals;
      steps = subst (λ gs. ProofsFollow d d.proofs [] s.steps.records gs) (sym f.2) f.1;
      refuted = paired (most_levels d.version) d.slots s.steps.goals certs whole s.shown s.certified;
    }

follows_so : (d : CDocument) (certs : List Cert) → Follows d certs → (plan : Plan) × (verdict_of d certs ≡ Ok plan)
follows_so d certs f =
    let w = proofs_walk d d.proofs no_walk f.records f.goals f.steps in
    let v : walk.Plan = w.0 in
    let shown = pairs_shown (most_levels d.version) d.slots f.goals certs f.refuted in
    let goals : v.goals ≡ f.goals = w.3 in
    let many : length (obligations_of d.slots v.goals) ≡ length v.goals = length-map v.goals _ in
    let few : length certs ≤ length (obligations_of d.slots v.goals) =
    let count = shown.1 in let as_many = ap (λ (gs : List Goal). length gs) goals in
    omega (arith, many, count, as_many) in (
      plan_of d.slots v,
      accepted d certs (plan_of d.slots v)
          (subst (λ r. ReachAgrees d.slots r (reach_of d)) w.1 (reach_is_walk d))
          (subst (λ gs. AreShown (most_levels d.version) certs 0 (obligations_of d.slots gs)) (sym goals) shown.0) few,
    )

pub accepted_follows : AcceptedFollows
accepted_follows d certs good whole = (accepted_so d certs good whole, follows_so d certs)
