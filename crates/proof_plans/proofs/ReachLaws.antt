-- How far steps go, and that a document is accepted whose obligations certificates refute.
use Rattle.std.proofs.Common.{◌≡◌, ℕ, suc, ◌+◌, ◌≤◌, ◌<◌, Bool, true, false, cond, List, [], ◌∷◌, ◌++◌, map, length}
use Rattle.std.proofs.Common.{drop}
use Rattle.std.proofs.Common.{Option, Some, None, Result, Ok, Err, refl, sym, ap, ◌∙◌, subst, append_assoc, slice_get}
use Rattle.std.proofs.Common.{arith}
use Rattle.std.proofs.Common.{slice_index_or}
use Rattle.std.specs.Prelude.{All}
use Rattle.std.proofs.lemmas.List.Elements.{All-head, All-tail}
use Rattle.case_tables.specs.declared.code_table.Code.{Code}
use Rattle.core_terms.specs.declared.programs.CSlot.{CSlot}
use Rattle.core_terms.specs.declared.programs.CProgram.{CProgram}
use Rattle.core_terms.specs.declared.documents.CStep.{CStep}
use Rattle.core_terms.specs.declared.documents.CProof.{CProof}
use Rattle.core_terms.specs.declared.documents.CDocument.{CDocument}
use Rattle.core_terms.specs.Conditions.{IsStep}
use Rattle.obligations.specs.declared.branches.Obligation.{Obligation}
use Rattle.obligations.specs.declared.certificates.Cert.{Cert}
use Rattle.fair_rounds.specs.declared.records.Record.{Record}
use Rattle.safety_rules.specs.from_rules_table.Conclusion.{Conclusion}
use Rattle.safety_rules.specs.from_rules_table.Table.{needs}
use Rattle.safety_rules.specs.from_rules_table.Walk.{Around, has_defined, program_of, rule_of}
use Rattle.safety_rules.specs.declared.places.Derived.{Derived}
use Rattle.safety_rules.specs.declared.places.RuleError.{RuleError}
use Rattle.safety_rules.specs.Answers.{RuleAnswers, derived_of}
use Rattle.proof_plans.specs.declared.plans.Plan.{Plan}
use Rattle.proof_plans.specs.Reaching.{Stop, Reach, further, by_row, step_reach, steps_reach, end_reach, proof_reach}
use Rattle.proof_plans.specs.Reaching.{proofs_reach, reach_of, reached}
use Rattle.proof_plans.specs.Shown.{ShownAt, AreShown}
use Rattle.rules_steps.specs.Using.{BookFits}
use Rattle.rules_steps.specs.Starts.{document_seen}
use Rattle.proof_plans.specs.Verdicts.{then_by, or_rule_fault, rule_fault, failing, failing_node}
use Rattle.proof_plans.specs.Verdicts.{most_levels, or_refutation_fault, refuted_by, grown, taken, step_verdict}
use Rattle.proof_plans.specs.Verdicts.{steps_verdict}
use Rattle.proof_plans.specs.Verdicts.{end_verdict, proof_verdict, proofs_verdict, no_plan, verdict_of}
use Rattle.proof_plans.proofs.Equations.{refuted-none, refuted-more, taken-is, step-is, steps-none, steps-more}
use Rattle.proof_plans.proofs.Equations.{proofs-none, proofs-more}
use Rattle.rules_steps.proofs.ItemLaws.{drop_at, drop_end}
use Rattle.proof_plans.proofs.LoopLaws.{went, verdict_is}
use Rattle.proof_plans.proofs.BookLaws.{book_join}
use Rattle.rules_steps.proofs.StepLaws.{answered, failed, good_step}

-- equations

pub reach-is : (seen : Around) (c : CProgram) (s : CStep) (plan : Plan) → step_reach seen c s plan ≡
    by_row seen.slots c.name s.name plan (rule_of seen c s plan.records)
unfolding step_reach
reach-is seen c s plan = refl

pub reaches-none : (seen : Around) (c : CProgram) (plan : Plan) → steps_reach seen c [] plan ≡ Ok plan
unfolding steps_reach
reaches-none seen c plan = refl

pub reaches-more : (seen : Around) (c : CProgram) (s : CStep) (rest : List CStep) (plan : Plan) →
    steps_reach seen c (s ∷ rest) plan ≡ further (step_reach seen c s plan) (steps_reach seen c rest)
unfolding steps_reach
reaches-more seen c s rest plan = refl

pub proofs_reach-none : (seen : Around) (plan : Plan) →
    proofs_reach seen [] plan ≡ Ok plan
unfolding proofs_reach
proofs_reach-none seen plan = refl

pub proofs_reach-more : (seen : Around) (proof : CProof) (rest : List CProof)
    (plan : Plan) → proofs_reach seen (proof ∷ rest) plan ≡
    further (proof_reach seen (program_of seen.programs proof.program) proof plan) (proofs_reach seen rest)
unfolding proofs_reach
proofs_reach-more seen proof rest plan = refl

-- a part's answer, and what follows it
further_so : (r : Reach) (f : Plan → Reach) (new : Plan) → further r f ≡ Ok new →
    (mid : Plan) × (r ≡ Ok mid) × (f mid ≡ Ok new)
further_so (Ok mid) f new e = (mid, refl, e)
further_so (Err stop) f new e = cc

pub reach_went : (r : Reach) (mid : Plan) (f : Plan → Reach) → r ≡ Ok mid → further r f ≡ f mid
reach_went r mid f e = ap (λ x. further x f) e

pub reach_stopped : (r : Reach) (stop : Stop) (f : Plan → Reach) → r ≡ Err stop → further r f ≡ Err stop
reach_stopped r stop f e = ap (λ x. further x f) e

reached_is : (r : Reach) (plan : Plan) → r ≡ Ok plan → reached r ≡ plan
reached_is r plan e = ap reached e

-- the items of a list, one by one

pub reach_steps_at : (seen : Around) (c : CProgram) (steps : List CStep) (i : ℕ) (s : CStep) (plan : Plan) →
    i < length steps → s ≡ slice_index_or steps i s → steps_reach seen c (drop i steps) plan ≡
    further (step_reach seen c s plan) (steps_reach seen c (drop (i + 1) steps))
reach_steps_at seen c steps i s plan h e =
    ap (λ (ss : List CStep). steps_reach seen c ss plan) (drop_at steps i s h e)
    ∙ reaches-more seen c s (drop (i + 1) steps) plan

pub reach_steps_end : (seen : Around) (c : CProgram) (steps : List CStep) (i : ℕ) (plan : Plan) →
    length steps ≤ i → steps_reach seen c (drop i steps) plan ≡ Ok plan
reach_steps_end seen c steps i plan h =
    ap (λ (ss : List CStep). steps_reach seen c ss plan) (drop_end steps i h) ∙ reaches-none seen c plan

pub reach_proofs_at : (seen : Around) (proofs : List CProof) (i : ℕ) (p : CProof)
    (plan : Plan) → i < length proofs → p ≡ slice_index_or proofs i p →
    proofs_reach seen (drop i proofs) plan ≡
    further (proof_reach seen (program_of seen.programs p.program) p plan)
    (proofs_reach seen (drop (i + 1) proofs))
reach_proofs_at seen proofs i p plan h e =
    ap (λ (ps : List CProof). proofs_reach seen ps plan) (drop_at proofs i p h e)
    ∙ proofs_reach-more seen p (drop (i + 1) proofs) plan

pub reach_proofs_end : (seen : Around) (proofs : List CProof) (i : ℕ) (plan : Plan) →
    length proofs ≤ i → proofs_reach seen (drop i proofs) plan ≡ Ok plan
reach_proofs_end seen proofs i plan h =
    ap (λ (ps : List CProof). proofs_reach seen ps plan) (drop_end proofs i h)
    ∙ proofs_reach-none seen plan

-- plans only grow

abbrev Begins : {X : Type 0} → List X → List X → Type 0
Begins {X} xs ys = (more : List X) × (ys ≡ xs ++ more)

pub no_more : {X : Type 0} (xs : List X) → xs ≡ xs ++ []
no_more [] = refl
no_more (x ∷ xs) = ap (λ ys. x ∷ ys) (no_more xs)

begins_on : {X : Type 0} (xs ys zs : List X) → Begins xs ys → Begins ys zs → Begins xs zs
begins_on xs ys zs h k = (
  h.0 ++ k.0,
  k.1 ∙ ap (λ ws. ws ++ k.0) h.1 ∙ append_assoc xs h.0 k.0,
)

pub record Extends (p q : Plan) : Type 0 where
  pub records : (more : List Record) × (q.records ≡ p.records ++ more)
  pub obligations : (more : List Obligation) × (q.obligations ≡ p.obligations ++ more)
  pub owner : (more : List ℕ) × (q.owner ≡ p.owner ++ more)

pub extends_self : (p : Plan) → Extends p p
extends_self p = record {
  records = ([], no_more p.records);
  obligations = ([], no_more p.obligations);
  owner = ([], no_more p.owner);
}

extends_on : (p q r : Plan) → Extends p q → Extends q r → Extends p r
extends_on p q r h k = record {
  records = begins_on p.records q.records r.records h.records k.records;
  obligations = begins_on p.obligations q.obligations r.obligations h.obligations k.obligations;
  owner = begins_on p.owner q.owner r.owner h.owner k.owner;
}

pub grown_extends : (plan : Plan) (d : Derived) → Extends plan (grown plan d)
grown_extends plan d = record {
  records = (d.made ∷ [], refl);
  obligations = (d.obligations, refl);
  owner = (map (λ (o : Obligation). length plan.records) d.obligations, refl);
}

further_extends : (plan : Plan) (one : Reach) (f : Plan → Reach) → Extends plan (reached one) →
    ((q : Plan) → Extends q (reached (f q))) → Extends plan (reached (further one f))
further_extends plan (Ok q) f h k = extends_on plan q (reached (f q)) h (k q)
further_extends plan (Err stop) f h k = h

row_extends : (slots : List CSlot) (program step : ℕ) (plan : Plan) (r : Result Conclusion Code) →
    Extends plan (reached (by_row slots program step plan r))
row_extends slots program step plan (Ok x) = grown_extends plan (derived_of slots x)
row_extends slots program step plan (Err code) = extends_self plan

step_extends : (seen : Around) (c : CProgram) (s : CStep) (plan : Plan) →
    Extends plan (reached (step_reach seen c s plan))
step_extends seen c s plan =
    subst (λ r. Extends plan (reached r)) (sym (reach-is seen c s plan))
    (row_extends seen.slots c.name s.name plan (rule_of seen c s plan.records))

pub steps_extend : (seen : Around) (c : CProgram) (steps : List CStep) (plan : Plan) →
    Extends plan (reached (steps_reach seen c steps plan))
steps_extend seen c [] plan =
    subst (λ r. Extends plan (reached r)) (sym (reaches-none seen c plan)) (extends_self plan)
steps_extend seen c (s ∷ rest) plan =
    subst (λ r. Extends plan (reached r)) (sym (reaches-more seen c s rest plan))
    (further_extends plan (step_reach seen c s plan) (steps_reach seen c rest) (step_extends seen c s plan)
    (steps_extend seen c rest))

abbrev pub ended : Bool → CProgram → Plan → Reach
ended b c plan =
    cond b (Ok plan) (Err (record { plan = plan; fault = rule_fault c.name None Code.DefinedMissing }))

pub end_extends : (c : CProgram) (plan : Plan) → Extends plan (reached (end_reach c plan))
end_extends c plan = chosen (has_defined c.name plan.records)
  where
    chosen : (b : Bool) → Extends plan (reached (ended b c plan))
    chosen true = extends_self plan
    chosen false = extends_self plan

proof_extends : (seen : Around) (found : Option CProgram) (proof : CProof) (plan : Plan) →
    Extends plan (reached (proof_reach seen found proof plan))
proof_extends seen None proof plan = extends_self plan
proof_extends seen (Some c) proof plan =
    further_extends plan (steps_reach seen c proof.steps plan) (end_reach c)
    (steps_extend seen c proof.steps plan) (end_extends c)

pub proofs_extend : (seen : Around) (proofs : List CProof) (plan : Plan) →
    Extends plan (reached (proofs_reach seen proofs plan))
proofs_extend seen [] plan =
    subst (λ r. Extends plan (reached r)) (sym (proofs_reach-none seen plan)) (extends_self plan)
proofs_extend seen (proof ∷ rest) plan =
    subst (λ r. Extends plan (reached r)) (sym (proofs_reach-more seen proof rest plan))
    (further_extends plan (proof_reach seen (program_of seen.programs proof.program) proof plan)
    (proofs_reach seen rest) (proof_extends seen (program_of seen.programs proof.program) proof plan)
    (proofs_extend seen rest))

-- the records of a plan

one_longer : {X : Type 0} (xs : List X) (x : X) → length (xs ++ x ∷ []) ≡ length xs + 1
one_longer [] x = refl
one_longer (y ∷ xs) x = let e = one_longer xs x in omega (arith, e)

row_so : (slots : List CSlot) (program step : ℕ) (plan new : Plan) (r : Result Conclusion Code) →
    by_row slots program step plan r ≡ Ok new → (x : Conclusion) × (r ≡ Ok x) × (new ≡ grown plan (derived_of slots x))
row_so slots program step plan new (Ok x) e = (x, refl, cc)
row_so slots program step plan new (Err code) e = cc

pub step_grown : (seen : Around) (c : CProgram) (s : CStep) (plan new : Plan) →
    step_reach seen c s plan ≡ Ok new → (x : Conclusion) × (rule_of seen c s plan.records ≡ Ok x)
    × (new ≡ grown plan (derived_of seen.slots x))
step_grown seen c s plan new e =
    row_so seen.slots c.name s.name plan new (rule_of seen c s plan.records)
    (sym (reach-is seen c s plan) ∙ e)

pub reach_grows : (seen : Around) (c : CProgram) (s : CStep) (plan new : Plan) →
    step_reach seen c s plan ≡ Ok new → length new.records ≡ length plan.records + 1
reach_grows seen c s plan new e =
    let g = step_grown seen c s plan new e in
    ap (λ (p : Plan). length p.records) g.2 ∙ one_longer plan.records g.0.made

pub reach_fits : (seen : Around) (c : CProgram) (s : CStep) (plan new : Plan) → IsStep seen.slots s →
    BookFits seen.slots plan.records → step_reach seen c s plan ≡ Ok new →
    BookFits seen.slots new.records
reach_fits seen c s plan new good fits e =
    let g = step_grown seen c s plan new e in
    subst (λ (p : Plan). BookFits seen.slots p.records) (sym g.2)
    (book_join seen.slots plan.records g.0.made fits (good_step seen c s plan.records good fits g.0 g.1).1)

steps_reach_fit : (seen : Around) (c : CProgram) (steps : List CStep) (plan new : Plan) →
    All (IsStep seen.slots) steps → BookFits seen.slots plan.records →
    steps_reach seen c steps plan ≡ Ok new →
    BookFits seen.slots new.records × (length new.records ≡ length plan.records + length steps)
steps_reach_fit seen c [] plan new good fits e =
    let same : plan ≡ new = cc (sym (reaches-none seen c plan) ∙ e) in
    let count = ap (λ (p : Plan). length p.records) (sym same) in
    (subst (λ (p : Plan). BookFits seen.slots p.records) same fits, omega (arith, count))
steps_reach_fit seen c (s ∷ rest) plan new good fits e =
    let parts = further_so (step_reach seen c s plan) (steps_reach seen c rest) new
    (sym (reaches-more seen c s rest plan) ∙ e) in
    let one = reach_grows seen c s plan parts.0 parts.1 in
    let more = steps_reach_fit seen c rest parts.0 new (All-tail (IsStep seen.slots) s rest good)
    (reach_fits seen c s plan parts.0 (All-head (IsStep seen.slots) s rest good) fits parts.1) parts.2 in
    let count = more.1 in
    (more.0, omega (arith, one, count))

end_same : (c : CProgram) (plan new : Plan) (b : Bool) → ended b c plan ≡ Ok new → (b ≡ true) × (plan ≡ new)
end_same c plan new true e = (refl, cc)
end_same c plan new false e = cc

pub proof_reach_fits : (seen : Around) (named : Option CProgram) (proof : CProof) (plan new : Plan) →
    All (IsStep seen.slots) proof.steps → BookFits seen.slots plan.records →
    proof_reach seen named proof plan ≡ Ok new →
    BookFits seen.slots new.records × (length new.records ≤ length plan.records + length proof.steps)
proof_reach_fits seen None proof plan new good fits e =
    let same : plan ≡ new = cc in
    let count = ap (λ (p : Plan). length p.records) (sym same) in
    (subst (λ (p : Plan). BookFits seen.slots p.records) same fits, omega (arith, count))
proof_reach_fits seen (Some c) proof plan new good fits e =
    let parts = further_so (steps_reach seen c proof.steps plan) (end_reach c) new e in
    let kept = end_same c parts.0 new (has_defined c.name parts.0.records) parts.2 in
    let all = steps_reach_fit seen c proof.steps plan parts.0 good fits parts.1 in
    let count = all.1 in
    let same = ap (λ (p : Plan). length p.records) (sym kept.1) in
    (subst (λ (p : Plan). BookFits seen.slots p.records) kept.1 all.0, omega (arith, count, same))

-- obligations that certificates refute

pub shown_join : (levels : ℕ) (certs : List Cert) (n : ℕ) (os ps : List Obligation) → AreShown levels certs n os →
    AreShown levels certs (n + length os) ps → AreShown levels certs n (os ++ ps)
shown_join levels certs n [] ps h k = subst (λ m. AreShown levels certs m ps) (none n) k
  where
    none : (n : ℕ) → n + 0 ≡ n
    none n = omega arith
shown_join levels certs n (o ∷ os) ps h k = (
  h.0,
  shown_join levels certs (suc n) os ps h.1 (subst (λ m. AreShown levels certs m ps) (one n (length os)) k),
)
  where
    one : (n m : ℕ) → n + suc m ≡ suc n + m
    one n m = omega arith

shown_split : (levels : ℕ) (certs : List Cert) (n : ℕ) (os ps : List Obligation) → AreShown levels certs n (os ++ ps) →
    AreShown levels certs n os × AreShown levels certs (n + length os) ps
shown_split levels certs n [] ps h = (tt, subst (λ m. AreShown levels certs m ps) (none n) h)
  where
    none : (n : ℕ) → n ≡ n + 0
    none n = omega arith
shown_split levels certs n (o ∷ os) ps h =
    let rest = shown_split levels certs (suc n) os ps h.1 in
    ((h.0, rest.0), subst (λ m. AreShown levels certs m ps) (one n (length os)) rest.1)
  where
    one : (n m : ℕ) → suc n + m ≡ n + suc m
    one n m = omega arith

module _ (certs : List Cert) where
  one_passes : (levels : ℕ) (o : Obligation) (number : ℕ) → ShownAt levels certs number o →
      failing levels o (slice_get certs number) ≡ None
  one_passes levels o number h = ap (failing levels o) h.1 ∙ ap failing_node h.2

  all_pass : (levels program step number : ℕ) (os : List Obligation) → AreShown levels certs number os →
      refuted_by levels certs program step number os ≡ Ok tt
  all_pass levels program step number [] h = refuted-none levels certs program step number
  all_pass levels program step number (o ∷ os) h =
      refuted-more levels certs program step number o os
      ∙ ap (λ (r : Option Code). then_by (or_refutation_fault program step number r) (λ done.
      refuted_by levels certs program step (suc number) os)) (one_passes levels o number h.0)
      ∙ all_pass levels program step (suc number) os h.1

  before_shown : (levels : ℕ) (p q : Plan) → Extends p q → AreShown levels certs 0 q.obligations →
      AreShown levels certs 0 p.obligations
  before_shown levels p q h all =
      (shown_split levels certs 0 p.obligations h.obligations.0
      (subst (λ os. AreShown levels certs 0 os) h.obligations.1 all)).0

  step_accepted : (levels program step : ℕ) (plan : Plan) (d : Derived) →
      AreShown levels certs 0 (grown plan d).obligations →
      taken levels certs program step plan d ≡ Ok (grown plan d)
  step_accepted levels program step plan d h =
      taken-is levels certs program step plan d
      ∙ ap (λ r. then_by r (λ (done : Unit {0}). Ok (grown plan d)))
      (all_pass levels program step (length plan.obligations) d.obligations
      (subst (λ n. AreShown levels certs n d.obligations) (zero_more (length plan.obligations))
      (shown_split levels certs 0 plan.obligations d.obligations h).1))
    where
      zero_more : (n : ℕ) → 0 + n ≡ n
      zero_more n = omega arith

  row_accepted : (seen : Around) (program step : ℕ) (plan new : Plan) (r : Result Conclusion Code) →
      by_row seen.slots program step plan r ≡ Ok new → AreShown (most_levels seen.version) certs 0 new.obligations →
      then_by (or_rule_fault program (Some step) r) (λ x. taken (most_levels seen.version) certs program step plan
      (derived_of seen.slots x)) ≡ Ok new
  row_accepted seen program step plan new (Ok x) e h =
      let same : grown plan (derived_of seen.slots x) ≡ new = cc in
      step_accepted (most_levels seen.version) program step plan (derived_of seen.slots x)
      (subst (λ (p : Plan). AreShown (most_levels seen.version) certs 0 p.obligations) (sym same) h)
      ∙ ap (λ p. Ok p) same
  row_accepted seen program step plan new (Err code) e h = cc

  steps_accepted : (seen : Around) (c : CProgram) (steps : List CStep) (plan new : Plan) →
      steps_reach seen c steps plan ≡ Ok new → AreShown (most_levels seen.version) certs 0 new.obligations →
      steps_verdict seen certs c steps plan ≡ Ok new
  steps_accepted seen c [] plan new e h =
      let same : plan ≡ new = cc (sym (reaches-none seen c plan) ∙ e) in
      steps-none seen certs c plan ∙ ap (λ p. Ok p) same
  steps_accepted seen c (s ∷ rest) plan new e h =
      let parts = further_so (step_reach seen c s plan) (steps_reach seen c rest) new
      (sym (reaches-more seen c s rest plan) ∙ e) in
      let grows : Extends parts.0 new =
      subst (λ (p : Plan). Extends parts.0 p) (reached_is (steps_reach seen c rest parts.0) new parts.2)
      (steps_extend seen c rest parts.0) in
      steps-more seen certs c s rest plan
      ∙ went (step_verdict seen certs c s plan) parts.0 (steps_verdict seen certs c rest)
      (step-is seen certs c s plan
      ∙ row_accepted seen c.name s.name plan parts.0 (rule_of seen c s plan.records)
      (sym (reach-is seen c s plan) ∙ parts.1) (before_shown (most_levels seen.version) parts.0 new grows h))
      ∙ steps_accepted seen c rest parts.0 new parts.2 h

  end_accepted : (c : CProgram) (plan new : Plan) → end_reach c plan ≡ Ok new → end_verdict c plan ≡ Ok new
  end_accepted c plan new e =
      let both = end_same c plan new (has_defined c.name plan.records) e in
      ap (λ (b : Bool). or_rule_fault c.name None (needs b Code.DefinedMissing (Ok plan))) both.0
      ∙ ap (λ p. Ok p) both.1

  proof_accepted : (seen : Around) (found : Option CProgram) (proof : CProof) (plan new : Plan) →
      proof_reach seen found proof plan ≡ Ok new → AreShown (most_levels seen.version) certs 0 new.obligations →
      proof_verdict seen certs found proof plan ≡ Ok new
  proof_accepted seen None proof plan new e h = cc
  proof_accepted seen (Some c) proof plan new e h =
      let parts = further_so (steps_reach seen c proof.steps plan) (end_reach c) new e in
      let same = (end_same c parts.0 new (has_defined c.name parts.0.records) parts.2).1 in
      went (steps_verdict seen certs c proof.steps plan) parts.0 (end_verdict c)
      (steps_accepted seen c proof.steps plan parts.0 parts.1
      (subst (λ (p : Plan). AreShown (most_levels seen.version) certs 0 p.obligations) (sym same) h))
      ∙ end_accepted c parts.0 new parts.2

  proofs_accepted : (seen : Around) (proofs : List CProof) (plan new : Plan) →
      proofs_reach seen proofs plan ≡ Ok new → AreShown (most_levels seen.version) certs 0 new.obligations →
      proofs_verdict seen certs proofs plan ≡ Ok new
  proofs_accepted seen [] plan new e h =
      let same : plan ≡ new = cc (sym (proofs_reach-none seen plan) ∙ e) in
      proofs-none seen certs plan ∙ ap (λ p. Ok p) same
  proofs_accepted seen (proof ∷ rest) plan new e h =
      let found : Option CProgram = program_of seen.programs proof.program in
      let parts = further_so (proof_reach seen found proof plan) (proofs_reach seen rest) new
      (sym (proofs_reach-more seen proof rest plan) ∙ e) in
      let grows : Extends parts.0 new =
      subst (λ (p : Plan). Extends parts.0 p) (reached_is (proofs_reach seen rest parts.0) new parts.2)
      (proofs_extend seen rest parts.0) in
      proofs-more seen certs proof rest plan
      ∙ went (proof_verdict seen certs found proof plan) parts.0 (proofs_verdict seen certs rest)
      (proof_accepted seen found proof plan parts.0 parts.1 (before_shown
      (most_levels seen.version) parts.0 new grows h))
      ∙ proofs_accepted seen rest parts.0 new parts.2 h

-- a document is accepted with one certificate for each obligation
pub accepted : (d : CDocument) (certs : List Cert) (plan : Plan) → reach_of d ≡ Ok plan →
    AreShown (most_levels d.version) certs 0 plan.obligations → length certs ≤ length plan.obligations →
    verdict_of d certs ≡ Ok plan
accepted d certs plan e h few =
    verdict_is d certs plan (proofs_accepted certs (document_seen d) d.proofs no_plan plan e h) few

-- what a call's answer says of a step

pub reach_taken : (seen : Around) (c : CProgram) (s : CStep) (plan : Plan) (d : Derived) →
    RuleAnswers (Ok d) seen.slots (rule_of seen c s plan.records) →
    step_reach seen c s plan ≡ Ok (grown plan d)
reach_taken seen c s plan d h =
    let x = answered d seen.slots (rule_of seen c s plan.records) h in
    reach-is seen c s plan ∙ ap (λ r. by_row seen.slots c.name s.name plan r) x.1
    ∙ ap (λ (y : Derived). Ok (grown plan y)) (sym x.2)

pub reach_fails : (seen : Around) (c : CProgram) (s : CStep) (plan : Plan) (code : Code) →
    RuleAnswers (Err (RuleError.Fault code)) seen.slots (rule_of seen c s plan.records) →
    step_reach seen c s plan ≡
    Err (record { plan = plan; fault = rule_fault c.name (Some s.name) code })
reach_fails seen c s plan code h =
    reach-is seen c s plan
    ∙ ap (λ r. by_row seen.slots c.name s.name plan r)
    (failed code seen.slots (rule_of seen c s plan.records) h)

-- a proof's end

pub proof_done : (seen : Around) (c : CProgram) (proof : CProof) (first plan : Plan) →
    steps_reach seen c proof.steps first ≡ Ok plan → has_defined c.name plan.records ≡ true →
    proof_reach seen (Some c) proof first ≡ Ok plan
proof_done seen c proof first plan e h =
    reach_went (steps_reach seen c proof.steps first) plan (end_reach c) e ∙ ap (λ (b : Bool). ended b c plan) h

pub proof_undone : (seen : Around) (c : CProgram) (proof : CProof) (first plan : Plan) →
    steps_reach seen c proof.steps first ≡ Ok plan → has_defined c.name plan.records ≡ false →
    proof_reach seen (Some c) proof first ≡
    Err (record { plan = plan; fault = rule_fault c.name None Code.DefinedMissing })
proof_undone seen c proof first plan e h =
    reach_went (steps_reach seen c proof.steps first) plan (end_reach c) e ∙ ap (λ (b : Bool). ended b c plan) h
