-- A document whose steps all go has as many origins as obligations.
use Rattle.std.proofs.Common.{◌≡◌, ℕ, ◌+◌, Bool, true, false, List, [], ◌∷◌, ◌++◌, length, length-append}
use Rattle.std.proofs.Common.{append-nil, append_assoc, Option, Some, None, Ok, Err, refl, sym, ap, ◌∙◌, subst, arith}
use Rattle.std.proofs.lemmas.List.{length-map}
use Rattle.std.specs.List.{flat_map}
use Rattle.std.specs.Option.{option_map_or}
use Rattle.core_terms.specs.declared.programs.CProgram.{CProgram}
use Rattle.core_terms.specs.declared.documents.CStep.{CStep}
use Rattle.core_terms.specs.declared.documents.CProof.{CProof}
use Rattle.fair_rounds.specs.declared.records.Record.{Record}
use Rattle.safety_rules.specs.from_rules_table.Conclusion.{Conclusion}
use Rattle.safety_rules.specs.from_rules_table.Validity.{Goal, goal_obligation}
use Rattle.safety_rules.specs.from_rules_table.Walk.{Around, has_defined, program_of}
use Rattle.safety_rules.specs.Answers.{obligations_of}
use Rattle.rules_steps.specs.Starts.{document_seen}
use Rattle.proof_plans.specs.declared.plans.Plan.{Plan}
use Rattle.proof_plans.specs.Reaching.{Reach, further, step_reach, steps_reach, end_reach, proof_reach, proofs_reach}
use Rattle.proof_plans.specs.Reaching.{reached}
use Rattle.proof_plans.specs.Verdicts.{no_plan}
use Rattle.proof_plans.proofs.ReachLaws.{Extends, ended, step_grown, steps_extend, proofs_extend, reaches-none}
use Rattle.proof_plans.proofs.ReachLaws.{reaches-more, proofs_reach-none, proofs_reach-more}
use Rattle.told_obligations.specs.Origins.{step_origins, proof_origins, document_origins}
use Rattle.told_obligations.specs.Laws.{DocumentOrigins}
use Rattle.told_obligations.proofs.OriginLaws.{later_origins}

-- the second list begins with the first
abbrev Begins : List Record → List Record → Type 0
Begins book records = (more : List Record) × (records ≡ book ++ more)

-- a step's origins, told from the records of a later plan
step_count : (seen : Around) (c : CProgram) (s : CStep) (plan new : Plan) (records : List Record) →
    Begins new.records records → step_reach seen c s plan ≡ Ok new →
    length plan.obligations + length (step_origins c records s) ≡ length new.obligations
step_count seen c s plan new records later e =
    let grew = step_grown seen c s plan new e in
    let x : Conclusion = grew.0 in
    let told : records ≡ plan.records ++ (x.made ∷ [] ++ later.0) =
    later.1 ∙ ap (λ (p : Plan). p.records ++ later.0) grew.2 ∙ append_assoc plan.records (x.made ∷ []) later.0 in
    ap (λ b. length plan.obligations + length (step_origins c b s)) told
    ∙ ap (λ n. length plan.obligations + n) (later_origins seen c s plan.records (x.made ∷ [] ++ later.0) x grew.1
    ∙ sym (length-map x.goals (λ (g : Goal). goal_obligation seen.slots g.params g.form)))
    ∙ sym (length-append plan.obligations (obligations_of seen.slots x.goals))
    ∙ ap (λ (p : Plan). length p.obligations) (sym grew.2)

-- a part's answer, and what follows it
further_so : (r : Reach) (f : Plan → Reach) (new : Plan) → further r f ≡ Ok new →
    (mid : Plan) × (r ≡ Ok mid) × (f mid ≡ Ok new)
further_so (Ok mid) f new e = (mid, refl, e)
further_so (Err stop) f new e = cc

-- records that begin with those of a plan begin with those of an earlier one
earlier : (plan new : Plan) (r : Reach) (records : List Record) → Extends plan (reached r) → r ≡ Ok new →
    Begins new.records records → Begins plan.records records
earlier plan new r records grows e later =
    let is : reached r ≡ new = ap reached e in (
      grows.records.0 ++ later.0,
      later.1 ∙ ap (λ (p : Plan). p.records ++ later.0) (sym is) ∙ ap (λ b. b ++ later.0) grows.records.1
          ∙ append_assoc plan.records grows.records.0 later.0,
    )

in_parts : (n a b m k : ℕ) → n + a ≡ m → m + b ≡ k → n + (a + b) ≡ k
in_parts n a b m k e f = omega (arith, e, f)

from_none : (n : ℕ) → 0 + n ≡ n
from_none n = omega arith

none_more : (n : ℕ) → n + 0 ≡ n
none_more n = omega arith

steps_count : (seen : Around) (c : CProgram) (steps : List CStep) (plan new : Plan) (records : List Record) →
    Begins new.records records → steps_reach seen c steps plan ≡ Ok new →
    length plan.obligations + length (flat_map (step_origins c records) steps) ≡ length new.obligations
steps_count seen c [] plan new records later e =
    let same : plan ≡ new = cc (sym (reaches-none seen c plan) ∙ e) in
    none_more (length plan.obligations) ∙ ap (λ (p : Plan). length p.obligations) same
steps_count seen c (s ∷ rest) plan new records later e =
    let parts = further_so (step_reach seen c s plan) (steps_reach seen c rest) new
    (sym (reaches-more seen c s rest plan) ∙ e) in
    let between = earlier parts.0 new (steps_reach seen c rest parts.0) records (steps_extend seen c rest parts.0)
    parts.2 later in
    let one = step_count seen c s plan parts.0 records between parts.1 in
    let others = steps_count seen c rest parts.0 new records later parts.2 in
    let both = length-append (step_origins c records s) (flat_map (step_origins c records) rest) in
    ap (λ n. length plan.obligations + n) both ∙ in_parts _ _ _ _ _ one others

ended_same : (c : CProgram) (plan new : Plan) (b : Bool) → ended b c plan ≡ Ok new → plan ≡ new
ended_same c plan new true e = cc
ended_same c plan new false e = cc

proof_count : (seen : Around) (named : Option CProgram) (proof : CProof) (plan new : Plan) (records : List Record) →
    Begins new.records records → proof_reach seen named proof plan ≡ Ok new →
    length plan.obligations
    + length (option_map_or (λ c. flat_map (step_origins c records) proof.steps) named []) ≡ length new.obligations
proof_count seen None proof plan new records later e =
    let same : plan ≡ new = cc in
    none_more (length plan.obligations) ∙ ap (λ (p : Plan). length p.obligations) same
proof_count seen (Some c) proof plan new records later e =
    let parts = further_so (steps_reach seen c proof.steps plan) (end_reach c) new e in
    let same = ended_same c parts.0 new (has_defined c.name parts.0.records) parts.2 in
    steps_count seen c proof.steps plan parts.0 records
    (subst (λ (p : Plan). Begins p.records records) (sym same) later) parts.1
    ∙ ap (λ (p : Plan). length p.obligations) same

proofs_count : (seen : Around) (proofs : List CProof) (plan new : Plan) (records : List Record) →
    Begins new.records records → proofs_reach seen proofs plan ≡ Ok new →
    length plan.obligations + length (flat_map (proof_origins seen.programs records) proofs) ≡ length new.obligations
proofs_count seen [] plan new records later e =
    let same : plan ≡ new = cc (sym (proofs_reach-none seen plan) ∙ e) in
    none_more (length plan.obligations) ∙ ap (λ (p : Plan). length p.obligations) same
proofs_count seen (proof ∷ rest) plan new records later e =
    let named : Option CProgram = program_of seen.programs proof.program in
    let parts = further_so (proof_reach seen named proof plan) (proofs_reach seen rest) new
    (sym (proofs_reach-more seen proof rest plan) ∙ e) in
    let between = earlier parts.0 new (proofs_reach seen rest parts.0) records (proofs_extend seen rest parts.0)
    parts.2 later in
    let one = proof_count seen named proof plan parts.0 records between parts.1 in
    let others = proofs_count seen rest parts.0 new records later parts.2 in
    let both = length-append (proof_origins seen.programs records proof)
    (flat_map (proof_origins seen.programs records) rest) in
    ap (λ n. length plan.obligations + n) both ∙ in_parts _ _ _ _ _ one others

pub document_count : DocumentOrigins
document_count d plan e =
    sym (from_none (length (document_origins d plan.records)))
    ∙ proofs_count (document_seen d) d.proofs no_plan plan plan.records ([], sym (append-nil plan.records)) e
