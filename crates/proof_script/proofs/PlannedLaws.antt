-- What is so of the plan of a document.
use Rattle.std.proofs.Common.{◌≡◌, ℕ, zero, suc, ◌<◌, Bool, true, false, cond, List, [], ◌∷◌, ◌++◌, map, length}
use Rattle.std.proofs.Common.{Option, Some, None, Result, Ok, Err, refl, sym, ap, ◌∙◌, subst, arith, slice_get}
use Rattle.std.proofs.Common.{length-append}
use Rattle.std.specs.Prelude.{All}
use Rattle.std.proofs.lemmas.List.{length-map}
use Rattle.std.proofs.lemmas.List.Elements.{All-head, All-tail}
use Rattle.case_tables.specs.declared.code_table.Code.{Code}
use Rattle.core_terms.specs.declared.programs.CSlot.{CSlot}
use Rattle.core_terms.specs.declared.programs.CProgram.{CProgram}
use Rattle.core_terms.specs.declared.documents.CStep.{CStep}
use Rattle.core_terms.specs.declared.documents.CProof.{CProof}
use Rattle.core_terms.specs.declared.documents.CDocument.{CDocument}
use Rattle.core_terms.specs.Conditions.{IsCoreDocument, IsProgram, IsProof, IsSlot, IsStep}
use Rattle.obligations.specs.declared.branches.Obligation.{Obligation}
use Rattle.obligations.specs.Obligations.{IsObligation}
use Rattle.proof_plans.specs.from_rules_table.Conclusion.{Conclusion}
use Rattle.proof_plans.specs.from_rules_table.Walk.{Around, has_defined, program_of, rule_of}
use Rattle.proof_plans.proofs.lemmas_from_rules_table.EachLaws.{Each, each_at, each_join, each_map}
use Rattle.proof_plans.specs.from_safety_rules.declared.places.Derived.{Derived}
use Rattle.proof_plans.specs.from_safety_rules.Answers.{derived_of}
use Rattle.proof_plans.specs.from_rules_steps.Starts.{document_seen}
use Rattle.proof_plans.specs.from_rules_steps.Using.{BookFits}
use Rattle.proof_plans.proofs.lemmas_from_rules_steps.GoalLaws.{told_step}
use Rattle.proof_plans.proofs.lemmas_from_rules_steps.ItemLaws.{to_all}
use Rattle.proof_plans.specs.declared.plans.Plan.{Plan}
use Rattle.proof_plans.specs.Reaching.{Reach, further, by_row, steps_reach, end_reach, proof_reach}
use Rattle.proof_plans.specs.Reaching.{proofs_reach, reach_of, reached}
use Rattle.proof_plans.specs.Verdicts.{grown, no_plan, rule_fault}
use Rattle.proof_plans.proofs.LoopLaws.{named_program}
use Rattle.proof_plans.proofs.ReachLaws.{reach-is, reaches-none, reaches-more, proofs_reach-none, proofs_reach-more}
use Rattle.proof_plans.proofs.ReachLaws.{reach_fits}
use Rattle.proof_script.specs.Owning.{IsOwned}

got-at : {X : Type 0} (xs : List X) (k : ℕ) → k < length xs → (x : X) × (slice_get xs k ≡ Some x)
got-at [] k h = absurd (omega arith)
got-at (x ∷ xs) zero h = (x, refl)
got-at (x ∷ xs) (suc k) h = got-at xs k (omega (arith, h))

-- each owner has the place of a record
abbrev ArePlaces : ℕ → List ℕ → Type 0
ArePlaces n ws = Each (λ (w : ℕ). w < n) ws

places-of : (os : List Obligation) (w n : ℕ) → w < n → ArePlaces n (map (λ (o : Obligation). w) os)
places-of [] w n h = tt
places-of (o ∷ os) w n h = (h, places-of os w n h)

-- what is so of a plan
record Along (slots : List CSlot) (plan : Plan) : Type 0 where
  fits : BookFits slots plan.records
  made : Each IsObligation plan.obligations
  owned : length plan.owner ≡ length plan.obligations
  places : ArePlaces (length plan.records) plan.owner

module _ (seen : Around) (all : All IsSlot seen.slots) (programs : All (IsProgram seen.slots) seen.programs) where
  abbrev slots : List CSlot
  slots = seen.slots

  -- how far steps go
  abbrev Goes : Reach → Type 0
  Goes r = Along slots (reached r)

  -- what follows a part
  goes-then : (r : Reach) (f : Plan → Reach) → Goes r → ((mid : Plan) → Along slots mid → Goes (f mid)) →
      Goes (further r f)
  goes-then (Ok mid) f one more = more mid one
  goes-then (Err stop) f one more = one

  -- a step
  grown-along : (c : CProgram) (s : CStep) (plan : Plan) (x : Conclusion) → IsProgram slots c → IsStep slots s →
      Along slots plan → rule_of seen c s plan.records ≡ Ok x → Along slots (grown plan (derived_of slots x))
  grown-along c s plan x program good a ruled =
      let d : Derived = derived_of slots x in
      let told = told_step seen c s plan.records all programs program good a.fits x ruled in
      let w = length plan.records in
      let rs = length-append plan.records (d.made ∷ []) in
      let os = length-append plan.obligations d.obligations in
      let ws = length-append plan.owner (map (λ (o : Obligation). w) d.obligations) in
      let k = length-map d.obligations (λ (o : Obligation). w) in
      let owned = a.owned in
      let longer : w < length (plan.records ++ d.made ∷ []) = omega (arith, rs) in record {
        fits = reach_fits seen c s plan (grown plan d) good a.fits
            (reach-is seen c s plan ∙ ap (by_row slots c.name s.name plan) ruled);
        made = each_join IsObligation plan.obligations d.obligations a.made told.obligations;
        owned = omega (arith, os, ws, k, owned);
        places = each_join (λ (v : ℕ). v < length (plan.records ++ d.made ∷ [])) plan.owner
            (map (λ (o : Obligation). w) d.obligations)
            (each_map (λ (v : ℕ). v < w) (λ (v : ℕ). v < length (plan.records ++ d.made ∷ [])) plan.owner
            (λ v h. omega (arith, h, longer)) a.places)
            (places-of d.obligations w (length (plan.records ++ d.made ∷ [])) longer);
      }

  -- steps
  steps-go : (c : CProgram) (steps : List CStep) (plan : Plan) → IsProgram slots c → All (IsStep slots) steps →
      Along slots plan → Goes (steps_reach seen c steps plan)
  steps-go c [] plan program good a = subst Goes (sym (reaches-none seen c plan)) a
  steps-go c (s ∷ rest) plan program good a =
      subst Goes (sym (reaches-more seen c s rest plan
      ∙ ap (λ r. further r (steps_reach seen c rest)) (reach-is seen c s plan)))
      (by_rule (rule_of seen c s plan.records) refl (λ x e.
      steps-go c rest (grown plan (derived_of slots x)) program (All-tail (IsStep slots) s rest good)
      (grown-along c s plan x program (All-head (IsStep slots) s rest good) a e)))
    where
      by_rule : (y : Result Conclusion Code) → rule_of seen c s plan.records ≡ y →
          ((x : Conclusion) → rule_of seen c s plan.records ≡ Ok x →
          Goes (steps_reach seen c rest (grown plan (derived_of slots x)))) →
          Goes (further (by_row slots c.name s.name plan y) (steps_reach seen c rest))
      by_rule (Err code) e more = a
      by_rule (Ok x) e more = more x e

  -- a proof's end
  end-goes : (c : CProgram) (plan : Plan) → Along slots plan → Goes (end_reach c plan)
  end-goes c plan a = by_test (has_defined c.name plan.records)
    where
      by_test : (b : Bool) → Goes (cond b (Ok plan)
          (Err (record { plan = plan; fault = rule_fault c.name None Code.DefinedMissing })))
      by_test true = a
      by_test false = a

  proof-goes : (found : Option CProgram) (proof : CProof) (plan : Plan) →
      ((c : CProgram) → found ≡ Some c → IsProgram slots c) → All (IsStep slots) proof.steps →
      Along slots plan → Goes (proof_reach seen found proof plan)
  proof-goes None proof plan program good a = a
  proof-goes (Some c) proof plan program good a =
      goes-then (steps_reach seen c proof.steps plan) (end_reach c)
      (steps-go c proof.steps plan (program c refl) good a) (λ mid b. end-goes c mid b)

  proofs-go : (proofs : List CProof) (plan : Plan) → All (IsProof slots seen.programs) proofs → Along slots plan →
      Goes (proofs_reach seen proofs plan)
  proofs-go [] plan good a = subst Goes (sym (proofs_reach-none seen plan)) a
  proofs-go (proof ∷ rest) plan good a =
      let found = program_of seen.programs proof.program in
      subst Goes (sym (proofs_reach-more seen proof rest plan))
      (goes-then (proof_reach seen found proof plan) (proofs_reach seen rest)
      (proof-goes found proof plan (λ c e. named_program slots seen.programs proof.program c programs e)
      (All-head (IsProof slots seen.programs) proof rest good).steps a)
      (λ mid b. proofs-go rest mid (All-tail (IsProof slots seen.programs) proof rest good) b))

along : (d : CDocument) → IsCoreDocument d → Along d.slots (reached (reach_of d))
along d good = proofs-go (document_seen d) good.slots good.programs d.proofs no_plan good.proofs
    (record { fits = tt; made = tt; owned = refl; places = tt })

pub makeable_of : (d : CDocument) → IsCoreDocument d → All IsObligation (reached (reach_of d)).obligations
makeable_of d good = to_all IsObligation (reached (reach_of d)).obligations (along d good).made

pub owned_of : (d : CDocument) → IsCoreDocument d → (place : ℕ) → place < length (reached (reach_of d)).obligations →
    IsOwned (reached (reach_of d)) place
owned_of d good place h =
    let a = along d good in
    let plan = reached (reach_of d) in
    let w = got-at plan.owner place (let owned = a.owned in omega (arith, owned, h)) in
    let r = got-at plan.records w.0
    (each_at (λ (v : ℕ). v < length plan.records) plan.owner a.places place w.0 w.1) in
    (r.0, record { place = w.0; owner = w.1; record_is = r.1 })
