-- Along the steps of a document without quotients no obligation has one.
use Rattle.std.proofs.Common.{◌≡◌, nat_eq, Bool, true, false, ◌&&◌, ◌||◌, List, [], ◌∷◌, Option, Some, None}
use Rattle.std.proofs.Common.{Result, Ok, Err, refl, sym, ◌∙◌, subst, ℕ}
use Rattle.std.specs.Prelude.{All}
use Rattle.case_tables.specs.declared.code_table.Code.{Code}
use Rattle.core_terms.specs.declared.trees.CForm.{CForm}
use Rattle.core_terms.specs.declared.programs.CSlot.{CSlot}
use Rattle.core_terms.specs.declared.programs.CProgram.{CProgram}
use Rattle.core_terms.specs.declared.documents.Ref.{Ref}
use Rattle.core_terms.specs.declared.documents.CStep.{CStep}
use Rattle.core_terms.specs.declared.documents.CProof.{CProof}
use Rattle.fair_rounds.specs.declared.records.Record.{Record}
use Rattle.rules_table.specs.Conclusion.{Conclusion}
use Rattle.rules_table.specs.Validity.{Goal}
use Rattle.rules_table.specs.Table.{Site, needs, go_on, is_invariant}
use Rattle.rules_table.specs.Terms.{found}
use Rattle.rules_table.specs.Walk.{Around, applied, claims, has_defined, is_empty, is_first, program_of, rule_of}
use Rattle.rules_table.specs.Walk.{step_site, suits, used}
use Rattle.rules_table.proofs.EachLaws.{Each, each_at, each_join, found_in, from_all}
use Rattle.rules_table.proofs.SiteLaws.{met, went_on}
use Rattle.proof_script.specs.from_safety_rules.Answers.{obligations_of}
use Rattle.proof_script.specs.from_rules_steps.Starts.{document_seen}
use Rattle.proof_script.proofs.lemmas_from_rules_steps.ItemLaws.{to_all}
use Rattle.proof_script.specs.from_proof_plans.declared.plans.Plan.{Plan}
use Rattle.proof_script.specs.Proving.{IsWithoutQuotient}
use Rattle.proof_script.specs.from_proof_plans.Reaching.{Reach, by_row, end_reach, further, proof_reach, proofs_reach}
use Rattle.proof_script.specs.from_proof_plans.Reaching.{reach_of, reached}
use Rattle.proof_script.specs.from_proof_plans.Reaching.{step_reach, steps_reach}
use Rattle.proof_script.specs.from_proof_plans.Verdicts.{no_plan}
use Rattle.proof_script.proofs.lemmas_from_proof_plans.ReachLaws.{ended, proofs_reach-more, proofs_reach-none, reach-is}
use Rattle.proof_script.proofs.lemmas_from_proof_plans.ReachLaws.{reaches-more}
use Rattle.proof_script.proofs.lemmas_from_proof_plans.ReachLaws.{reaches-none}
use Rattle.plain_quotients.specs.Plain.{FormIsPlain, ProgramIsPlain, StepIsPlain}
use Rattle.plain_quotients.specs.Laws.{PlainLeaveNone}
use Rattle.plain_quotients.proofs.TermLaws.{RecordIsPlain, found_plain}
use Rattle.plain_quotients.proofs.RuleLaws.{ConclusionIsPlain, GivesPlain, plain_applied}

-- the invariants that a step uses
used_plain : (c : CProgram) (book : List Record) → Each RecordIsPlain book → (refs : List Ref) (fs : List CForm) →
    used c book refs ≡ Ok fs → Each FormIsPlain fs
used_plain c book all [] fs e =
    let none : [] ≡ fs = cc in
    subst (λ (gs : List CForm). Each FormIsPlain gs) none tt
used_plain c book all (r ∷ rest) fs e =
    let there = went_on (found book r) (λ (a : Record). needs (nat_eq a.program c.name) Code.OtherProgram
    (needs (is_invariant a.kind && is_empty r.args) Code.NotInvariant
    (go_on (used c book rest) (λ gs. Ok (a.p ∷ gs))))) fs e in
    let a : Record = there.0 in
    let mine = met (nat_eq a.program c.name) Code.OtherProgram
    (needs (is_invariant a.kind && is_empty r.args) Code.NotInvariant
    (go_on (used c book rest) (λ gs. Ok (a.p ∷ gs)))) fs there.2 in
    let kind = met (is_invariant a.kind && is_empty r.args) Code.NotInvariant
    (go_on (used c book rest) (λ gs. Ok (a.p ∷ gs))) fs mine.1 in
    let more = went_on (used c book rest) (λ (gs : List CForm). Ok (a.p ∷ gs)) fs kind.1 in
    let same : a.p ∷ more.0 ≡ fs = cc (more.2) in
    subst (λ (gs : List CForm). Each FormIsPlain gs) same
    ((found_plain book r a all there.1).p, used_plain c book all rest more.0 more.1)

-- a step's row

module _ (seen : Around) (c : CProgram) (s : CStep) (book : List Record) (program : ProgramIsPlain c)
    (plain : StepIsPlain s) (all : Each RecordIsPlain book) (programs : Each ProgramIsPlain seen.programs) where
  abbrev claimed : Conclusion → Result Conclusion Code
  claimed x = needs (claims s x) Code.ConclusionDiffers (Ok x)

  abbrev given : List CForm → Result Conclusion Code
  given using = needs (suits seen.version s.rule s.kind) Code.WrongKind
      (go_on (applied seen (step_site seen.slots c s using) s book s.rule) claimed)

  row_is : rule_of seen c s book ≡
      needs (is_first s.kind || has_defined c.name book) Code.DefinedMissing (go_on (used c book s.using) given)
  unfolding rule_of
  row_is = refl

  row_plain : GivesPlain (rule_of seen c s book)
  row_plain x e =
      let stands = met (is_first s.kind || has_defined c.name book) Code.DefinedMissing
      (go_on (used c book s.using) given) x (sym row_is ∙ e) in
      let u = went_on (used c book s.using) given x stands.1 in
      let site : Site = step_site seen.slots c s u.0 in
      let suited = met (suits seen.version s.rule s.kind) Code.WrongKind
      (go_on (applied seen site s book s.rule) claimed) x u.2 in
      let one = went_on (applied seen site s book s.rule) claimed x suited.1 in
      let y : Conclusion = one.0 in
      let last = met (claims s y) Code.ConclusionDiffers (Ok y) x one.2 in
      let same : y ≡ x = cc (last.1) in
      subst ConclusionIsPlain same
      (plain_applied site (used_plain c book all s.using u.0 u.1) program book all seen programs s plain.p plain.q
      s.rule
      plain.rule y one.1)

-- plans

record PlanIsPlain (p : Plan) : Type 0 where
  pub records : Each RecordIsPlain p.records
  pub obligations : Each IsWithoutQuotient p.obligations

abbrev ReachIsPlain : Reach → Type 0
ReachIsPlain r = PlanIsPlain (reached r)

obligations_plain : (slots : List CSlot) (goals : List Goal) → Each (λ (g : Goal). FormIsPlain g.form) goals →
    Each IsWithoutQuotient (obligations_of slots goals)
obligations_plain slots [] h = tt
obligations_plain slots (g ∷ goals) h = (h.0.no, obligations_plain slots goals h.1)

by_row_plain : (slots : List CSlot) (program step : ℕ) (plan : Plan) (r : Result Conclusion Code) → PlanIsPlain plan →
    GivesPlain r → ReachIsPlain (by_row slots program step plan r)
by_row_plain slots program step plan (Ok x) h gives =
    let plain : ConclusionIsPlain x = gives x refl in
    record {
      records = each_join RecordIsPlain plan.records (x.made ∷ []) h.records (plain.made, tt);
      obligations = each_join IsWithoutQuotient plan.obligations (obligations_of slots x.goals) h.obligations
          (obligations_plain slots x.goals plain.goals);
    }
by_row_plain slots program step plan (Err code) h gives = h

further_plain : (r : Reach) (f : Plan → Reach) → ReachIsPlain r → ((p : Plan) → PlanIsPlain p → ReachIsPlain (f p)) →
    ReachIsPlain (further r f)
further_plain (Ok p) f h k = k p h
further_plain (Err stop) f h k = h

steps_plain : (seen : Around) → Each ProgramIsPlain seen.programs → (c : CProgram) → ProgramIsPlain c →
    (steps : List CStep) → Each StepIsPlain steps → (plan : Plan) → PlanIsPlain plan →
    ReachIsPlain (steps_reach seen c steps plan)
steps_plain seen programs c program [] all plan h = subst ReachIsPlain (sym (reaches-none seen c plan)) h
steps_plain seen programs c program (s ∷ rest) all plan h =
    subst ReachIsPlain (sym (reaches-more seen c s rest plan))
    (further_plain (step_reach seen c s plan) (steps_reach seen c rest)
    (subst ReachIsPlain (sym (reach-is seen c s plan))
    (by_row_plain seen.slots c.name s.name plan (rule_of seen c s plan.records) h
    (row_plain seen c s plan.records program all.0 h.records programs)))
    (steps_plain seen programs c program rest all.1))

end_plain : (c : CProgram) (plan : Plan) → PlanIsPlain plan → ReachIsPlain (end_reach c plan)
end_plain c plan h = chosen (has_defined c.name plan.records)
  where
    chosen : (b : Bool) → ReachIsPlain (ended b c plan)
    chosen true = h
    chosen false = h

proof_plain : (seen : Around) → Each ProgramIsPlain seen.programs → (named : Option CProgram) →
    ((c : CProgram) → named ≡ Some c → ProgramIsPlain c) →
    (proof : CProof) → Each StepIsPlain proof.steps → (plan : Plan) → PlanIsPlain plan →
    ReachIsPlain (proof_reach seen named proof plan)
proof_plain seen programs None program proof all plan h = h
proof_plain seen programs (Some c) program proof all plan h =
    further_plain (steps_reach seen c proof.steps plan) (end_reach c)
    (steps_plain seen programs c (program c refl) proof.steps all plan h) (end_plain c)

abbrev ProofIsPlain : CProof → Type 0
ProofIsPlain p = All StepIsPlain p.steps

named_plain : (programs : List CProgram) (name : ℕ) → Each ProgramIsPlain programs → (c : CProgram) →
    program_of programs name ≡ Some c → ProgramIsPlain c
named_plain programs name all c e =
    let there = found_in (λ (d : CProgram). nat_eq d.name name) programs c e in
    each_at ProgramIsPlain programs all there.place c there.there

proofs_plain : (seen : Around) → Each ProgramIsPlain seen.programs → (proofs : List CProof) →
    Each ProofIsPlain proofs → (plan : Plan) → PlanIsPlain plan → ReachIsPlain (proofs_reach seen proofs plan)
proofs_plain seen programs [] all plan h = subst ReachIsPlain (sym (proofs_reach-none seen plan)) h
proofs_plain seen programs (proof ∷ rest) all plan h =
    subst ReachIsPlain (sym (proofs_reach-more seen proof rest plan))
    (further_plain (proof_reach seen (program_of seen.programs proof.program) proof plan) (proofs_reach seen rest)
    (proof_plain seen programs (program_of seen.programs proof.program)
    (named_plain seen.programs proof.program programs) proof (from_all StepIsPlain proof.steps all.0) plan h)
    (proofs_plain seen programs rest all.1))

pub plain_leave_none : PlainLeaveNone
plain_leave_none d plain =
    to_all IsWithoutQuotient (reached (reach_of d)).obligations
    (proofs_plain (document_seen d) (from_all ProgramIsPlain d.programs plain.programs) d.proofs
    (from_all ProofIsPlain d.proofs plain.proofs) no_plan (record { records = tt; obligations = tt })).obligations
