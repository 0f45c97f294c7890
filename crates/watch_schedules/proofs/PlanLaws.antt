-- What the steps of a plan are for a watch: they fit, one of them is `defined`, and a violated one is among them.
use Rattle.std.proofs.Common.{◌≡◌, ◌<◌, ◌+◌, ℕ, zero, suc, nat_eq, List, [], ◌∷◌, ◌++◌, map, length, Bool}
use Rattle.std.proofs.Common.{true, false, cond, Option, Some, None, refl, sym, ap, ◌∙◌, subst, slice_get, arith}
use Rattle.std.proofs.Common.{option_and_then, find}
use Rattle.std.specs.Prelude.{All}
use Rattle.std.specs.List.{position_from}
use Rattle.std.specs.Option.{option_map, option_or}
use Rattle.std.proofs.lemmas.List.{length-map}
use Rattle.std.proofs.lemmas.List.Elements.{All-nil, All-cons}
use Rattle.std.proofs.lemmas.Bool.{eqb-true, eq-eqb}
use Rattle.meaning_executions.specs.Pairwise.{Pairwise}
use Rattle.core_terms.specs.declared.trees.CForm.{CForm}
use Rattle.core_terms.specs.declared.trees.Range.{Range}
use Rattle.core_terms.specs.declared.programs.CSlot.{CSlot}
use Rattle.core_terms.specs.declared.programs.CProgram.{CProgram}
use Rattle.core_terms.specs.declared.documents.CStep.{CStep}
use Rattle.core_terms.specs.declared.documents.CProof.{CProof}
use Rattle.core_terms.specs.declared.documents.CSchedule.{CSchedule}
use Rattle.core_terms.specs.declared.documents.CDocument.{CDocument}
use Rattle.core_terms.specs.Conditions.{FormFits, IsCoreDocument, IsProof, IsStep}
use Rattle.fair_rounds.specs.declared.records.Record.{Record}
use Rattle.soundness.specs.from_rules_table.Walk.{Plan}
use Rattle.soundness.proofs.lemmas_from_rules_table.EachLaws.{Each, each_join, found_in, from_all}
use Rattle.soundness.proofs.lemmas_from_rules_table.EnsuresSound.{some_item}
use Rattle.proof_plans.specs.from_rules_steps.Starts.{starts_in}
use Rattle.run_traces.specs.Programs.{program_of, scheduled_program}
use Rattle.soundness.specs.PlanSteps.{CoreStep, IsRecordOf, core_steps, of_program}
use Rattle.soundness.proofs.PlanRecords.{defined_record, plan_is_steps}
use Rattle.trace_watch.specs.declared.violations.Violation.{Violation}
use Rattle.trace_watch.specs.Readings.{Reading}
use Rattle.trace_watch.specs.Cases.{WatchedStep, case_count, environments, is_of, reading_of, watched, watched_from}
use Rattle.trace_watch.specs.Cases.{watched_step}
use Rattle.trace_watch.specs.Places.{RecordFormsFit}
use Rattle.trace_watch.specs.Tracing.{WatchesDefined}
use Rattle.trace_watch.specs.Violations.{first_case, first_failing, violation_of}
use Rattle.trace_watch.proofs.CaseLaws.{count_is}
use Rattle.watch_schedules.specs.Schedules.{IsPlan, is_proved}
use Rattle.watch_schedules.specs.Telling.{CaseIn}

-- ---- the records fit

module _ (slots : List CSlot) where
  abbrev StepFits : CoreStep → Type 0
  StepFits s = IsStep slots s.step

  own_fit : (program : ℕ) (steps : List CStep) → Each (IsStep slots) steps →
      Each StepFits (map (of_program program) steps)
  own_fit program [] each = tt
  own_fit program (s ∷ steps) each = (each.0, own_fit program steps each.1)

  all_fit : (programs : List CProgram) (proofs : List CProof) → Each (IsProof slots programs) proofs →
      Each StepFits (core_steps proofs)
  all_fit programs [] each = tt
  all_fit programs (p ∷ proofs) each =
      each_join StepFits (map (of_program p.program) p.steps) (core_steps proofs)
      (own_fit p.program p.steps (from_all (IsStep slots) p.steps each.0.steps)) (all_fit programs proofs each.1)

  form_fits : (params own : List Range) (f g : CForm) → own ≡ params → g ≡ f → FormFits slots params f →
      FormFits slots own g
  form_fits params own f g same is fits =
      subst (λ h. FormFits slots own h) (sym is) (subst (λ ps. FormFits slots ps f) (sym same) fits)

  record_fits : (s : CoreStep) (r : Record) → StepFits s → IsRecordOf s r → RecordFormsFit slots r
  record_fits s r fits is = record {
    p = form_fits s.step.params r.params s.step.p r.p is.params is.p fits.p;
    q = form_fits s.step.params r.params s.step.q r.q is.params is.q fits.q;
  }

  each_fits : (ss : List CoreStep) (rs : List Record) → Each StepFits ss → Pairwise IsRecordOf ss rs →
      All (RecordFormsFit slots) rs
  each_fits [] [] each pairs = All-nil (RecordFormsFit slots)
  each_fits [] (r ∷ rs) each pairs = absurd pairs
  each_fits (s ∷ ss) [] each pairs = absurd pairs
  each_fits (s ∷ ss) (r ∷ rs) each pairs =
      All-cons (RecordFormsFit slots) r rs (record_fits s r each.0 pairs.0) (each_fits ss rs each.1 pairs.1)

pub records_fit : (d : CDocument) → IsCoreDocument d → (plan : Plan) → IsPlan d plan →
    All (RecordFormsFit d.slots) plan.records
records_fit d is plan planned =
    each_fits d.slots (core_steps d.proofs) plan.records
    (all_fit d.slots d.programs d.proofs (from_all (IsProof d.slots d.programs) d.proofs is.proofs))
    (plan_is_steps d is (starts_in d.slots) plan planned)

-- ---- one of them is `defined`

-- the program of a schedule is found by its name
scheduled_name : (d : CDocument) (p : CProgram) → scheduled_program d ≡ Some p →
    find (λ (q : CProgram). nat_eq q.name p.name) d.programs ≡ Some p
scheduled_name d p e = go d.schedule e
  where
    go : (o : Option CSchedule) → option_and_then (program_of d) o ≡ Some p →
        find (λ (q : CProgram). nat_eq q.name p.name) d.programs ≡ Some p
    go None f = cc
    go (Some s) f =
        let own : p.name ≡ s.program =
        eqb-true p.name s.program (found_in (λ (q : CProgram). nat_eq q.name s.program) d.programs p f).passes in
        subst (λ n. find (λ (q : CProgram). nat_eq q.name n) d.programs ≡ Some p) (sym own) f

record WatchedAt (c : CProgram) (steps : List WatchedStep) (r : Record) : Type 0 where
  index : ℕ
  place : ℕ
  there : slice_get steps index ≡ Some (watched_step c place r)

watched_there : (c : CProgram) (i : ℕ) (rs : List Record) (place : ℕ) (r : Record) → slice_get rs place ≡ Some r →
    is_of c r ≡ true → WatchedAt c (watched_from c i rs) r
watched_there c i [] place r e own = cc
watched_there c i (q ∷ rs) zero r e own =
    let same : q ≡ r = cc in
    record {
      index = 0;
      place = i;
      there = ap (λ b. slice_get (cond b (watched_step c i q ∷ []) [] ++ watched_from c (i + 1) rs) 0)
          (ap (is_of c) same ∙ own) ∙ ap (λ z. Some (watched_step c i z)) same;
    }
watched_there c i (q ∷ rs) (suc place) r e own =
    go (is_of c q) refl (watched_there c (i + 1) rs place r e own)
  where
    go : (b : Bool) → is_of c q ≡ b → WatchedAt c (watched_from c (i + 1) rs) r →
        WatchedAt c (watched_from c i (q ∷ rs)) r
    go true is more = record {
      index = suc more.index;
      place = more.place;
      there = ap (λ b. slice_get (cond b (watched_step c i q ∷ []) [] ++ watched_from c (i + 1) rs) (suc more.index)) is
          ∙ more.there;
    }
    go false is more = record {
      index = more.index;
      place = more.place;
      there = ap (λ b. slice_get (cond b (watched_step c i q ∷ []) [] ++ watched_from c (i + 1) rs) more.index) is
          ∙ more.there;
    }

pub defined_watched : (d : CDocument) → IsCoreDocument d → (p : CProgram) → scheduled_program d ≡ Some p →
    is_proved d p ≡ true → (plan : Plan) → IsPlan d plan → WatchesDefined (watched p plan.records)
defined_watched d is p scheduled proved plan planned =
    let proof = some_item (λ (proof : CProof). nat_eq proof.program p.name) d.proofs proved in
    let own : proof.1.program ≡ p.name = eqb-true proof.1.program p.name proof.3 in
    let named = subst (λ n. find (λ (q : CProgram). nat_eq q.name n) d.programs ≡ Some p) (sym own)
    (scheduled_name d p scheduled) in
    let r = defined_record d is (starts_in d.slots) plan planned proof.0 proof.1 proof.2 p named in
    let at = watched_there p 0 plan.records r.place r.found r.there
    (ap (λ n. nat_eq n p.name) r.program ∙ eq-eqb p.name p.name refl) in
    record {
      step = at.index;
      watched = watched_step p at.place r.found;
      there = at.there;
      case = 0;
      reading = reading_of p r.found [];
      its = ap (λ (ps : List Range). slice_get (map (reading_of p r.found) (environments ps)) 0) r.params;
      kind = r.kind;
    }

-- ---- a violated step is among them

place_below : (f : Reading → Bool) (i : ℕ) (rs : List Reading) (n : ℕ) → position_from f i rs ≡ Some n →
    (k : ℕ) × (n ≡ i + k) × (k < length rs)
place_below f i [] n e = cc
place_below f i (r ∷ rs) n e = go (f r) e (place_below f (i + 1) rs n)
  where
    go : (b : Bool) → cond b (Some i) (position_from f (i + 1) rs) ≡ Some n →
        (position_from f (i + 1) rs ≡ Some n → (k : ℕ) × (n ≡ i + 1 + k) × (k < length rs)) →
        (k : ℕ) × (n ≡ i + k) × (k < length (r ∷ rs))
    go true h more = let same : i ≡ n = cc in (0, omega (arith, same), omega arith)
    go false h more = let k = more h in (suc k.0, omega (arith, k.1), omega (arith, k.2))

record StepIn (c : CProgram) (i : ℕ) (rs : List Record) (v : Violation) : Type 0 where
  at : ℕ
  found : Record
  step : v.step ≡ i + at
  there : slice_get rs at ≡ Some found
  case : v.case < case_count found.params

case_below : (c : CProgram) (f : Reading → Bool) (i : ℕ) (r : Record) (v : Violation) →
    first_case f (watched_step c i r) ≡ Some v → (v.step ≡ i) × (v.case < case_count r.params)
case_below c f i r v e = go (position_from f 0 (map (reading_of c r) (environments r.params))) refl e
  where
    go : (o : Option ℕ) → position_from f 0 (map (reading_of c r) (environments r.params)) ≡ o →
        option_map (violation_of i) o ≡ Some v → (v.step ≡ i) × (v.case < case_count r.params)
    go None is h = cc
    go (Some n) is h =
        let same : violation_of i n ≡ v = cc in
        let below = place_below f 0 (map (reading_of c r) (environments r.params)) n is in
        let count = length-map (environments r.params) (reading_of c r) ∙ count_is r.params in (
          ap (λ (w : Violation). w.step) (sym same),
          subst (λ m. m < case_count r.params) (ap (λ (w : Violation). w.case) same)
              (omega (arith, below.1, below.2, count)),
        )

step_in : (c : CProgram) (f : Reading → Bool) (i : ℕ) (rs : List Record) (v : Violation) →
    first_failing f (watched_from c i rs) ≡ Some v → StepIn c i rs v
step_in c f i [] v e = cc
step_in c f i (r ∷ rs) v e = go (is_of c r) e (step_in c f (i + 1) rs v)
  where
    later : StepIn c (i + 1) rs v → StepIn c i (r ∷ rs) v
    later more = record {
      at = suc more.at;
      found = more.found;
      step = let s = more.step in omega (arith, s);
      there = more.there;
      case = more.case;
    }

    or : (o : Option Violation) → first_case f (watched_step c i r) ≡ o →
        option_or o (first_failing f (watched_from c (i + 1) rs)) ≡ Some v →
        (first_failing f (watched_from c (i + 1) rs) ≡ Some v → StepIn c (i + 1) rs v) → StepIn c i (r ∷ rs) v
    or None is h more = later (more h)
    or (Some w) is h more =
        let same : Some w ≡ Some v = h in
        let own = case_below c f i r v (is ∙ same) in
        record {
          at = 0;
          found = r;
          step = let s = own.0 in omega (arith, s);
          there = refl;
          case = own.1;
        }

    go : (b : Bool) →
        first_failing f (cond b (watched_step c i r ∷ []) [] ++ watched_from c (i + 1) rs) ≡ Some v →
        (first_failing f (watched_from c (i + 1) rs) ≡ Some v → StepIn c (i + 1) rs v) → StepIn c i (r ∷ rs) v
    go false h more = later (more h)
    go true h more = or (first_case f (watched_step c i r)) refl h more

pub violated_in : (c : CProgram) (f : Reading → Bool) (rs : List Record) (v : Violation) →
    first_failing f (watched c rs) ≡ Some v → CaseIn rs v
violated_in c f rs v e =
    let i = step_in c f 0 rs v e in
    let at : i.at ≡ v.step = let s = i.step in omega (arith, s) in
    (i.found, ap (slice_get rs) (sym at) ∙ i.there, i.case)
