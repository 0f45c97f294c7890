-- The records of a plan are those of the steps of its document, in order.
use Rattle.std.proofs.Common.{◌≡◌, ℕ, nat_eq, List, [], ◌∷◌, ◌++◌, map, Bool, true, false, ◌&&◌, ◌||◌}
use Rattle.std.proofs.Common.{Option, Some, None, Result, Ok, Err, IsTrue, refl, sym, ap, ◌∙◌, subst, slice_get}
use Rattle.std.proofs.Common.{append_assoc, append-nil}
use Rattle.std.specs.List.{list_any, find}
use Rattle.std.proofs.lemmas.Bool.{eqb-true}
use Rattle.std.proofs.lemmas.List.Folds.{list_any-append}
use Rattle.case_tables.specs.declared.kind_table.Kind.{Kind}
use Rattle.case_tables.specs.declared.code_table.Code.{Code}
use Rattle.meaning_states.proofs.StepTheorems.{and_left, and_right}
use Rattle.core_terms.specs.declared.programs.CSlot.{CSlot}
use Rattle.core_terms.specs.declared.programs.CProgram.{CProgram}
use Rattle.core_terms.specs.declared.documents.CStep.{CStep}
use Rattle.core_terms.specs.declared.documents.CProof.{CProof}
use Rattle.core_terms.specs.declared.documents.CDocument.{CDocument}
use Rattle.core_terms.specs.Conditions.{IsStep, IsProof, IsCoreDocument}
use Rattle.core_terms.proofs.BoolLaws.{or_first}
use Rattle.fair_rounds.specs.declared.records.Record.{Record}
use Rattle.rules_table.specs.Conclusion.{Conclusion}
use Rattle.rules_table.specs.Table.{needs, claims_defined}
use Rattle.rules_table.specs.Walk.{Around, Plan, Failure, around_of, has_defined, or_failure, further, rule_of, planned}
use Rattle.rules_table.specs.Walk.{steps_of, proof_end, program_of, proof_steps, proofs_of, walk_of}
use Rattle.rules_table.proofs.EachLaws.{Each, from_all, each_join, each_at, found_in}
use Rattle.rules_table.proofs.SiteLaws.{met}
use Rattle.rules_table.proofs.EnsuresSound.{some_item}
use Rattle.rules_table.proofs.KindLaws.{defined_is}
use Rattle.rules_table.proofs.StepSound.{defined_params}
use Rattle.meaning_executions.specs.Pairwise.{Pairwise}
use Rattle.soundness.specs.PlanSteps.{CoreStep, of_program, core_steps, IsRecordOf, PlanIsSteps}
use Rattle.soundness.specs.PlanSteps.{PlanIsStarted}
use Rattle.soundness.proofs.Rules.{rule_gives}

-- answers

passed : {A : Type 0} (program : ℕ) (step : Option ℕ) (r : Result A Code) (x : A) →
    or_failure program step r ≡ Ok x → r ≡ Ok x
passed program step (Ok y) x e = let same : y ≡ x = cc in ap (λ z. Ok z) same
passed program step (Err code) x e = cc

then_so : {A B : Type 0} (r : Result A Failure) (f : A → Result B Failure) (y : B) → further r f ≡ Ok y →
    (x : A) × (r ≡ Ok x) × (f x ≡ Ok y)
then_so (Ok x) f y e = (x, refl, e)
then_so (Err failure) f y e = cc

-- pairs

pairs_join : {X Y : Type 0} (R : X → Y → Type 0) (xs more : List X) (ys others : List Y) → Pairwise R xs ys →
    Pairwise R more others → Pairwise R (xs ++ more) (ys ++ others)
pairs_join R [] more [] others h k = k
pairs_join R [] more (y ∷ ys) others h k = absurd h
pairs_join R (x ∷ xs) more [] others h k = absurd h
pairs_join R (x ∷ xs) more (y ∷ ys) others h k = (h.0, pairs_join R xs more ys others h.1 k)

-- the program of a number is found where one has it

found_one : {X : Type 0} (test : X → Bool) (y : X) (xs : List X) → (b : Bool) → test y ≡ b →
    (IsTrue (list_any test xs) → (x : X) × (find test xs ≡ Some x)) → IsTrue (b || list_any test xs) →
    (x : X) × (find test (y ∷ xs) ≡ Some x)
found_one test y xs true t rest h = (y, rw t refl)
found_one test y xs false t rest h = let more = rest h in (more.0, rw t more.1)

some_found : {X : Type 0} (test : X → Bool) (xs : List X) → IsTrue (list_any test xs) →
    (x : X) × (find test xs ≡ Some x)
some_found test [] h = cc
some_found test (y ∷ xs) h = found_one test y xs (test y) refl (λ k. some_found test xs k) h

-- what a walk adds to a plan
module _ (seen : Around) where
  abbrev slots : List CSlot
  slots = seen.slots

  abbrev programs : List CProgram
  programs = seen.programs

  -- a record of a `defined` step has no parameters, and its program passes the test of start states
  pub record DefinedWell (a : Record) : Type 0 where
    pub params : a.kind ≡ Kind.Defined → a.params ≡ []
    pub may_start : a.kind ≡ Kind.Defined → (c : CProgram) → program_of programs a.program ≡ Some c →
        IsTrue (seen.starts c)

  -- the records that were added are those of these steps
  pub record Adds (old new : Plan) (steps : List CoreStep) : Type 0 where
    pub more : List Record
    pub joined : new.records ≡ old.records ++ more
    pub pairs : Pairwise IsRecordOf steps more
    pub well : Each DefinedWell more

  nothing_added : (a : Plan) → Adds a a []
  nothing_added a = record { more = []; joined = sym (append-nil a.records); pairs = tt; well = tt }

  added_on : (a b c : Plan) (steps others : List CoreStep) → Adds a b steps → Adds b c others →
      Adds a c (steps ++ others)
  added_on a b c steps others one two = record {
    more = one.more ++ two.more;
    joined = two.joined ∙ ap (λ rs. rs ++ two.more) one.joined ∙ append_assoc a.records one.more two.more;
    pairs = pairs_join IsRecordOf steps others one.more two.more one.pairs two.pairs;
    well = each_join DefinedWell one.more two.more one.well two.well;
  }

  one_added : (c : CProgram) → program_of programs c.name ≡ Some c → (s : CStep) →
      IsStep slots s → (plan : Plan) (x : Conclusion) → rule_of seen c s plan.records ≡ Ok x →
      Adds plan (planned plan x) (of_program c.name s ∷ [])
  one_added c found s fits plan x e =
      let row = rule_gives seen c s plan.records x e in
      record {
        more = x.made ∷ [];
        joined = refl;
        pairs = (row.recorded, tt);
        well = (
          record {
            params = λ is. row.recorded.params
                ∙ defined_params s.kind s.params s.p s.q (sym row.recorded.kind ∙ is) fits.kind;
            may_start = λ is b there.
                let one : Some c ≡ Some b =
                sym found ∙ ap (λ n. program_of programs n) (sym row.recorded.program) ∙ there in
                let same : c ≡ b = cc in
                subst (λ d. IsTrue (seen.starts d)) same (row.may_start (sym row.recorded.kind ∙ is));
          },
          tt,
        );
      }

  steps_added : (c : CProgram) → program_of programs c.name ≡ Some c → (steps : List CStep) →
      Each (IsStep slots) steps → (plan new : Plan) → steps_of seen c steps plan ≡ Ok new →
      Adds plan new (map (of_program c.name) steps)
  steps_added c found [] fits plan new e =
      let same : plan ≡ new = cc in subst (λ p. Adds plan p []) same (nothing_added plan)
  steps_added c found (s ∷ rest) fits plan new e =
      let one = then_so (or_failure c.name (Some s.name) (rule_of seen c s plan.records)) (λ x.
      steps_of seen c rest (planned plan x)) new e in
      added_on plan (planned plan one.0) new (of_program c.name s ∷ []) (map (of_program c.name) rest)
      (one_added c found s fits.0 plan one.0
      (passed c.name (Some s.name) (rule_of seen c s plan.records) one.0 one.1))
      (steps_added c found rest fits.1 (planned plan one.0) new one.2)

  -- what a proof adds, and that its program has a `defined` step at its end
  record Ended (proof : CProof) (plan new : Plan) : Type 0 where
    adds : Adds plan new (map (of_program proof.program) proof.steps)
    ends : IsTrue (has_defined proof.program new.records)

  proof_added : (proof : CProof) → IsProof slots programs proof → (plan new : Plan) →
      proof_steps seen (program_of programs proof.program) proof plan ≡ Ok new → Ended proof plan new
  proof_added proof fits plan new e =
      let found = some_found (λ (c : CProgram). nat_eq c.name proof.program) programs fits.program in
      let c : CProgram = found.0 in
      let named : c.name ≡ proof.program = eqb-true c.name proof.program
      (found_in (λ (b : CProgram). nat_eq b.name proof.program) programs c found.1).passes in
      let e' : proof_steps seen (Some c) proof plan ≡ Ok new =
      sym (ap (λ o. proof_steps seen o proof plan) found.1) ∙ e in
      let one = then_so (steps_of seen c proof.steps plan) (proof_end c) new e' in
      let end = met (has_defined c.name one.0.records) Code.DefinedMissing (Ok one.0) new
      (passed c.name None (needs (has_defined c.name one.0.records) Code.DefinedMissing (Ok one.0)) new one.2) in
      let same : one.0 ≡ new = let given = end.1 in cc in
      let all = steps_added c (ap (λ n. program_of programs n) named ∙ found.1) proof.steps
      (from_all (IsStep slots) proof.steps fits.steps) plan one.0 one.1 in
      record {
        adds = subst (λ n. Adds plan new (map (of_program n) proof.steps)) named
            (subst (λ p. Adds plan p (map (of_program c.name) proof.steps)) same all);
        ends = subst (λ n. IsTrue (has_defined n new.records)) named
            (subst (λ (p : Plan). IsTrue (has_defined c.name p.records)) same end.0);
      }

  more_defined : (n : ℕ) (old new : Plan) (steps : List CoreStep) → Adds old new steps →
      IsTrue (has_defined n old.records) → IsTrue (has_defined n new.records)
  more_defined n old new steps adds t =
      subst (λ rs. IsTrue (has_defined n rs)) (sym adds.joined)
      (list_any-append (λ (a : Record). nat_eq a.program n && claims_defined a.kind) old.records adds.more
      ∙ or_first (has_defined n old.records) (has_defined n adds.more) t)

  -- each proof's program has a `defined` step
  abbrev HasDefined : Plan → CProof → Type 0
  HasDefined plan proof = IsTrue (has_defined proof.program plan.records)

  record Walked (proofs : List CProof) (plan new : Plan) : Type 0 where
    adds : Adds plan new (core_steps proofs)
    ends : Each (HasDefined new) proofs

  proofs_added : (proofs : List CProof) → Each (IsProof slots programs) proofs → (plan new : Plan) →
      proofs_of seen proofs plan ≡ Ok new → Walked proofs plan new
  proofs_added [] fits plan new e =
      let same : plan ≡ new = cc in
      subst (λ p. Walked [] plan p) same (record { adds = nothing_added plan; ends = tt })
  proofs_added (proof ∷ rest) fits plan new e =
      let one = then_so (proof_steps seen (program_of programs proof.program) proof plan) (proofs_of seen rest) new e in
      let first = proof_added proof fits.0 plan one.0 one.1 in
      let further = proofs_added rest fits.1 one.0 new one.2 in
      record {
        adds = added_on plan one.0 new (map (of_program proof.program) proof.steps) (core_steps rest) first.adds
            further.adds;
        ends = (
          more_defined proof.program one.0 new (core_steps rest) further.adds first.ends,
          further.ends,
        );
      }

walked : (d : CDocument) → IsCoreDocument d → (starts : CProgram → Bool) (plan : Plan) → walk_of d starts ≡ Ok plan →
    Walked (around_of d starts) d.proofs (record { records = []; goals = []; owner = [] }) plan
walked d is starts plan e =
    proofs_added (around_of d starts) d.proofs (from_all (IsProof d.slots d.programs) d.proofs is.proofs)
    (record { records = []; goals = []; owner = [] }) plan e

pub plan_is_steps : PlanIsSteps
plan_is_steps d is starts plan e =
    let adds = (walked d is starts plan e).adds in
    subst (λ rs. Pairwise IsRecordOf (core_steps d.proofs) rs) (sym adds.joined) adds.pairs

-- each record of a `defined` step is such a one
pub defined_well : (d : CDocument) → IsCoreDocument d → (starts : CProgram → Bool) (plan : Plan) →
    walk_of d starts ≡ Ok plan → Each (DefinedWell (around_of d starts)) plan.records
defined_well d is starts plan e =
    let adds = (walked d is starts plan e).adds in
    subst (λ rs. Each (DefinedWell (around_of d starts)) rs) (sym adds.joined) adds.well

-- the program of a proof has the record of a `defined` step
pub proof_defined : (d : CDocument) → IsCoreDocument d → (starts : CProgram → Bool) (plan : Plan) →
    walk_of d starts ≡ Ok plan → (place : ℕ) (proof : CProof) → slice_get d.proofs place ≡ Some proof →
    IsTrue (has_defined proof.program plan.records)
proof_defined d is starts plan e place proof there =
    each_at (HasDefined (around_of d starts) plan) d.proofs (walked d is starts plan e).ends place proof there

-- such a record, by its place
pub record DefinedRecord (d : CDocument) (starts : CProgram → Bool) (plan : Plan) (c : CProgram) : Type 0 where
  pub place : ℕ
  pub found : Record
  pub there : slice_get plan.records place ≡ Some found
  pub program : found.program ≡ c.name
  pub kind : found.kind ≡ Kind.Defined
  pub params : found.params ≡ []
  pub may_start : IsTrue (starts c)

pub defined_record : (d : CDocument) → IsCoreDocument d → (starts : CProgram → Bool) (plan : Plan) →
    walk_of d starts ≡ Ok plan → (place : ℕ) (proof : CProof) → slice_get d.proofs place ≡ Some proof →
    (c : CProgram) → program_of d.programs proof.program ≡ Some c → DefinedRecord d starts plan c
defined_record d is starts plan e place proof there c named =
    let test : Record → Bool = λ a. nat_eq a.program proof.program && claims_defined a.kind in
    let first = some_item test plan.records (proof_defined d is starts plan e place proof there) in
    let a : Record = first.1 in
    let its : a.program ≡ proof.program =
    eqb-true a.program proof.program (and_left (nat_eq a.program proof.program) (claims_defined a.kind) first.3) in
    let kind = defined_is a.kind (and_right (nat_eq a.program proof.program) (claims_defined a.kind) first.3) in
    let well = each_at (DefinedWell (around_of d starts)) plan.records (defined_well d is starts plan e) first.0 a
    first.2 in
    let own : c.name ≡ proof.program =
    eqb-true c.name proof.program (found_in (λ (b : CProgram). nat_eq b.name proof.program) d.programs c named).passes
    in
    record {
      place = first.0;
      found = a;
      there = first.2;
      program = its ∙ sym own;
      kind = kind;
      params = well.params kind;
      may_start = well.may_start kind c (ap (λ n. program_of d.programs n) its ∙ named);
    }

pub plan_is_started : PlanIsStarted
plan_is_started d is starts plan e place proof there c named =
    let own : c.name ≡ proof.program =
    eqb-true c.name proof.program (found_in (λ (b : CProgram). nat_eq b.name proof.program) d.programs c named).passes
    in
    record {
      may_start = (defined_record d is starts plan e place proof there c named).may_start;
      always_defined = subst (λ n. IsTrue (has_defined n plan.records)) (sym own)
          (proof_defined d is starts plan e place proof there);
    }
