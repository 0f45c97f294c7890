-- What a planner stands for, and what it plans; want of memory says nothing.
use Rattle.std.specs.Prelude.{◌≡◌, ◌++◌, ℕ, List, [], ◌∷◌, All, drop, reverse, Option, Some, None, Result, Ok, Err}
use Rattle.core_terms.specs.declared.documents.CDocument.{CDocument}
use Rattle.core_terms.specs.declared.documents.CProof.{CProof}
use Rattle.obligations.specs.Obligations.{IsObligation}
use Rattle.fair_rounds.specs.declared.records.Record.{Record}
use Rattle.safety_rules.specs.from_rules_table.Walk.{Around}
use Rattle.proof_plans.specs.declared.plans.ScriptError.{ScriptError}
use Rattle.rules_steps.specs.Starts.{document_seen}
use Rattle.step_plans.specs.declared.planner.Planner.{Planner}
use Rattle.step_plans.specs.declared.planning.PlannedStep.{PlannedStep}
use Rattle.step_plans.specs.Stepping.{Next, from_step, next_of}

-- the records of the steps so far
abbrev pub records_of : Planner → List Record
records_of p = p.records

-- the number of the proof that it has come to
abbrev pub proof_of : Planner → ℕ
proof_of p = p.proof

-- the proofs that are left of a document
abbrev pub left_by : CDocument → Planner → List CProof
left_by d p = from_step p.step (drop p.proof d.proofs)

-- this is the next step, and its record is added; these proofs are left behind it
pub record IsPlanned (next : Next) (left : List CProof) (old new : List Record) (s : PlannedStep) : Type 0 where
  pub made : Record
  pub next_is : next ≡ Ok (Some (record {
    program = s.program;
    step = s.step;
    derived = record { made = made; obligations = reverse s.obligations };
    left = left;
  }))
  pub records : new ≡ old ++ made ∷ []

-- a step that comes next
abbrev pub PlansStep : Result PlannedStep ScriptError → Next → List CProof → List Record → List Record → Type 0
PlansStep (Ok s) next left old new = IsPlanned next left old new s
PlansStep (Err (ScriptError.Step fault)) next left old new = next ≡ Err fault
PlansStep (Err ScriptError.Memory) next left old new = Unit {0}

-- the step that comes next in a proof, with these behind it; or what comes next is behind the proof
abbrev pub PlansIn : Around → CProof → List CProof → Planner → Planner → Result (Option PlannedStep) ScriptError →
    Type 0
PlansIn seen p rest old new (Ok (Some s)) =
    IsPlanned (next_of seen (from_step old.step (p ∷ rest)) old.records) (from_step new.step (p ∷ rest)) old.records
    new.records s
PlansIn seen p rest old new (Ok None) =
    (next_of seen (from_step old.step (p ∷ rest)) old.records ≡ next_of seen rest old.records) × (new ≡ old)
PlansIn seen p rest old new (Err (ScriptError.Step fault)) =
    next_of seen (from_step old.step (p ∷ rest)) old.records ≡ Err fault
PlansIn seen p rest old new (Err ScriptError.Memory) = Unit {0}

-- the step that comes next in a document; or none does, and none is left
abbrev pub PlansNext : CDocument → Planner → Planner → Result (Option PlannedStep) ScriptError → Type 0
PlansNext d old new (Ok (Some s)) =
    IsPlanned (next_of (document_seen d) (left_by d old) old.records) (left_by d new) old.records new.records s
PlansNext d old new (Ok None) =
    (next_of (document_seen d) (left_by d old) old.records ≡ Ok None) × (left_by d new ≡ [])
    × (new.records ≡ old.records)
PlansNext d old new (Err (ScriptError.Step fault)) =
    next_of (document_seen d) (left_by d old) old.records ≡ Err fault
PlansNext d old new (Err ScriptError.Memory) = Unit {0}

-- what is left to be shown for a step can be made
abbrev pub IsMakeable : Option PlannedStep → Type 0
IsMakeable None = Unit {0}
IsMakeable (Some s) = All IsObligation (reverse s.obligations)
