-- The step that comes next, where some proofs of a document are left.
use Rattle.std.specs.Prelude.{ℕ, List, [], ◌∷◌, drop, length, map, sum, cond, Option, Some, None, Result, Ok, Err}
use Rattle.case_tables.specs.declared.code_table.Code.{Code}
use Rattle.core_terms.specs.declared.programs.CSlot.{CSlot}
use Rattle.core_terms.specs.declared.programs.CProgram.{CProgram}
use Rattle.core_terms.specs.declared.documents.CStep.{CStep}
use Rattle.core_terms.specs.declared.documents.CProof.{CProof}
use Rattle.fair_rounds.specs.declared.records.Record.{Record}
use Rattle.safety_rules.specs.from_rules_table.Conclusion.{Conclusion}
use Rattle.safety_rules.specs.from_rules_table.Walk.{Around, has_defined, program_of, rule_of}
use Rattle.safety_rules.specs.declared.places.Derived.{Derived}
use Rattle.safety_rules.specs.Answers.{derived_of}
use Rattle.proof_plans.specs.declared.plans.StepFault.{StepFault}
use Rattle.proof_plans.specs.Verdicts.{rule_fault}

-- a step: the words of its program and of itself, what its rule gives, and the proofs that are left behind it
pub record Stepped : Type 0 where
  pub program : ℕ
  pub step : ℕ
  pub derived : Derived
  pub left : List CProof

-- the next step, or that none is left, or the first failure
abbrev pub Next : Type 0
Next = Result (Option Stepped) StepFault

-- a step by its rule, with these proofs behind it
abbrev pub by_rule : List CSlot → CProgram → CStep → List CProof → Result Conclusion Code → Next
by_rule slots c s left (Ok x) =
    Ok (Some (record { program = c.name; step = s.name; derived = derived_of slots x; left = left }))
by_rule slots c s left (Err code) = Err (rule_fault c.name (Some s.name) code)

-- a proof's end: where it has a `defined` step, what comes next is behind it
abbrev pub at_end : CProgram → List Record → Next → Next
at_end c book behind = cond (has_defined c.name book) behind (Err (rule_fault c.name None Code.DefinedMissing))

-- where these steps are left of a proof with this program, and these proofs behind it
abbrev pub next_in : Around → Option CProgram → ℕ → List CStep → List CProof → List Record → Next → Next
next_in seen None name steps rest book behind = behind
next_in seen (Some c) name [] rest book behind = at_end c book behind
next_in seen (Some c) name (s ∷ steps) rest book behind =
    by_rule seen.slots c s (record { program = name; steps = steps } ∷ rest) (rule_of seen c s book)

-- where these proofs are left, and these are the records of the steps before
unfoldable pub next_of : Around → List CProof → List Record → Next
next_of seen [] book = Ok None
next_of seen (p ∷ rest) book =
    next_in seen (program_of seen.programs p.program) p.program p.steps rest book (next_of seen rest book)

-- the proofs that are left from this step of the first on
abbrev pub from_step : ℕ → List CProof → List CProof
from_step step [] = []
from_step step (p ∷ rest) = record { program = p.program; steps = drop step p.steps } ∷ rest

-- how many steps are left
abbrev pub steps_in : List CProof → ℕ
steps_in left = sum (map (λ (p : CProof). length p.steps) left)
