-- What the proofs of small programs claim, and which of these claims are true.
use Rattle.std.specs.Prelude.{ℕ, pos, List, [], ◌∷◌}
use Rattle.case_tables.specs.declared.word_table.Word.{Word}
use Rattle.unity_syntax.specs.declared.proof.Claim.{Claim}
use Rattle.unity_syntax.specs.declared.proof.Step.{Step}
use Rattle.unity_syntax.specs.declared.proof.Proof.{Proof}
use Rattle.unity_syntax.specs.declared.document.Document.{Document}
use Rattle.meaning_states.specs.State.{State}
use Rattle.meaning_documents.specs.Programs.{Composed, document_setting}
use Rattle.meaning_executions.specs.Execution.{System, IsExecution}
use Rattle.meaning_documents.specs.AsSystem.{system_of}
use Rattle.meaning_documents.specs.Instances.{instances}
use Rattle.unity_syntax.specs.declared.statement.Items.{Items}
use Rattle.meaning_documents.specs.Claims.{Claims}
use Rattle.examples_definitions.specs.SmallTrees.{word, number, sum_of, equal, less, range, variable, target, one}
use Rattle.examples_definitions.specs.SmallTrees.{plainly}
use Rattle.examples_definitions.specs.SmallTrees.{if_true, set, statement, lone, beside, initial_program, free_program}
use Rattle.examples_definitions.specs.SmallTrees.{step, step_for, between, proof_of, document}

-- `up: x := x + 1 if x < 2`
abbrev pub counting_up : Items
counting_up = lone (statement "up"
    (set (target "x") (if_true (one (sum_of (word "x") (number 1))) (less (word "x") (number 2)))))

-- program Count
-- declare x : 0..2
-- initially x = 0
-- assign up: x := x + 1 if x < 2
-- end
abbrev pub counting : Document
counting = document (initial_program "Count" (variable "x" 0 2 ∷ []) (equal (word "x") (number 0)) counting_up ∷ [])

-- its initially section and its instance
abbrev pub count : Composed
count = record { initially = equal (word "x") (number 0) ∷ []; instances = instances counting_up }

-- the program as its executions see it
abbrev pub counter : System
counter = system_of (document_setting counting) count

-- `safe: defined`
abbrev pub safe : Step
safe = step "safe" (Claim.Defined 0)

-- `first: x = 0 ensures x = 1`
abbrev pub first_step : Step
first_step = step "first" (between (equal (word "x") (number 0)) Word.Ensures (equal (word "x") (number 1)))

-- `jump: x = 0 unless x = 2`
abbrev pub jump : Step
jump = step "jump" (between (equal (word "x") (number 0)) Word.Unless (equal (word "x") (number 2)))

-- `goal: x = 0 leadsto x = 2`
abbrev pub goal : Step
goal = step "goal" (between (equal (word "x") (number 0)) Word.Leadsto (equal (word "x") (number 2)))

-- `halt: fixed x = 2` and `early: fixed x = 1`
abbrev pub halt : Step
halt = step "halt" (Claim.Fixed 0 (equal (word "x") (number 2)))

abbrev pub early : Step
early = step "early" (Claim.Fixed 0 (equal (word "x") (number 1)))

-- `steady: constant x = 2`
abbrev pub steady : Step
steady = step "steady" (Claim.Constant 0 (equal (word "x") (number 2)))

-- `wait: x = 0 until x = 1` and `skip: x = 0 until x = 2`
abbrev pub wait : Step
wait = step "wait" (between (equal (word "x") (number 0)) Word.Until (equal (word "x") (number 1)))

abbrev pub skip : Step
skip = step "skip" (between (equal (word "x") (number 0)) Word.Until (equal (word "x") (number 2)))

-- `late: x = 2 detects x = 0`
abbrev pub late : Step
late = step "late" (between (equal (word "x") (number 2)) Word.Detects (equal (word "x") (number 0)))

abbrev pub count_proof : Proof
count_proof = proof_of "Count"
    (safe ∷ first_step ∷ jump ∷ goal ∷ halt ∷ early ∷ steady ∷ wait ∷ skip ∷ late ∷ [])

-- it counts up to 2, and stays there
abbrev pub CountsToTwo : Type 0
CountsToTwo = IsExecution counter (pos 0 ∷ []) (0 ∷ 0 ∷ 0 ∷ []) ((pos 1 ∷ []) ∷ (pos 2 ∷ []) ∷ (pos 2 ∷ []) ∷ [])

-- it begins nowhere but at 0
abbrev pub BeginsAtNought : Type 0
BeginsAtNought = (choices : List ℕ) (later : List State) → IsExecution counter (pos 1 ∷ []) choices later → ⊥

-- its step is always defined
abbrev pub CountIsDefined : Type 0
CountIsDefined = Claims counting count_proof safe 0

abbrev pub FirstIsEnsured : Type 0
FirstIsEnsured = Claims counting count_proof first_step 0

-- it does not come from 0 to 2 in one step
abbrev pub JumpIsFalse : Type 0
JumpIsFalse = Claims counting count_proof jump 0 → ⊥

-- from 0 it comes to 2 within two rounds, and not within one
abbrev pub WithinTwo : Type 0
WithinTwo = Claims counting count_proof goal 2

abbrev pub NotWithinOne : Type 0
NotWithinOne = Claims counting count_proof goal 1 → ⊥

-- its step leads from 2 back to 2, and from 1 elsewhere
abbrev pub HaltsAtTwo : Type 0
HaltsAtTwo = Claims counting count_proof halt 0

abbrev pub GoesOnFromOne : Type 0
GoesOnFromOne = Claims counting count_proof early 0 → ⊥

-- from 1 it comes to 2, where it was not
abbrev pub TwoIsNotSteady : Type 0
TwoIsNotSteady = Claims counting count_proof steady 0 → ⊥

-- it stays at 0 until it is at 1, within one round, and not until it is at 2
abbrev pub WaitsForOne : Type 0
WaitsForOne = Claims counting count_proof wait 1

abbrev pub SkipIsFalse : Type 0
SkipIsFalse = Claims counting count_proof skip 2 → ⊥

-- at 2 it is not at 0
abbrev pub TwoIsNotNought : Type 0
TwoIsNotNought = Claims counting count_proof late 2 → ⊥

-- program Over
-- declare x : 0..2
-- initially x = 2
-- assign up: x := x + 1
-- end
abbrev pub running_over : Items
running_over = lone (statement "up" (set (target "x") (plainly (one (sum_of (word "x") (number 1))))))

abbrev pub overrun : Document
overrun = document (initial_program "Over" (variable "x" 0 2 ∷ []) (equal (word "x") (number 2)) running_over ∷ [])

abbrev pub overrunning : Composed
overrunning = record { initially = equal (word "x") (number 2) ∷ []; instances = instances running_over }

-- its step is undefined where x is 2
abbrev pub OverrunIsUndefined : Type 0
OverrunIsUndefined = Claims overrun (proof_of "Over" (safe ∷ [])) safe 0 → ⊥

-- program Either
-- declare x : 0..2
-- assign low: x := 2 if x = 0 [] high: x := 2 if x = 1
-- end
abbrev pub low_or_high : Items
low_or_high = beside (statement "low" (set (target "x") (if_true (one (number 2)) (equal (word "x") (number 0)))))
    (statement "high" (set (target "x") (if_true (one (number 2)) (equal (word "x") (number 1)))))

abbrev pub choosing : Document
choosing = document (free_program "Either" (variable "x" 0 2 ∷ []) low_or_high ∷ [])

-- its instances
abbrev pub either : Composed
either = record { initially = []; instances = instances low_or_high }

-- the program as its executions see it
abbrev pub chooser : System
chooser = system_of (document_setting choosing) either

-- `some: x < 2 ensures x = 2`
abbrev pub some_helps : Step
some_helps = step "some" (between (less (word "x") (number 2)) Word.Ensures (equal (word "x") (number 2)))

-- `each(m : 0..1): x = m ensures x = 2`
abbrev pub each_helps : Step
each_helps = step_for "each" "m" (range 0 1)
    (between (equal (word "x") (word "m")) Word.Ensures (equal (word "x") (number 2)))

abbrev pub choosing_proof : Proof
choosing_proof = proof_of "Either" (some_helps ∷ each_helps ∷ [])

-- at each state below 2 one of the statements helps, but none does at all of them
abbrev pub NoneForAllStates : Type 0
NoneForAllStates = Claims choosing choosing_proof some_helps 0 → ⊥

-- for each number of the parameter there is one that helps, and it is not the same for both
abbrev pub OneForEachParameter : Type 0
OneForEachParameter = Claims choosing choosing_proof each_helps 0

-- a claim on a program that the document does not have is not true
abbrev pub NoSuchProgram : Type 0
NoSuchProgram = Claims choosing count_proof safe 0 → ⊥

-- which executions the counter has
pub record ExecutionExamples : Type 0 where
  pub counts : CountsToTwo
  pub begins : BeginsAtNought

-- `defined`, `unless`, `fixed` and `constant`, which speak of single steps
pub record SafetyExamples : Type 0 where
  pub defined : CountIsDefined
  pub undefined : OverrunIsUndefined
  pub no_jump : JumpIsFalse
  pub halts : HaltsAtTwo
  pub not_early : GoesOnFromOne
  pub not_steady : TwoIsNotSteady

-- `ensures`: one statement that helps at all states, or one for each number of a parameter
pub record EnsuresExamples : Type 0 where
  pub ensured : FirstIsEnsured
  pub none_for_all : NoneForAllStates
  pub one_for_each : OneForEachParameter

-- `leadsto`, `until` and `detects`, with their bounds
pub record ProgressExamples : Type 0 where
  pub within_two : WithinTwo
  pub not_within_one : NotWithinOne
  pub waits : WaitsForOne
  pub no_skip : SkipIsFalse
  pub not_late : TwoIsNotNought
