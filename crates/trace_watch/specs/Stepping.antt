-- A step that is watched: its cases, and the trace that they have seen.
use Rattle.std.specs.Prelude.{◌≡◌, ℕ, List, length}
use Rattle.meaning_states.specs.State.{State}
use Rattle.core_terms.specs.declared.programs.CSlot.{CSlot}
use Rattle.core_terms.specs.declared.programs.CProgram.{CProgram}
use Rattle.trace_watch.specs.declared.step.Step.{Step}
use Rattle.trace_watch.specs.Cases.{case_count, WatchedStep, watched_step}
use Rattle.trace_watch.specs.Places.{RecordFormsFit}
use Rattle.trace_watch.specs.Waiting.{CasesStand, CasesSaw}

-- it has a case for each choice of numbers for its parameters, and room for these
pub record StepFits (slots : List CSlot) (s : Step) : Type 0 where
  pub fits : RecordFormsFit slots s.record.now
  pub room : length s.values.items ≡ length s.record.now.params
  pub count : length s.cases.items ≡ case_count s.record.now.params

-- how it is read
abbrev pub watched_as : CProgram → Step → WatchedStep
watched_as c s = watched_step c s.place s.record.now

-- its cases have seen a trace
abbrev pub StepStands : CProgram → List State → List ℕ → Step → Type 0
StepStands c states choices s =
    CasesStand (length c.statements) s.cases.items (watched_as c s).cases states choices

-- what its cases saw last is so at this state
abbrev pub StepSaw : CProgram → State → Step → Type 0
StepSaw c state s = CasesSaw state s.cases.items (watched_as c s).cases
