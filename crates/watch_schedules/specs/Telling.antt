-- What is told of a schedule that was watched.
use Rattle.std.specs.Prelude.{◌≡◌, ◌<◌, ℕ, zero, suc, ◌+◌, nat_eq, ℤ, List, [], ◌∷◌, ◌++◌, codes, decimal, cond, length}
use Rattle.std.specs.Prelude.{Option, Some, None, slice_get, unwrap_or}
use Rattle.std.specs.Option.{option_map_or}
use Rattle.std.specs.List.{flat_map}
use Rattle.meaning_states.specs.State.{State}
use Rattle.meaning_executions.specs.Rounds.{rounds}
use Rattle.core_terms.specs.declared.programs.CProgram.{CProgram}
use Rattle.core_terms.specs.declared.documents.CDocument.{CDocument}
use Rattle.fair_rounds.specs.declared.records.Record.{Record}
use Rattle.schedule_replay.specs.Lines.{word_text, state_line}
use Rattle.soundness.specs.from_cli_texts.Verdicts.{step_line}
use Rattle.certificate_printing.specs.Findings.{param_line, names_of}
use Rattle.trace_watch.specs.declared.tracing.Ending.{Ending}
use Rattle.trace_watch.specs.declared.violations.Violation.{Violation}
use Rattle.trace_watch.specs.Cases.{case_count, environments}
use Rattle.watch_schedules.specs.declared.watching.WatchedSchedule.{WatchedSchedule}

-- `PROGRAM.STEP`
abbrev pub name_text : List (List ℕ) → Record → List ℕ
name_text words r = word_text words r.program ++ (codes "." ++ word_text words r.name)

-- `PROGRAM.STEP KIND`, on a line, of a step of the program of this name
abbrev pub own_line : List (List ℕ) → ℕ → Record → List ℕ
own_line words program r = cond (nat_eq r.program program) (step_line words r) []

-- how many states the trace has, and how many rounds, and then each step of the program
abbrev pub watched_text : List (List ℕ) → CProgram → List ℕ → List Record → List ℕ
watched_text words p choices records =
    codes "watched " ++ (word_text words p.name ++ (codes " " ++ (decimal (length choices + 1) ++ (codes " states "
    ++ (decimal (rounds choices (length p.statements)) ++ (codes " rounds\n"
    ++ flat_map (own_line words p.name) records))))))

-- a line for each parameter, as far as there are values
abbrev pub param_lines : List (List ℕ) → List ℕ → List ℤ → List ℕ
param_lines words [] zs = []
param_lines words (n ∷ ns) [] = []
param_lines words (n ∷ ns) (z ∷ zs) = param_line words n z ++ param_lines words ns zs

-- none where there is no name or no value
abbrev pub line_of : List (List ℕ) → Option ℕ → Option ℤ → List ℕ
line_of words None z = []
line_of words (Some n) None = []
line_of words (Some n) (Some z) = param_line words n z

-- the numbers of a step's parameters in the case of this number
abbrev pub values_of : Record → ℕ → List ℤ
values_of r case = unwrap_or (slice_get (environments r.params) case) []

-- the step that is violated, and at which place, and then its parameters
abbrev pub case_text : CDocument → Record → ℕ → ℕ → List ℕ
case_text d r case place =
    codes "violated " ++ (name_text d.words r ++ (codes " place " ++ (decimal place ++ (codes "\n"
    ++ param_lines d.words (names_of d r.program r.name) (values_of r case)))))

-- the choice that led to a place
abbrev pub choice_to : List ℕ → ℕ → Option ℕ
choice_to choices zero = None
choice_to choices (suc place) = slice_get choices place

-- the step, its place and its parameters, and then the line of the state at that place
abbrev pub violated_text : CDocument → CProgram → List ℕ → List Record → State → ℕ → Violation → List ℕ
violated_text d p choices records state place v =
    option_map_or (λ r. case_text d r v.case place ++ state_line d p place (choice_to choices place) state)
    (slice_get records v.step) []

-- what is told of a trace that ends so, in this state
abbrev pub ending_text : CDocument → CProgram → List ℕ → List Record → State → Ending → List ℕ
ending_text d p choices records state (Ending.Violated place v) = violated_text d p choices records state place v
ending_text d p choices records state Ending.Unviolated = watched_text d.words p choices records

abbrev pub schedule_text : CDocument → WatchedSchedule → List ℕ
schedule_text d w = ending_text d w.program.now w.choices w.records w.state.items w.ending

-- the violated step is one of the records, and the case is one of its cases
abbrev pub CaseIn : List Record → Violation → Type 0
CaseIn records v = (r : Record) × (slice_get records v.step ≡ Some r) × (v.case < case_count r.params)

abbrev pub IsCase : WatchedSchedule → Violation → Type 0
IsCase w v = CaseIn w.records v
