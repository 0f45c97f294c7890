-- The text of a verdict.
use Rattle.std.specs.Prelude.{ℕ, List, [], ◌∷◌, ◌++◌, codes, decimal, length, Option, Some, None}
use Rattle.std.specs.List.{flat_map}
use Rattle.case_tables.specs.declared.kind_table.Kind.{Kind}
use Rattle.fair_rounds.specs.declared.records.Record.{Record}
use Rattle.schedule_replay.specs.Lines.{word_text}
use Rattle.proof_plans.specs.declared.plans.Plan.{Plan}
use Rattle.proof_plans.specs.declared.plans.StepFault.{StepFault}
use Rattle.cli_texts.specs.Names.{kind_name, code_text}

-- ` KIND BOUND`, at a line's end
abbrev pub bounded_text : Kind → ℕ → List ℕ
bounded_text kind bound = codes " " ++ (kind_name kind ++ (codes " " ++ (decimal bound ++ 10 ∷ [])))

-- ` KIND`, and its bound too where it leads to something, at a line's end
abbrev pub kind_text : Kind → ℕ → List ℕ
kind_text Kind.Leadsto bound = bounded_text Kind.Leadsto bound
kind_text Kind.Until bound = bounded_text Kind.Until bound
kind_text Kind.Detects bound = bounded_text Kind.Detects bound
kind_text kind bound = codes " " ++ (kind_name kind ++ 10 ∷ [])

-- `PROGRAM.STEP KIND`, on a line
abbrev pub step_line : List (List ℕ) → Record → List ℕ
step_line words r =
    word_text words r.program ++ (codes "." ++ (word_text words r.name ++ kind_text r.kind r.bound))

-- how many steps and obligations were accepted, and then each step
abbrev pub accepted_lines : List (List ℕ) → List Record → ℕ → List ℕ
accepted_lines words records obligations =
    codes "accepted " ++ (decimal (length records) ++ (codes " steps "
    ++ (decimal obligations ++ (codes " obligations" ++ 10 ∷ []))))
    ++ flat_map (step_line words) records

-- those of a plan
abbrev pub accepted_text : List (List ℕ) → Plan → List ℕ
accepted_text words plan = accepted_lines words plan.records (length plan.obligations)

-- ` PROGRAM.STEP`; ` PROGRAM` where no step is to be told; nothing where no program is
abbrev pub place_text : List (List ℕ) → Option ℕ → Option ℕ → List ℕ
place_text words None step = []
place_text words (Some program) None = codes " " ++ word_text words program
place_text words (Some program) (Some step) =
    codes " " ++ (word_text words program ++ (codes "." ++ word_text words step))

abbrev pub obligation_text : Option ℕ → List ℕ
obligation_text None = []
obligation_text (Some number) = codes " obligation " ++ decimal number

-- the first failure
abbrev pub rejected_text : List (List ℕ) → StepFault → List ℕ
rejected_text words fault =
    codes "rejected " ++ (code_text fault.code ++ (place_text words fault.program fault.step
    ++ (obligation_text fault.obligation ++ 10 ∷ [])))
