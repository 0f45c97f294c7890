-- The texts that say why certificates are missing.
use Rattle.std.specs.Prelude.{ℕ, nat_eq, ℤ, cond, List, [], ◌∷◌, ◌++◌, codes, decimal}
use Rattle.std.specs.Prelude.{Option, Some, None, find, slice_get}
use Rattle.std.specs.Option.{option_map_or, option_and_then}
use Rattle.std.specs.Fmt.{signed_decimal}
use Rattle.core_terms.specs.declared.programs.CSlot.{CSlot}
use Rattle.core_terms.specs.declared.documents.CStep.{CStep}
use Rattle.core_terms.specs.declared.documents.CDocument.{CDocument}
use Rattle.obligations.specs.declared.branches.Variable.{Variable}
use Rattle.schedule_replay.specs.Lines.{word_text, index_text, value_text}

-- `PROGRAM.STEP`
abbrev pub place_text : List (List ℕ) → ℕ → ℕ → List ℕ
place_text words program step = word_text words program ++ (codes "." ++ word_text words step)

-- `PROGRAM.STEP obligation N`
abbrev pub obligation_text : List (List ℕ) → ℕ → ℕ → ℕ → List ℕ
obligation_text words program step number = place_text words program step ++ (codes " obligation " ++ decimal number)

-- the step of these names
abbrev pub step_of : CDocument → ℕ → ℕ → Option CStep
step_of d program step =
    option_and_then (λ p. find (λ s. nat_eq s.name step) p.steps) (find (λ p. nat_eq p.program program) d.proofs)

-- the names of its parameters
abbrev pub names_of : CDocument → ℕ → ℕ → List ℕ
names_of d program step = option_map_or (λ s. s.param_names) (step_of d program step) []

-- `NAME = VALUE`, or with the index of an array's slot `NAME[INDEX] = VALUE`
abbrev pub slot_line : List (List ℕ) → CSlot → ℤ → List ℕ
slot_line words s z =
    word_text words s.name ++ (index_text s.index ++ (codes " = " ++ (value_text words s.print z ++ 10 ∷ [])))

abbrev pub param_line : List (List ℕ) → ℕ → ℤ → List ℕ
param_line words name z = word_text words name ++ (codes " = " ++ (signed_decimal z ++ 10 ∷ []))

-- the line of a variable with its value, where parameters have these names
abbrev pub variable_line : CDocument → List ℕ → Variable → ℤ → List ℕ
variable_line d names v z =
    cond v.param (option_map_or (λ n. param_line d.words n z) (slice_get names v.number) [])
    (option_map_or (λ s. slot_line d.words s z) (slice_get d.slots v.number) [])

-- none where there is no variable or no value
abbrev pub line_of : CDocument → List ℕ → Option Variable → Option ℤ → List ℕ
line_of d names None z = []
line_of d names (Some v) None = []
line_of d names (Some v) (Some z) = variable_line d names v z

abbrev pub variable_lines : CDocument → List ℕ → List Variable → List ℤ → List ℕ
variable_lines d names [] zs = []
variable_lines d names (v ∷ vs) [] = []
variable_lines d names (v ∷ vs) (z ∷ zs) = variable_line d names v z ++ variable_lines d names vs zs

-- an obligation is false at these values
abbrev pub refuted_text : CDocument → ℕ → ℕ → ℕ → List Variable → List ℤ → List ℕ
refuted_text d program step number variables values =
    codes "refuted " ++ (obligation_text d.words program step number ++ (10 ∷ []
    ++ variable_lines d (names_of d program step) variables values))

-- the budget does not suffice
abbrev pub budget_text : List (List ℕ) → ℕ → ℕ → ℕ → ℕ → List ℕ
budget_text words program step number budget =
    codes "budget " ++ (obligation_text words program step number ++ (codes " spent " ++ (decimal budget ++ 10 ∷ [])))
