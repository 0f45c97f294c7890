-- The cases of a step, one for each choice of numbers for its parameters, and how each is read.
use Rattle.std.specs.Prelude.{ℕ, nat_eq, ◌+◌, ◌*◌, ℤ, List, [], ◌∷◌, ◌++◌, map, Bool, cond, Option, Some, None, sum}
use Rattle.std.specs.List.{flat_map, position_from}
use Rattle.meaning_executions.specs.Counting.{count_up}
use Rattle.meaning_executions.specs.Counting.{range_size}
use Rattle.core_terms.specs.declared.trees.Range.{Range}
use Rattle.core_terms.specs.declared.programs.CProgram.{CProgram}
use Rattle.core_terms.specs.declared.documents.Helper.{Helper}
use Rattle.fair_rounds.specs.declared.records.Record.{Record}
use Rattle.fair_rounds.specs.Records.{holding, names_statement}
use Rattle.trace_watch.specs.Readings.{Reading}

-- how many numbers lie in a range, and which
abbrev pub size_of : Range → ℕ
size_of r = range_size (r.lo, r.hi)

abbrev pub numbers_in : Range → List ℤ
numbers_in r = count_up r.lo (size_of r)

-- all choices of a number for each parameter, in order: the first parameter's number changes last
abbrev pub environments : List Range → List (List ℤ)
environments [] = [] ∷ []
environments (r ∷ rest) = flat_map (λ z. map (λ e. z ∷ e) (environments rest)) (numbers_in r)

-- how many there are
abbrev pub case_count : List Range → ℕ
case_count [] = 1
case_count (r ∷ rest) = size_of r * case_count rest

-- the place of the instance that a helper names
abbrev pub helper_place : CProgram → Option Helper → List ℤ → Option ℕ
helper_place c None e = None
helper_place c (Some h) e = position_from (names_statement h e) 0 c.statements

-- how a record of a program is read, for these numbers of its parameters
abbrev pub reading_of : CProgram → Record → List ℤ → Reading
reading_of c r e = record {
  kind = r.kind;
  p = holding e r.p;
  q = holding e r.q;
  bound = r.bound;
  helper = helper_place c r.helper e;
}

abbrev pub is_of : CProgram → Record → Bool
is_of c r = nat_eq r.program c.name

-- a step that is watched: its record's place, and the readings of its cases, in order
pub record WatchedStep : Type 0 where
  pub place : ℕ
  pub cases : List Reading

abbrev pub watched_step : CProgram → ℕ → Record → WatchedStep
watched_step c place r = record { place = place; cases = map (reading_of c r) (environments r.params) }

-- it alone, if the record is one of the program's
abbrev pub watched_one : CProgram → ℕ → Record → List WatchedStep
watched_one c place r = cond (is_of c r) (watched_step c place r ∷ []) []

-- the steps of a program that records from this place on are of
abbrev pub watched_from : CProgram → ℕ → List Record → List WatchedStep
watched_from c place [] = []
watched_from c place (r ∷ rest) = watched_one c place r ++ watched_from c (place + 1) rest

abbrev pub watched : CProgram → List Record → List WatchedStep
watched c records = watched_from c 0 records

-- how many cases a record has, if it is one of the program's, and how many there are in all
abbrev pub own_cases : CProgram → Record → ℕ
own_cases c r = cond (is_of c r) (case_count r.params) 0

abbrev pub total_cases : CProgram → List Record → ℕ
total_cases c records = sum (map (own_cases c) records)
