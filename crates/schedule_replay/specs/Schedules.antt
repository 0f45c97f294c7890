-- Which instances a schedule chooses.
use Rattle.std.specs.Prelude.{◌≡◌, ℕ, ◌%◌, ◌<◌, nat_eq, length, All, List, [], map, Bool, ◌&&◌, Option, Some, None}
use Rattle.std.specs.Prelude.{is_none, find, ⊤}
use Rattle.std.specs.Option.{option_map, option_map_or}
use Rattle.std.specs.List.{position_from, range_with_len}
use Rattle.std.specs.Ordering.{int_eq}
use Rattle.std.specs.Cmp.Lexicographic.{pointwise}
use Rattle.core_terms.specs.from_case_tables.declared.code_table.Code.{Code}
use Rattle.core_terms.specs.declared.programs.CStmt.{CStmt}
use Rattle.core_terms.specs.declared.documents.Choice.{Choice}
use Rattle.core_terms.specs.declared.documents.CSchedule.{CSchedule}
use Rattle.core_terms.specs.declared.documents.CDocument.{CDocument}
use Rattle.schedule_replay.specs.declared.schedule.ScheduleError.{ScheduleError}

-- the choice names the instance: its label and the values of its bound names
abbrev pub names_instance : Choice → CStmt → Bool
names_instance c s = nat_eq s.label c.label && pointwise int_eq s.indices c.indices

-- the place of the instance that a choice names
abbrev pub place_of : List CStmt → Choice → Option ℕ
place_of statements c = position_from (names_instance c) 0 statements

-- the instances of the program of this name; none where there is no such program
abbrev pub statements_of : CDocument → ℕ → List CStmt
statements_of d name = option_map_or (λ p. p.statements) (find (λ p. nat_eq p.name name) d.programs) []

-- the instances that a schedule names are those at these places
pub record IsSchedule (d : CDocument) (places : List ℕ) : Type 0 where
  pub schedule : CSchedule
  pub there : d.schedule ≡ Some schedule
  pub named : map Some places ≡ map (place_of (statements_of d schedule.program)) schedule.choices

-- the places are those of instances of the program that the schedule names
pub record AreInstances (d : CDocument) (places : List ℕ) : Type 0 where
  pub schedule : CSchedule
  pub there : d.schedule ≡ Some schedule
  pub below : All (λ n. n < length (statements_of d schedule.program)) places

-- the first choice that names none of these instances
abbrev pub first_unknown : List CStmt → List Choice → Option Choice
first_unknown statements choices = find (λ c. is_none (place_of statements c)) choices

-- the first choice that names no instance stands at this byte
pub record IsUnknownChoice (d : CDocument) (at : ℕ) : Type 0 where
  pub schedule : CSchedule
  pub there : d.schedule ≡ Some schedule
  pub first : option_map (λ c. c.at) (first_unknown (statements_of d schedule.program) schedule.choices) ≡ Some at

-- why there are no places for these choices
abbrev pub HasNoPlaces : List CStmt → List Choice → ScheduleError → Type 0
HasNoPlaces statements choices ScheduleError.NoSchedule = ⊥
HasNoPlaces statements choices (ScheduleError.Fault code at) =
    (code ≡ Code.NoSuchStatement) × (option_map (λ c. c.at) (first_unknown statements choices) ≡ Some at)
HasNoPlaces statements choices ScheduleError.Memory = ⊤

-- why a document has no schedule to replay; for want of memory nothing is said
abbrev pub HasNoSchedule : CDocument → ScheduleError → Type 0
HasNoSchedule d ScheduleError.NoSchedule = d.schedule ≡ None
HasNoSchedule d (ScheduleError.Fault code at) = (code ≡ Code.NoSuchStatement) × IsUnknownChoice d at
HasNoSchedule d ScheduleError.Memory = ⊤

-- the choices of a run of so many steps among k instances: one after the other, and again from the first
abbrev pub turns : ℕ → ℕ → List ℕ
turns k count = map (λ i. i % k) (range_with_len 0 count)
