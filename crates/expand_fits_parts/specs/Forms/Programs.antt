-- What is said of the statements and the first states of a core program.
use Rattle.std.specs.Prelude.{◌≡◌, ◌^◌, ◌≤◌, ℕ, List, [], length, true, IsTrue, All}
use Rattle.core_terms.specs.declared.programs.CSlot.{CSlot}
use Rattle.core_terms.specs.declared.programs.CProgram.{CProgram}
use Rattle.core_terms.specs.Places.{form_names_only}
use Rattle.core_terms.specs.Weights.{form_weight, slot_weight, place_weight}
use Rattle.core_terms.specs.Unions.{joined_programs}
use Rattle.core_terms.specs.Conditions.{is_below, is_shown, any_place, FormFits, StatementFits, NamesShown}

-- they fit the slots
pub record ProgramFits (slots : List CSlot) (c : CProgram) : Type 0 where
  pub statements : All (StatementFits slots) c.statements
  pub initially : FormFits slots [] c.initially

-- they name only slots that the program shows
pub record ProgramShows (c : CProgram) : Type 0 where
  pub statements : All (NamesShown c.shown) c.statements
  pub initially : IsTrue (form_names_only (is_shown c.shown) any_place c.initially)

-- the same of its first states, by what they name and weigh
pub record ProgramKeeps (slots : List CSlot) (c : CProgram) : Type 0 where
  pub statements : All (StatementFits slots) c.statements
  pub names : form_names_only (is_below (length slots)) (is_below 0) c.initially ≡ true
  pub weighs : form_weight (slot_weight slots) (place_weight []) c.initially ≤ 2 ^ 62

abbrev pub KeepsFit : Type 0
KeepsFit = (slots : List CSlot) (c : CProgram) → ProgramKeeps slots c → ProgramFits slots c

-- and so it is of a union of such programs
abbrev pub UnionsKeep : Type 0
UnionsKeep = (slots : List CSlot) (name : ℕ) (f g : CProgram) → ProgramKeeps slots f → ProgramKeeps slots g →
    ProgramKeeps slots (joined_programs name f g)

abbrev pub UnionsShow : Type 0
UnionsShow = (name : ℕ) (f g : CProgram) → ProgramShows f → ProgramShows g → ProgramShows (joined_programs name f g)
