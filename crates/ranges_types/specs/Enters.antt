-- What a call answers that gives a word a meaning in a table.
use Rattle.std.specs.Prelude.{◌≡◌, ℕ, [], ◌∷◌, ◌++◌, false, not, Result, Ok, Err}
use Rattle.std.specs.List.{list_any}
use Rattle.case_tables.specs.declared.code_table.Code.{Code}
use Rattle.names_rules.specs.Reading.{unless}
use Rattle.names_rules.specs.Answers.{Stops}
use Rattle.unity_syntax.specs.declared.name.Name.{Name}
use Rattle.names_rules.specs.declared.named.NameFault.{NameFault}
use Rattle.names_rules.specs.declared.named.Named.{Named}
use Rattle.names_rules.specs.Scope.{Table}
use Rattle.names_rules.specs.Declarations.{with_named, StartSlot, StartSlots, same_slot}

-- it leaves the word with the meaning; it stops for want of memory alone
abbrev pub Enters : Result (Unit {0}) NameFault → Table → Table → Name → Named → Type 0
Enters (Ok t) old new name n = new ≡ with_named old name.text n
Enters (Err e) old new name n = e ≡ NameFault.Memory

-- the slot is new, and stands last; or it is there, and stands twice
abbrev pub TakesSlot : Result (Unit {0}) NameFault → StartSlots → StartSlots → StartSlot → ℕ → Type 0
TakesSlot (Ok t) old new slot at = (list_any (same_slot slot) old ≡ false) × (new ≡ old ++ slot ∷ [])
TakesSlot (Err e) old new slot at = Stops e (unless (not (list_any (same_slot slot) old)) Code.DeclaredTwice at)
