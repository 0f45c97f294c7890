-- What a call answers that adds a word to a set of words.
use Rattle.std.specs.Prelude.{◌≡◌, ℕ, List, [], ◌∷◌, ◌++◌, false, not, Result, Ok, Err}
use Rattle.std.specs.List.{list_any}
use Rattle.std.specs.Str.{bytes_eq}
use Rattle.case_tables.specs.declared.code_table.Code.{Code}
use Rattle.unity_syntax.specs.declared.name.Name.{Name}
use Rattle.names_rules.specs.declared.named.NameFault.{NameFault}
use Rattle.names_rules.specs.Reading.{unless}
use Rattle.names_rules.specs.Answers.{Stops}

-- the word is new, and stands last; or it is there, and stands twice
abbrev pub Takes : Result (Unit {0}) NameFault → List (List ℕ) → List (List ℕ) → Name → Type 0
Takes (Ok t) old new name = (list_any (bytes_eq name.text) old ≡ false) × (new ≡ old ++ name.text ∷ [])
Takes (Err e) old new name = Stops e (unless (not (list_any (bytes_eq name.text) old)) Code.DeclaredTwice name.at)
