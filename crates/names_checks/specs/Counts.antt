-- What calls answer that hand out numbers, or read what nothing is known after.
use Rattle.std.specs.Prelude.{◌≡◌, ℕ, ◌+◌, ◌++◌, ◌∷◌, None, Result, Ok, Err}
use Rattle.names_rules.specs.declared.known.Env.{Env}
use Rattle.names_rules.specs.declared.named.Meaning.{Meaning}
use Rattle.names_rules.specs.declared.named.NameFault.{NameFault}
use Rattle.names_rules.specs.Reading.{Words, Reading}
use Rattle.names_rules.specs.Part.{Part}
use Rattle.names_rules.specs.Scope.{Params, Bounds, bounds}
use Rattle.indexmap.specs.IndexMap.{insert_entry}
use Rattle.std.specs.Str.{bytes_eq}
use Rattle.unity_syntax.specs.declared.name.Name.{Name}
use Rattle.names_rules.specs.Answers.{AddsWords, Stops}

-- the next number; it stops for want of memory alone
abbrev pub CountsOn : Result ℕ NameFault → ℕ → ℕ → Type 0
CountsOn (Ok n) old new = (n ≡ old) × (new ≡ old + 1)
CountsOn (Err e) old new = e ≡ NameFault.Memory

-- a call that adds the words of a part to a table
abbrev pub AddsPart : {S : Type 0} → Result (Unit {0}) NameFault → Words → Words → Part S → Type 0
AddsPart result old new p = AddsWords result old new p.fault p.words

-- the parameters with one more; it stops for want of memory alone
abbrev pub EntersParam : Result (Unit {0}) NameFault → Params → Params → Name → ℕ → Type 0
EntersParam (Ok t) old new name number = new ≡ insert_entry bytes_eq old name.text number
EntersParam (Err e) old new name number = e ≡ NameFault.Memory

-- the bound names inside what binds a name as the parameter of the next number, and the words of a reading are added
abbrev pub BindsInside : Result Env NameFault → Words → Words → ℕ → ℕ → Name → Bounds → Reading → Type 0
BindsInside (Ok inner) old new next more name outer r =
    (r.fault ≡ None) × (new ≡ old ++ r.words) × (more ≡ next + 1) ×
    (bounds inner ≡ (name.text, Meaning.Param next) ∷ outer)
BindsInside (Err e) old new next more name outer r = Stops e r.fault
