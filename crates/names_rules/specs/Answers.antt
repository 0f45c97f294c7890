-- What calls answer: the first fault, or the words that they add to a table and what is known after them.
use Rattle.std.specs.Prelude.{◌≡◌, ℕ, ◌++◌, Option, Some, None, Bool, true, false, ◌&&◌, Result, Ok, Err}
use Rattle.unity_syntax.specs.from_case_tables.declared.code_table.Code.{Code}
use Rattle.names_rules.specs.declared.named.NameFault.{NameFault}
use Rattle.names_rules.specs.declared.named.Sort.{Sort}
use Rattle.names_rules.specs.declared.named.Typed.{Typed}
use Rattle.names_rules.specs.Reading.{Fault, Words, Reading, same_sort}
use Rattle.names_rules.specs.Part.{Part}

-- a call stops at the first fault; want of memory says nothing
abbrev pub Stops : NameFault → Option Fault → Type 0
Stops NameFault.Memory fault = Unit {0}
Stops (NameFault.Fault code at) fault = fault ≡ Some (record { code = code; at = at })

abbrev pub Demands : Result (Unit {0}) NameFault → Option Fault → Type 0
Demands (Ok t) fault = fault ≡ None
Demands (Err e) fault = Stops e fault

abbrev pub GivesType : Result Typed NameFault → Words → Words → Sort → Bool → Option Fault → Words → Type 0
GivesType (Ok t) old new sort constant fault words =
    (fault ≡ None) × (t.sort ≡ sort) × (t.constant ≡ constant) × (new ≡ old ++ words)
GivesType (Err e) old new sort constant fault words = Stops e fault

-- a call that answers a type, and adds the words of a reading to a table
abbrev pub GivesReading : Result Typed NameFault → Words → Words → Reading → Type 0
GivesReading result old new r = GivesType result old new r.sort r.constant r.fault r.words

abbrev pub AddsWords : Result (Unit {0}) NameFault → Words → Words → Option Fault → Words → Type 0
AddsWords (Ok t) old new fault words = (fault ≡ None) × (new ≡ old ++ words)
AddsWords (Err e) old new fault words = Stops e fault

-- a call that adds the words of a reading to a table
abbrev pub Notes : Result (Unit {0}) NameFault → Words → Words → Reading → Type 0
Notes result old new r = AddsWords result old new r.fault r.words

-- a call that adds the words of a part to a table, and leaves what is known after it
abbrev pub Leaves : {S : Type 0} → Result (Unit {0}) NameFault → Words → Words → S → Part S → Type 0
Leaves (Ok t) old new after p = (p.fault ≡ None) × (new ≡ old ++ p.words) × (after ≡ p.after)
Leaves (Err e) old new after p = Stops e p.fault

-- the type of an operand that is to have a type
abbrev pub FitsSort : Result Typed NameFault → Typed → Sort → ℕ → Type 0
FitsSort (Ok t) found wanted at =
    (same_sort found.sort wanted ≡ true) × (t.sort ≡ wanted) × (t.constant ≡ found.constant)
FitsSort (Err e) found wanted at =
    (same_sort found.sort wanted ≡ false) × (e ≡ NameFault.Fault Code.WrongType at)

-- the type of an expression, from an operand and those that follow it
abbrev pub After : Result Typed NameFault → Typed → Sort → Result Typed NameFault → Type 0
After result first sort (Ok t) = result ≡ Ok (record { sort = sort; constant = first.constant && t.constant })
After result first sort (Err e) = result ≡ Err e
