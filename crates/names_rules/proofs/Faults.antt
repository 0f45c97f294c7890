-- Where there is no fault, none of two is there, and each condition holds.
use Rattle.std.proofs.Common.{◌≡◌, ℕ, Bool, true, false, refl, Option, Some, None}
use Rattle.unity_syntax.specs.from_case_tables.declared.code_table.Code.{Code}
use Rattle.names_rules.specs.Reading.{Fault, earlier, unless}

pub earlier_first : (f g : Option Fault) → earlier f g ≡ None → f ≡ None
earlier_first None g h = refl
earlier_first (Some f) g h = h

pub earlier_second : (f g : Option Fault) → earlier f g ≡ None → g ≡ None
earlier_second None g h = h
earlier_second (Some f) g h = cc h

pub unless_none : (b : Bool) (code : Code) (at : ℕ) → unless b code at ≡ None → b ≡ true
unless_none true code at h = refl
unless_none false code at h = cc h
