-- What is expanded together, as the formulas of a step: its first fault, and what a call answers.
use Rattle.std.specs.Prelude.{◌≡◌, ℕ, ◌^◌, ◌≤◌, nat_le, not, ◌||◌, List, [], ◌∷◌, Bool, true, false, cond, Option}
use Rattle.std.specs.Prelude.{Some, Result, Ok, Err}
use Rattle.std.specs.List.{list_any}
use Rattle.case_tables.specs.declared.code_table.Code.{Code}
use Rattle.core_terms.specs.declared.trees.CTerm.{CTerm}
use Rattle.core_terms.specs.declared.trees.CForm.{CForm}
use Rattle.unity_syntax.specs.declared.expression.Expr.{Expr}
use Rattle.names_rules.specs.declared.named.NameFault.{NameFault}
use Rattle.names_rules.specs.Reading.{Fault}
use Rattle.expand_rules.specs.declared.cores.Formed.{Formed}
use Rattle.expand_rules.specs.Forming.{Scope, formed, as_truth, as_number, form_of, term_of}
use Rattle.expand_rules.specs.declared.cores.Flaws.{Flaws}
use Rattle.expand_rules.specs.Measures.{no_flaws, both_flaws}
use Rattle.expand_rules.specs.Lists.{flaws_fault}
use Rattle.expand_rules.specs.Limits.{is_past_by, is_past, is_too_large}
use Rattle.expand_rules.specs.declared.cores.Measure.{Measure}
use Rattle.expand_expressions.specs.declared.refusal.Refusal.{Refusal}
use Rattle.expand_expressions.specs.Sound.{IsSound}

-- an expression as a truth, and as a number
abbrev pub truth_in : Scope → Expr → Formed
truth_in s e = as_truth (formed e s)

abbrev pub number_in : Scope → Expr → Formed
number_in s e = as_number (formed e s)

abbrev pub form_in : Scope → Expr → CForm
form_in s e = form_of (truth_in s e).core

abbrev pub term_in : Scope → Expr → CTerm
term_in s e = term_of (number_in s e).core

-- what fails in them
abbrev pub flaws_in : List Formed → Flaws
flaws_in [] = no_flaws
flaws_in (f ∷ fs) = both_flaws f.measure.flaws (flaws_in fs)

abbrev pub some_too_large : List Formed → Bool
some_too_large fs = list_any is_too_large fs

-- where one is too large, that is the fault, at the front of all; else what stands first of what fails
abbrev pub element_fault : ℕ → List Formed → Option Fault
element_fault front fs =
    cond (some_too_large fs) (Some (record { code = Code.TooLarge; at = front })) (flaws_fault (flaws_in fs))

-- a call stops where something is too large; want of memory says nothing
abbrev pub StopsLarge : NameFault → ℕ → Bool → Type 0
StopsLarge NameFault.Memory front large = Unit {0}
StopsLarge (NameFault.Fault code at) front large = (code ≡ Code.TooLarge) × (at ≡ front) × (large ≡ true)

-- a call that gives this, where nothing is too large, and notes what fails
pub record Given {X : Type 0} (x core : X) (old new : Flaws) (fs : List Formed) : Type 0 where
  pub same : x ≡ core
  pub noted : new ≡ both_flaws old (flaws_in fs)
  pub fits : some_too_large fs ≡ false

abbrev pub GivesOne : {X : Type 0} → Result X NameFault → X → ℕ → Flaws → Flaws → List Formed → Type 0
GivesOne (Ok x) core front old new fs = Given x core old new fs
GivesOne (Err e) core front old new fs = StopsLarge e front (some_too_large fs)

-- formulas, one at a time

-- whether what is constant or not, and has this measure, is too large
abbrev pub is_large : Bool → Measure → Bool
is_large constant m = is_past_by constant m || not (nat_le m.size 65536)

abbrev pub refused : Refusal → ℕ → NameFault
refused Refusal.Memory front = NameFault.Memory
refused Refusal.TooLarge front = NameFault.Fault Code.TooLarge front

-- a call that gives what an expression becomes, or stops because whatever has it as a part is too large
abbrev pub Forms : Result Formed NameFault → Formed → ℕ → Type 0
Forms (Ok f) g front = (f ≡ g) × IsSound f × (f.measure.most ≤ 2 ^ 62)
Forms (Err e) g front = StopsLarge e front (is_past g)

-- a call that notes what fails
abbrev pub NotesFlaws : Result (Unit {0}) NameFault → Bool → Measure → ℕ → Flaws → Flaws → Type 0
NotesFlaws (Ok t) constant m front old new = (is_large constant m ≡ false) × (new ≡ both_flaws old m.flaws)
NotesFlaws (Err e) constant m front old new = (e ≡ NameFault.Fault Code.TooLarge front) × (is_large constant m ≡ true)
