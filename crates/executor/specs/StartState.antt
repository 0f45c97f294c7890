-- The start state of a program: the values of its start section, else those that conjuncts of its initially
-- section fix, else the lowest.
use Rattle.std.specs.Prelude.{ℕ, nat_eq, ℤ, pos, List, [], ◌∷◌, ◌++◌, map, Bool, true, false, cond, ◌&&◌, Option}
use Rattle.std.specs.Prelude.{Some, None, unwrap_or, slice_get, option_and_then}
use Rattle.std.specs.Option.{option_map}
use Rattle.std.specs.List.{filter_map, enumerate_from}
use Rattle.meaning_states.specs.State.{State, int_eq, in_range}
use Rattle.core_terms.specs.declared.trees.CTerm.{CTerm, out-CTerm, roll-CTerm}
use Rattle.core_terms.specs.declared.trees.CForm.{CForm, out-CForm, roll-CForm, fold-CForm}
use Rattle.core_terms.specs.declared.trees.CForm.TheOpen.{CTerm-F, CForm-F}
use Rattle.core_terms.specs.declared.trees.CForm.TheFolds.{map-CForm, map-CTerm}
use Rattle.core_terms.specs.declared.programs.Print.{Print}
use Rattle.core_terms.specs.declared.programs.CSlot.{CSlot}
use Rattle.core_terms.specs.declared.programs.CProgram.{CProgram}

-- a formula, and its conjuncts in order
pub record Conjunction : Type 0 where
  pub whole : CForm
  pub parts : List CForm

-- the conjuncts of both sides of a conjunction, and else the formula itself
abbrev pub parts_of : CForm-F Conjunction CTerm → CForm → List CForm
parts_of (CForm-F.And f g) whole = f.parts ++ g.parts
parts_of _ whole = whole ∷ []

-- a formula of such parts
abbrev pub whole_of : CForm-F Conjunction CTerm → CForm
whole_of x = roll-CForm (map-CForm Conjunction CTerm CForm CTerm (λ c. c.whole) (λ t. t) x)

abbrev pub conjunction_step : CForm-F Conjunction CTerm → Conjunction
conjunction_step x = record { whole = whole_of x; parts = parts_of x (whole_of x) }

-- a term of such parts
abbrev pub term_of : CTerm-F Conjunction CTerm → CTerm
term_of x = roll-CTerm (map-CTerm Conjunction CTerm CForm CTerm (λ c. c.whole) (λ t. t) x)

-- a formula, with its conjuncts
abbrev pub conjunction : CForm → Conjunction
conjunction = fold-CForm Conjunction CTerm conjunction_step term_of

-- the conjuncts of a formula: its `And` nodes are taken apart from the top
abbrev pub conjuncts : CForm → List CForm
conjuncts f = (conjunction f).parts

-- the number of a constant
abbrev pub constant_in : CTerm-F CForm CTerm → Option ℤ
constant_in (CTerm-F.Const c) = Some c
constant_in _ = None

abbrev pub constant : CTerm → Option ℤ
constant t = constant_in (out-CTerm t)

-- the slot that a term is
abbrev pub slot_in : CTerm-F CForm CTerm → Option ℕ
slot_in (CTerm-F.Slot n) = Some n
slot_in _ = None

abbrev pub slot_number : CTerm → Option ℕ
slot_number t = slot_in (out-CTerm t)

-- the slot and the number of a difference `Sub(Slot(n), Const(c))`
abbrev pub difference_in : CTerm-F CForm CTerm → Option (ℕ × ℤ)
difference_in (CTerm-F.Sub a b) = option_and_then (λ n. option_map (λ c. (n, c)) (constant b)) (slot_number a)
difference_in _ = None

abbrev pub difference : CTerm → Option (ℕ × ℤ)
difference t = difference_in (out-CTerm t)

-- the range of the slot of this number
abbrev pub range_at : List CSlot → ℕ → Option (ℤ × ℤ)
range_at slots n = option_map (λ s. (s.range.lo, s.range.hi)) (slice_get slots n)

-- a slot and a number that lies in its range
abbrev pub within_range : List CSlot → ℕ × ℤ → Option (ℕ × ℤ)
within_range slots e = cond (in_range (range_at slots e.0) e.1) (Some e) None

-- the slot is boolean: its numbers are written as truths
abbrev pub is_truth : Print → Bool
is_truth Print.Truth = true
is_truth _ = false

abbrev pub is_truth_slot : Option CSlot → Bool
is_truth_slot None = false
is_truth_slot (Some s) = is_truth s.print

-- a boolean slot and the number 1
abbrev pub truth_of : List CSlot → ℕ × ℤ → Option ℕ
truth_of slots e = cond (int_eq e.1 (pos 1) && is_truth_slot (slice_get slots e.0)) (Some e.0) None

-- the boolean slot whose form is `AtLeast(Sub(Slot(n), Const(1)))`
abbrev pub boolean_in : List CSlot → CForm-F CForm CTerm → Option ℕ
boolean_in slots (CForm-F.AtLeast t) = option_and_then (truth_of slots) (difference t)
boolean_in slots _ = None

abbrev pub boolean_slot : List CSlot → CForm → Option ℕ
boolean_slot slots f = boolean_in slots (out-CForm f)

-- the slot that a conjunct fixes, and its number: c of `Zero(Sub(Slot(n), Const(c)))` where it is in range, 1 of a
-- boolean slot's form, and 0 of its `Not`
abbrev pub fixed_in : List CSlot → CForm-F CForm CTerm → Option (ℕ × ℤ)
fixed_in slots (CForm-F.Zero t) = option_and_then (within_range slots) (difference t)
fixed_in slots (CForm-F.AtLeast t) = option_map (λ n. (n, pos 1)) (option_and_then (truth_of slots) (difference t))
fixed_in slots (CForm-F.Not f) = option_map (λ n. (n, pos 0)) (boolean_slot slots f)
fixed_in slots _ = None

abbrev pub fixed : List CSlot → CForm → Option (ℕ × ℤ)
fixed slots f = fixed_in slots (out-CForm f)

-- the number that the first entry for a slot gives it
abbrev pub given : List (ℕ × ℤ) → ℕ → Option ℤ
given [] n = None
given (e ∷ rest) n = cond (nat_eq e.0 n) (Some e.1) (given rest n)

-- the slots that are given a number: those of the start section, then those that conjuncts fix, in order
abbrev pub start_entries : List CSlot → CProgram → List (ℕ × ℤ)
start_entries slots p = p.start ++ filter_map (fixed slots) (conjuncts p.initially)

-- each slot has the number of its first entry, and else the lowest of its range
abbrev pub first_numbers : List CSlot → List (ℕ × ℤ) → State
first_numbers slots entries =
    map (λ e. unwrap_or (given entries e.0) e.1.range.lo) (enumerate_from 0 slots)

-- the start state of a program
abbrev pub start_state : List CSlot → CProgram → State
start_state slots p = first_numbers slots (start_entries slots p)
