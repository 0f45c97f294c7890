-- The formula of where a statement is defined, and its weakest precondition.
use Rattle.std.specs.Prelude.{ℕ, nat_eq, List, [], ◌∷◌, ◌++◌, map, filter, cond, Option, Some, None, slice_get}
use Rattle.core_terms.specs.declared.trees.CTerm.{CTerm}
use Rattle.core_terms.specs.declared.trees.CTerm.TheVariants.{Const, Slot, Param}
use Rattle.core_terms.specs.declared.trees.CForm.{CForm}
use Rattle.core_terms.specs.declared.trees.CForm.TheVariants.{Top, Bottom}
use Rattle.core_terms.specs.declared.programs.CSlot.{CSlot}
use Rattle.core_terms.specs.declared.programs.CWrite.{CWrite}
use Rattle.core_terms.specs.declared.programs.CStmt.{CStmt}
use Rattle.core_terms.specs.Replacing.{form_with}
use Rattle.core_terms.specs.Folding.{difference_term, choice_term, at_least_form, zero_form, not_form, and_form}
use Rattle.core_terms.specs.Folding.{or_form}

-- a formula and all further ones, from the left
abbrev pub and_all : CForm → List CForm → CForm
and_all f [] = f
and_all f (g ∷ gs) = and_all (and_form f g) gs

-- all formulas of a list
abbrev pub all_of : List CForm → CForm
all_of [] = Top
all_of (f ∷ fs) = and_all f fs

-- the value lies in the range of the slot; in no slot's range, none does
abbrev pub inside_form : CTerm → Option CSlot → CForm
inside_form value None = Bottom
inside_form value (Some s) =
    and_form (at_least_form (difference_term value (Const s.range.lo)))
    (at_least_form (difference_term (Const s.range.hi) value))

-- where the write is made, its value lies in the range of its slot
abbrev pub write_form : List CSlot → CWrite → CForm
write_form slots w = or_form (not_form w.when) (inside_form w.value (slice_get slots w.slot))

-- where both writes are made, their values are equal
abbrev pub pair_form : CWrite → CWrite → CForm
pair_form v w = or_form (not_form (and_form v.when w.when)) (zero_form (difference_term v.value w.value))

-- the writes to a slot
abbrev pub writes_to : ℕ → List CWrite → List CWrite
writes_to n ws = filter (λ w. nat_eq n w.slot) ws

-- one formula for each two writes to one slot, the earlier one first
abbrev pub pair_forms : List CWrite → List CForm
pair_forms [] = []
pair_forms (w ∷ ws) = map (pair_form w) (writes_to w.slot ws) ++ pair_forms ws

-- what must hold for the statement to be defined
abbrev pub needs : List CSlot → CStmt → List CForm
needs slots s = (map not_form s.outside ++ map (write_form slots) s.writes) ++ pair_forms s.writes

-- the statement is defined: no write outside, each value in its slot's range, no slot with two values
abbrev pub defined_form : List CSlot → CStmt → CForm
defined_form slots s = all_of (needs slots s)

-- what a slot holds after the writes: the value of the first one that is made, or else what it held
abbrev pub slot_after : List CWrite → ℕ → CTerm
slot_after [] n = Slot n
slot_after (w ∷ ws) n = cond (nat_eq w.slot n) (choice_term w.when w.value (slot_after ws n)) (slot_after ws n)

-- a formula with all slots replaced at once by what they hold after the writes
abbrev pub form_after : List CWrite → CForm → CForm
form_after ws = form_with (slot_after ws) (λ n. Param n)

-- the weakest precondition: the statement is defined, and q holds after it
abbrev pub wp_form : List CSlot → CStmt → CForm → CForm
wp_form slots s q = and_form (defined_form slots s) (form_after s.writes q)
