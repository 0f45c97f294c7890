-- The values of core terms and formulas, in whole numbers without a limit.
use Rattle.std.specs.Prelude.{ℕ, slice_index_or, ℤ, pos, ◌+ℤ◌, ◌-ℤ◌, ◌*ℤ◌, List, Bool, true, false, cond, not, ◌&&◌}
use Rattle.std.specs.Prelude.{◌||◌}
use Rattle.std.specs.Int.RustNames.{int_le}
use Rattle.meaning_states.specs.State.{State, int_eq}
use Rattle.meaning_states.specs.Division.{floored, rest_of}
use Rattle.core_terms.specs.declared.trees.CTerm.{CTerm, fold-CTerm}
use Rattle.core_terms.specs.declared.trees.CForm.TheOpen.{CTerm-F, CForm-F}
use Rattle.core_terms.specs.declared.trees.CForm.{CForm, fold-CForm}

-- the number at a place of a list, and 0 past its end
abbrev pub number_at : List ℤ → ℕ → ℤ
number_at zs n = slice_index_or zs n (pos 0)

-- a term's value, from those of its parts
abbrev pub term_step : State → List ℤ → CTerm-F Bool ℤ → ℤ
term_step state params (CTerm-F.Const c) = c
term_step state params (CTerm-F.Slot n) = number_at state n
term_step state params (CTerm-F.Param n) = number_at params n
term_step state params (CTerm-F.Add a b) = a +ℤ b
term_step state params (CTerm-F.Sub a b) = a -ℤ b
term_step state params (CTerm-F.Scale k a) = k *ℤ a
term_step state params (CTerm-F.Div a k) = floored a k
term_step state params (CTerm-F.Mod a k) = rest_of a k
term_step state params (CTerm-F.Ite c a b) = cond c a b

-- a formula's truth, from that of its parts
abbrev pub form_step : CForm-F Bool ℤ → Bool
form_step CForm-F.Top = true
form_step CForm-F.Bottom = false
form_step (CForm-F.AtLeast t) = int_le (pos 0) t
form_step (CForm-F.Zero t) = int_eq t (pos 0)
form_step (CForm-F.Not f) = not f
form_step (CForm-F.And f g) = f && g
form_step (CForm-F.Or f g) = f || g

-- the value of a term at a state and numbers of the parameters
abbrev pub term_value : State → List ℤ → CTerm → ℤ
term_value state params = fold-CTerm Bool ℤ form_step (term_step state params)

-- the truth of a formula there
abbrev pub form_value : State → List ℤ → CForm → Bool
form_value state params = fold-CForm Bool ℤ form_step (term_step state params)
