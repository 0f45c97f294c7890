-- Formulas that wait in a branch.
use Rattle.std.specs.Prelude.{Bool, true, false}
use Rattle.core_terms.specs.declared.trees.CTerm.{CTerm}
use Rattle.core_terms.specs.declared.trees.CForm.{CForm, out-CForm}
use Rattle.core_terms.specs.declared.trees.CForm.TheOpen.{CForm-F}
use Rattle.obligations.specs.Settling.{has_quotient}

abbrev pub can_wait_in : CForm-F CForm CTerm → Bool
can_wait_in CForm-F.Top = false
can_wait_in CForm-F.Bottom = false
can_wait_in (CForm-F.AtLeast t) = has_quotient t
can_wait_in (CForm-F.Zero t) = has_quotient t
can_wait_in (CForm-F.Not f) = false
can_wait_in (CForm-F.And f g) = false
can_wait_in (CForm-F.Or f g) = true

-- an `Or`, or a term with a quotient that is at least 0 or is 0
abbrev pub can_wait : CForm → Bool
can_wait f = can_wait_in (out-CForm f)
