-- What `quot` makes of a branch: a quotient of a waiting formula becomes a variable of its own.
use Rattle.std.specs.Prelude.{ℕ, suc, ℤ, pos, neg_ℤ, ◌+ℤ◌, ◌-ℤ◌, Bool, true, false, Option, Some, None, List, [], ◌∷◌}
use Rattle.std.specs.Prelude.{◌++◌, length}
use Rattle.core_terms.specs.declared.trees.CTerm.{CTerm}
use Rattle.core_terms.specs.declared.trees.CForm.{CForm, out-CForm}
use Rattle.core_terms.specs.declared.trees.CForm.TheVariants.{AtLeast, Zero}
use Rattle.core_terms.specs.declared.trees.CForm.TheOpen.{CForm-F}
use Rattle.obligations.specs.declared.branches.Variable.{Variable}
use Rattle.obligations.specs.declared.branches.Line.{Line}
use Rattle.obligations.specs.declared.branches.Fact.{Fact}
use Rattle.obligations.specs.declared.branches.Branch.{Branch}
use Rattle.obligations.specs.declared.branches.Taken.{Taken}
use Rattle.obligations.specs.declared.branches.Replaced.{Replaced}
use Rattle.obligations.specs.LinearForms.{sparse, linear, negated}
use Rattle.obligations.specs.Scopes.{with_next}
use Rattle.obligations.specs.Settling.{first_taken, added, settled}

-- a formula's first quotient, and the formula without it
abbrev pub replaced : (CTerm → CForm) → Option Taken → Option Replaced
replaced f None = None
replaced f (Some q) = Some (record { taken = q; form = f q.rest })

abbrev pub replaced_in : ℕ → CForm-F CForm CTerm → Option Replaced
replaced_in v (CForm-F.AtLeast t) = replaced AtLeast (first_taken v t)
replaced_in v (CForm-F.Zero t) = replaced Zero (first_taken v t)
replaced_in v _ = None

-- with the parameter of this number in the quotient's place
abbrev pub without_quotient : ℕ → CForm → Option Replaced
without_quotient v f = replaced_in v (out-CForm f)

-- a linear form and a multiple of the variable after its own, as a fact
abbrev pub fact_with : Line → ℤ → Fact
fact_with l k = record { factors = sparse 0 l.factors ++ (length l.factors, k) ∷ []; constant = l.constant }

abbrev pub raised : Line → ℤ → Line
raised l c = record { factors = l.factors; constant = l.constant +ℤ c }

-- that a quotient times its divisor is at most what is divided
abbrev pub low_fact : List Variable → Taken → Fact
low_fact vs q = fact_with (linear vs q.of) (neg_ℤ q.divisor)

-- and that less than the divisor is left
abbrev pub high_fact : List Variable → Taken → Fact
high_fact vs q = fact_with (raised (negated vs (linear vs q.of)) (q.divisor -ℤ pos 1)) q.divisor

abbrev pub one_more : Branch → Branch
one_more b = record { facts = b.facts; waiting = b.waiting; added = suc b.added }

-- a branch, whose variables are these, with a variable more, that quotient's two facts and the formula without it
abbrev pub with_quotient : List Variable → Replaced → Branch → Branch
with_quotient vs r b =
    settled (with_next vs) r.form (added (added (one_more b) (low_fact vs r.taken)) (high_fact vs r.taken))

-- whether a formula is an `Or`
abbrev pub is_either_in : CForm-F CForm CTerm → Bool
is_either_in (CForm-F.Or f g) = true
is_either_in _ = false

abbrev pub is_either : CForm → Bool
is_either f = is_either_in (out-CForm f)
