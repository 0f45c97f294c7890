-- The numbers of a range, and a formula at one of them.
use Rattle.std.specs.Prelude.{ℕ, suc, nat_eq, ℤ, pos, cond, List, [], ◌∷◌}
use Rattle.core_terms.specs.Replacing.{form_at}
use Rattle.core_terms.specs.declared.documents.Arg.{Arg}
use Rattle.core_terms.specs.declared.trees.CForm.{CForm}
use Rattle.core_terms.specs.declared.trees.Range.{Range}
use Rattle.meaning_executions.specs.Counting.{range_size, count_up}

-- the numbers of a range, in order
abbrev pub numbers_of : Range → List ℤ
numbers_of range = count_up range.lo (range_size (range.lo, range.hi))

-- each parameter stands for itself from number i on, and m for the number z
abbrev pub args_from : ℕ → ℕ → ℤ → List Range → List Arg
args_from i m z [] = []
args_from i m z (r ∷ ranges) = cond (nat_eq i m) (Arg.Number z) (Arg.Param i (pos 0)) ∷ args_from (suc i) m z ranges

-- the formula with the parameter m put to z
abbrev pub form_for : List Range → ℕ → ℤ → CForm → CForm
form_for ranges m z = form_at (args_from 0 m z ranges)
