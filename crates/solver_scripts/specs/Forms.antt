-- Core terms and formulas as terms of a script.
use Rattle.std.specs.Prelude.{suc, ℤ, pos, negsuc, true, false}
use Rattle.meaning_states.specs.Division.{divisor}
use Rattle.core_terms.specs.declared.trees.CTerm.{CTerm, fold-CTerm}
use Rattle.core_terms.specs.declared.trees.CForm.{CForm, fold-CForm}
use Rattle.core_terms.specs.declared.trees.CForm.TheOpen.{CTerm-F, CForm-F}
use Rattle.solver_scripts.specs.Naming.{Naming}
use Rattle.solver_scripts.specs.Terms.{IntTerm, BoolTerm}

-- a numeral has no sign
abbrev pub constant : ℤ → IntTerm
constant (pos n) = IntTerm.numeral n
constant (negsuc n) = IntTerm.minus (IntTerm.numeral (suc n))

abbrev pub int_step : Naming → CTerm-F BoolTerm IntTerm → IntTerm
int_step name (CTerm-F.Const c) = constant c
int_step name (CTerm-F.Slot n) = IntTerm.symbol (name false n)
int_step name (CTerm-F.Param n) = IntTerm.symbol (name true n)
int_step name (CTerm-F.Add a b) = IntTerm.sum a b
int_step name (CTerm-F.Sub a b) = IntTerm.difference a b
int_step name (CTerm-F.Scale k a) = IntTerm.product (constant k) a
int_step name (CTerm-F.Div a k) = IntTerm.quotient a (constant (divisor k))
int_step name (CTerm-F.Mod a k) = IntTerm.remainder a (constant (divisor k))
int_step name (CTerm-F.Ite c a b) = IntTerm.choice c a b

abbrev pub bool_step : CForm-F BoolTerm IntTerm → BoolTerm
bool_step CForm-F.Top = BoolTerm.holds
bool_step CForm-F.Bottom = BoolTerm.fails
bool_step (CForm-F.AtLeast t) = BoolTerm.at_most (IntTerm.numeral 0) t
bool_step (CForm-F.Zero t) = BoolTerm.equal t (IntTerm.numeral 0)
bool_step (CForm-F.Not f) = BoolTerm.negation f
bool_step (CForm-F.And f g) = BoolTerm.both f g
bool_step (CForm-F.Or f g) = BoolTerm.either f g

-- a core term as a term of the script
abbrev pub int_term : Naming → CTerm → IntTerm
int_term name = fold-CTerm BoolTerm IntTerm bool_step (int_step name)

-- and a formula
abbrev pub bool_term : Naming → CForm → BoolTerm
bool_term name = fold-CForm BoolTerm IntTerm bool_step (int_step name)
