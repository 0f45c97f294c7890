-- The statement that helps: its indices, one by one.
use Rattle.std.specs.Prelude.{nat_eq, ℤ, Bool, true, false, ◌&&◌, List, [], ◌∷◌, length}
use Rattle.meaning_states.specs.State.{int_eq}
use Rattle.core_terms.specs.Folding.{zero_form, difference_term}
use Rattle.core_terms.specs.Replacing.{shifted}
use Rattle.core_terms.specs.declared.trees.CForm.{CForm}
use Rattle.core_terms.specs.declared.trees.CTerm.TheVariants.{Const}
use Rattle.core_terms.specs.declared.documents.Arg.{Arg}
use Rattle.core_terms.specs.declared.documents.Helper.{Helper}
use Rattle.core_terms.specs.declared.programs.CStmt.{CStmt}
use Rattle.rules_table.specs.Table.{args_agree}

-- an index may be this number
abbrev pub arg_agrees : Arg → ℤ → Bool
arg_agrees (Arg.Number k) z = int_eq k z
arg_agrees (Arg.Param n add) z = true
arg_agrees Arg.Slot z = false

-- the statement may be the one that is meant
abbrev pub may_mean : Helper → CStmt → Bool
may_mean h s = nat_eq s.label h.label && args_agree h.args s.indices

-- it has the label, and as many indices
abbrev pub has_place : Helper → CStmt → Bool
has_place h s = nat_eq s.label h.label && nat_eq (length s.indices) (length h.args)

-- that an index is this number, where it names a parameter
abbrev pub equation_of : Arg → ℤ → List CForm
equation_of (Arg.Number k) z = []
equation_of (Arg.Param n add) z = zero_form (difference_term (shifted n add) (Const z)) ∷ []
equation_of Arg.Slot z = []
