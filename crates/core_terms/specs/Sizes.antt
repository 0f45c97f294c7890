-- How many nodes a tree has.
use Rattle.std.specs.Prelude.{ℕ, ◌+◌}
use Rattle.core_terms.specs.declared.trees.CTerm.{CTerm, fold-CTerm}
use Rattle.core_terms.specs.declared.trees.CForm.TheOpen.{CTerm-F, CForm-F}
use Rattle.core_terms.specs.declared.trees.CForm.{CForm, fold-CForm}

-- a term's nodes, from those of its parts
abbrev pub term_size : CTerm-F ℕ ℕ → ℕ
term_size (CTerm-F.Const c) = 1
term_size (CTerm-F.Slot n) = 1
term_size (CTerm-F.Param n) = 1
term_size (CTerm-F.Add a b) = 1 + a + b
term_size (CTerm-F.Sub a b) = 1 + a + b
term_size (CTerm-F.Scale k a) = 1 + a
term_size (CTerm-F.Div a k) = 1 + a
term_size (CTerm-F.Mod a k) = 1 + a
term_size (CTerm-F.Ite c a b) = 1 + c + a + b

-- a formula's nodes, from those of its parts
abbrev pub form_size : CForm-F ℕ ℕ → ℕ
form_size CForm-F.Top = 1
form_size CForm-F.Bottom = 1
form_size (CForm-F.AtLeast t) = 1 + t
form_size (CForm-F.Zero t) = 1 + t
form_size (CForm-F.Not f) = 1 + f
form_size (CForm-F.And f g) = 1 + f + g
form_size (CForm-F.Or f g) = 1 + f + g

-- the nodes of a term
abbrev pub term_nodes : CTerm → ℕ
term_nodes = fold-CTerm ℕ ℕ form_size term_size

-- the nodes of a formula
abbrev pub form_nodes : CForm → ℕ
form_nodes = fold-CForm ℕ ℕ form_size term_size
