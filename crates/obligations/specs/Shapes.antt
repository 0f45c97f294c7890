-- How many cases a formula can ask for on one path, how many leaves they open, and how many quotients are taken on
-- one path.
use Rattle.std.specs.Prelude.{ℕ, ◌+◌, ◌*◌, max, Bool, true, false, List, [], ◌∷◌}
use Rattle.core_terms.specs.declared.trees.CTerm.{CTerm, fold-CTerm}
use Rattle.core_terms.specs.declared.trees.CForm.{CForm, fold-CForm}
use Rattle.core_terms.specs.declared.trees.CForm.TheOpen.{CTerm-F, CForm-F}

pub record Shape : Type 0 where
  pub cases : ℕ
  pub leaves : ℕ
  pub quotients : ℕ

-- no case, and one leaf
abbrev pub plain : Shape
plain = record { cases = 0; leaves = 1; quotients = 0 }

-- one after the other: cases and quotients add, and leaves multiply
abbrev pub both : Shape → Shape → Shape
both a b = record {
  cases = a.cases + b.cases;
  leaves = a.leaves * b.leaves;
  quotients = a.quotients + b.quotients;
}

-- one case more, with either of two
abbrev pub either : Shape → Shape → Shape
either a b = record {
  cases = 1 + max a.cases b.cases;
  leaves = a.leaves + b.leaves;
  quotients = max a.quotients b.quotients;
}

-- the shape of what is not zero: above it, or below
abbrev pub apart : Shape → Shape
apart a = record { cases = 1 + a.cases; leaves = 2 * a.leaves; quotients = a.quotients }

-- a quotient more: it is taken, and fixed from both sides
abbrev pub divided : Shape → Shape
divided a = record { cases = 3 + a.cases; leaves = a.leaves; quotients = 1 + a.quotients }

-- what is counted of a shape: its cases, or its quotients
abbrev pub count_of : Bool → Shape → ℕ
count_of true a = a.cases
count_of false a = a.quotients

-- what one case more counts
abbrev pub count_of_case : Bool → ℕ
count_of_case true = 1
count_of_case false = 0

-- what one quotient more counts
abbrev pub count_of_quotient : Bool → ℕ
count_of_quotient true = 3
count_of_quotient false = 1

-- the shapes of a formula and of its negation
pub record Shapes : Type 0 where
  pub yes : Shape
  pub no : Shape

abbrev pub term_shape_step : CTerm-F Shapes Shape → Shape
term_shape_step (CTerm-F.Const c) = plain
term_shape_step (CTerm-F.Slot n) = plain
term_shape_step (CTerm-F.Param n) = plain
term_shape_step (CTerm-F.Add a b) = both a b
term_shape_step (CTerm-F.Sub a b) = both a b
term_shape_step (CTerm-F.Scale k a) = a
term_shape_step (CTerm-F.Ite c a b) = either (both c.yes a) (both c.no b)
term_shape_step (CTerm-F.Div a k) = divided a
term_shape_step (CTerm-F.Mod a k) = divided a

abbrev pub form_shape_step : CForm-F Shapes Shape → Shapes
form_shape_step CForm-F.Top = record { yes = plain; no = plain }
form_shape_step CForm-F.Bottom = record { yes = plain; no = plain }
form_shape_step (CForm-F.AtLeast t) = record { yes = t; no = t }
form_shape_step (CForm-F.Zero t) = record { yes = t; no = apart t }
form_shape_step (CForm-F.Not f) = record { yes = f.no; no = f.yes }
form_shape_step (CForm-F.And f g) = record { yes = both f.yes g.yes; no = either f.no g.no }
form_shape_step (CForm-F.Or f g) = record { yes = either f.yes g.yes; no = both f.no g.no }

-- the shape of a term
abbrev pub term_shape : CTerm → Shape
term_shape = fold-CTerm Shapes Shape form_shape_step term_shape_step

-- the shapes of a formula and of its negation
abbrev pub shapes : CForm → Shapes
shapes = fold-CForm Shapes Shape form_shape_step term_shape_step

-- the cases of formulas that wait, together
abbrev pub cases_of : List CForm → ℕ
cases_of [] = 0
cases_of (f ∷ fs) = (shapes f).yes.cases + cases_of fs

-- their leaves, multiplied
abbrev pub leaves_of : List CForm → ℕ
leaves_of [] = 1
leaves_of (f ∷ fs) = (shapes f).yes.leaves * leaves_of fs

-- their quotients, together
abbrev pub quotients_of : List CForm → ℕ
quotients_of [] = 0
quotients_of (f ∷ fs) = (shapes f).yes.quotients + quotients_of fs
