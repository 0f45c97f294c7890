-- How great the numbers of a linear form can be.
use Rattle.std.specs.Prelude.{ℕ, ◌+◌, ◌*◌, ◌^◌, max, ℤ, negsuc, List, [], ◌∷◌, Bool, nat_le}
use Rattle.std.specs.List.{list_all}
use Rattle.std.specs.Int.RustNames.{unsigned_abs}
use Rattle.core_terms.specs.declared.trees.CTerm.{CTerm, fold-CTerm}
use Rattle.core_terms.specs.declared.trees.CForm.{CForm, fold-CForm}
use Rattle.core_terms.specs.declared.trees.CForm.TheOpen.{CTerm-F, CForm-F}
use Rattle.core_terms.specs.from_meaning_states.Division.{divisor}
use Rattle.obligations.specs.declared.branches.Line.{Line}
use Rattle.obligations.specs.declared.branches.Branch.{Branch}

abbrev pub sizes : List ℤ → ℕ
sizes [] = 0
sizes (z ∷ zs) = unsigned_abs z + sizes zs

-- the sum of the absolute values of a linear form's factors and its constant
abbrev pub norm : Line → ℕ
norm l = sizes l.factors + unsigned_abs l.constant

-- a term's own load, and the greatest load of the conditions in it, of what is divided in it, and of the numbers that
-- it is divided by
pub record Load : Type 0 where
  pub own : ℕ
  pub most : ℕ

abbrev pub term_load_step : CTerm-F ℕ Load → Load
term_load_step (CTerm-F.Const c) = record { own = unsigned_abs c; most = 0 }
term_load_step (CTerm-F.Slot n) = record { own = 1; most = 0 }
term_load_step (CTerm-F.Param n) = record { own = 1; most = 0 }
term_load_step (CTerm-F.Add a b) = record { own = a.own + b.own; most = max a.most b.most }
term_load_step (CTerm-F.Sub a b) = record { own = a.own + b.own; most = max a.most b.most }
term_load_step (CTerm-F.Scale k a) = record { own = unsigned_abs k * a.own; most = a.most }
term_load_step (CTerm-F.Ite c a b) = record { own = max a.own b.own; most = max c (max a.most b.most) }
term_load_step (CTerm-F.Div a k) = record {
  own = max 1 a.own;
  most = max (unsigned_abs (divisor k)) (max a.own a.most);
}
term_load_step (CTerm-F.Mod a k) = record {
  own = 2 * a.own + unsigned_abs (divisor k);
  most = max (unsigned_abs (divisor k)) (max a.own a.most);
}

abbrev pub form_load_step : CForm-F ℕ Load → ℕ
form_load_step CForm-F.Top = 0
form_load_step CForm-F.Bottom = 0
form_load_step (CForm-F.AtLeast t) = max t.own t.most
form_load_step (CForm-F.Zero t) = max t.own t.most
form_load_step (CForm-F.Not f) = f
form_load_step (CForm-F.And f g) = max f g
form_load_step (CForm-F.Or f g) = max f g

-- a term's loads; the numbers of its linear form have a sum of at most its own
abbrev pub term_load : CTerm → Load
term_load = fold-CTerm ℕ Load form_load_step term_load_step

-- the greatest load of the terms in a formula
abbrev pub form_load : CForm → ℕ
form_load = fold-CForm ℕ Load form_load_step term_load_step

-- the greatest load of a term that settling a formula, or its negation, can meet
pub record Need : Type 0 where
  pub yes : ℕ
  pub no : ℕ

-- a term's loads, where a constant loads as this says, from the needs of its conditions; a number that it divides
-- by always loads
abbrev pub term_need_step : (ℤ → ℕ) → CTerm-F Need Load → Load
term_need_step size (CTerm-F.Const c) = record { own = size c; most = 0 }
term_need_step size (CTerm-F.Slot n) = record { own = 1; most = 0 }
term_need_step size (CTerm-F.Param n) = record { own = 1; most = 0 }
term_need_step size (CTerm-F.Add a b) = record { own = a.own + b.own; most = max a.most b.most }
term_need_step size (CTerm-F.Sub a b) = record { own = a.own + b.own; most = max a.most b.most }
term_need_step size (CTerm-F.Scale k a) = record { own = unsigned_abs k * a.own; most = a.most }
term_need_step size (CTerm-F.Ite c a b) = record {
  own = max a.own b.own;
  most = max (max c.yes c.no) (max a.most b.most);
}
term_need_step size (CTerm-F.Div a k) = record {
  own = max 1 a.own;
  most = max (unsigned_abs (divisor k)) (max a.own a.most);
}
term_need_step size (CTerm-F.Mod a k) = record {
  own = 2 * a.own + unsigned_abs (divisor k);
  most = max (unsigned_abs (divisor k)) (max a.own a.most);
}

-- the negation of `AtLeast`, and that of `Zero`, meet the term less 1
abbrev pub form_need_step : (ℤ → ℕ) → CForm-F Need Load → Need
form_need_step size CForm-F.Top = record { yes = 0; no = 0 }
form_need_step size CForm-F.Bottom = record { yes = 0; no = 0 }
form_need_step size (CForm-F.AtLeast t) = record {
  yes = max t.own t.most;
  no = max (size (negsuc 0) + t.own) t.most;
}
form_need_step size (CForm-F.Zero t) = record {
  yes = max t.own t.most;
  no = max (size (negsuc 0) + t.own) t.most;
}
form_need_step size (CForm-F.Not f) = record { yes = f.no; no = f.yes }
form_need_step size (CForm-F.And f g) = record { yes = max f.yes g.yes; no = max f.no g.no }
form_need_step size (CForm-F.Or f g) = record { yes = max f.yes g.yes; no = max f.no g.no }

abbrev pub term_needs : (ℤ → ℕ) → CTerm → Load
term_needs size = fold-CTerm Need Load (form_need_step size) (term_need_step size)

abbrev pub needs : (ℤ → ℕ) → CForm → Need
needs size = fold-CForm Need Load (form_need_step size) (term_need_step size)

-- whether settling a formula meets no load past a bound
abbrev pub is_bounded : (ℤ → ℕ) → ℕ → CForm → Bool
is_bounded size bound f = nat_le (needs size f).yes bound

-- with all constants
abbrev pub term_need : CTerm → Load
term_need = term_needs unsigned_abs

abbrev pub need : CForm → Need
need = needs unsigned_abs

abbrev pub is_light : ℕ → CForm → Bool
is_light bound = is_bounded unsigned_abs bound

-- whether this is so for all formulas that wait
abbrev pub is_light_branch : ℕ → Branch → Bool
is_light_branch bound b = list_all (is_light bound) b.waiting

-- without constants: the sum of a term's factors
abbrev pub no_size : ℤ → ℕ
no_size c = 0

abbrev pub term_width : CTerm → Load
term_width = term_needs no_size

abbrev pub width : CForm → Need
width = needs no_size

-- whether settling a formula meets no factors of a sum past 2^62
abbrev pub is_narrow : CForm → Bool
is_narrow = is_bounded no_size (2 ^ 62)

-- within the limit of a certificate's numbers
abbrev pub in_limit : ℤ → Bool
in_limit z = nat_le (unsigned_abs z) (2 ^ 126)
