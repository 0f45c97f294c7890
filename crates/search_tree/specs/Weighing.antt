-- How far from 0 the values of what is divided can lie.
use Rattle.std.specs.Prelude.{◌≡◌, ℕ, zero, suc, ◌+◌, ◌*◌, ◌^◌, ◌<◌, max, nat_le, ℤ, Bool, true, false, ◌&&◌, List}
use Rattle.std.specs.Prelude.{[], ◌∷◌}
use Rattle.std.specs.Prelude.{length}
use Rattle.std.specs.List.{list_all}
use Rattle.std.specs.Int.RustNames.{unsigned_abs}
use Rattle.core_terms.specs.declared.trees.CTerm.{CTerm, fold-CTerm}
use Rattle.core_terms.specs.declared.trees.CForm.{CForm, fold-CForm}
use Rattle.core_terms.specs.declared.trees.CForm.TheOpen.{CTerm-F, CForm-F}
use Rattle.core_terms.specs.declared.trees.Range.{Range}
use Rattle.meaning_states.specs.Division.{divisor}
use Rattle.obligations.specs.declared.branches.Variable.{Variable}
use Rattle.obligations.specs.declared.branches.Branch.{Branch}
use Rattle.obligations.specs.declared.branches.Line.{Line}
use Rattle.obligations.specs.LinearForms.{place_of}
use Rattle.obligations.specs.Scopes.{scope_of}

-- a term's own weight, and the greatest weight of what is divided in it
pub record Dividends : Type 0 where
  pub own : ℕ
  pub most : ℕ

-- for weights of the slots and of the parameters
abbrev pub dividends_step : (Bool → ℕ → ℕ) → CTerm-F ℕ Dividends → Dividends
dividends_step weight (CTerm-F.Const c) = record { own = unsigned_abs c; most = 0 }
dividends_step weight (CTerm-F.Slot n) = record { own = weight false n; most = 0 }
dividends_step weight (CTerm-F.Param n) = record { own = weight true n; most = 0 }
dividends_step weight (CTerm-F.Add a b) = record { own = a.own + b.own; most = max a.most b.most }
dividends_step weight (CTerm-F.Sub a b) = record { own = a.own + b.own; most = max a.most b.most }
dividends_step weight (CTerm-F.Scale k a) = record { own = unsigned_abs k * a.own; most = a.most }
dividends_step weight (CTerm-F.Ite c a b) = record { own = max a.own b.own; most = max c (max a.most b.most) }
dividends_step weight (CTerm-F.Div a k) = record { own = max 1 a.own; most = max a.own a.most }
dividends_step weight (CTerm-F.Mod a k) = record {
  own = 2 * a.own + unsigned_abs (divisor k);
  most = max a.own a.most;
}

abbrev pub form_dividends_step : CForm-F ℕ Dividends → ℕ
form_dividends_step CForm-F.Top = 0
form_dividends_step CForm-F.Bottom = 0
form_dividends_step (CForm-F.AtLeast t) = t.most
form_dividends_step (CForm-F.Zero t) = t.most
form_dividends_step (CForm-F.Not f) = f
form_dividends_step (CForm-F.And f g) = max f g
form_dividends_step (CForm-F.Or f g) = max f g

abbrev pub term_dividends : (Bool → ℕ → ℕ) → CTerm → Dividends
term_dividends weight = fold-CTerm ℕ Dividends form_dividends_step (dividends_step weight)

-- the greatest weight of what is divided in a formula
abbrev pub form_dividends : (Bool → ℕ → ℕ) → CForm → ℕ
form_dividends weight = fold-CForm ℕ Dividends form_dividends_step (dividends_step weight)

-- the weight at a place, and 1 where there is none
abbrev pub weight_in : List ℕ → ℕ → ℕ
weight_in [] n = 1
weight_in (w ∷ ws) zero = w
weight_in (w ∷ ws) (suc n) = weight_in ws n

-- a weight of slots (false) and of parameters (true) gives the variables these weights
abbrev pub Weighs : List Variable → List ℕ → (Bool → ℕ → ℕ) → Type 0
Weighs vs ws weight =
    (param : Bool) (n : ℕ) → place_of vs param n < length vs → weight param n ≡ weight_in ws (place_of vs param n)

-- the weights of a linear form's variables, each as often as its factor says; the first has this place
abbrev pub factors_weight : List ℕ → ℕ → List ℤ → ℕ
factors_weight ws n [] = 0
factors_weight ws n (z ∷ zs) = unsigned_abs z * weight_in ws n + factors_weight ws (suc n) zs

abbrev pub line_weight : List ℕ → Line → ℕ
line_weight ws l = factors_weight ws 0 l.factors + unsigned_abs l.constant

-- the ends of a range are no further from 0 than this
abbrev pub is_range_within : ℕ → Range → Bool
is_range_within w r = nat_le (unsigned_abs r.lo) w && nat_le (unsigned_abs r.hi) w

-- the ends of each range are within the weight of its variable, the first of which has this place
abbrev pub are_ranges_within : List ℕ → ℕ → List Range → Bool
are_ranges_within ws n [] = true
are_ranges_within ws n (r ∷ rs) = is_range_within (weight_in ws n) r && are_ranges_within ws (suc n) rs

-- nothing that is divided in a formula weighs more than 2^62
abbrev pub are_dividends_small : (Bool → ℕ → ℕ) → CForm → Bool
are_dividends_small weight f = nat_le (form_dividends weight f) (2 ^ 62)

abbrev pub is_weight : ℕ → Bool
is_weight w = nat_le 1 w && nat_le w (2 ^ 62)

-- Weights of a branch's variables: those of an obligation with these ranges, and the added ones. With them nothing
-- that is divided in a waiting formula weighs more than 2^62.
pub record AreWeights (vs : List Variable) (rs : List Range) (b : Branch) (ws : List ℕ) : Type 0 where
  pub long : length ws ≡ length (scope_of vs b)
  pub limits : list_all is_weight ws ≡ true
  pub ranges : are_ranges_within ws 0 rs ≡ true
  pub waiting : (weight : Bool → ℕ → ℕ) → Weighs (scope_of vs b) ws weight →
      list_all (are_dividends_small weight) b.waiting ≡ true
