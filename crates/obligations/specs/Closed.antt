-- Branches whose facts and waiting formulas name their own variables only.
use Rattle.std.specs.Prelude.{◌≡◌, ℕ, ◌<◌, Bool, true, None, List, [], ◌∷◌, length}
use Rattle.std.specs.List.{list_all}
use Rattle.core_terms.specs.declared.trees.CTerm.{CTerm}
use Rattle.core_terms.specs.declared.trees.CForm.{CForm, out-CForm}
use Rattle.core_terms.specs.declared.trees.CForm.TheOpen.{CForm-F}
use Rattle.obligations.specs.declared.branches.Variable.{Variable}
use Rattle.obligations.specs.declared.branches.Fact.{Fact}
use Rattle.obligations.specs.declared.branches.Branch.{Branch}
use Rattle.obligations.specs.LinearForms.{place_of}
use Rattle.obligations.specs.Reach.{is_within}
use Rattle.obligations.specs.Settling.{first_ite}
use Rattle.obligations.specs.Variables.{form_has}

-- what occurs in a formula is a variable
abbrev pub NamesOnly : List Variable → CForm → Type 0
NamesOnly vs f = (param : Bool) (n : ℕ) → form_has param n f ≡ true → place_of vs param n < length vs

-- a formula that waits for a quotient has no `Ite` outside of conditions
abbrev pub HasNoChoiceIn : CForm-F CForm CTerm → Type 0
HasNoChoiceIn CForm-F.Top = Unit {0}
HasNoChoiceIn CForm-F.Bottom = Unit {0}
HasNoChoiceIn (CForm-F.AtLeast t) = first_ite t ≡ None
HasNoChoiceIn (CForm-F.Zero t) = first_ite t ≡ None
HasNoChoiceIn (CForm-F.Not f) = Unit {0}
HasNoChoiceIn (CForm-F.And f g) = Unit {0}
HasNoChoiceIn (CForm-F.Or f g) = Unit {0}

-- a formula that may wait
pub record Waits (vs : List Variable) (f : CForm) : Type 0 where
  pub names : NamesOnly vs f
  pub choice : HasNoChoiceIn (out-CForm f)

abbrev pub AllWait : List Variable → List CForm → Type 0
AllWait vs [] = Unit {0}
AllWait vs (f ∷ fs) = Waits vs f × AllWait vs fs

pub record IsClosed (vs : List Variable) (b : Branch) : Type 0 where
  pub facts : list_all (λ (f : Fact). is_within (length vs) f.factors) b.facts ≡ true
  pub waiting : AllWait vs b.waiting
