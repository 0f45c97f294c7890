-- The obligation that a small step is defined, with its numbers worked out by hand, and a small certificate.
use Rattle.std.specs.Prelude.{◌≡◌, pos, false, List, [], ◌∷◌, length}
use Rattle.core_terms.specs.declared.trees.CTerm.{CTerm}
use Rattle.core_terms.specs.declared.trees.CTerm.TheVariants.{Const, Slot, Add, Sub}
use Rattle.core_terms.specs.declared.trees.CForm.{CForm}
use Rattle.core_terms.specs.declared.trees.CForm.TheVariants.{AtLeast, Not, And, Or}
use Rattle.obligations.specs.declared.branches.Variable.{Variable}
use Rattle.obligations.specs.declared.branches.Obligation.{Obligation}
use Rattle.obligations.specs.declared.certificates.Node.{Node}
use Rattle.obligations.specs.Certificates.{units}
use Rattle.obligations.specs.Opening.{first_branch}
use Rattle.obligations.specs.Plain.{height_of, need_of, enough}
use Rattle.obligations.specs.Settling.{settled}

-- slot 0, of the numbers 0 to 3
abbrev pub number : Variable
number = record { param = false; number = 0; range = record { lo = pos 0; hi = pos 3 } }

abbrev pub next : CTerm
next = Add (Slot 0) (Const (pos 1))

-- x < 3
abbrev pub is_below_three : CForm
is_below_three = AtLeast (Sub (Sub (Const (pos 3)) (Slot 0)) (Const (pos 1)))

-- 0 <= x + 1
abbrev pub is_low : CForm
is_low = AtLeast (Sub next (Const (pos 0)))

-- x + 1 <= 3
abbrev pub is_high : CForm
is_high = AtLeast (Sub (Const (pos 3)) next)

-- where x < 3, the step `x := x + 1` stays in the range
abbrev pub stays_in_range : CForm
stays_in_range = Or (Not is_below_three) (And is_low is_high)

abbrev pub step_defined : Obligation
step_defined = record { form = stays_in_range; variables = number ∷ [] }

-- a split, a case, and a sum of two pairs
abbrev pub small_certificate : List Node
small_certificate = Node.Split 1 (pos 0) ∷ Node.Case 1 ∷ Node.Sum ((pos 1, 1) ∷ (pos 1, 3) ∷ []) ∷ []

-- One case, and two halvings of four values. Two leaves, each with four values, and 257 units for a leaf. The plain
-- tree takes the case, and then a fact is out of reach on both sides: two leaves. The first branch has the two facts of
-- the range and that x < 3; where x + 1 is too low, one more. Each node is a unit, and each pair.
pub record HasNumbers : Type 0 where
  pub height : height_of step_defined ≡ 3
  pub need : need_of step_defined ≡ 2056
  pub enough : enough step_defined ≡ 514
  pub opened : length (first_branch step_defined).facts ≡ 3
  pub settled : length (settled (number ∷ []) (Not is_low) (first_branch step_defined)).facts ≡ 4
  pub units : units small_certificate ≡ 5
