-- The rules of chapter 3 by which `unless` and `ensures` of one system combine. Each premise stands where a test of its
-- own holds, and the conclusion where both tests do.
use Rattle.std.specs.Prelude.{ℕ}
use Rattle.meaning_executions.specs.Execution.{System}
use Rattle.meaning_executions.specs.Properties.{Test, never}
use Rattle.meaning_laws.specs.Tests.{both_hold, one_holds, fails_with, fails, Implies}
use Rattle.meaning_laws.specs.Stands.{UnlessStands, ConstantStands, EnsuresStands}

-- conjunction: what either ends on, while the other still holds or ends too
abbrev pub conjunction_end : Test → Test → Test → Test → Test
conjunction_end p q r s = one_holds (one_holds (both_hold p s) (both_hold r q)) (both_hold q s)

-- disjunction: what either ends on where the other does not hold, or both end on
abbrev pub disjunction_end : Test → Test → Test → Test → Test
disjunction_end p q r s = one_holds (one_holds (fails_with p s) (fails_with r q)) (both_hold q s)

-- from p unless q and r unless s: p and r unless one of the ends
abbrev pub ConjunctionRule : Type 0
ConjunctionRule = (x : System) (u v p q r s : Test) → UnlessStands x u p q → UnlessStands x v r s →
    UnlessStands x (both_hold u v) (both_hold p r) (conjunction_end p q r s)

-- and with r ensures s it is ensured, by the same instance
abbrev pub ConjunctionEnsured : Type 0
ConjunctionEnsured = (x : System) (u v p q r s : Test) (choice : ℕ) →
    UnlessStands x u p q → EnsuresStands x v r s choice →
    EnsuresStands x (both_hold u v) (both_hold p r) (conjunction_end p q r s) choice

-- p and r unless q or s
abbrev pub SimpleConjunction : Type 0
SimpleConjunction = (x : System) (u v p q r s : Test) → UnlessStands x u p q → UnlessStands x v r s →
    UnlessStands x (both_hold u v) (both_hold p r) (one_holds q s)

-- p or r unless one of the ends
abbrev pub Disjunction : Type 0
Disjunction = (x : System) (u v p q r s : Test) → UnlessStands x u p q → UnlessStands x v r s →
    UnlessStands x (both_hold u v) (one_holds p r) (disjunction_end p q r s)

-- p or r unless q or s
abbrev pub SimpleDisjunction : Type 0
SimpleDisjunction = (x : System) (u v p q r s : Test) → UnlessStands x u p q → UnlessStands x v r s →
    UnlessStands x (both_hold u v) (one_holds p r) (one_holds q s)

-- from p unless q and q unless r: p or q unless r
abbrev pub Cancellation : Type 0
Cancellation = (x : System) (u v p q r : Test) → UnlessStands x u p q → UnlessStands x v q r →
    UnlessStands x (both_hold u v) (one_holds p q) r

-- consequence weakening: where u holds before and after each step, and q with u implies r, r may stand for q
abbrev pub WeakerUnless : Type 0
WeakerUnless = (x : System) (u v p q r : Test) → Implies (both_hold u q) r →
    UnlessStands x v p q → UnlessStands x (both_hold u v) p r

-- and r is ensured, by the same instance
abbrev pub WeakerEnsures : Type 0
WeakerEnsures = (x : System) (u v p q r : Test) (choice : ℕ) → Implies (both_hold u q) r →
    EnsuresStands x v p q choice → EnsuresStands x (both_hold u v) p r choice

-- constancy: both p and its contrary are stable
abbrev pub Constancy : Type 0
Constancy = (x : System) (u v p : Test) → UnlessStands x u p never → UnlessStands x v (fails p) never →
    ConstantStands x (both_hold u v) p
