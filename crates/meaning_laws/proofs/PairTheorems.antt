-- The rules by which `unless` and `ensures` combine: each is a fact about truths before and after a step.
use Rattle.std.proofs.Common.{◌≡◌, Bool, true, false, not, ◌&&◌, ◌||◌, IsTrue, refl, arith}
use Rattle.meaning_states.specs.State.{State}
use Rattle.meaning_executions.specs.Properties.{Test, never}
use Rattle.meaning_executions.specs.Execution.{System}
use Rattle.meaning_laws.specs.Tests.{both_hold, one_holds, fails, Implies}
use Rattle.meaning_laws.specs.Stands.{EachDefinedStep, StepUnless, StepSame}
use Rattle.meaning_laws.specs.PairRules.{conjunction_end, disjunction_end, ConjunctionRule, ConjunctionEnsured}
use Rattle.meaning_laws.specs.PairRules.{SimpleConjunction, Disjunction, SimpleDisjunction, Cancellation, Constancy}
use Rattle.meaning_laws.specs.PairRules.{WeakerUnless, WeakerEnsures}
use Rattle.meaning_states.proofs.StepTheorems.{and_left, and_right, both_true}

-- truths before a step, and after it
conjunction_truths : (p q r s p' q' r' s' : Bool) → (IsTrue (p && not q) → IsTrue (p' || q')) →
    (IsTrue (r && not s) → IsTrue (r' || s')) →
    IsTrue ((p && r) && not (((p && s) || (r && q)) || (q && s))) →
    IsTrue ((p' && r') || (((p' && s') || (r' && q')) || (q' && s')))
conjunction_truths p q r s p' q' r' s' f g t = grind arith

simple_conjunction_truths : (p q r s p' q' r' s' : Bool) → (IsTrue (p && not q) → IsTrue (p' || q')) →
    (IsTrue (r && not s) → IsTrue (r' || s')) →
    IsTrue ((p && r) && not (q || s)) → IsTrue ((p' && r') || (q' || s'))
simple_conjunction_truths p q r s p' q' r' s' f g t = grind arith

disjunction_truths : (p q r s p' q' r' s' : Bool) → (IsTrue (p && not q) → IsTrue (p' || q')) →
    (IsTrue (r && not s) → IsTrue (r' || s')) →
    IsTrue ((p || r) && not (((not p && s) || (not r && q)) || (q && s))) →
    IsTrue ((p' || r') || (((not p' && s') || (not r' && q')) || (q' && s')))
disjunction_truths p q r s p' q' r' s' f g t = grind arith

simple_disjunction_truths : (p q r s p' q' r' s' : Bool) → (IsTrue (p && not q) → IsTrue (p' || q')) →
    (IsTrue (r && not s) → IsTrue (r' || s')) →
    IsTrue ((p || r) && not (q || s)) → IsTrue ((p' || r') || (q' || s'))
simple_disjunction_truths p q r s p' q' r' s' f g t = grind arith

cancellation_truths : (p q r p' q' r' : Bool) → (IsTrue (p && not q) → IsTrue (p' || q')) →
    (IsTrue (q && not r) → IsTrue (q' || r')) →
    IsTrue ((p || q) && not r) → IsTrue ((p' || q') || r')
cancellation_truths p q r p' q' r' f g t = grind arith

-- the helper of r ensures s ends the conjunction
ensured_truths : (p q r s p' q' s' r' : Bool) → (IsTrue (p && not q) → IsTrue (p' || q')) →
    (IsTrue (r && not s) → IsTrue s') →
    IsTrue ((p && r) && not (((p && s) || (r && q)) || (q && s))) → IsTrue (((p' && s') || (r' && q')) || (q' && s'))
ensured_truths p q r s p' q' s' r' f g t = grind arith

-- what holds of each step by either premise, where its test holds, gives what holds where both tests do
joined : (x : System) (u v : Test) (R S T : State → State → Type 0) →
    ((now next : State) → R now next → S now next → T now next) →
    EachDefinedStep x u R → EachDefinedStep x v S → EachDefinedStep x (both_hold u v) T
joined x u v R S T gives one other choice now next before after e =
    gives now next (one choice now next (and_left (u now) (v now) before) (and_left (u next) (v next) after) e)
    (other choice now next (and_right (u now) (v now) before) (and_right (u next) (v next) after) e)

pub conjunction_rule : ConjunctionRule
conjunction_rule x u v p q r s =
    joined x u v (StepUnless p q) (StepUnless r s) (StepUnless (both_hold p r) (conjunction_end p q r s)) (λ now next.
    conjunction_truths (p now) (q now) (r now) (s now) (p next) (q next) (r next) (s next))

pub simple_conjunction : SimpleConjunction
simple_conjunction x u v p q r s =
    joined x u v (StepUnless p q) (StepUnless r s) (StepUnless (both_hold p r) (one_holds q s)) (λ now next.
    simple_conjunction_truths (p now) (q now) (r now) (s now) (p next) (q next) (r next) (s next))

pub disjunction_rule : Disjunction
disjunction_rule x u v p q r s =
    joined x u v (StepUnless p q) (StepUnless r s) (StepUnless (one_holds p r) (disjunction_end p q r s)) (λ now next.
    disjunction_truths (p now) (q now) (r now) (s now) (p next) (q next) (r next) (s next))

pub simple_disjunction : SimpleDisjunction
simple_disjunction x u v p q r s =
    joined x u v (StepUnless p q) (StepUnless r s) (StepUnless (one_holds p r) (one_holds q s)) (λ now next.
    simple_disjunction_truths (p now) (q now) (r now) (s now) (p next) (q next) (r next) (s next))

pub cancellation_rule : Cancellation
cancellation_rule x u v p q r =
    joined x u v (StepUnless p q) (StepUnless q r) (StepUnless (one_holds p q) r) (λ now next.
    cancellation_truths (p now) (q now) (r now) (p next) (q next) (r next))

constancy_truths : (p p' : Bool) → (IsTrue (p && not false) → IsTrue (p' || false)) →
    (IsTrue (not p && not false) → IsTrue (not p' || false)) → p ≡ p'
constancy_truths true true f g = refl
constancy_truths true false f g = let kept = f refl in cc
constancy_truths false true f g = let kept = g refl in cc
constancy_truths false false f g = refl

pub constancy_rule : Constancy
constancy_rule x u v p =
    joined x u v (StepUnless p never) (StepUnless (fails p) never) (StepSame p)
    (λ now next. constancy_truths (p now) (p next))

pub conjunction_ensured : ConjunctionEnsured
conjunction_ensured x u v p q r s choice one other = record {
  unless = conjunction_rule x u v p q r s one other.unless;
  within = other.within;
  helps = λ now next before after e.
      ensured_truths (p now) (q now) (r now) (s now) (p next) (q next) (s next) (r next)
      (one choice now next (and_left (u now) (v now) before) (and_left (u next) (v next) after) e)
      (other.helps now next (and_right (u now) (v now) before) (and_right (u next) (v next) after) e);
}

weaker_truths : (p q r p' q' r' : Bool) → (IsTrue q → IsTrue r) → (IsTrue q' → IsTrue r') →
    (IsTrue (p && not q) → IsTrue (p' || q')) →
    IsTrue (p && not r) → IsTrue (p' || r')
weaker_truths p q r p' q' r' f g h t = grind arith

weaker_ensured : (p q r q' r' : Bool) → (IsTrue q → IsTrue r) → (IsTrue q' → IsTrue r') →
    (IsTrue (p && not q) → IsTrue q') →
    IsTrue (p && not r) → IsTrue r'
weaker_ensured p q r q' r' f g h t = grind arith

-- with what holds at a state
with_q : (u q r : Test) → Implies (both_hold u q) r → (state : State) → IsTrue (u state) → IsTrue (q state) →
    IsTrue (r state)
with_q u q r implies state h t = implies state (both_true (u state) (q state) h t)

pub weaker_unless : WeakerUnless
weaker_unless x u v p q r implies one choice now next before after e =
    weaker_truths (p now) (q now) (r now) (p next) (q next) (r next)
    (with_q u q r implies now (and_left (u now) (v now) before))
    (with_q u q r implies next (and_left (u next) (v next) after))
    (one choice now next (and_right (u now) (v now) before) (and_right (u next) (v next) after) e)

pub weaker_ensures : WeakerEnsures
weaker_ensures x u v p q r choice implies one = record {
  unless = weaker_unless x u v p q r implies one.unless;
  within = one.within;
  helps = λ now next before after e.
      weaker_ensured (p now) (q now) (r now) (q next) (r next)
      (with_q u q r implies now (and_left (u now) (v now) before))
      (with_q u q r implies next (and_left (u next) (v next) after))
      (one.helps now next (and_right (u now) (v now) before) (and_right (u next) (v next) after) e);
}
