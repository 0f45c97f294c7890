-- What stands of single steps passes to unions.
use Rattle.std.proofs.Common.{◌≡◌, ℕ, zero, suc, ◌+◌, ◌<◌, List, [], ◌∷◌, ◌++◌, Bool, true, false, ◌&&◌, ◌||◌, Option}
use Rattle.std.proofs.Common.{Some, None, IsTrue, refl, sym, ap, ◌∙◌, slice_get, length, length-append, arith, ◌⊎◌, inl}
use Rattle.std.proofs.Common.{inr}
use Rattle.meaning_states.specs.State.{State}
use Rattle.meaning_executions.specs.Execution.{Act, System, act_step, chosen_step}
use Rattle.meaning_executions.specs.Properties.{Test, never}
use Rattle.meaning_states.proofs.StepTheorems.{and_left, and_right}
use Rattle.meaning_laws.specs.Tests.{both_hold}
use Rattle.meaning_executions.specs.Systems.{together}
use Rattle.meaning_laws.specs.Stands.{EachDefinedStep, StepKeeps, StepUnless, UnlessStands}
use Rattle.meaning_laws.specs.UnionRules.{UnionDefined, UnionUnless, UnionInvariant}
use Rattle.meaning_laws.specs.UnionRules.{UnionInvariantSecond, UnionEnsures, UnionEnsuresSecond}

-- what stands in two lists joined stands in one of them
in_one : {X : Type 0} (xs ys : List X) (n : ℕ) (x : X) → slice_get (xs ++ ys) n ≡ Some x →
    ((k : ℕ) × (slice_get xs k ≡ Some x)) ⊎ ((k : ℕ) × (slice_get ys k ≡ Some x))
in_one [] ys n x e = inr (n, e)
in_one (y ∷ xs) ys zero x e = inl (zero, e)
in_one (y ∷ xs) ys (suc n) x e = elim (in_one xs ys n x e) [ inl w ↦ inl (suc w.0, w.1) | inr w ↦ inr w ]

get-append_first : {X : Type 0} (xs ys : List X) (n : ℕ) → n < length xs → slice_get (xs ++ ys) n ≡ slice_get xs n
get-append_first [] ys n h = absurd (omega arith)
get-append_first (x ∷ xs) ys zero h = refl
get-append_first (x ∷ xs) ys (suc n) h = let inner : n < length xs = omega arith in get-append_first xs ys n inner

get-append_second : {X : Type 0} (xs ys : List X) (n m : ℕ) → m ≡ length xs + n →
    slice_get (xs ++ ys) m ≡ slice_get ys n
get-append_second [] ys n m e = let same : m ≡ n = omega arith in ap (slice_get ys) same
get-append_second (x ∷ xs) ys n zero e = absurd (omega arith)
get-append_second (x ∷ xs) ys n (suc m) e = let inner : m ≡ length xs + n = omega arith in
    get-append_second xs ys n m inner

-- a chosen step is that of an act
act_chosen : (s t : State) (o : Option Act) → act_step s o ≡ Some t → (act : Act) × (o ≡ Some act) × (act s ≡ Some t)
act_chosen s t None e = cc
act_chosen s t (Some act) e = (act, refl, e)

-- a step of a union is one of a part
step_of_part : (x y : System) (choice : ℕ) (s t : State) → chosen_step (together x y) choice s ≡ Some t →
    ((k : ℕ) × (chosen_step x k s ≡ Some t)) ⊎ ((k : ℕ) × (chosen_step y k s ≡ Some t))
step_of_part x y choice s t e =
    let found = act_chosen s t (slice_get (together x y).steps choice) e in
    elim (in_one x.steps y.steps choice found.0 found.1) [
      | inl w ↦ inl (w.0, ap (act_step s) w.1 ∙ found.2)
      | inr w ↦ inr (w.0, ap (act_step s) w.1 ∙ found.2)
    ]

pub union_defined : UnionDefined
union_defined x y u v one other state choice act both e = elim (in_one x.steps y.steps choice act e) [
  | inl w ↦ one state w.0 act (and_left (u state) (v state) both) w.1
  | inr w ↦ other state w.0 act (and_right (u state) (v state) both) w.1
]

-- what holds of each step of both parts holds of each of the union
each_of_union : (x y : System) (u v : Test) (R : State → State → Type 0) → EachDefinedStep x u R → EachDefinedStep y v
    R →
    EachDefinedStep (together x y) (both_hold u v) R
each_of_union x y u v R one other choice now next before after e = elim (step_of_part x y choice now next e) [
  | inl w ↦ one w.0 now next (and_left (u now) (v now) before) (and_left (u next) (v next) after) w.1
  | inr w ↦ other w.0 now next (and_right (u now) (v now) before) (and_right (u next) (v next) after) w.1
]

pub union_unless : UnionUnless
union_unless x y u v p q one other = each_of_union x y u v
    (StepUnless p q) one other

or_never : (a : Bool) → IsTrue (a || false) → IsTrue a
or_never true t = t
or_never false t = t

and_not_never : (a : Bool) → IsTrue a → IsTrue (a && true)
and_not_never true t = t
and_not_never false t = t

-- p unless false keeps p
kept_by : (x : System) (u p : Test) → UnlessStands x u p never →
    EachDefinedStep x u (StepKeeps p)
kept_by x u p stands choice now next before after e h =
    or_never (p next) (stands choice now next before after e (and_not_never (p now) h))

pub union_invariant : UnionInvariant
union_invariant x y u v p one other = record {
  starts = λ state t both. one.starts state (and_left (x.initial state) (y.initial state) t)
      (and_left (u state) (v state) both);
  keeps = each_of_union x y u v (StepKeeps p) one.keeps (kept_by y v p other);
}

pub union_invariant_second : UnionInvariantSecond
union_invariant_second x y u v p one other = record {
  starts = λ state t both. other.starts state (and_right (x.initial state) (y.initial state) t)
      (and_right (u state) (v state) both);
  keeps = each_of_union x y u v (StepKeeps p) (kept_by x u p one) other.keeps;
}

pub union_ensures : UnionEnsures
union_ensures x y u v p q choice one other = record {
  unless = union_unless x y u v p q one.unless other;
  within = let sum = length-append x.steps y.steps in omega (arith, sum, one.within);
  helps = λ now next before after e.
      one.helps now next (and_left (u now) (v now) before) (and_left (u next) (v next) after)
      (sym (ap (act_step now) (get-append_first x.steps y.steps choice one.within)) ∙ e);
}

pub union_ensures_second : UnionEnsuresSecond
union_ensures_second x y u v p q choice one other = record {
  unless = union_unless x y u v p q one other.unless;
  within = let sum = length-append x.steps y.steps in omega (arith, sum, other.within);
  helps = λ now next before after e.
      other.helps now next (and_right (u now) (v now) before) (and_right (u next) (v next) after)
      (sym (ap (act_step now) (get-append_second x.steps y.steps choice (length x.steps + choice) refl)) ∙ e);
}
