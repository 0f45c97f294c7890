-- A reading whose property holds in all executions is not violated at the last place of any.
use Rattle.std.proofs.Common.{◌≡◌, ℕ, zero, suc, ◌≤◌, ℤ, List, [], ◌∷◌, drop, length, slice_get, Bool, true, false}
use Rattle.std.proofs.Common.{not, ◌&&◌, ◌||◌, nat_le, IsTrue, Option, Some, None, refl, sym, ap, ◌∙◌, subst, arith}
use Rattle.std.specs.Prelude.{◌≢◌}
use Rattle.std.specs.Option.{is_none, option_or}
use Rattle.std.specs.List.{list_any, list_all, last_or}
use Rattle.std.specs.Bool.{beq}
use Rattle.std.proofs.lemmas.Bool.{leb-true}
use Rattle.std.proofs.lemmas.Int.{ints}
use Rattle.case_tables.specs.declared.kind_table.Kind.{Kind}
use Rattle.meaning_states.specs.State.{State, int_eq}
use Rattle.meaning_states.proofs.StepTheorems.{and_left, and_right, both_true}
use Rattle.meaning_executions.specs.Execution.{System, IsExecution}
use Rattle.meaning_executions.specs.Properties.{Test, but_not, implied, Everywhere, IsAlwaysDefined, IsInvariant, Fixed}
use Rattle.meaning_executions.specs.Properties.{Unless, Constant, LeadsTo, Until, Detects}
use Rattle.meaning_executions.specs.Rounds.{rounds}
use Rattle.meaning_executions.proofs.PropertyTheorems.{leads_is_follows}
use Rattle.core_terms.proofs.BoolLaws.{le_passes}
use Rattle.meaning_executions.specs.Counting.{ints_eq}
use Rattle.std.specs.Int.RustNames.{int_le}
use Rattle.trace_watch.specs.Readings.{passes, at_last, last_two, pair_related, at_last_step, unless_fails}
use Rattle.fixed_points.specs.FixedPoints.{leads_to, is_fixed}
use Rattle.trace_watch.specs.Readings.{Reading, leads_fails, is_stuck, is_helped, fails_over}

-- what a reading says of all executions; the instance of an ensures is the one that is to help
abbrev pub ReadingHolds : Kind → System → Reading → Type 0
ReadingHolds Kind.Defined x r = IsAlwaysDefined x
ReadingHolds Kind.Invariant x r = IsInvariant x r.p
ReadingHolds Kind.Unless x r = Unless x r.p r.q
ReadingHolds Kind.Ensures x r =
    Unless x r.p r.q × Everywhere x (λ state. IsTrue (but_not r.p r.q state) → IsTrue (is_helped x r.q r.helper state))
ReadingHolds Kind.Leadsto x r = LeadsTo x r.p r.q r.bound
ReadingHolds Kind.Until x r = Until x r.p r.q r.bound
ReadingHolds Kind.Detects x r = Detects x r.p r.q r.bound
ReadingHolds Kind.Constant x r = Constant x r.p
ReadingHolds Kind.Fixed x r = Fixed x r.p

-- the last state, and the last step, stand somewhere

last_false : (t : Test) (s : State) (ss : List State) → ((place : ℕ) (u : State) → slice_get (s ∷ ss) place ≡ Some u →
    t u ≡ false) → at_last t (s ∷ ss) ≡ false
last_false t s ss each = go s ss each
  where
    go : (v : State) (vs : List State) → ((place : ℕ) (u : State) → slice_get (v ∷ vs) place ≡ Some u →
        t u ≡ false) → passes t (last_or (Some v) vs) ≡ false
    go v [] each = each zero v refl
    go v (u ∷ us) each = go u us (λ place w e. each (suc place) w e)

two_false : (R : State → State → Bool) (s : State) (ss : List State) → ((place : ℕ) (a b : State) →
    slice_get (s ∷ ss) place ≡ Some a → slice_get (s ∷ ss) (suc place) ≡ Some b → R a b ≡ false) →
    pair_related R (last_two s ss) ≡ false
two_false R s [] each = refl
two_false R s (u ∷ us) each =
    go (last_two u us) (two_false R u us (λ place a b e f. each (suc place) a b e f)) (each zero s u refl refl)
  where
    go : (o : Option (State × State)) → pair_related R o ≡ false → R s u ≡ false →
        pair_related R (option_or o (Some (s, u))) ≡ false
    go None e here = here
    go (Some step) e here = e

step_false : (R : State → State → Bool) (s : State) (ss : List State) → ((place : ℕ) (a b : State) →
    slice_get (s ∷ ss) place ≡ Some a → slice_get (s ∷ ss) (suc place) ≡ Some b → R a b ≡ false) →
    at_last_step R (s ∷ ss) ≡ false
step_false R s ss each = two_false R s ss each

-- booleans

not_true : (b : Bool) → IsTrue b → not b ≡ false
not_true true h = refl
not_true false h = cc

and_false : (a b : Bool) → (IsTrue a → b ≡ false) → (a && b) ≡ false
and_false true b h = h refl
and_false false b h = refl

or_false : (a b : Bool) → a ≡ false → b ≡ false → (a || b) ≡ false
or_false true b h k = cc
or_false false b h k = k

false_by : (b : Bool) → (IsTrue b → ⊥) → b ≡ false
false_by true h = absurd (h refl)
false_by false h = refl

same_beq : (a b : Bool) → a ≡ b → not (beq a b) ≡ false
same_beq true true e = refl
same_beq true false e = cc
same_beq false true e = cc
same_beq false false e = refl

-- instances

none_any : {X : Type 0} (t : X → Bool) (xs : List X) → ((n : ℕ) (x : X) → slice_get xs n ≡ Some x → t x ≡ false) →
    list_any t xs ≡ false
none_any t [] each = refl
none_any t (x ∷ xs) each =
    or_false (t x) (list_any t xs) (each zero x refl) (none_any t xs (λ n y e. each (suc n) y e))

each_all : {X : Type 0} (t : X → Bool) (xs : List X) → ((n : ℕ) (x : X) → slice_get xs n ≡ Some x → IsTrue (t x)) →
    IsTrue (list_all t xs)
each_all t [] each = refl
each_all t (x ∷ xs) each =
    both_true (t x) (list_all t xs) (each zero x refl) (each_all t xs (λ n y e. each (suc n) y e))

some_step : (o : Option State) → o ≢ None → is_none o ≡ false
some_step None h = absurd (h refl)
some_step (Some t) h = refl

ints_self : (zs : List ℤ) → IsTrue (ints_eq zs zs)
ints_self [] = refl
ints_self (z ∷ zs) =
    both_true (int_eq z z) (ints_eq zs zs)
    (both_true (int_le z z) (int_le z z) (le_passes z z (omega (arith, ints))) (le_passes z z (omega (arith, ints))))
    (ints_self zs)

-- a leads-to

-- a place with p, from which on no state has q, and the rounds of the choices since
record Overdue (k : ℕ) (p q : Test) (bound : ℕ) (states : List State) (choices : List ℕ) : Type 0 where
  pub place : ℕ
  pub state : State
  pub stands : slice_get states place ≡ Some state
  pub holds : IsTrue (p state)
  pub never : (later : ℕ) (t : State) → place ≤ later → slice_get states later ≡ Some t → q t ≡ false
  pub enough : bound ≤ rounds (drop place choices) k

any_false : (t : Test) (ss : List State) → list_any t ss ≡ false → (n : ℕ) (s : State) → slice_get ss n ≡ Some s →
    t s ≡ false
any_false t [] none n s e = cc
any_false t (u ∷ us) none zero s e =
    let same : u ≡ s = cc in ap t (sym same) ∙ first (t u) (list_any t us) none
  where
    first : (a b : Bool) → (a || b) ≡ false → a ≡ false
    first true b h = h
    first false b h = refl
any_false t (u ∷ us) none (suc n) s e = any_false t us (second (t u) (list_any t us) none) n s e
  where
    second : (a b : Bool) → (a || b) ≡ false → b ≡ false
    second true b h = cc
    second false b h = h

drop_again : (n : ℕ) (cs : List ℕ) → drop n (drop 1 cs) ≡ drop (suc n) cs
drop_again zero [] = refl
drop_again (suc n) [] = refl
drop_again n (c ∷ cs) = refl

not_false : (b : Bool) → IsTrue (not b) → b ≡ false
not_false true h = cc
not_false false h = refl

overdue : (k : ℕ) (p q : Test) (bound : ℕ) (states : List State) (choices : List ℕ) →
    IsTrue (leads_fails k p q bound states choices) → Overdue k p q bound states choices
overdue k p q bound [] choices h = cc
overdue k p q bound (s ∷ ss) choices h =
    go (p s && (not (list_any q (s ∷ ss)) && nat_le bound (rounds choices k))) refl h
    (λ later. overdue k p q bound ss (drop 1 choices) later)
  where
    go : (b : Bool) → (p s && (not (list_any q (s ∷ ss)) && nat_le bound (rounds choices k))) ≡ b →
        IsTrue (b || leads_fails k p q bound ss (drop 1 choices)) →
        (IsTrue (leads_fails k p q bound ss (drop 1 choices)) → Overdue k p q bound ss (drop 1 choices)) →
        Overdue k p q bound (s ∷ ss) choices
    go true e t rest =
        let parts = and_right (p s) (not (list_any q (s ∷ ss)) && nat_le bound (rounds choices k)) e in
        let none = not_false (list_any q (s ∷ ss))
        (and_left (not (list_any q (s ∷ ss))) (nat_le bound (rounds choices k)) parts) in
        record {
          place = zero;
          state = s;
          stands = refl;
          holds = and_left (p s) (not (list_any q (s ∷ ss)) && nat_le bound (rounds choices k)) e;
          never = λ later u le f. any_false q (s ∷ ss) none later u f;
          enough = leb-true bound (rounds choices k)
              (and_right (not (list_any q (s ∷ ss))) (nat_le bound (rounds choices k)) parts);
        }
    go false e t rest =
        let found = rest t in
        record {
          place = suc found.place;
          state = found.state;
          stands = found.stands;
          holds = found.holds;
          never = λ later u le f. later_never found later u le f;
          enough = subst (λ cs. bound ≤ rounds cs k) (drop_again found.place choices) found.enough;
        }
      where
        later_never : (found : Overdue k p q bound ss (drop 1 choices)) (later : ℕ) (u : State) →
            suc found.place ≤ later → slice_get (s ∷ ss) later ≡ Some u → q u ≡ false
        later_never found zero u le f = absurd (omega arith)
        later_never found (suc later) u le f = found.never later u (omega arith) f

module _ (x : System) (first : State) (choices : List ℕ) (later : List State) (run : IsExecution x first choices later)
  where
    leads_hold : (p q : Test) (bound : ℕ) → LeadsTo x p q bound →
        leads_fails (length x.steps) p q bound (first ∷ later) choices ≡ false
    leads_hold p q bound leads = false_by (leads_fails (length x.steps) p q bound (first ∷ later) choices) (λ h.
        let late = overdue (length x.steps) p q bound (first ∷ later) choices h in
        let met = (leads_is_follows x p q bound).0 leads first choices later run late.place late.state late.stands
        late.holds late.enough in
        let never = late.never met.place met.state met.after met.stands in
        let holds = met.holds in
        cc)

    unless_holds : (p q : Test) → Unless x p q → unless_fails p q (first ∷ later) ≡ false
    unless_holds p q holds =
        step_false (λ before now. but_not p q before && not (p now || q now)) first later (λ place a b e f.
        and_false (but_not p q a) (not (p b || q b)) (λ h.
        not_true (p b || q b) (holds first choices later run place a b e f h)))

    -- by kind
    pub unviolated : (kind : Kind) (r : Reading) → ReadingHolds kind x r →
        fails_over kind x r (first ∷ later) choices ≡ false
    unviolated Kind.Defined r holds =
        last_false (is_stuck x) first later (λ place s e.
        none_any (λ act. is_none (act s)) x.steps (λ n act f.
        some_step (act s) (holds first choices later run place s e n act f)))
    unviolated Kind.Invariant r holds =
        last_false (λ s. not (r.p s)) first later (λ place s e.
        not_true (r.p s) (holds first choices later run place s e))
    unviolated Kind.Unless r holds = unless_holds r.p r.q holds
    unviolated Kind.Ensures r holds =
        or_false (unless_fails r.p r.q (first ∷ later))
        (at_last (λ s. but_not r.p r.q s && not (is_helped x r.q r.helper s)) (first ∷ later))
        (unless_holds r.p r.q holds.0)
        (last_false (λ s. but_not r.p r.q s && not (is_helped x r.q r.helper s)) first later (λ place s e.
        and_false (but_not r.p r.q s) (not (is_helped x r.q r.helper s)) (λ h.
        not_true (is_helped x r.q r.helper s) (holds.1 first choices later run place s e h))))
    unviolated Kind.Leadsto r holds = leads_hold r.p r.q r.bound holds
    unviolated Kind.Until r holds =
        or_false (unless_fails r.p r.q (first ∷ later))
        (leads_fails (length x.steps) r.p r.q r.bound (first ∷ later) choices)
        (unless_holds r.p r.q holds.unless) (leads_hold r.p r.q r.bound holds.leads)
    unviolated Kind.Detects r holds =
        or_false (at_last (λ s. not (implied r.p r.q s)) (first ∷ later))
        (leads_fails (length x.steps) r.q r.p r.bound (first ∷ later) choices)
        (last_false (λ s. not (implied r.p r.q s)) first later (λ place s e.
        not_true (implied r.p r.q s) (holds.always first choices later run place s e)))
        (leads_hold r.q r.p r.bound holds.leads)
    unviolated Kind.Constant r holds =
        step_false (λ before now. not (beq (r.p before) (r.p now))) first later (λ place a b e f.
        same_beq (r.p a) (r.p b) (holds first choices later run place a b e f))
    unviolated Kind.Fixed r holds =
        last_false (λ s. r.p s && not (is_fixed x s)) first later (λ place s e.
        and_false (r.p s) (not (is_fixed x s)) (λ h. not_true (is_fixed x s)
        (each_all (λ act. leads_to (act s) s) x.steps (λ n act f.
        subst (λ o. IsTrue (leads_to o s)) (sym (holds first choices later run place s e h n act f)) (ints_self s)))))
