-- The small system, computed.
use Rattle.std.proofs.Common.{◌≡◌, ℕ, zero, suc, ℤ, pos, negsuc, [], ◌∷◌, Bool, true, false, cond, not, ◌&&◌, ◌||◌}
use Rattle.std.proofs.Common.{Some, None, IsTrue, refl, sym, subst, ap, slice_get, arith}
use Rattle.std.specs.Prelude.{◌≢◌}
use Rattle.std.proofs.lemmas.Int.{ints}
use borrow.Author.Differences.{le-true}
use Rattle.std.specs.Int.RustNames.{int_le}
use Rattle.meaning_states.specs.State.{State, in_range}
use Rattle.meaning_states.proofs.StepTheorems.{and_left, and_right}
use Rattle.meaning_executions.specs.Execution.{Act, chosen_step}
use Rattle.meaning_executions.specs.Properties.{Test, but_not, Everywhere, IsInvariant, LeadsTo}
use Rattle.meaning_laws.specs.Examples.{numbers, up, stay, one_number, is_at, anywhere, counter, distance, alone}
use Rattle.meaning_laws.specs.Examples.{careful_counter, away, nearer, CounterIsSafe, CounterEnsures, CounterArrives}
use Rattle.meaning_laws.specs.Examples.{UnionOfTwo, CountersAlike}
use Rattle.meaning_laws.specs.Stands.{UnlessStands, EnsuresStands}
use Rattle.meaning_laws.proofs.TruthLaws.{or_right}
use Rattle.meaning_laws.proofs.StandingTheorems.{invariant_holds, leads_holds, ensures_leads_kept}
use Rattle.meaning_laws.proofs.UnionTheorems.{union_ensures_second}
use Rattle.meaning_laws.proofs.ProgressTheorems.{leads_by_induction}

-- what holds of 0, 1 and 2 holds of each number of 0..2
by_range : (C : ℤ → Type 0) → C (pos 0) → C (pos 1) → C (pos 2) → (z : ℤ) → IsTrue (in_range (Some numbers) z) → C z
by_range C a b c (pos zero) h = a
by_range C a b c (pos (suc zero)) h = b
by_range C a b c (pos (suc (suc zero))) h = c
by_range C a b c (pos (suc (suc (suc n)))) h =
    let z : ℤ = pos (suc (suc (suc n))) in
    let high = le-true z (pos 2) (and_right (int_le (pos 0) z) (int_le z (pos 2)) h) in
    absurd (omega (arith, ints))
by_range C a b c (negsuc n) h =
    let low = le-true (pos 0) (negsuc n) (and_left (int_le (pos 0) (negsuc n)) (int_le (negsuc n) (pos 2)) h) in
    absurd (omega (arith, ints))

by_numbers : (C : State → Type 0) → C (pos 0 ∷ []) → C (pos 1 ∷ []) → C (pos 2 ∷ []) → (state : State) →
    IsTrue (one_number state) → C state
by_numbers C a b c [] h = cc
by_numbers C a b c (z ∷ []) h = by_range (λ y. C (y ∷ [])) a b c z (and_left (in_range (Some numbers) z) true h)
by_numbers C a b c (z ∷ y ∷ zs) h = let none = and_right (in_range (Some numbers) z) false h in cc

-- a test of two states that passes at each step of `up` from 0, 1 and 2
up_passes : (R : State → State → Bool) → IsTrue (R (pos 0 ∷ []) (pos 1 ∷ [])) → IsTrue (R (pos 1 ∷ []) (pos 2 ∷ [])) →
    IsTrue (R (pos 2 ∷ []) (pos 2 ∷ [])) → (now next : State) → IsTrue (one_number now) → up now ≡ Some next →
    IsTrue (R now next)
up_passes R a b c now next h =
    by_numbers (λ state. up state ≡ Some next → IsTrue (R state next))
    (λ e. let same : (pos 1 ∷ []) ≡ next = cc e in subst (λ t. IsTrue (R (pos 0 ∷ []) t)) same a)
    (λ e. let same : (pos 2 ∷ []) ≡ next = cc e in subst (λ t. IsTrue (R (pos 1 ∷ []) t)) same b)
    (λ e. let same : (pos 2 ∷ []) ≡ next = cc e in subst (λ t. IsTrue (R (pos 2 ∷ []) t)) same c)
    now h

-- from p and not q, a step gives q
abbrev helped : Test → Test → State → State → Bool
helped p q now next = not (but_not p q now) || q next

implied : (a b : Bool) → IsTrue (not a || b) → IsTrue a → IsTrue b
implied true b t u = t
implied false b t u = cc

-- p still holds where nothing is done
or_first : (a b : Bool) → IsTrue (a && not b) → IsTrue (a || b)
or_first true b t = refl
or_first false b t = cc

stay_unless : (p q : Test) (now next : State) → stay now ≡ Some next → IsTrue (but_not p q now) →
    IsTrue (p next || q next)
stay_unless p q now next e t =
    let same : now ≡ next = cc in
    subst (λ s. IsTrue (p s || q s)) same (or_first (p now) (q now) t)

module _ (p q : Test) (zero_one : IsTrue (helped p q (pos 0 ∷ []) (pos 1 ∷ [])))
    (one_two : IsTrue (helped p q (pos 1 ∷ []) (pos 2 ∷ [])))
    (two_two : IsTrue (helped p q (pos 2 ∷ []) (pos 2 ∷ []))) where
  up_helps : (now next : State) → IsTrue (one_number now) → up now ≡ Some next → IsTrue (but_not p q now) →
      IsTrue (q next)
  up_helps now next h e =
      implied (but_not p q now) (q next) (up_passes (helped p q) zero_one one_two two_two now next h e)

  up_unless : (now next : State) → IsTrue (one_number now) → up now ≡ Some next → IsTrue (but_not p q now) →
      IsTrue (p next || q next)
  up_unless now next h e t = or_right (p next) (q next) (up_helps now next h e t)

  counter_unless : UnlessStands counter one_number p q
  counter_unless zero now next before after e = up_unless now next before e
  counter_unless (suc zero) now next before after e = stay_unless p q now next e
  counter_unless (suc (suc n)) now next before after e = cc

  counter_ensures : EnsuresStands counter one_number p q 0
  counter_ensures = record {
    unless = counter_unless;
    within = omega arith;
    helps = λ now next before after e. up_helps now next before e;
  }

  alone_unless : UnlessStands (alone up) one_number p q
  alone_unless zero now next before after e = up_unless now next before e
  alone_unless (suc n) now next before after e = cc

  alone_ensures : EnsuresStands (alone up) one_number p q 0
  alone_ensures = record {
    unless = alone_unless;
    within = omega arith;
    helps = λ now next before after e. up_helps now next before e;
  }

counter_keeps : (choice : ℕ) (now next : State) → IsTrue (one_number now) →
    chosen_step counter choice now ≡ Some next → IsTrue (one_number next)
counter_keeps zero now next h e = up_passes (λ s t. one_number t) refl refl refl now next h e
counter_keeps (suc zero) now next h e = let same : now ≡ next = cc in subst (λ s. IsTrue (one_number s)) same h
counter_keeps (suc (suc n)) now next h e = cc

some_is_some : (s : State) → Some s ≢ None
some_is_some s e = cc

never_none : (state : State) (choice : ℕ) (act : Act) → IsTrue (one_number state) →
    slice_get counter.steps choice ≡ Some act → act state ≢ None
never_none state zero act h e =
    let same : up ≡ act = cc in
    subst (λ a. a state ≢ None) same
    (by_numbers (λ s. up s ≢ None) (some_is_some (pos 1 ∷ [])) (some_is_some (pos 2 ∷ []))
    (some_is_some (pos 2 ∷ [])) state h)
never_none state (suc zero) act h e =
    let same : stay ≡ act = cc in
    subst (λ a. a state ≢ None) same (some_is_some state)
never_none state (suc (suc n)) act h e = cc

pub counter_is_safe : CounterIsSafe
counter_is_safe = (
  record {
    starts = λ state t h. and_left (one_number state) (is_at (pos 0) state) t;
    keeps = λ choice now next before after e h. counter_keeps choice now next h e;
  },
  never_none,
)

pub counter_helped : CounterEnsures
counter_helped = (
  counter_ensures (is_at (pos 0)) (is_at (pos 1)) refl refl refl,
  λ other. let wrong = other.helps (pos 0 ∷ []) (pos 0 ∷ []) refl refl refl refl in cc,
)

always_number : IsInvariant counter one_number
always_number =
    invariant_holds counter anywhere one_number (λ first choices later run place state e. refl) counter_is_safe.0

-- `up` leaves each value of the distance but 0
falls_by_up : (m : ℤ) → IsTrue (in_range (Some numbers) m) → EnsuresStands counter one_number (away m) (nearer m) 0
falls_by_up =
    by_range (λ m. EnsuresStands counter one_number (away m) (nearer m) 0)
    (counter_ensures (away (pos 0)) (nearer (pos 0)) refl refl refl)
    (counter_ensures (away (pos 1)) (nearer (pos 1)) refl refl refl)
    (counter_ensures (away (pos 2)) (nearer (pos 2)) refl refl refl)

falls_in_a_round : (m : ℤ) → IsTrue (in_range (Some numbers) m) → LeadsTo counter (away m) (nearer m) 1
falls_in_a_round m h =
    leads_holds counter one_number (away m) (nearer m) 1 always_number
    (ensures_leads_kept counter one_number (away m) (nearer m) 0 (falls_by_up m h))

distance_lies : (state : State) → IsTrue (one_number state) → IsTrue (in_range (Some numbers) (distance state))
distance_lies = by_numbers (λ s. IsTrue (in_range (Some numbers) (distance s))) refl refl refl

always_lies : Everywhere counter (λ state. IsTrue (but_not one_number (is_at (pos 2)) state) →
    IsTrue (in_range (Some numbers) (distance state)))
always_lies first choices later run place state e t =
    distance_lies state (always_number first choices later run place state e)

pub counter_arrives : CounterArrives
counter_arrives = (
  always_lies,
  falls_in_a_round,
  leads_by_induction counter distance numbers one_number (is_at (pos 2)) 1 always_lies falls_in_a_round,
)

only_stay : (p q : Test) → UnlessStands (alone stay) anywhere p q
only_stay p q zero now next before after e = stay_unless p q now next e
only_stay p q (suc n) now next before after e = cc

pub union_of_two : UnionOfTwo
union_of_two =
    let p : Test = is_at (pos 0) in
    let q : Test = is_at (pos 1) in
    let one = only_stay p q in
    let other = alone_ensures p q refl refl refl in
    (one, other, union_ensures_second (alone stay) (alone up) anywhere one_number p q 0 one other)

same_steps : (state : State) (choice : ℕ) → IsTrue (one_number state) →
    chosen_step counter choice state ≡ chosen_step careful_counter choice state
same_steps state zero h = refl
same_steps state (suc zero) h = sym (ap (λ b. cond b (Some state) None) h)
same_steps state (suc (suc n)) h = refl

pub counters_alike : CountersAlike
counters_alike = (
  record {
    count = refl;
    starts = λ state. refl;
    inside = λ state t. and_left (one_number state) (is_at (pos 0) state) t;
    steps = same_steps;
    keeps = λ state next choice h e. counter_keeps choice state next h e;
  },
  λ e. cc,
)
