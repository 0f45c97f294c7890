-- The laws of leads-to and its bound.
use Rattle.std.proofs.Common.{◌≡◌, ℕ, zero, suc, ◌+◌, ◌<◌, ◌≤◌, List, [], ◌∷◌, Bool, true, false, ◌||◌, Some, IsTrue}
use Rattle.std.proofs.Common.{refl, sym, subst, ap, ◌∙◌, nat_eq, slice_get, take, drop, length, arith, inl, inr}
use Rattle.std.specs.List.{list_any}
use Rattle.std.proofs.lemmas.Bool.Decides.{eqb_tells}
use Rattle.std.proofs.lemmas.List.{drop-take}
use Rattle.std.proofs.lemmas.Option.{slice_get_within}
use Rattle.meaning_states.specs.State.{State}
use Rattle.meaning_executions.specs.Execution.{System, Steps, IsExecution, act_step, chosen_step}
use Rattle.meaning_executions.specs.Rounds.{rounds, IsShortest}
use Rattle.meaning_executions.specs.Properties.{Test, Ensures, LeadsTo}
use Rattle.meaning_executions.specs.RoundLaws.{HoldsLater, FollowsWithin, LeadsIsFollows, WithinNone, BoundGrows}
use Rattle.meaning_executions.specs.RoundLaws.{EnsuresLeads}
use Rattle.meaning_executions.proofs.ExecutionTheorems.{prefix_is_execution}
use Rattle.meaning_executions.proofs.RoundTheorems.{no_rounds, shortest_exists}

-- what stands in the first of a list stands there in the list
pub get-take : {X : Type 0} (n place : ℕ) (xs : List X) (x : X) → slice_get (take n xs) place ≡ Some x →
    (slice_get xs place ≡ Some x) × (place < n)
get-take zero place xs x e = cc
get-take (suc n) place [] x e = cc
get-take (suc n) zero (y ∷ xs) x e = (e, omega arith)
get-take (suc n) (suc place) (y ∷ xs) x e = let rest = get-take n place xs x e in (rest.0, omega (arith, rest.1))

pub take-get : {X : Type 0} (n place : ℕ) (xs : List X) (x : X) → place < n → slice_get xs place ≡ Some x →
    slice_get (take n xs) place ≡ Some x
take-get zero place xs x h e = absurd (omega arith)
take-get (suc n) place [] x h e = cc
take-get (suc n) zero (y ∷ xs) x h e = e
take-get (suc n) (suc place) (y ∷ xs) x h e = let inner : place < n = omega arith in take-get n place xs x inner e

pub get-drop : {X : Type 0} (i j : ℕ) (xs : List X) (x : X) (m : ℕ) → m ≡ i + j → slice_get (drop i xs) j ≡ Some x →
    slice_get xs m ≡ Some x
get-drop zero j xs x m e h = let same : m ≡ j = omega arith in rw same h
get-drop (suc i) j [] x m e h = cc
get-drop (suc i) j (y ∷ xs) x zero e h = absurd (omega arith)
get-drop (suc i) j (y ∷ xs) x (suc m) e h = let inner : m ≡ i + j = omega arith in get-drop i j xs x m inner h

soon : (x : System) (p q : Test) (bound : ℕ) → FollowsWithin x p q bound → LeadsTo x p q bound
soon x p q bound follows first choices later run place n state e h short =
    let cut : ℕ = place + n in
    let inside : place < suc cut = omega arith in
    let same : drop place (take cut choices) ≡ take n (drop place choices) = drop-take place n choices in
    let found = follows first (take cut choices) (take cut later)
    (prefix_is_execution x first choices later run cut) place state
    (take-get (suc cut) place (first ∷ later) state inside e) h (rw same short.enough) in
    let there = get-take (suc cut) found.place (first ∷ later) found.state found.stands in
    record {
      place = found.place;
      state = found.state;
      after = found.after;
      before = omega (arith, there.1);
      stands = there.0;
      holds = found.holds;
    }

later_on : (x : System) (p q : Test) (bound : ℕ) → LeadsTo x p q bound → FollowsWithin x p q bound
later_on x p q bound leads first choices later run place state e h enough =
    let short = shortest_exists (drop place choices) (length x.steps) bound enough in
    let found = leads first choices later run place short.0 state e h short.1 in
    record { place = found.place; state = found.state; after = found.after; stands = found.stands; holds = found.holds }

pub leads_is_follows : LeadsIsFollows
leads_is_follows x p q bound = (later_on x p q bound, soon x p q bound)

pub bound_grows : BoundGrows
bound_grows x p q bound more le leads =
    soon x p q more (λ first choices later run place state e h enough.
    later_on x p q bound leads first choices later run place state e h (omega (arith, enough, le)))

pub within_none : WithinNone
within_none x p q = (
  λ leads first choices later run place state e h.
      let none : IsShortest (drop place choices) (length x.steps) 0 0 =
      record { within = omega arith; enough = omega arith; least = λ fewer less. absurd (omega arith) } in
      let found = leads first choices later run place 0 state e h none in
      let here : found.place ≡ place = omega (arith, found.after, found.before) in
      let same : slice_get (first ∷ later) place ≡ Some found.state =
      subst (λ k. slice_get (first ∷ later) k ≡ Some found.state) here found.stands in
      let one : found.state ≡ state = cc in
      subst (λ s. IsTrue (q s)) one found.holds,
  λ holds first choices later run place n state e h short.
      record {
        place = place;
        state = state;
        after = omega arith;
        before = omega arith;
        stands = e;
        holds = holds first choices later run place state e h;
      },
)

-- the next state, by the choice at its place
pub next : (x : System) (s : State) (cs : List ℕ) (ts : List State) → Steps x s cs ts → (i c : ℕ) (u : State) →
    slice_get (s ∷ ts) i ≡ Some u → slice_get cs i ≡ Some c → (t : State) × (slice_get (s ∷ ts) (suc i) ≡ Some t) ×
    (chosen_step x c u ≡ Some t)
next x s [] ts f i c u e d = cc
next x s (b ∷ cs) [] f i c u e d = absurd f
next x s (b ∷ cs) (t ∷ ts) f zero c u e d =
    let same : s ≡ u = cc in
    let chose : b ≡ c = cc in
    (t, refl, subst (λ k. chosen_step x k u ≡ Some t) chose (subst (λ v. chosen_step x b v ≡ Some t) same f.0))
next x s (b ∷ cs) (t ∷ ts) f (suc i) c u e d = next x t cs ts f.1 i c u e d

-- a number that occurs has a place
pub place_of : (c : ℕ) (cs : List ℕ) → IsTrue (list_any (nat_eq c) cs) → (j : ℕ) × (slice_get cs j ≡ Some c)
place_of c [] t = cc
place_of c (d ∷ cs) t = elim (eqb_tells c d) [
  | inl w ↦ (zero, ap Some (sym w.1))
  | inr w ↦ let rest = place_of c cs (rw w.0 at t) in (suc rest.0, rest.1)
]

-- an earlier place has something too
pub earlier : {X : Type 0} (i j : ℕ) (xs : List X) (x : X) → i ≤ j → slice_get xs j ≡ Some x →
    (y : X) × (slice_get xs i ≡ Some y)
earlier i j [] x h e = cc
earlier zero j (y ∷ xs) x h e = (y, refl)
earlier (suc i) zero (y ∷ xs) x h e = absurd (omega arith)
earlier (suc i) (suc j) (y ∷ xs) x h e = let inner : i ≤ j = omega arith in earlier i j xs x inner e

pub left_of : (a b : Bool) → IsTrue (a || b) → b ≡ false → a ≡ true
left_of true b t e = refl
left_of false b t e = cc

module _ (x : System) (p q : Test) (known : Ensures x p q)
    (first : State) (choices : List ℕ) (later : List State) (run : IsExecution x first choices later) where
  -- q is reached from place i, where the helper is chosen j places on
  walk : (j i at : ℕ) (s : State) → at ≡ i + j → slice_get (first ∷ later) i ≡ Some s → IsTrue (p s || q s) →
      slice_get choices at ≡ Some known.helper.0 → (v : Bool) → q s ≡ v → HoldsLater q (first ∷ later) i
  walk j i at s sum here either chosen true e = record {
    place = i;
    state = s;
    after = omega arith;
    stands = here;
    holds = e;
  }
  walk zero i at s sum here either chosen false e =
      let now : p s ≡ true = left_of (p s) (q s) either e in
      let there : at ≡ i = omega arith in
      let step = next x first choices later run.steps i known.helper.0 s here (rw there at chosen) in
      let helped = known.helper.3 first choices later run i s here (rw (now, e) refl) in
      let by_helper : chosen_step x known.helper.0 s ≡ Some helped.0 = ap (act_step s) known.helper.2 ∙ helped.1 in
      let same : step.0 ≡ helped.0 = cc (step.2, by_helper) in
      record { place = suc i; state = step.0; after = omega arith; stands = step.1; holds = rw same helped.2 }
  walk (suc j) i at s sum here either chosen false e =
      let now : p s ≡ true = left_of (p s) (q s) either e in
      let some = earlier i at choices known.helper.0 (omega arith) chosen in
      let step = next x first choices later run.steps i some.0 s here some.1 in
      let after : IsTrue (p step.0 || q step.0) =
      known.unless first choices later run i s step.0 here step.1 (rw (now, e) refl) in
      let rest = walk j (suc i) at step.0 (omega arith) step.1 after chosen (q step.0) refl in
      record {
        place = rest.place;
        state = rest.state;
        after = omega (arith, rest.after);
        stands = rest.stands;
        holds = rest.holds;
      }

-- among choices with a round, each instance occurs
occurs_in_round : (c k : ℕ) (cs : List ℕ) → c < k → 1 ≤ rounds cs k → (b : Bool) → list_any (nat_eq c) cs ≡ b →
    IsTrue (list_any (nat_eq c) cs)
occurs_in_round c k cs h enough true e = e
occurs_in_round c k cs h enough false e = let none = no_rounds cs k c h e in absurd (omega (arith, none, enough))

pub ensures_leads : EnsuresLeads
ensures_leads x p q known =
    soon x p q 1 (λ first choices later run i s here now enough.
    let rest = drop i choices in
    let few = slice_get_within x.steps known.helper.0 known.helper.1 known.helper.2 in
    let found = place_of known.helper.0 rest
    (occurs_in_round known.helper.0 (length x.steps) rest few enough
    (list_any (nat_eq known.helper.0) rest) refl) in
    let chosen = get-drop i found.0 choices known.helper.0 (i + found.0) refl found.1 in
    walk x p q known first choices later run found.0 i (i + found.0) s refl here (rw now refl) chosen (q s) refl)
