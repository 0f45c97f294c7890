-- The walk: what holds of a state, from what holds after each choice.
use Rattle.std.proofs.Common.{◌≡◌, ℕ, zero, suc, ◌-◌, ◌^◌, min, ◌<◌, ◌≤◌, List, [], ◌∷◌, ◌++◌, Bool, false}
use Rattle.std.proofs.Common.{Some, IsTrue, refl}
use Rattle.std.proofs.Common.{subst, ap, sym, slice_get, length, arith, append-nil, append_assoc}
use Rattle.std.specs.Prelude.{◌↔◌}
use Rattle.meaning_states.specs.State.{State}
use Rattle.meaning_executions.specs.Execution.{System, chosen_step}
use Rattle.meaning_executions.specs.Rounds.{rounds}
use Rattle.meaning_executions.specs.RoundLaws.{HoldsLater}
use Rattle.meaning_executions.specs.Properties.{Test}
use Rattle.examples_bounds.specs.Walking.{LeadsBehind, ComesAt, ComesAfter, LeadsWithin, LeadsAt, LeadsAfter}

-- q holds later where it holds after one state more
further : (q : Test) (s : State) (ts : List State) (first : ℕ) → HoldsLater q ts first →
    HoldsLater q (s ∷ ts) (suc first)
further q s ts first found = record {
  place = suc found.place;
  state = found.state;
  after = omega (arith, found.after);
  stands = found.stands;
  holds = found.holds;
}

from_here : (q : Test) (s : State) (ts : List State) → HoldsLater q ts 0 → HoldsLater q (s ∷ ts) 0
from_here q s ts found =
    record {
      place = suc found.place;
      state = found.state;
      after = omega arith;
      stands = found.stands;
      holds = found.holds;
    }

-- where q does not hold here, it holds after this state
not_here : (q : Test) (s : State) (ts : List State) → q s ≡ false → (place : ℕ) (state : State) →
    slice_get (s ∷ ts) place ≡ Some state → IsTrue (q state) → HoldsLater q ts 0
not_here q s ts e zero state stands holds = let same : s ≡ state = cc in let no : q state ≡ false = rw same at e in cc
not_here q s ts e (suc place) state stands holds =
    record { place = place; state = state; after = omega arith; stands = stands; holds = holds }

-- a later place is after the first state
past_first : (q : Test) (s : State) (ts : List State) (first place : ℕ) (state : State) → suc first ≤ place →
    slice_get (s ∷ ts) place ≡ Some state → IsTrue (q state) → HoldsLater q ts first
past_first q s ts first zero state h stands holds = absurd (omega arith)
past_first q s ts first (suc place) state h stands holds =
    record { place = place; state = state; after = omega arith; stands = stands; holds = holds }

module _ (x : System) (q : Test) (bound : ℕ) where
  pub comes_now : (most : ℕ) (made : List ℕ) (s : State) → IsTrue (q s) → LeadsBehind x q bound most made s
  comes_now most made s h choices later steps few enough =
      record { place = 0; state = s; after = omega arith; stands = refl; holds = h }

  pub comes_late : (most : ℕ) (made : List ℕ) (s : State) → q s ≡ false → bound ≤ rounds made (length x.steps) →
      LeadsBehind x q bound most made s → ⊥
  comes_late most made s e h comes =
      let enough : bound ≤ rounds (made ++ []) (length x.steps) = rw append-nil h in
      let found = comes [] [] tt (omega arith) enough in
      let there = not_here q s [] e found.place found.state found.stands found.holds in
      cc there.stands

  pub comes_last : (made : List ℕ) (s : State) → rounds made (length x.steps) < bound → LeadsBehind x q bound 0 made s
  comes_last made s h [] later steps few enough =
      let less : bound ≤ rounds made (length x.steps) =
      subst (λ cs. bound ≤ rounds cs (length x.steps)) (append-nil made) enough in
      absurd (omega (arith, h, less))
  comes_last made s h (c ∷ choices) later steps few enough = absurd (omega arith)

  pub comes_from : (most : ℕ) (made : List ℕ) (s : State) → rounds made (length x.steps) < bound →
      ComesAfter x q bound most made s → LeadsBehind x q bound (suc most) made s
  comes_from most made s h after [] later steps few enough =
      let less : bound ≤ rounds made (length x.steps) =
      subst (λ cs. bound ≤ rounds cs (length x.steps)) (append-nil made) enough in
      absurd (omega (arith, h, less))
  comes_from most made s h after (c ∷ choices) [] steps few enough = absurd steps
  comes_from most made s h after (c ∷ choices) (t ∷ later) steps few enough =
      let longer : bound ≤ rounds ((made ++ c ∷ []) ++ choices) (length x.steps) =
      subst (λ cs. bound ≤ rounds cs (length x.steps)) (sym (append_assoc made (c ∷ []) choices)) enough in
      from_here q s (t ∷ later) (after c t steps.0 choices later steps.1 (omega arith) longer)

  pub comes_after : (most : ℕ) (made : List ℕ) (s : State) → q s ≡ false → LeadsBehind x q bound (suc most) made s →
      ComesAfter x q bound most made s
  comes_after most made s e comes c t step choices later steps few enough =
      let longer : bound ≤ rounds (made ++ c ∷ choices) (length x.steps) =
      subst (λ cs. bound ≤ rounds cs (length x.steps)) (append_assoc made (c ∷ []) choices) enough in
      let found = comes (c ∷ choices) (t ∷ later) (step, steps) (omega (arith, few)) longer in
      not_here q s (t ∷ later) e found.place found.state found.stands found.holds

  module _ (p : Test) where
    pub leads_here : (most : ℕ) (s : State) → LeadsWithin x p q bound most s → IsTrue (p s) →
        LeadsBehind x q bound most [] s
    leads_here most s leads h choices later steps few enough =
        leads choices later steps few 0 s refl h enough

    pub leads_after : (most : ℕ) (s : State) → LeadsWithin x p q bound (suc most) s → LeadsAfter x p q bound most s
    leads_after most s leads c t step choices later steps few place state stands h enough =
        let found = leads (c ∷ choices) (t ∷ later) (step, steps) (omega (arith, few)) (suc place) state stands h
        enough in
        past_first q s (t ∷ later) place found.place found.state found.after found.stands found.holds

    pub leads_last : (s : State) → (IsTrue (p s) → LeadsBehind x q bound 0 [] s) → LeadsWithin x p q bound 0 s
    leads_last s here choices later steps few zero state stands h enough =
        let same : s ≡ state = cc in
        here (subst (λ u. IsTrue (p u)) (sym same) h) choices later steps few enough
    leads_last s here [] [] steps few (suc place) state stands h enough = cc
    leads_last s here [] (t ∷ later) steps few (suc place) state stands h enough = absurd steps
    leads_last s here (c ∷ choices) later steps few (suc place) state stands h enough = absurd (omega arith)

    pub leads_from : (most : ℕ) (s : State) → (IsTrue (p s) → LeadsBehind x q bound (suc most) [] s) →
        LeadsAfter x p q bound most s → LeadsWithin x p q bound (suc most) s
    leads_from most s here after choices later steps few zero state stands h enough =
        let same : s ≡ state = cc in
        here (subst (λ u. IsTrue (p u)) (sym same) h) choices later steps few enough
    leads_from most s here after [] [] steps few (suc place) state stands h enough = cc
    leads_from most s here after [] (t ∷ later) steps few (suc place) state stands h enough = absurd steps
    leads_from most s here after (c ∷ choices) [] steps few (suc place) state stands h enough = absurd steps
    leads_from most s here after (c ∷ choices) (t ∷ later) steps few (suc place) state stands h enough =
        further q s (t ∷ later) place
        (after c t steps.0 choices later steps.1 (omega arith) place state stands h enough)

-- what the walk answers at a state, from what it answers after each choice
module _ (x : System) (q : Test) (bound : ℕ) where
  pub comes_step : (most less : ℕ) (made : List ℕ) (s : State) (b : Bool) → most ≡ suc less → q s ≡ false →
      rounds made (length x.steps) < bound → (IsTrue b ↔ ComesAfter x q bound less made s) →
      (IsTrue b ↔ LeadsBehind x q bound most made s)
  comes_step most less made s b e f h same = (
    λ t. subst (λ m. LeadsBehind x q bound m made s) (sym e) (comes_from x q bound less made s h (same.0 t)),
    λ comes. same.1 (comes_after x q bound less made s f (subst (λ m. LeadsBehind x q bound m made s) e comes)),
  )

  module _ (p : Test) where
    pub leads_step : (most less : ℕ) (s : State) (b : Bool) → most ≡ suc less →
        (IsTrue (p s) → LeadsBehind x q bound most [] s) → (IsTrue b ↔ LeadsAfter x p q bound less s) →
        (IsTrue b ↔ LeadsWithin x p q bound most s)
    leads_step most less s b e here same = (
      λ t. subst (λ m. LeadsWithin x p q bound m s) (sym e)
          (leads_from x q bound p less s (λ h. subst (λ m. LeadsBehind x q bound m [] s) e (here h)) (same.0 t)),
      λ leads. same.1 (leads_after x q bound p less s (subst (λ m. LeadsWithin x p q bound m s) e leads)),
    )

-- the count of rounds, which stops at the greatest number, and a bound below it
pub enough_rounds : (made : List ℕ) (k instances told bound : ℕ) → k ≡ instances →
    told ≡ min (rounds made instances) (2 ^ 64 - 1) → bound ≤ told → bound ≤ rounds made k
enough_rounds made k instances told bound e f h =
    let same : rounds made k ≡ rounds made instances = ap (rounds made) e in omega (arith, same, f, h)

pub few_rounds : (made : List ℕ) (k instances told bound : ℕ) → k ≡ instances →
    told ≡ min (rounds made instances) (2 ^ 64 - 1) → bound < 2 ^ 64 → told < bound → rounds made k < bound
few_rounds made k instances told bound e f small h =
    let same : rounds made k ≡ rounds made instances = ap (rounds made) e in omega (arith, same, f, small, h)

-- after one choice, from what holds of the state to which its step leads
pub comes_next : (x : System) (q : Test) (bound most : ℕ) (made : List ℕ) (s next : State) (choice : ℕ) (b : Bool) →
    chosen_step x choice s ≡ Some next → (IsTrue b ↔ LeadsBehind x q bound most (made ++ choice ∷ []) next) →
    (IsTrue b ↔ ComesAt x q bound most made s choice)
comes_next x q bound most made s next choice b step same = (
  λ t u e. let one : next ≡ u = cc (step, e) in
      subst (λ v. LeadsBehind x q bound most (made ++ choice ∷ []) v) one (same.0 t),
  λ at. same.1 (at next step),
)

pub leads_next : (x : System) (p q : Test) (bound most : ℕ) (s next : State) (choice : ℕ) (b : Bool) →
    chosen_step x choice s ≡ Some next → (IsTrue b ↔ LeadsWithin x p q bound most next) →
    (IsTrue b ↔ LeadsAt x p q bound most s choice)
leads_next x p q bound most s next choice b step same = (
  λ t u e. let one : next ≡ u = cc (step, e) in subst (λ v. LeadsWithin x p q bound most v) one (same.0 t),
  λ at. same.1 (at next step),
)
