-- Short executions from a state, and the walk from there.
use Rattle.std.proofs.Common.{◌≡◌, Bool, ℕ, zero, suc, ◌+◌, ◌<◌, ◌≤◌, List, [], ◌∷◌, Some, IsTrue, slice_get}
use Rattle.std.proofs.Common.{take, drop}
use Rattle.std.proofs.Common.{length, arith, subst, sym}
use Rattle.std.specs.Prelude.{◌↔◌}
use Rattle.std.proofs.lemmas.List.{drop-take}
use Rattle.meaning_states.specs.State.{State, Ranges}
use Rattle.meaning_executions.specs.Execution.{System, Steps, act_step}
use Rattle.meaning_executions.specs.Rounds.{rounds}
use Rattle.meaning_executions.specs.Properties.{Test}
use Rattle.meaning_executions.proofs.PropertyTheorems.{get-take, take-get}
use Rattle.meaning_executions.proofs.RoundTheorems.{shortest_exists}
use Rattle.examples_bounds.specs.Bounded.{LeadsFrom, LeadsEverywhere}
use Rattle.examples_bounds.specs.Walking.{LeadsWithin, LeadsOn}

take_few : (n most : ℕ) (cs : List ℕ) → length cs ≤ most → length (take n cs) ≤ most
take_few zero most cs h = omega arith
take_few (suc n) most [] h = omega arith
take_few (suc n) zero (c ∷ cs) h = absurd (omega arith)
take_few (suc n) (suc most) (c ∷ cs) h =
    let rest = take_few n most cs (omega (arith, h)) in omega (arith, rest)

steps_prefix : (x : System) (s : State) (cs : List ℕ) (ts : List State) → Steps x s cs ts → (n : ℕ) →
    Steps x s (take n cs) (take n ts)
steps_prefix x s cs ts f zero = tt
steps_prefix x s [] [] f (suc n) = tt
steps_prefix x s [] (t ∷ ts) f (suc n) = absurd f
steps_prefix x s (c ∷ cs) [] f (suc n) = absurd f
steps_prefix x s (c ∷ cs) (t ∷ ts) f (suc n) = (f.0, steps_prefix x t cs ts f.1 n)

module _ (first : State) (most : ℕ) (x : System) (p q : Test) (bound : ℕ) where
  soon : LeadsWithin x p q bound most first → LeadsFrom first most x p q bound
  soon from choices later run few place n state e h short =
      let cut : ℕ = place + n in
      let inside : place < suc cut = omega arith in
      let same : drop place (take cut choices) ≡ take n (drop place choices) = drop-take place n choices in
      let found = from (take cut choices) (take cut later) (steps_prefix x first choices later run cut)
      (take_few cut most choices few) place state (take-get (suc cut) place (first ∷ later) state inside e) h
      (rw same short.enough) in
      let there = get-take (suc cut) found.place (first ∷ later) found.state found.stands in
      record {
        place = found.place;
        state = found.state;
        after = found.after;
        before = omega (arith, there.1);
        stands = there.0;
        holds = found.holds;
      }

  later_on : LeadsFrom first most x p q bound → LeadsWithin x p q bound most first
  later_on leads choices later steps few place state e h enough =
      let short = shortest_exists (drop place choices) (length x.steps) bound enough in
      let found = leads choices later steps few place short.0 state e h short.1 in
      record {
        place = found.place;
        state = found.state;
        after = found.after;
        stands = found.stands;
        holds = found.holds;
      }

  pub short_is_walked : LeadsWithin x p q bound most first ↔ LeadsFrom first most x p q bound
  short_is_walked = (soon, later_on)

-- the same of two programs with the same steps
steps_move : (x y : System) → x.steps ≡ y.steps → (s : State) (cs : List ℕ) (ts : List State) → Steps x s cs ts →
    Steps y s cs ts
steps_move x y e s [] [] f = tt
steps_move x y e s [] (t ∷ ts) f = absurd f
steps_move x y e s (c ∷ cs) [] f = absurd f
steps_move x y e s (c ∷ cs) (t ∷ ts) f =
    (subst (λ acts. act_step s (slice_get acts c) ≡ Some t) e f.0, steps_move x y e t cs ts f.1)

leads_move : (x y : System) → x.steps ≡ y.steps → (first : State) (most : ℕ) (p q : Test) (bound : ℕ) →
    LeadsWithin x p q bound most first → LeadsWithin y p q bound most first
leads_move x y e first most p q bound leads choices later steps few place state there h enough =
    leads choices later (steps_move y x (sym e) first choices later steps) few place state there h
    (subst (λ acts. bound ≤ rounds (drop place choices) (length acts)) (sym e) enough)

pub walked_like : (x y : System) → x.steps ≡ y.steps → (first : State) (most : ℕ) (p q : Test) (bound : ℕ) (b : Bool) →
    (IsTrue b ↔ LeadsWithin x p q bound most first) → (IsTrue b ↔ LeadsFrom first most y p q bound)
walked_like x y e first most p q bound b same = (
  λ t. (short_is_walked first most y p q bound).0 (leads_move x y e first most p q bound (same.0 t)),
  λ from. same.1 (leads_move y x (sym e) first most p q bound ((short_is_walked first most y p q bound).1 from)),
)

pub walked_all : (x y : System) → x.steps ≡ y.steps → (ranges : Ranges) (most : ℕ) (p q : Test) (bound : ℕ) (b : Bool) →
    (IsTrue b ↔ LeadsOn ranges most x p q bound []) → (IsTrue b ↔ LeadsEverywhere ranges most y p q bound)
walked_all x y e ranges most p q bound b same = (
  λ t first h. (short_is_walked first most y p q bound).0 (leads_move x y e first most p q bound (same.0 t first h)),
  λ all. same.1 (λ first h. leads_move y x (sym e) first most p q bound
      ((short_is_walked first most y p q bound).1 (all first h))),
)
