-- Systems that step alike have the same fixed points.
use Rattle.std.proofs.Common.{◌≡◌, ℕ, zero, suc, ◌<◌, List, [], ◌∷◌, length, cond, Option, Some, None, IsTrue, refl}
use Rattle.std.proofs.Common.{sym}
use Rattle.std.proofs.Common.{ap, ◌∙◌, slice_get, arith, option_and_then}
use Rattle.std.specs.Option.{option_map}
use Rattle.std.proofs.lemmas.Option.{slice_get_within}
use Rattle.meaning_states.specs.State.{State, Ranges, is_state}
use Rattle.meaning_executions.specs.Execution.{Act, System, act_step, chosen_step}
use Rattle.meaning_executions.specs.Properties.{IsFixedPoint}
use Rattle.meaning_executions.specs.Alike.{StepEquivalent, SameAt}
use Rattle.fixed_points.specs.FixedPoints.{is_fixed}
use Rattle.fixed_points.proofs.WriteLaws.{same_truth}
use Rattle.fixed_points.proofs.PointLaws.{tells_fixed_points}
use Rattle.fixed_runs.specs.Traces.{fixed_after}

item_at : {X : Type 0} (xs : List X) (n : ℕ) → n < length xs → (x : X) × (slice_get xs n ≡ Some x)
item_at [] n h = absurd (omega arith)
item_at (x ∷ xs) zero h = (x, refl)
item_at (x ∷ xs) (suc n) h = item_at xs n (omega arith)

-- a fixed point of one of two systems with as many steps, whose steps agree there, is one of the other
point_too : (x y : System) (state : State) → length x.steps ≡ length y.steps →
    ((choice : ℕ) → chosen_step x choice state ≡ chosen_step y choice state) →
    IsFixedPoint x state → IsFixedPoint y state
point_too x y state count agree point choice act e =
    let less : choice < length x.steps =
    let within = slice_get_within y.steps choice act e in omega (arith, within, count) in
    let other = item_at x.steps choice less in
    sym (ap (act_step state) e) ∙ sym (agree choice) ∙ ap (act_step state) other.1 ∙ point choice other.0 other.1

module _ (ranges : Ranges) (x y : System) (alike : StepEquivalent ranges x y) where
  pub fixed_same : SameAt ranges (is_fixed x) (is_fixed y)
  fixed_same state here =
      let one = tells_fixed_points x state in
      let two = tells_fixed_points y state in
      same_truth (is_fixed x state) (is_fixed y state)
      (λ h. two.1 (point_too x y state alike.count (λ choice. alike.steps state choice here) (one.0 h)))
      (λ h. one.1 (point_too y x state (sym alike.count) (λ choice. sym (alike.steps state choice here)) (two.0 h)))

  -- and come to them after as many steps
  pub after_same : (state : State) (choices : List ℕ) → IsTrue (is_state ranges state) →
      fixed_after x state choices ≡ fixed_after y state choices
  after_same state [] here = ap (λ b. cond b (Some 0) None) (fixed_same state here)
  after_same state (choice ∷ choices) here =
      ap (λ b. cond b (Some 0) (option_map suc (option_and_then (λ next. fixed_after x next choices)
      (chosen_step x choice state)))) (fixed_same state here)
      ∙ ap (λ (m : Option ℕ). cond (is_fixed y state) (Some 0) (option_map suc m))
      (go (chosen_step x choice state) refl (λ next h. after_same next choices h)
      ∙ ap (option_and_then (λ next. fixed_after y next choices))
      (alike.steps state choice here))
    where
      go : (o : Option State) → chosen_step x choice state ≡ o →
          ((next : State) → IsTrue (is_state ranges next) → fixed_after x next choices ≡ fixed_after y next choices) →
          option_and_then (λ next. fixed_after x next choices) o
          ≡ option_and_then (λ next. fixed_after y next choices) o
      go None e rest = refl
      go (Some next) e rest = rest next (alike.keeps state next choice here e)
