-- Readings of systems that step alike, and of tests that pass at the same states.
use Rattle.std.proofs.Common.{◌≡◌, ℕ, zero, suc, List, [], ◌∷◌, drop, length, slice_get, Bool, not}
use Rattle.std.proofs.Common.{◌&&◌, ◌||◌, nat_le, IsTrue, Option, Some, None, refl, ap, ◌∙◌}
use Rattle.std.proofs.Common.{arith}
use Rattle.std.specs.Option.{is_none, option_or}
use Rattle.std.specs.List.{list_any, list_all, last_or}
use Rattle.std.specs.Bool.{beq}
use Rattle.case_tables.specs.declared.kind_table.Kind.{Kind}
use Rattle.meaning_states.specs.State.{State, Ranges, is_state}
use Rattle.meaning_executions.specs.Execution.{Act, System, act_step, chosen_step}
use Rattle.meaning_executions.specs.Properties.{Test, but_not, implied}
use Rattle.meaning_executions.specs.Rounds.{rounds}
use Rattle.meaning_executions.specs.Alike.{StepEquivalent, SameAt}
use Rattle.trace_watch.specs.Readings.{passes, at_last, last_two, pair_related, at_last_step, unless_fails}
use Rattle.fixed_points.specs.FixedPoints.{leads_to, is_fixed}
use Rattle.trace_watch.specs.Readings.{leads_fails, is_stuck, is_helped, fails_over}
use Rattle.trace_watch.proofs.TraceLaws.{made_of}

module _ (ranges : Ranges) where
  abbrev pub Inside : List State → Type 0
  Inside [] = Unit {0}
  Inside (s ∷ ss) = IsTrue (is_state ranges s) × Inside ss

  pub all_inside : (states : List State) → ((place : ℕ) (s : State) → slice_get states place ≡ Some s →
      IsTrue (is_state ranges s)) → Inside states
  all_inside [] each = tt
  all_inside (s ∷ ss) each = (each zero s refl, all_inside ss (λ place t e. each (suc place) t e))

  -- at the last place

  last_same : (t t' : Test) → SameAt ranges t t' → (states : List State) → Inside states →
      at_last t states ≡ at_last t' states
  last_same t t' same [] inside = refl
  last_same t t' same (s ∷ ss) inside = go s ss inside.0 inside.1
    where
      go : (u : State) (us : List State) → IsTrue (is_state ranges u) → Inside us →
          passes t (last_or (Some u) us) ≡ passes t' (last_or (Some u) us)
      go u [] here later = same u here
      go u (v ∷ us) here later = go v us later.0 later.1

  two_same : (R R' : State → State → Bool) → ((a b : State) → IsTrue (is_state ranges a) →
      IsTrue (is_state ranges b) → R a b ≡ R' a b) → (s : State) (ss : List State) → IsTrue (is_state ranges s) →
      Inside ss → pair_related R (last_two s ss) ≡ pair_related R' (last_two s ss)
  two_same R R' same s [] here later = refl
  two_same R R' same s (u ∷ us) here later =
      go (last_two u us) (two_same R R' same u us later.0 later.1)
    where
      go : (o : Option (State × State)) → pair_related R o ≡ pair_related R' o →
          pair_related R (option_or o (Some (s, u))) ≡ pair_related R' (option_or o (Some (s, u)))
      go None e = same s u here later.0
      go (Some step) e = e

  step_same : (R R' : State → State → Bool) → ((a b : State) → IsTrue (is_state ranges a) →
      IsTrue (is_state ranges b) → R a b ≡ R' a b) → (states : List State) → Inside states →
      at_last_step R states ≡ at_last_step R' states
  step_same R R' same [] inside = refl
  step_same R R' same (s ∷ ss) inside = two_same R R' same s ss inside.0 inside.1

  any_same : (t t' : Test) → SameAt ranges t t' → (states : List State) → Inside states →
      list_any t states ≡ list_any t' states
  any_same t t' same [] inside = refl
  any_same t t' same (s ∷ ss) inside =
      ap (λ b. b || list_any t ss) (same s inside.0) ∙ ap (λ b. t' s || b) (any_same t t' same ss inside.1)

  leads_same : (k : ℕ) (p p' q q' : Test) (bound : ℕ) → SameAt ranges p p' → SameAt ranges q q' →
      (states : List State) (choices : List ℕ) → Inside states →
      leads_fails k p q bound states choices ≡ leads_fails k p' q' bound states choices
  leads_same k p p' q q' bound same_p same_q [] choices inside = refl
  leads_same k p p' q q' bound same_p same_q (s ∷ ss) choices inside =
      ap (λ b. (b && (not (list_any q (s ∷ ss)) && nat_le bound (rounds choices k)))
      || leads_fails k p q bound ss (drop 1 choices)) (same_p s inside.0)
      ∙ ap (λ b. (p' s && (not b && nat_le bound (rounds choices k))) || leads_fails k p q bound ss (drop 1 choices))
      (any_same q q' same_q (s ∷ ss) inside)
      ∙ ap (λ b. (p' s && (not (list_any q' (s ∷ ss)) && nat_le bound (rounds choices k))) || b)
      (leads_same k p p' q q' bound same_p same_q ss (drop 1 choices) inside.1)

  -- what instances do

  acts_any : (t : Option State → Bool) (s : State) (xs ys : List Act) → length xs ≡ length ys →
      ((n : ℕ) → act_step s (slice_get xs n) ≡ act_step s (slice_get ys n)) →
      list_any (λ act. t (act s)) xs ≡ list_any (λ act. t (act s)) ys
  acts_any t s [] [] size each = refl
  acts_any t s [] (y ∷ ys) size each = absurd (omega arith)
  acts_any t s (x ∷ xs) [] size each = absurd (omega arith)
  acts_any t s (x ∷ xs) (y ∷ ys) size each =
      ap (λ o. t o || list_any (λ act. t (act s)) xs) (each zero)
      ∙ ap (λ b. t (y s) || b) (acts_any t s xs ys (omega arith) (λ n. each (suc n)))

  acts_all : (t : Option State → Bool) (s : State) (xs ys : List Act) → length xs ≡ length ys →
      ((n : ℕ) → act_step s (slice_get xs n) ≡ act_step s (slice_get ys n)) →
      list_all (λ act. t (act s)) xs ≡ list_all (λ act. t (act s)) ys
  acts_all t s [] [] size each = refl
  acts_all t s [] (y ∷ ys) size each = absurd (omega arith)
  acts_all t s (x ∷ xs) [] size each = absurd (omega arith)
  acts_all t s (x ∷ xs) (y ∷ ys) size each =
      ap (λ o. t o && list_all (λ act. t (act s)) xs) (each zero)
      ∙ ap (λ b. t (y s) && b) (acts_all t s xs ys (omega arith) (λ n. each (suc n)))

  module _ (x y : System) (alike : StepEquivalent ranges x y) where
    stuck_same : SameAt ranges (is_stuck x) (is_stuck y)
    stuck_same s here = acts_any is_none s x.steps y.steps alike.count (λ n. alike.steps s n here)

    fixed_same : SameAt ranges (is_fixed x) (is_fixed y)
    fixed_same s here = acts_all (λ o. leads_to o s) s x.steps y.steps alike.count (λ n. alike.steps s n here)

    helped_same : (q q' : Test) → SameAt ranges q q' → (helper : Option ℕ) →
        SameAt ranges (is_helped x q helper) (is_helped y q' helper)
    helped_same q q' same None s here = refl
    helped_same q q' same (Some n) s here =
        go (chosen_step x n s) refl ∙ ap (passes q') (alike.steps s n here)
      where
        go : (o : Option State) → chosen_step x n s ≡ o → passes q o ≡ passes q' o
        go None e = refl
        go (Some next) e = same next (alike.keeps s next n here e)

    both_same : (p p' q q' : Test) → SameAt ranges p p' → SameAt ranges q q' →
        SameAt ranges (λ s. p s && not (q s)) (λ s. p' s && not (q' s))
    both_same p p' q q' same_p same_q s here =
        ap (λ b. b && not (q s)) (same_p s here) ∙ ap (λ b. p' s && not b) (same_q s here)

    unless_same : (p p' q q' : Test) → SameAt ranges p p' → SameAt ranges q q' → (states : List State) →
        Inside states → unless_fails p q states ≡ unless_fails p' q' states
    unless_same p p' q q' same_p same_q states inside =
        step_same (λ a b. but_not p q a && not (p b || q b)) (λ a b. but_not p' q' a && not (p' b || q' b))
        (λ a b in_a in_b.
        ap (λ v. v && not (p b || q b)) (both_same p p' q q' same_p same_q a in_a)
        ∙ ap (λ v. but_not p' q' a && not (v || q b)) (same_p b in_b)
        ∙ ap (λ v. but_not p' q' a && not (p' b || v)) (same_q b in_b)) states inside

    module _ (p p' q q' : Test) (bound : ℕ) (helper : Option ℕ) (same_p : SameAt ranges p p')
        (same_q : SameAt ranges q q') (states : List State) (choices : List ℕ) (inside : Inside states) where
      leads_alike : leads_fails (length x.steps) p q bound states choices
          ≡ leads_fails (length y.steps) p' q' bound states choices
      leads_alike =
          ap (λ k. leads_fails k p q bound states choices) alike.count
          ∙ leads_same (length y.steps) p p' q q' bound same_p same_q states choices inside

      pub fails_alike : (kind : Kind) → fails_over kind x (made_of kind p q bound helper) states choices
          ≡ fails_over kind y (made_of kind p' q' bound helper) states choices
      fails_alike Kind.Defined = last_same (is_stuck x) (is_stuck y) stuck_same states inside
      fails_alike Kind.Invariant =
          last_same (λ s. not (p s)) (λ s. not (p' s)) (λ s here. ap not (same_p s here)) states inside
      fails_alike Kind.Unless = unless_same p p' q q' same_p same_q states inside
      fails_alike Kind.Ensures =
          ap (λ b. b || at_last (λ s. but_not p q s && not (is_helped x q helper s)) states)
          (unless_same p p' q q' same_p same_q states inside)
          ∙ ap (λ b. unless_fails p' q' states || b)
          (last_same (λ s. but_not p q s && not (is_helped x q helper s))
          (λ s. but_not p' q' s && not (is_helped y q' helper s)) (λ s here.
          ap (λ b. b && not (is_helped x q helper s)) (both_same p p' q q' same_p same_q s here)
          ∙ ap (λ b. but_not p' q' s && not b) (helped_same q q' same_q helper s here)) states inside)
      fails_alike Kind.Leadsto = leads_alike
      fails_alike Kind.Until =
          ap (λ b. b || leads_fails (length x.steps) p q bound states choices)
          (unless_same p p' q q' same_p same_q states inside)
          ∙ ap (λ b. unless_fails p' q' states || b) leads_alike
      fails_alike Kind.Detects =
          ap (λ b. b || leads_fails (length x.steps) q p bound states choices)
          (last_same (λ s. not (implied p q s)) (λ s. not (implied p' q' s)) (λ s here.
          ap (λ b. not (not b || q s)) (same_p s here) ∙ ap (λ b. not (not (p' s) || b)) (same_q s here)) states inside)
          ∙ ap (λ b. at_last (λ s. not (implied p' q' s)) states || b)
          (ap (λ k. leads_fails k q p bound states choices) alike.count
          ∙ leads_same (length y.steps) q q' p p' bound same_q same_p states choices inside)
      fails_alike Kind.Constant =
          step_same (λ a b. not (beq (p a) (p b))) (λ a b. not (beq (p' a) (p' b))) (λ a b in_a in_b.
          ap (λ v. not (beq v (p b))) (same_p a in_a) ∙ ap (λ v. not (beq (p' a) v)) (same_p b in_b)) states inside
      fails_alike Kind.Fixed =
          last_same (λ s. p s && not (is_fixed x s)) (λ s. p' s && not (is_fixed y s)) (λ s here.
          ap (λ b. b && not (is_fixed x s)) (same_p s here) ∙ ap (λ b. p' s && not b) (fixed_same s here)) states inside
