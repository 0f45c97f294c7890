-- The claims of `specs/ClaimExamples.antt`.
use Rattle.std.proofs.Common.{◌≡◌, ℕ, zero, suc, ◌<◌, ◌≤◌, ℤ, pos, negsuc, List, [], ◌∷◌, Bool, true, false, ◌&&◌, ◌||◌}
use Rattle.std.proofs.Common.{not, Some, None, IsTrue, refl, sym, subst, ap, ◌∙◌, slice_get, drop, take, length, arith}
use Rattle.std.proofs.Common.{◌⊎◌, inl, inr}
use Rattle.std.specs.Prelude.{codes}
use Rattle.std.proofs.lemmas.Int.{ints}
use borrow.Author.Differences.{le-true}
use Rattle.std.specs.Int.RustNames.{int_le}
use Rattle.unity_syntax.specs.declared.expression.Expr.{Expr}
use Rattle.meaning_states.specs.State.{State, is_state}
use Rattle.meaning_documents.specs.Names.{Bindings}
use Rattle.meaning_documents.specs.Setting.{is_true_at}
use Rattle.meaning_documents.specs.Programs.{Composed, document_setting}
use Rattle.meaning_executions.specs.Execution.{Act, System, IsExecution, act_step, chosen_step}
use Rattle.meaning_documents.specs.AsSystem.{system_of}
use Rattle.meaning_executions.specs.Rounds.{rounds, IsShortest}
use Rattle.meaning_executions.specs.Properties.{Test, Everywhere, IsAlwaysDefined, Fixed, Unless, Constant, Helps}
use Rattle.meaning_executions.specs.Properties.{Ensures, LeadsTo, Until, Detects}
use Rattle.unity_syntax.specs.declared.proof.Step.{Step}
use Rattle.meaning_documents.specs.Claims.{Claims, StepClaims, ClaimsOf, are_parameter_values, argument_bindings}
use Rattle.meaning_documents.specs.Claims.{parameters}
use Rattle.examples_definitions.specs.SmallTrees.{word, number, equal, less}
use Rattle.examples_definitions.specs.ClaimExamples.{count_proof, safe, jump, goal, overrun, overrunning, some_helps}
use Rattle.examples_definitions.specs.ClaimExamples.{each_helps, counting, count, counter, CountsToTwo, BeginsAtNought}
use Rattle.examples_definitions.specs.ClaimExamples.{CountIsDefined, FirstIsEnsured, JumpIsFalse, WithinTwo}
use Rattle.examples_definitions.specs.ClaimExamples.{NotWithinOne, early, steady, skip, late, HaltsAtTwo}
use Rattle.examples_definitions.specs.ClaimExamples.{GoesOnFromOne, TwoIsNotSteady, WaitsForOne, SkipIsFalse}
use Rattle.examples_definitions.specs.ClaimExamples.{TwoIsNotNought}
use Rattle.examples_definitions.specs.ClaimExamples.{OverrunIsUndefined, choosing, either, chooser, NoneForAllStates}
use Rattle.examples_definitions.specs.ClaimExamples.{OneForEachParameter, NoSuchProgram, ExecutionExamples}
use Rattle.examples_definitions.specs.ClaimExamples.{SafetyExamples, EnsuresExamples, ProgressExamples}
use Rattle.meaning_documents.proofs.ValueLaws.{value_laws}
use Rattle.meaning_documents.proofs.WriteLaws.{write_laws}
use Rattle.meaning_documents.proofs.InstanceLaws.{instance_laws}
use Rattle.meaning_states.proofs.StepTheorems.{and_left, and_right}
use Rattle.meaning_documents.proofs.SystemTheorems.{every_state_in_range}
use Rattle.meaning_executions.proofs.ExecutionTheorems.{each_is_a_step, get_at}
use Rattle.meaning_executions.proofs.RoundTheorems.{rounds_most}
use Rattle.meaning_executions.proofs.PropertyTheorems.{next, get-drop, leads_is_follows, ensures_leads}

one_state : (s t : State) → Some s ≡ Some t → s ≡ t
one_state s t e = cc

one_program : (f g : Composed) → Some g ≡ Some f → f ≡ g
one_program f g e = cc

-- a state of one slot with a number from 0 to 2
three_states : (s : State) → IsTrue (is_state ((pos 0, pos 2) ∷ []) s) →
    (s ≡ pos 0 ∷ []) ⊎ (s ≡ pos 1 ∷ []) ⊎ (s ≡ pos 2 ∷ [])
three_states [] t = cc
three_states (z ∷ y ∷ rest) t = let no = and_right (int_le (pos 0) z && int_le z (pos 2)) false t in cc
three_states (pos zero ∷ []) t = inl refl
three_states (pos (suc zero) ∷ []) t = inr (inl refl)
three_states (pos (suc (suc zero)) ∷ []) t = inr (inr refl)
three_states (pos (suc (suc (suc n))) ∷ []) t =
    let inside =
    and_left (int_le (pos 0) (pos (suc (suc (suc n)))) && int_le (pos (suc (suc (suc n)))) (pos 2)) true t in
    let under = le-true (pos (suc (suc (suc n)))) (pos 2)
    (and_right (int_le (pos 0) (pos (suc (suc (suc n))))) (int_le (pos (suc (suc (suc n)))) (pos 2)) inside) in
    absurd (omega (arith, ints))
three_states (negsuc n ∷ []) t =
    let inside = and_left (int_le (pos 0) (negsuc n) && int_le (negsuc n) (pos 2)) true t in
    let over = le-true (pos 0) (negsuc n) (and_left (int_le (pos 0) (negsuc n)) (int_le (negsuc n) (pos 2)) inside) in
    absurd (omega (arith, ints))

-- `x = n` at the counter's states
abbrev x_is : ℕ → Test
x_is n = is_true_at (document_setting counting) [] (equal (word "x") (number n))

-- the steps of the counter
from-0 : chosen_step counter 0 (pos 0 ∷ []) ≡ Some (pos 1 ∷ [])
from-0 = simp (instance_laws, write_laws, value_laws) refl

from-1 : chosen_step counter 0 (pos 1 ∷ []) ≡ Some (pos 2 ∷ [])
from-1 = simp (instance_laws, write_laws, value_laws) refl

from-2 : chosen_step counter 0 (pos 2 ∷ []) ≡ Some (pos 2 ∷ [])
from-2 = simp (instance_laws, write_laws, value_laws) refl

moves_from : (s t u : State) → s ≡ t → chosen_step counter 0 t ≡ Some u → chosen_step counter 0 s ≡ Some u
moves_from s t u e f = subst (λ v. chosen_step counter 0 v ≡ Some u) (sym e) f

holds_at : (n : ℕ) (s t : State) → s ≡ t → IsTrue (x_is n t) → IsTrue (x_is n s)
holds_at n s t e f = subst (λ v. IsTrue (x_is n v)) (sym e) f

-- it has one instance
only_one : (choice : ℕ) → slice_get counter.steps (suc choice) ≡ None
only_one choice = simp instance_laws refl

chosen_first : (choice : ℕ) (s t : State) → chosen_step counter choice s ≡ Some t → choice ≡ 0
chosen_first zero s t e = refl
chosen_first (suc choice) s t e =
    let none : chosen_step counter (suc choice) s ≡ None = ap (act_step s) (only_one choice) in cc

goes : (choice : ℕ) (s t u : State) → chosen_step counter choice s ≡ Some t → chosen_step counter 0 s ≡ Some u → t ≡ u
goes choice s t u e f =
    let first = chosen_first choice s t e in
    let same : chosen_step counter 0 s ≡ Some t = subst (λ c. chosen_step counter c s ≡ Some t) first e in
    cc

counts_found : CountsToTwo
counts_found = record { starts = simp value_laws refl; steps = (from-0, (from-1, (from-2, tt))) }

begins_found : BeginsAtNought
begins_found choices later run = let no = simp value_laws at run.starts in cc

-- the step of an instance that there is
act_of : (x : System) (choice : ℕ) (act : Act) (s : State) → slice_get x.steps choice ≡ Some act →
    chosen_step x choice s ≡ act s
act_of x choice act s e = ap (act_step s) e

abbrev ThreeStates : State → Type 0
ThreeStates s = (s ≡ pos 0 ∷ []) ⊎ (s ≡ pos 1 ∷ []) ⊎ (s ≡ pos 2 ∷ [])

counter_states : Everywhere counter ThreeStates
counter_states first choices later run place s e =
    three_states s (every_state_in_range (document_setting counting) count first choices later run place s e)

-- it always goes on
goes_on : (s : State) → ThreeStates s → (t : State) × (chosen_step counter 0 s ≡ Some t)
goes_on s three = elim three [
  | inl w ↦ (pos 1 ∷ [], moves_from s (pos 0 ∷ []) (pos 1 ∷ []) w from-0)
  | inr w ↦ elim w [
    | inl v ↦ (pos 2 ∷ [], moves_from s (pos 1 ∷ []) (pos 2 ∷ []) v from-1)
    | inr v ↦ (pos 2 ∷ [], moves_from s (pos 2 ∷ []) (pos 2 ∷ []) v from-2)
  ]
]

not_both : (t : State) → Some t ≡ None → ⊥
not_both t e = cc

always_defined : IsAlwaysDefined counter
always_defined first choices later run place s e zero act f =
    let on = goes_on s (counter_states first choices later run place s e) in
    let acts = act_of counter 0 act s f in
    λ none. not_both on.0 (sym on.1 ∙ acts ∙ none)
always_defined first choices later run place s e (suc choice) act f = let none = only_one choice in cc

defined_found : CountIsDefined
defined_found = record { program = count; named = refl; claimed = λ zs t. always_defined }

at_zero : (s : State) → ThreeStates s → IsTrue (x_is 0 s) → s ≡ pos 0 ∷ []
at_zero s three t = elim three [
  | inl w ↦ w
  | inr w ↦ elim w [
    | inl v ↦ let no = simp value_laws at (subst (λ u. IsTrue (x_is 0 u)) v t) in cc
    | inr v ↦ let no = simp value_laws at (subst (λ u. IsTrue (x_is 0 u)) v t) in cc
  ]
]

one_is_one : IsTrue (x_is 1 (pos 1 ∷ []))
one_is_one = simp value_laws refl

two_is_two : IsTrue (x_is 2 (pos 2 ∷ []))
two_is_two = simp value_laws refl

zero_not_two : IsTrue (x_is 2 (pos 0 ∷ [])) → ⊥
zero_not_two t = let no = simp value_laws at t in cc

one_not_two : IsTrue (x_is 2 (pos 1 ∷ [])) → ⊥
one_not_two t = let no = simp value_laws at t in cc

or_right : (a b : Bool) → IsTrue b → IsTrue (a || b)
or_right true b t = refl
or_right false b t = t

or_left : (a b : Bool) → IsTrue a → IsTrue (a || b)
or_left true b t = refl
or_left false b t = cc

either_of : (a b : Bool) → IsTrue (a || b) → IsTrue a ⊎ IsTrue b
either_of true b t = inl refl
either_of false b t = inr t

first_act : (act : Act) × (slice_get counter.steps 0 ≡ Some act)
first_act = get_at counter.steps 0 (simp instance_laws (omega arith))

first_ensured : Ensures counter (x_is 0) (x_is 1)
first_ensured = record {
  unless = λ first choices later run place now after e d h.
      let zero_now = at_zero now (counter_states first choices later run place now e)
      (and_left (x_is 0 now) (not (x_is 1 now)) h) in
      let step = each_is_a_step counter first choices later run place now after e d in
      let there = goes step.0 now after (pos 1 ∷ []) step.2
      (moves_from now (pos 0 ∷ []) (pos 1 ∷ []) zero_now from-0) in
      or_right (x_is 0 after) (x_is 1 after) (holds_at 1 after (pos 1 ∷ []) there one_is_one);
  helper = (
    0,
    first_act.0,
    first_act.1,
    λ first choices later run place now e h.
        let zero_now = at_zero now (counter_states first choices later run place now e)
        (and_left (x_is 0 now) (not (x_is 1 now)) h) in (
          pos 1 ∷ [],
          sym (act_of counter 0 first_act.0 now first_act.1) ∙
              moves_from now (pos 0 ∷ []) (pos 1 ∷ []) zero_now from-0,
          one_is_one,
        ),
  );
}

ensured_found : FirstIsEnsured
ensured_found = record { program = count; named = refl; claimed = λ zs t. first_ensured }

-- what is claimed of the document's program is claimed of the counter
of_counter : (step : Step) (bound : ℕ) → Claims counting count_proof step bound →
    StepClaims (document_setting counting) counter bound step
of_counter step bound c =
    let same : c.program ≡ count = one_program c.program count c.named in
    subst (λ m. StepClaims (document_setting counting) (system_of (document_setting counting) m) bound step)
    same c.claimed

no_jump_found : JumpIsFalse
no_jump_found c =
    let unless : Unless counter (x_is 0) (x_is 2) = of_counter jump 0 c [] refl in
    let after = unless (pos 0 ∷ []) (0 ∷ 0 ∷ 0 ∷ []) ((pos 1 ∷ []) ∷ (pos 2 ∷ []) ∷ (pos 2 ∷ []) ∷ []) counts_found 0
    (pos 0 ∷ []) (pos 1 ∷ []) refl refl (simp value_laws refl) in
    let no = simp value_laws at after in
    cc

at_two : (s : State) → ThreeStates s → IsTrue (x_is 2 s) → s ≡ pos 2 ∷ []
at_two s three t = elim three [
  | inl w ↦ absurd (zero_not_two (subst (λ u. IsTrue (x_is 2 u)) w t))
  | inr w ↦ elim w [
    | inl v ↦ absurd (one_not_two (subst (λ u. IsTrue (x_is 2 u)) v t))
    | inr v ↦ v
  ]
]

fixed_at_two : Fixed counter (x_is 2)
fixed_at_two first choices later run place s e h zero act f =
    let two = at_two s (counter_states first choices later run place s e) h in
    sym (act_of counter 0 act s f) ∙ (moves_from s (pos 2 ∷ []) (pos 2 ∷ []) two from-2 ∙ ap Some (sym two))
fixed_at_two first choices later run place s e h (suc choice) act f = let none = only_one choice in cc

halts_found : HaltsAtTwo
halts_found = record { program = count; named = refl; claimed = λ zs t. fixed_at_two }

not_early_found : GoesOnFromOne
not_early_found c =
    let fixed : Fixed counter (x_is 1) = of_counter early 0 c [] refl in
    let back = fixed (pos 0 ∷ []) (0 ∷ 0 ∷ 0 ∷ []) ((pos 1 ∷ []) ∷ (pos 2 ∷ []) ∷ (pos 2 ∷ []) ∷ []) counts_found 1
    (pos 1 ∷ []) refl one_is_one 0 first_act.0 first_act.1 in
    let same : Some (pos 2 ∷ []) ≡ Some (pos 1 ∷ []) =
    sym from-1 ∙ (act_of counter 0 first_act.0 (pos 1 ∷ []) first_act.1 ∙ back) in
    cc

not_steady_found : TwoIsNotSteady
not_steady_found c =
    let constant : Constant counter (x_is 2) = of_counter steady 0 c [] refl in
    let same : x_is 2 (pos 1 ∷ []) ≡ x_is 2 (pos 2 ∷ []) =
    constant (pos 0 ∷ []) (0 ∷ 0 ∷ 0 ∷ []) ((pos 1 ∷ []) ∷ (pos 2 ∷ []) ∷ (pos 2 ∷ []) ∷ []) counts_found 1
    (pos 1 ∷ []) (pos 2 ∷ []) refl refl in
    one_not_two (same ∙ two_is_two)

waits_found : WaitsForOne
waits_found = record {
  program = count;
  named = refl;
  claimed = λ zs t.
      record { unless = first_ensured.unless; leads = ensures_leads counter (x_is 0) (x_is 1) first_ensured };
}

no_skip_found : SkipIsFalse
no_skip_found c =
    let until : Until counter (x_is 0) (x_is 2) 2 = of_counter skip 2 c [] refl in
    let after = until.unless (pos 0 ∷ []) (0 ∷ 0 ∷ 0 ∷ []) ((pos 1 ∷ []) ∷ (pos 2 ∷ []) ∷ (pos 2 ∷ []) ∷ [])
    counts_found 0 (pos 0 ∷ []) (pos 1 ∷ []) refl refl (simp value_laws refl) in
    let no = simp value_laws at after in
    cc

not_late_found : TwoIsNotNought
not_late_found c =
    let detects : Detects counter (x_is 2) (x_is 0) 2 = of_counter late 2 c [] refl in
    let there = detects.always (pos 0 ∷ []) (0 ∷ 0 ∷ 0 ∷ []) ((pos 1 ∷ []) ∷ (pos 2 ∷ []) ∷ (pos 2 ∷ []) ∷ [])
    counts_found 2 (pos 2 ∷ []) refl in
    let no = simp value_laws at there in
    cc

within_two : LeadsTo counter (x_is 0) (x_is 2) 2
within_two = (leads_is_follows counter (x_is 0) (x_is 2) 2).1 (λ first choices later run place now e h enough.
    let zero_now = at_zero now (counter_states first choices later run place now e) h in
    let many = rounds_most (drop place choices) (length counter.steps) in
    let choice = get_at (drop place choices) 0 (omega (arith, many, enough)) in
    let then_choice = get_at (drop place choices) 1 (omega (arith, many, enough)) in
    let step = next counter first choices later run.steps place choice.0 now e
    (get-drop place 0 choices choice.0 place (omega arith) choice.1) in
    let one = goes choice.0 now step.0 (pos 1 ∷ []) step.2 (moves_from now (pos 0 ∷ []) (pos 1 ∷ []) zero_now from-0) in
    let then_step = next counter first choices later run.steps (suc place) then_choice.0 step.0 step.1
    (get-drop place 1 choices then_choice.0 (suc place) (omega arith) then_choice.1) in
    let two = goes then_choice.0 step.0 then_step.0 (pos 2 ∷ []) then_step.2
    (moves_from step.0 (pos 1 ∷ []) (pos 2 ∷ []) one from-1) in
    record {
      place = suc (suc place);
      state = then_step.0;
      after = omega arith;
      stands = then_step.1;
      holds = holds_at 2 then_step.0 (pos 2 ∷ []) two two_is_two;
    })

within_two_found : WithinTwo
within_two_found = record { program = count; named = refl; claimed = λ zs t. within_two }

nowhere : (place : ℕ) (s : State) → place ≤ 1 → slice_get ((pos 0 ∷ []) ∷ (pos 1 ∷ []) ∷ []) place ≡ Some s →
    IsTrue (x_is 2 s) → ⊥
nowhere zero s h e t = let same : s ≡ pos 0 ∷ [] = cc in zero_not_two (subst (λ u. IsTrue (x_is 2 u)) same t)
nowhere (suc zero) s h e t = let same : s ≡ pos 1 ∷ [] = cc in one_not_two (subst (λ u. IsTrue (x_is 2 u)) same t)
nowhere (suc (suc place)) s h e t = omega arith

below_one : (fewer : ℕ) → fewer < 1 → rounds (take fewer (0 ∷ [])) 1 < 1
below_one zero h = omega arith
below_one (suc fewer) h = absurd (omega arith)

one_round : IsShortest (0 ∷ []) (length counter.steps) 1 1
one_round = simp instance_laws (record { within = omega arith; enough = omega arith; least = below_one })

not_within_one_found : NotWithinOne
not_within_one_found c =
    let leads : LeadsTo counter (x_is 0) (x_is 2) 1 = of_counter goal 1 c [] refl in
    let run : IsExecution counter (pos 0 ∷ []) (0 ∷ []) ((pos 1 ∷ []) ∷ []) = record {
      starts = simp value_laws refl;
      steps = (from-0, tt);
    } in
    let found = leads (pos 0 ∷ []) (0 ∷ []) ((pos 1 ∷ []) ∷ []) run 0 1 (pos 0 ∷ []) refl
    (simp value_laws refl) one_round in
    nowhere found.place found.state (omega (arith, found.before)) found.stands found.holds

-- the one act of the program that runs over
abbrev over : System
over = system_of (document_setting overrun) overrunning

over_act : (act : Act) × (slice_get over.steps 0 ≡ Some act)
over_act = get_at over.steps 0 (simp instance_laws (omega arith))

over_two : chosen_step over 0 (pos 2 ∷ []) ≡ None
over_two = simp (instance_laws, write_laws, value_laws) refl

undefined_found : OverrunIsUndefined
undefined_found c =
    let same : c.program ≡ overrunning = one_program c.program overrunning c.named in
    let defined : IsAlwaysDefined over =
    (subst (λ m. StepClaims (document_setting overrun) (system_of (document_setting overrun) m) 0 safe) same c.claimed)
    [] refl in
    let run : IsExecution over (pos 2 ∷ []) [] [] = record { starts = simp value_laws refl; steps = tt } in
    defined (pos 2 ∷ []) [] [] run 0 (pos 2 ∷ []) refl 0 over_act.0 over_act.1
    (sym (act_of over 0 over_act.0 (pos 2 ∷ []) over_act.1) ∙ over_two)

-- the steps of the chooser
low-0 : chosen_step chooser 0 (pos 0 ∷ []) ≡ Some (pos 2 ∷ [])
low-0 = simp (instance_laws, write_laws, value_laws) refl

low-1 : chosen_step chooser 0 (pos 1 ∷ []) ≡ Some (pos 1 ∷ [])
low-1 = simp (instance_laws, write_laws, value_laws) refl

high-0 : chosen_step chooser 1 (pos 0 ∷ []) ≡ Some (pos 0 ∷ [])
high-0 = simp (instance_laws, write_laws, value_laws) refl

high-1 : chosen_step chooser 1 (pos 1 ∷ []) ≡ Some (pos 2 ∷ [])
high-1 = simp (instance_laws, write_laws, value_laws) refl

only_two : (choice : ℕ) → slice_get chooser.steps (suc (suc choice)) ≡ None
only_two choice = simp instance_laws refl

chooser_act : (n : ℕ) → n < 2 → (act : Act) × (slice_get chooser.steps n ≡ Some act)
chooser_act n h = get_at chooser.steps n (simp instance_laws h)

chooser_states : Everywhere chooser ThreeStates
chooser_states first choices later run place s e =
    three_states s (every_state_in_range (document_setting choosing) either first choices later run place s e)

-- a formula at the chooser's states, with the parameter's number
abbrev chooser_test : Bindings → Expr → Test
chooser_test b e = is_true_at (document_setting choosing) b e

-- it begins in any state, at 0 and at 1 among them
begins-0 : IsExecution chooser (pos 0 ∷ []) [] []
begins-0 = record { starts = refl; steps = tt }

begins-1 : IsExecution chooser (pos 1 ∷ []) [] []
begins-1 = record { starts = refl; steps = tt }

-- the step of neither instance gives 2 from both 0 and 1
no_helper : (choice : ℕ) (act : Act) → slice_get chooser.steps choice ≡ Some act →
    Helps chooser (chooser_test [] (less (word "x") (number 2))) (chooser_test [] (equal (word "x") (number 2))) act → ⊥
no_helper zero act f helps =
    let moved = helps (pos 1 ∷ []) [] [] begins-1 0 (pos 1 ∷ []) refl (simp value_laws refl) in
    let same : moved.0 ≡ pos 1 ∷ [] =
    one_state moved.0 (pos 1 ∷ []) (sym moved.1 ∙ sym (act_of chooser 0 act (pos 1 ∷ []) f) ∙ low-1) in
    let no = simp value_laws at (subst (λ u. IsTrue (chooser_test [] (equal (word "x") (number 2)) u)) same moved.2) in
    cc
no_helper (suc zero) act f helps =
    let moved = helps (pos 0 ∷ []) [] [] begins-0 0 (pos 0 ∷ []) refl (simp value_laws refl) in
    let same : moved.0 ≡ pos 0 ∷ [] =
    one_state moved.0 (pos 0 ∷ []) (sym moved.1 ∙ sym (act_of chooser 1 act (pos 0 ∷ []) f) ∙ high-0) in
    let no = simp value_laws at (subst (λ u. IsTrue (chooser_test [] (equal (word "x") (number 2)) u)) same moved.2) in
    cc
no_helper (suc (suc choice)) act f helps = let none = only_two choice in cc

none_for_all_found : NoneForAllStates
none_for_all_found c =
    let same : c.program ≡ either = one_program c.program either c.named in
    let ensures : Ensures chooser (chooser_test [] (less (word "x") (number 2)))
    (chooser_test [] (equal (word "x") (number 2))) =
    (subst (λ m. StepClaims (document_setting choosing) (system_of (document_setting choosing) m) 0 some_helps) same
    c.claimed) [] refl in
    no_helper ensures.helper.0 ensures.helper.1 ensures.helper.2 ensures.helper.3

-- the number of the one parameter
two_numbers : (zs : List ℤ) → IsTrue (are_parameter_values (parameters each_helps.params) zs) →
    (zs ≡ pos 0 ∷ []) ⊎ (zs ≡ pos 1 ∷ [])
two_numbers [] t = cc
two_numbers (z ∷ y ∷ rest) t = let no = and_right (int_le (pos 0) z && int_le z (pos 1)) false t in cc
two_numbers (pos zero ∷ []) t = inl refl
two_numbers (pos (suc zero) ∷ []) t = inr refl
two_numbers (pos (suc (suc n)) ∷ []) t =
    let inside = and_left (int_le (pos 0) (pos (suc (suc n))) && int_le (pos (suc (suc n))) (pos 1)) true t in
    let under = le-true (pos (suc (suc n))) (pos 1)
    (and_right (int_le (pos 0) (pos (suc (suc n)))) (int_le (pos (suc (suc n))) (pos 1)) inside) in
    absurd (omega (arith, ints))
two_numbers (negsuc n ∷ []) t =
    let inside = and_left (int_le (pos 0) (negsuc n) && int_le (negsuc n) (pos 1)) true t in
    let over = le-true (pos 0) (negsuc n) (and_left (int_le (pos 0) (negsuc n)) (int_le (negsuc n) (pos 1)) inside) in
    absurd (omega (arith, ints))

-- `x = m` and `x = 2`, where the parameter is this number
abbrev is_m : ℤ → Test
is_m z = chooser_test ((codes "m", z) ∷ []) (equal (word "x") (word "m"))

abbrev is_two : ℤ → Test
is_two z = chooser_test ((codes "m", z) ∷ []) (equal (word "x") (number 2))

two_found : (z : ℤ) → IsTrue (is_two z (pos 2 ∷ []))
two_found z = simp value_laws refl

only_zero : (s : State) → ThreeStates s → IsTrue (is_m (pos 0) s) → s ≡ pos 0 ∷ []
only_zero s three t = elim three [
  | inl w ↦ w
  | inr w ↦ elim w [
    | inl v ↦ let no = simp value_laws at (subst (λ u. IsTrue (is_m (pos 0) u)) v t) in cc
    | inr v ↦ let no = simp value_laws at (subst (λ u. IsTrue (is_m (pos 0) u)) v t) in cc
  ]
]

only_one_there : (s : State) → ThreeStates s → IsTrue (is_m (pos 1) s) → s ≡ pos 1 ∷ []
only_one_there s three t = elim three [
  | inl w ↦ let no = simp value_laws at (subst (λ u. IsTrue (is_m (pos 1) u)) w t) in cc
  | inr w ↦ elim w [
    | inl v ↦ v
    | inr v ↦ let no = simp value_laws at (subst (λ u. IsTrue (is_m (pos 1) u)) v t) in cc
  ]
]

-- by either choice it stays, or comes to 2
stays-0 : (choice : ℕ) (t : State) → chosen_step chooser choice (pos 0 ∷ []) ≡ Some t →
    IsTrue (is_m (pos 0) t || is_two (pos 0) t)
stays-0 zero t e =
    let same = one_state (pos 2 ∷ []) t (sym low-0 ∙ e) in
    subst (λ u. IsTrue (is_m (pos 0) u || is_two (pos 0) u)) same (simp value_laws refl)
stays-0 (suc zero) t e =
    let same = one_state (pos 0 ∷ []) t (sym high-0 ∙ e) in
    subst (λ u. IsTrue (is_m (pos 0) u || is_two (pos 0) u)) same (simp value_laws refl)
stays-0 (suc (suc choice)) t e =
    let none : chosen_step chooser (suc (suc choice)) (pos 0 ∷ []) ≡ None =
    ap (act_step (pos 0 ∷ [])) (only_two choice) in absurd (not_both t (sym e ∙ none))

stays-1 : (choice : ℕ) (t : State) → chosen_step chooser choice (pos 1 ∷ []) ≡ Some t →
    IsTrue (is_m (pos 1) t || is_two (pos 1) t)
stays-1 zero t e =
    let same = one_state (pos 1 ∷ []) t (sym low-1 ∙ e) in
    subst (λ u. IsTrue (is_m (pos 1) u || is_two (pos 1) u)) same (simp value_laws refl)
stays-1 (suc zero) t e =
    let same = one_state (pos 2 ∷ []) t (sym high-1 ∙ e) in
    subst (λ u. IsTrue (is_m (pos 1) u || is_two (pos 1) u)) same (simp value_laws refl)
stays-1 (suc (suc choice)) t e =
    let none : chosen_step chooser (suc (suc choice)) (pos 1 ∷ []) ≡ None =
    ap (act_step (pos 1 ∷ [])) (only_two choice) in absurd (not_both t (sym e ∙ none))

-- what leaves a state by either choice or stays, and leaves it by this act to 2, is ensured
ensured_at : (z : ℤ) (from : State) (choice : ℕ) → choice < 2 → chosen_step chooser choice from ≡ Some (pos 2 ∷ []) →
    ((s : State) → ThreeStates s → IsTrue (is_m z s) → s ≡ from) →
    ((other : ℕ) (t : State) → chosen_step chooser other from ≡ Some t → IsTrue (is_m z t || is_two z t)) →
    Ensures chooser (is_m z) (is_two z)
ensured_at z from choice few moves only stays =
    let act = chooser_act choice few in
    record {
      unless = λ first choices later run place now after e d h.
          let here = only now (chooser_states first choices later run place now e)
          (and_left (is_m z now) (not (is_two z now)) h) in
          let step = each_is_a_step chooser first choices later run place now after e d in
          stays step.0 after (subst (λ u. chosen_step chooser step.0 u ≡ Some after) here step.2);
      helper = (
        choice,
        act.0,
        act.1,
        λ first choices later run place now e h.
            let here = only now (chooser_states first choices later run place now e)
            (and_left (is_m z now) (not (is_two z now)) h) in (
              pos 2 ∷ [],
              sym (act_of chooser choice act.0 now act.1) ∙
                  subst (λ u. chosen_step chooser choice u ≡ Some (pos 2 ∷ [])) (sym here) moves,
              two_found z,
            ),
      );
    }

each_claim : (zs : List ℤ) → IsTrue (are_parameter_values (parameters each_helps.params) zs) →
    ClaimsOf (document_setting choosing) chooser
    (argument_bindings (parameters each_helps.params) zs) 0 each_helps.claim
each_claim zs t = elim (two_numbers zs t) [
  | inl w ↦ subst (λ ys. ClaimsOf (document_setting choosing) chooser
      (argument_bindings (parameters each_helps.params) ys) 0 each_helps.claim) (sym w)
      (ensured_at (pos 0) (pos 0 ∷ []) 0 (omega arith) low-0 only_zero stays-0)
  | inr w ↦ subst (λ ys. ClaimsOf (document_setting choosing) chooser
      (argument_bindings (parameters each_helps.params) ys) 0 each_helps.claim) (sym w)
      (ensured_at (pos 1) (pos 1 ∷ []) 1 (omega arith) high-1 only_one_there stays-1)
]

one_for_each_found : OneForEachParameter
one_for_each_found = record { program = either; named = refl; claimed = each_claim }

pub no_program_found : NoSuchProgram
no_program_found c = let named = c.named in cc

pub execution_examples : ExecutionExamples
execution_examples = record {
  counts = counts_found;
  begins = begins_found;
}

pub safety_examples : SafetyExamples
safety_examples = record {
  defined = defined_found;
  undefined = undefined_found;
  no_jump = no_jump_found;
  halts = halts_found;
  not_early = not_early_found;
  not_steady = not_steady_found;
}

pub ensures_examples : EnsuresExamples
ensures_examples = record {
  ensured = ensured_found;
  none_for_all = none_for_all_found;
  one_for_each = one_for_each_found;
}

pub progress_examples : ProgressExamples
progress_examples = record {
  within_two = within_two_found;
  not_within_one = not_within_one_found;
  waits = waits_found;
  no_skip = no_skip_found;
  not_late = not_late_found;
}
