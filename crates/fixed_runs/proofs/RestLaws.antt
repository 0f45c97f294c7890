-- What is to come of a trace that stops at the first fixed point, one step at a time.
use Rattle.std.proofs.Common.{◌≡◌, ℕ, zero, suc, ◌+◌, ◌^◌, ◌<◌, ◌≤◌, ◌-◌, min, List, [], ◌∷◌, ◌++◌, length, take, drop}
use Rattle.std.proofs.Common.{cond}
use Rattle.std.proofs.Common.{true, false, Option, Some, None, IsTrue, refl, sym, ap, ◌∙◌, arith, append_assoc}
use Rattle.std.proofs.Common.{append-nil}
use Rattle.std.proofs.Common.{option_and_then}
use Rattle.std.specs.Option.{option_map}
use Rattle.meaning_states.specs.State.{State, is_state}
use Rattle.meaning_states.proofs.StepTheorems.{step_keeps_ranges}
use Rattle.meaning_executions.specs.Execution.{System, chosen_step}
use Rattle.meaning_executions.specs.Rounds.{rounds}
use Rattle.fair_rounds.proofs.CountLaws.{few_rounds}
use Rattle.core_terms.specs.declared.programs.CSlot.{CSlot}
use Rattle.core_terms.specs.declared.programs.CStmt.{CStmt}
use Rattle.core_terms.specs.declared.programs.CProgram.{CProgram}
use Rattle.core_terms.specs.declared.documents.CDocument.{CDocument}
use Rattle.core_terms.specs.Steps.{slot_ranges, core_step, core_writes}
use Rattle.executor.specs.Running as runner
use Rattle.executor.specs.CoreSystem.{core_system}
use Rattle.schedule_replay.specs.Lines.{rounds_line, fixed_line}
use Rattle.fixed_points.specs.FixedPoints.{is_fixed}
use Rattle.run_traces.proofs.TraceLaws.{drop_next, take_next, drop_past}
use Rattle.run_traces.specs.Traces.{step_line, following, steps_text, and_then_all, all_defined}
use Rattle.fixed_runs.specs.Traces.{fixed_after, up_to, fixed_lines, fixed_choices, fixed_defined}
use Rattle.fixed_runs.specs.Cores.{lines_from, rest_text}
use Rattle.std.specs.Prelude.{slice_get}

-- where a fixed point comes

after_fixed : (x : System) (state : State) (choices : List ℕ) → is_fixed x state ≡ true →
    fixed_after x state choices ≡ Some 0
after_fixed x state [] e = ap (λ b. cond b (Some 0) None) e
after_fixed x state (c ∷ cs) e =
    ap (λ b. cond b (Some 0) (option_map suc
    (option_and_then (λ next. fixed_after x next cs) (chosen_step x c state)))) e

after_none : (x : System) (state : State) → is_fixed x state ≡ false → fixed_after x state [] ≡ None
after_none x state e = ap (λ b. cond b (Some 0) None) e

after_next : (x : System) (state : State) (c : ℕ) (cs : List ℕ) → is_fixed x state ≡ false →
    fixed_after x state (c ∷ cs)
    ≡ option_map suc (option_and_then (λ next. fixed_after x next cs) (chosen_step x c state))
after_next x state c cs e =
    ap (λ b. cond b (Some 0) (option_map suc
    (option_and_then (λ next. fixed_after x next cs) (chosen_step x c state)))) e

-- the text that is to come

module _ (d : CDocument) (p : CProgram) (x : System) where
  abbrev rest_by : ℕ → State → List ℕ → List ℕ → Option ℕ → List ℕ
  rest_by n state made choices found =
      steps_text d p x (lines_from n found ++ rounds_line (rounds (made ++ up_to found choices) (length p.statements)))
      n state (up_to found choices)

  pub rest_fixed : (n : ℕ) (state : State) (made choices : List ℕ) → is_fixed x state ≡ true →
      rest_text d p x n state made choices ≡ fixed_line n ++ rounds_line (rounds made (length p.statements))
  rest_fixed n state made choices e =
      let none : n + 0 ≡ n = omega arith in
      ap (rest_by n state made choices) (after_fixed x state choices e)
      ∙ ap (λ m. fixed_line m ++ rounds_line (rounds (made ++ []) (length p.statements))) none
      ∙ ap (λ cs. fixed_line n ++ rounds_line (rounds cs (length p.statements))) (append-nil made)

  pub rest_ended : (n : ℕ) (state : State) (made choices : List ℕ) → is_fixed x state ≡ false → choices ≡ [] →
      rest_text d p x n state made choices ≡ rounds_line (rounds made (length p.statements))
  rest_ended n state made choices e end =
      ap (rest_text d p x n state made) end ∙ ap (rest_by n state made []) (after_none x state e)
      ∙ ap (λ cs. rounds_line (rounds cs (length p.statements))) (append-nil made)

  pub rest_next : (n : ℕ) (state : State) (made : List ℕ) (c : ℕ) (cs : List ℕ) → is_fixed x state ≡ false →
      rest_text d p x n state made (c ∷ cs) ≡ step_line d p (n + 1) c (chosen_step x c state)
      ++ following (λ next. rest_text d p x (n + 1) next (made ++ c ∷ []) cs) (chosen_step x c state)
  rest_next n state made c cs e =
      ap (rest_by n state made (c ∷ cs)) (after_next x state c cs e) ∙ go (chosen_step x c state) refl
    where
      k : ℕ
      k = length p.statements

      one : (last : List ℕ) (later : List ℕ) (o : Option State) → chosen_step x c state ≡ o →
          steps_text d p x last n state (c ∷ later) ≡ step_line d p (n + 1) c o
          ++ following (λ next. steps_text d p x last (n + 1) next later) o
      one last later o f =
          ap (λ r. step_line d p (n + 1) c r ++ following (λ next. steps_text d p x last (n + 1) next later) r) f

      found_next : (next : State) → chosen_step x c state ≡ Some next → (m : Option ℕ) →
          rest_by n state made (c ∷ cs) (option_map suc m)
          ≡ step_line d p (n + 1) c (Some next) ++ rest_by (n + 1) next (made ++ c ∷ []) cs m
      found_next next f None =
          one (rounds_line (rounds (made ++ c ∷ cs) k)) cs (Some next) f
          ∙ ap (λ all. step_line d p (n + 1) c (Some next)
          ++ steps_text d p x (rounds_line (rounds all k)) (n + 1) next cs) (sym (append_assoc made (c ∷ []) cs))
      found_next next f (Some m) =
          let more : n + suc m ≡ n + 1 + m = omega arith in
          one (fixed_line (n + suc m) ++ rounds_line (rounds (made ++ c ∷ take m cs) k)) (take m cs) (Some next) f
          ∙ ap (λ i. step_line d p (n + 1) c (Some next)
          ++ steps_text d p x (fixed_line i ++ rounds_line (rounds (made ++ c ∷ take m cs) k)) (n + 1) next
          (take m cs)) more
          ∙ ap (λ all. step_line d p (n + 1) c (Some next)
          ++ steps_text d p x (fixed_line (n + 1 + m) ++ rounds_line (rounds all k)) (n + 1) next (take m cs))
          (sym (append_assoc made (c ∷ []) (take m cs)))

      go : (o : Option State) → chosen_step x c state ≡ o →
          rest_by n state made (c ∷ cs) (option_map suc (option_and_then (λ next. fixed_after x next cs) o))
          ≡ step_line d p (n + 1) c o ++ following (λ next. rest_text d p x (n + 1) next (made ++ c ∷ []) cs) o
      go None f = one (rounds_line (rounds (made ++ c ∷ cs) k)) cs None f
      go (Some next) f = found_next next f (fixed_after x next cs)

  pub rest_begin : (start : State) (choices : List ℕ) → rest_text d p x 0 start [] choices
      ≡ steps_text d p x (fixed_lines (fixed_after x start choices)
      ++ rounds_line (rounds (fixed_choices x start choices) (length p.statements))) 0 start
      (fixed_choices x start choices)
  rest_begin start choices = go (fixed_after x start choices)
    where
      go : (m : Option ℕ) → rest_by 0 start [] choices m
          ≡ steps_text d p x (fixed_lines m ++ rounds_line (rounds (up_to m choices) (length p.statements))) 0 start
          (up_to m choices)
      go None = refl
      go (Some m) =
          let same : 0 + m ≡ m = omega arith in
          ap (λ i. steps_text d p x (fixed_line i ++ rounds_line (rounds (take m choices) (length p.statements))) 0
          start (take m choices)) same

  -- at a place of the choices
  pub rest_step : (n c : ℕ) (state : State) (cs : List ℕ) → slice_get cs n ≡ Some c → is_fixed x state ≡ false →
      rest_text d p x n state (take n cs) (drop n cs) ≡ step_line d p (n + 1) c (chosen_step x c state)
      ++ following (λ next. rest_text d p x (n + 1) next (take (n + 1) cs) (drop (n + 1) cs)) (chosen_step x c state)
  rest_step n c state cs there e =
      ap (rest_text d p x n state (take n cs)) (drop_next cs n c there)
      ∙ rest_next n state (take n cs) c (drop (n + 1) cs) e
      ∙ ap (λ made. step_line d p (n + 1) c (chosen_step x c state)
      ++ following (λ next. rest_text d p x (n + 1) next made (drop (n + 1) cs)) (chosen_step x c state))
      (take_next cs n c there)

-- what is left where the trace ends: at a fixed point, and after the last choice
pub fixed_end : (d : CDocument) (p : CProgram) (cs : List ℕ) (n number : ℕ) (state : State) →
    is_fixed (core_system d.slots p) state ≡ true → number ≡ rounds (take n cs) (length p.statements) →
    rest_text d p (core_system d.slots p) n state (take n cs) (drop n cs) ≡ fixed_line n ++ rounds_line number
fixed_end d p cs n number state e f =
    rest_fixed d p (core_system d.slots p) n state (take n cs) (drop n cs) e
    ∙ ap (λ r. fixed_line n ++ rounds_line r) (sym f)

pub last_end : (d : CDocument) (p : CProgram) (cs : List ℕ) (n number : ℕ) (state : State) →
    is_fixed (core_system d.slots p) state ≡ false → length cs ≤ n →
    number ≡ rounds (take n cs) (length p.statements) →
    rest_text d p (core_system d.slots p) n state (take n cs) (drop n cs) ≡ rounds_line number
last_end d p cs n number state e past f =
    rest_ended d p (core_system d.slots p) n state (take n cs) (drop n cs) e (drop_past cs n past)
    ∙ ap rounds_line (sym f)

-- whether the steps that are to come are defined

pub defined_fixed : (x : System) (state : State) (choices : List ℕ) → is_fixed x state ≡ true →
    fixed_defined x state choices ≡ true
defined_fixed x state choices e = ap (λ m. all_defined x state (up_to m choices)) (after_fixed x state choices e)

pub defined_ended : (x : System) (state : State) (choices : List ℕ) → is_fixed x state ≡ false → choices ≡ [] →
    fixed_defined x state choices ≡ true
defined_ended x state choices e end =
    ap (fixed_defined x state) end ∙ ap (λ m. all_defined x state (up_to m [])) (after_none x state e)

pub defined_next : (x : System) (state : State) (c : ℕ) (cs : List ℕ) → is_fixed x state ≡ false →
    fixed_defined x state (c ∷ cs) ≡ and_then_all (λ next. fixed_defined x next cs) (chosen_step x c state)
defined_next x state c cs e =
    ap (λ m. all_defined x state (up_to m (c ∷ cs))) (after_next x state c cs e) ∙ go (chosen_step x c state) refl
  where
    one : (later : List ℕ) (o : Option State) → chosen_step x c state ≡ o →
        all_defined x state (c ∷ later) ≡ and_then_all (λ next. all_defined x next later) o
    one later o f = ap (and_then_all (λ next. all_defined x next later)) f

    found_next : (next : State) → chosen_step x c state ≡ Some next → (m : Option ℕ) →
        all_defined x state (up_to (option_map suc m) (c ∷ cs)) ≡ all_defined x next (up_to m cs)
    found_next next f None = one cs (Some next) f
    found_next next f (Some m) = one (take m cs) (Some next) f

    go : (o : Option State) → chosen_step x c state ≡ o →
        all_defined x state (up_to (option_map suc (option_and_then (λ next. fixed_after x next cs) o)) (c ∷ cs))
        ≡ and_then_all (λ next. fixed_defined x next cs) o
    go None f = one cs None f
    go (Some next) f = found_next next f (fixed_after x next cs)

pub defined_step : (x : System) (n c : ℕ) (state : State) (cs : List ℕ) → slice_get cs n ≡ Some c →
    is_fixed x state ≡ false → fixed_defined x state (drop n cs)
    ≡ and_then_all (λ next. fixed_defined x next (drop (n + 1) cs)) (chosen_step x c state)
defined_step x n c state cs there e =
    ap (fixed_defined x state) (drop_next cs n c there) ∙ defined_next x state c (drop (n + 1) cs) e

-- the rounds of the choices that were made

length_taken : (cs : List ℕ) (n : ℕ) → length (take n cs) ≤ n
length_taken cs zero = omega arith
length_taken [] (suc n) = omega arith
length_taken (c ∷ cs) (suc n) = let rest = length_taken cs n in omega (arith, rest)

pub rounds_made : (cs : List ℕ) (k n instances r : ℕ) → n < 2 ^ 64 → instances ≡ k →
    r ≡ min (rounds (take n cs) instances) (2 ^ 64 - 1) → r ≡ rounds (take n cs) k
rounds_made cs k n instances r fits e f =
    let same : rounds (take n cs) instances ≡ rounds (take n cs) k = ap (rounds (take n cs)) e in
    let few : rounds (take n cs) k ≤ length (take n cs) = few_rounds k [] (take n cs) in
    let short = length_taken cs n in
    omega (arith, same, few, short, f, fits)

-- a defined step leads to a state
pub chosen_keeps : (slots : List CSlot) (p : CProgram) (choice : ℕ) (state next : State) →
    IsTrue (is_state (slot_ranges slots) state) → runner.chosen_step slots p choice state ≡ Some next →
    IsTrue (is_state (slot_ranges slots) next)
chosen_keeps slots p choice state next h e = go (slice_get p.statements choice) e
  where
    go : (o : Option CStmt) → option_and_then (λ s. core_step slots s state) o ≡ Some next →
        IsTrue (is_state (slot_ranges slots) next)
    go None e = cc
    go (Some s) e = step_keeps_ranges (slot_ranges slots) (core_writes state s) state next h e
