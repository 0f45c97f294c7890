-- The choices of a trace one by one, and the text that is to come.
use Rattle.std.proofs.Common.{option_and_then, ◌≡◌, ℕ, zero, suc, ◌+◌, ◌-◌, ◌%◌, ◌^◌, min, ◌<◌, ◌≤◌, List, [], ◌∷◌}
use Rattle.std.proofs.Common.{◌++◌, take, drop, length, Option, Some, None, refl, sym, ap, ◌∙◌, subst, slice_get}
use Rattle.std.proofs.Common.{arith}
use Rattle.std.specs.Prelude.{IfSome}
use Rattle.std.specs.Option.{option_map}
use Rattle.std.specs.List.{range_with_len}
use Rattle.std.proofs.lemmas.Option.{slice_get-map, slice_get_past, slice_get_within, get_or_from_slice_get}
use Rattle.std.proofs.lemmas.List.FromFn.{length-map-range_with_len}
use Rattle.std.proofs.lemmas.List.{take_all, at_drop_all}
use Rattle.meaning_states.specs.State.{State}
use Rattle.meaning_executions.specs.Rounds.{rounds}
use Rattle.fair_rounds.proofs.CountLaws.{few_rounds}
use Rattle.core_terms.specs.declared.programs.CProgram.{CProgram}
use Rattle.core_terms.specs.declared.documents.CDocument.{CDocument}
use Rattle.executor.specs.declared.runner.Stepped.{Stepped}
use Rattle.meaning_executions.specs.Execution.{System, act_step, chosen_step}
use Rattle.core_terms.specs.declared.programs.CSlot.{CSlot}
use Rattle.core_terms.specs.declared.programs.CStmt.{CStmt}
use Rattle.core_terms.specs.Steps.{core_step}
use Rattle.executor.specs.CoreSystem.{core_system}
use Rattle.executor.specs.Running as runner
use Rattle.schedule_replay.specs.Schedules.{turns}
use Rattle.run_traces.specs.declared.choices.Choices.{Choices}
use Rattle.run_traces.specs.Choices.{choices_of, AreAmong}
use Rattle.run_traces.specs.Traces.{step_line, following, steps_text, and_then_all, all_defined, stepped}

range_at : (a n i : ℕ) → i < n → slice_get (range_with_len a n) i ≡ Some (a + i)
range_at a zero i h = absurd (omega arith)
range_at a (suc n) zero h = ap (λ k. Some k) (let same : a ≡ a + 0 = omega arith in same)
range_at a (suc n) (suc i) h =
    range_at (a + 1) n i (omega arith) ∙ ap (λ k. Some k) (let same : a + 1 + i ≡ a + suc i = omega arith in same)

pub turns_at : (k count step : ℕ) → step < count → slice_get (turns k count) step ≡ Some (step % k)
turns_at k count step h =
    slice_get-map (λ i. i % k) (range_with_len 0 count) step
    ∙ ap (option_map (λ i. i % k)) (range_at 0 count step h ∙ ap (λ n. Some n)
    (let same : 0 + step ≡ step = omega arith in same))

pub turns_past : (k count step : ℕ) → count ≤ step → slice_get (turns k count) step ≡ None
turns_past k count step h =
    slice_get_past (turns k count) step (omega (arith, length-map-range_with_len (λ i. i % k) 0 count))

-- each choice is that of an instance
pub among : (k : ℕ) (choices : Choices) (n c : ℕ) → 0 < k → AreAmong k choices →
    slice_get (choices_of k choices) n ≡ Some c → c < k
among k (Choices.Turns count) n c h all e = go (slice_get (range_with_len 0 count) n)
    (sym (slice_get-map (λ i. i % k) (range_with_len 0 count) n) ∙ e)
  where
    go : (o : Option ℕ) → option_map (λ i. i % k) o ≡ Some c → c < k
    go None f = cc
    go (Some i) f = let same : i % k ≡ c = cc in omega arith
among k (Choices.Listed choices) n c h all e =
    subst (λ x. x < k) (get_or_from_slice_get choices.now n c c e) (all n c (slice_get_within choices.now n c e))

pub drop_next : (cs : List ℕ) (n c : ℕ) → slice_get cs n ≡ Some c → drop n cs ≡ c ∷ drop (n + 1) cs
drop_next cs n c e = go cs n e ∙ ap (λ k. c ∷ drop k cs) (let same : suc n ≡ n + 1 = omega arith in same)
  where
    go : (cs : List ℕ) (n : ℕ) → slice_get cs n ≡ Some c → drop n cs ≡ c ∷ drop (suc n) cs
    go [] n e = cc
    go (x ∷ xs) zero e = let same : x ≡ c = cc in ap (λ y. y ∷ xs) same
    go (x ∷ xs) (suc n) e = go xs n e

pub take_next : (cs : List ℕ) (n c : ℕ) → slice_get cs n ≡ Some c → take n cs ++ c ∷ [] ≡ take (n + 1) cs
take_next cs n c e = go cs n e ∙ ap (λ k. take k cs) (let same : suc n ≡ n + 1 = omega arith in same)
  where
    go : (cs : List ℕ) (n : ℕ) → slice_get cs n ≡ Some c → take n cs ++ c ∷ [] ≡ take (suc n) cs
    go [] n e = cc
    go (x ∷ xs) zero e = let same : x ≡ c = cc in ap (λ y. y ∷ []) (sym same)
    go (x ∷ xs) (suc n) e = ap (λ ys. x ∷ ys) (go xs n e)

-- the text from a choice on
pub steps_next : (d : CDocument) (p : CProgram) (x : System) (last : List ℕ) (n c : ℕ) (state : State) (cs : List ℕ) →
    slice_get cs n ≡ Some c →
    steps_text d p x last n state (drop n cs) ≡ step_line d p (n + 1) c (chosen_step x c state)
    ++ following (λ next. steps_text d p x last (n + 1) next (drop (n + 1) cs)) (chosen_step x c state)
steps_next d p x last n c state cs e = ap (steps_text d p x last n state) (drop_next cs n c e)

pub defined_next : (x : System) (n c : ℕ) (state : State) (cs : List ℕ) → slice_get cs n ≡ Some c →
    all_defined x state (drop n cs)
    ≡ and_then_all (λ next. all_defined x next (drop (n + 1) cs)) (chosen_step x c state)
defined_next x n c state cs e = ap (all_defined x state) (drop_next cs n c e)

-- the step of a runner is that of its program as executions see it
pub core_chosen : (slots : List CSlot) (p : CProgram) (choice : ℕ) (state : State) →
    runner.chosen_step slots p choice state ≡ chosen_step (core_system slots p) choice state
core_chosen slots p choice state =
    go (slice_get p.statements choice)
    ∙ ap (act_step state) (sym (slice_get-map (core_step slots) p.statements choice))
  where
    go : (o : Option CStmt) →
        option_and_then (λ s. core_step slots s state) o ≡ act_step state (option_map (core_step slots) o)
    go None = refl
    go (Some s) = refl

-- a step that is undefined gives no state, and one that is done gives one
pub no_next : (o : Option State) (s : Stepped) → s ≡ stepped o → s ≡ Stepped.Undefined → o ≡ None
no_next None s e f = refl
no_next (Some next) s e f = let never : Stepped.Undefined ≡ Stepped.Done = sym f ∙ e in cc

pub some_next : (o : Option State) (s : Stepped) (state : State) → s ≡ stepped o → s ≡ Stepped.Done →
    IfSome o (λ next. state ≡ next) → o ≡ Some state
some_next None s state e f h = let never : Stepped.Done ≡ Stepped.Undefined = sym f ∙ e in cc
some_next (Some next) s state e f h = ap (λ t. Some t) (sym h)

-- there is no choice at the end
pub past_end : (cs : List ℕ) (n : ℕ) → slice_get cs n ≡ None → length cs ≤ n
past_end [] n e = omega arith
past_end (x ∷ xs) zero e = cc
past_end (x ∷ xs) (suc n) e = let rest = past_end xs n e in omega (arith, rest)

pub drop_past : (cs : List ℕ) (n : ℕ) → length cs ≤ n → drop n cs ≡ []
drop_past cs n h = at_drop_all (λ xs. xs) cs n h

-- the rounds of all choices
pub rounds_are : (cs : List ℕ) (k n instances r : ℕ) → length cs ≤ n → n < 2 ^ 64 → instances ≡ k →
    r ≡ min (rounds (take n cs) instances) (2 ^ 64 - 1) → r ≡ rounds cs k
rounds_are cs k n instances r h fits e f =
    let same : rounds (take n cs) instances ≡ rounds cs k =
    ap (λ xs. rounds xs instances) (take_all n cs h) ∙ ap (rounds cs) e in
    let few : rounds cs k ≤ length cs = few_rounds k [] cs in
    omega arith
