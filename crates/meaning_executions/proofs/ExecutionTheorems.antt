-- The laws of executions.
use Rattle.std.proofs.Common.{◌≡◌, ℕ, zero, suc, ◌<◌, List, [], ◌∷◌, ◌++◌, Option, Some, None, IsTrue, refl}
use Rattle.std.proofs.Common.{sym, subst, ap, ◌∙◌, slice_get, take, length, arith}
use Rattle.std.specs.Prelude.{◌≢◌}
use Rattle.meaning_states.specs.State.{State}
use Rattle.meaning_executions.specs.Execution.{System, Steps, IsExecution, act_step, chosen_step}
use Rattle.meaning_executions.specs.Properties.{IsAlwaysDefined}
use Rattle.meaning_executions.specs.ExecutionLaws.{PrefixIsExecution, EachIsAStep, DefinedRuns}

steps_prefix : (x : System) (s : State) (cs : List ℕ) (ts : List State) → Steps x s cs ts → (n : ℕ) →
    Steps x s (take n cs) (take n ts)
steps_prefix x s cs ts f zero = tt
steps_prefix x s [] [] f (suc n) = tt
steps_prefix x s [] (t ∷ ts) f (suc n) = absurd f
steps_prefix x s (c ∷ cs) [] f (suc n) = absurd f
steps_prefix x s (c ∷ cs) (t ∷ ts) f (suc n) = (f.0, steps_prefix x t cs ts f.1 n)

pub prefix_is_execution : PrefixIsExecution
prefix_is_execution x first choices later run n =
    record { starts = run.starts; steps = steps_prefix x first choices later run.steps n }

-- a state and its successor, with the choice between them
pub step_at : (x : System) (s : State) (cs : List ℕ) (ts : List State) → Steps x s cs ts →
    (place : ℕ) (now next : State) →
    slice_get (s ∷ ts) place ≡ Some now → slice_get (s ∷ ts) (suc place) ≡ Some next →
    (choice : ℕ) × (slice_get cs place ≡ Some choice) × (chosen_step x choice now ≡ Some next)
step_at x s [] [] f place now next e d = cc
step_at x s [] (t ∷ ts) f place now next e d = absurd f
step_at x s (c ∷ cs) [] f place now next e d = absurd f
step_at x s (c ∷ cs) (t ∷ ts) f zero now next e d =
    let before : s ≡ now = cc in
    let after : t ≡ next = cc in
    (c, refl, subst (λ u. chosen_step x c now ≡ Some u) after (subst (λ u. chosen_step x c u ≡ Some t) before f.0))
step_at x s (c ∷ cs) (t ∷ ts) f (suc place) now next e d = step_at x t cs ts f.1 place now next e d

pub each_is_a_step : EachIsAStep
each_is_a_step x first choices later run place now next e d = step_at x first choices later run.steps place now next e d

-- what the start gives and each chosen step keeps holds at each state
pub kept : (x : System) (P : State → Type 0) →
    ((s t : State) (choice : ℕ) → P s → chosen_step x choice s ≡ Some t → P t) →
    (s : State) (cs : List ℕ) (ts : List State) → P s → Steps x s cs ts → (place : ℕ) (t : State) →
    slice_get (s ∷ ts) place ≡ Some t → P t
kept x P keeps s cs ts h f zero t e = let same : s ≡ t = cc in subst P same h
kept x P keeps s cs [] h f (suc place) t e = cc
kept x P keeps s [] (u ∷ us) h f (suc place) t e = absurd f
kept x P keeps s (c ∷ cs) (u ∷ us) h f (suc place) t e = kept x P keeps u cs us (keeps s u c h f.0) f.1 place t e

-- one more step at the end
pub extended : (x : System) (s : State) (cs : List ℕ) (ts : List State) → Steps x s cs ts → (c : ℕ) (u t : State) →
    slice_get (s ∷ ts) (length cs) ≡ Some u → chosen_step x c u ≡ Some t →
    Steps x s (cs ++ (c ∷ [])) (ts ++ (t ∷ [])) × (slice_get (s ∷ (ts ++ (t ∷ []))) (length (cs ++ (c ∷ []))) ≡ Some t)
extended x s [] [] f c u t e d =
    let same : s ≡ u = cc in ((subst (λ v. chosen_step x c v ≡ Some t) (sym same) d, tt), refl)
extended x s [] (v ∷ ts) f c u t e d = absurd f
extended x s (b ∷ cs) [] f c u t e d = absurd f
extended x s (b ∷ cs) (v ∷ ts) f c u t e d =
    let rest = extended x v cs ts f.1 c u t e d in ((f.0, rest.0), rest.1)

-- what stands at a place of a list
pub get_at : {X : Type 0} (xs : List X) (n : ℕ) → n < length xs → (x : X) × (slice_get xs n ≡ Some x)
get_at [] n h = absurd (omega arith)
get_at (x ∷ xs) zero h = (x, refl)
get_at (x ∷ xs) (suc n) h = let inner : n < length xs = omega arith in get_at xs n inner

is_some : (o : Option State) → o ≢ None → (t : State) × (o ≡ Some t)
is_some None h = absurd (h refl)
is_some (Some t) h = (t, refl)

module _ (x : System) (defined : IsAlwaysDefined x) (first : State) (starts : IsTrue (x.initial first)) where
  -- after the choices made so far, the rest can be made
  goes_on : (done : List ℕ) (states : List State) → Steps x first done states → (s : State) →
      slice_get (first ∷ states) (length done) ≡ Some s → (todo : List ℕ) →
      ((place choice : ℕ) → slice_get todo place ≡ Some choice → choice < length x.steps) →
      (more : List State) × Steps x s todo more
  goes_on done states f s e [] few = ([], tt)
  goes_on done states f s e (c ∷ todo) few =
      let act = get_at x.steps c (few zero c refl) in
      let run : IsExecution x first done states = record { starts = starts; steps = f } in
      let next = is_some (act.0 s) (defined first done states run (length done) s e c act.0 act.1) in
      let chosen : chosen_step x c s ≡ Some next.0 = ap (act_step s) act.1 ∙ next.1 in
      let further = extended x first done states f c s next.0 e chosen in
      let rest = goes_on (done ++ (c ∷ [])) (states ++ (next.0 ∷ [])) further.0 next.0 further.1 todo
      (λ place choice h. few (suc place) choice h) in
      (next.0 ∷ rest.0, (chosen, rest.1))

pub defined_runs : DefinedRuns
defined_runs x defined first choices starts few =
    let made = goes_on x defined first starts [] [] tt first refl choices few in
    (made.0, record { starts = starts; steps = made.1 })
