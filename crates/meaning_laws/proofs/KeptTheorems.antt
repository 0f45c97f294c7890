-- The executions of a system that is kept to a test.
use Rattle.std.proofs.Common.{◌≡◌, ℕ, zero, suc, List, [], ◌∷◌, map, Bool, true, false, cond, Option, Some, None}
use Rattle.std.proofs.Common.{IsTrue, refl, sym, subst, ap, ◌∙◌, slice_get, length}
use Rattle.std.proofs.lemmas.List.{length-map}
use Rattle.meaning_states.specs.State.{State}
use Rattle.meaning_executions.specs.Execution.{Act, System, Steps, act_step, chosen_step}
use Rattle.meaning_executions.specs.Properties.{Test}
use Rattle.meaning_states.proofs.StepTheorems.{and_left, and_right, both_true}
use Rattle.meaning_executions.proofs.ExecutionTheorems as executions
use Rattle.meaning_executions.specs.Systems.{passing, kept_act, kept}
use Rattle.meaning_laws.specs.KeptLaws.{KeptRuns}

pub kept_length : (u : Test) (x : System) → length (kept u x).steps ≡ length x.steps
kept_length u x = length-map x.steps (kept_act u)

-- what passes is there, and passes the test
passed : (u : Test) (o : Option State) (t : State) → passing u o ≡ Some t → (o ≡ Some t) × IsTrue (u t)
passed u None t e = cc
passed u (Some s) t e = go (u s) refl e
  where
    go : (b : Bool) → u s ≡ b → cond b (Some s) None ≡ Some t → (Some s ≡ Some t) × IsTrue (u t)
    go true d same = let one : s ≡ t = cc in (same, subst (λ v. IsTrue (u v)) one d)
    go false d same = cc same

passes : (u : Test) (o : Option State) (t : State) → o ≡ Some t → IsTrue (u t) → passing u o ≡ Some t
passes u o t e h = ap (passing u) e ∙ ap (λ b. cond b (Some t) None) h

-- the acts of a kept system are those of the system, kept
pub act_of_kept : (u : Test) (acts : List Act) (choice : ℕ) (s : State) →
    act_step s (slice_get (map (kept_act u) acts) choice) ≡ passing u (act_step s (slice_get acts choice))
act_of_kept u [] choice s = refl
act_of_kept u (a ∷ acts) zero s = refl
act_of_kept u (a ∷ acts) (suc choice) s = act_of_kept u acts choice s

pub step_of_kept : (u : Test) (x : System) (choice : ℕ) (s t : State) → chosen_step (kept u x) choice s ≡ Some t →
    (chosen_step x choice s ≡ Some t) × IsTrue (u t)
step_of_kept u x choice s t e = passed u (chosen_step x choice s) t (sym (act_of_kept u x.steps choice s) ∙ e)

chosen_kept : (u : Test) (x : System) (choice : ℕ) (s t : State) → chosen_step x choice s ≡ Some t → IsTrue (u t) →
    chosen_step (kept u x) choice s ≡ Some t
chosen_kept u x choice s t e h = act_of_kept u x.steps choice s ∙ passes u (chosen_step x choice s) t e h

freed : (u : Test) (x : System) (s : State) (cs : List ℕ) (ts : List State) → Steps (kept u x) s cs ts → Steps x s cs ts
freed u x s [] [] f = tt
freed u x s [] (t ∷ ts) f = absurd f
freed u x s (c ∷ cs) [] f = absurd f
freed u x s (c ∷ cs) (t ∷ ts) f = ((step_of_kept u x c s t f.0).0, freed u x t cs ts f.1)

held : (u : Test) (x : System) (s : State) (cs : List ℕ) (ts : List State) → Steps x s cs ts →
    ((place : ℕ) (v : State) → slice_get (s ∷ ts) place ≡ Some v → IsTrue (u v)) → Steps (kept u x) s cs ts
held u x s [] [] f h = tt
held u x s [] (t ∷ ts) f h = absurd f
held u x s (c ∷ cs) [] f h = absurd f
held u x s (c ∷ cs) (t ∷ ts) f h = (
  chosen_kept u x c s t f.0 (h (suc zero) t refl),
  held u x t cs ts f.1 (λ place v e. h (suc place) v e),
)

pub kept_runs : KeptRuns
kept_runs u x first choices later = (
  λ run. (
    record {
      starts = and_left (x.initial first) (u first) run.starts;
      steps = freed u x first choices later run.steps;
    },
    executions.kept (kept u x) (λ s. IsTrue (u s)) (λ s t choice h f. (step_of_kept u x choice s t f).1)
        first choices later (and_right (x.initial first) (u first) run.starts) run.steps,
  ),
  λ both. record {
    starts = both_true (x.initial first) (u first) both.0.starts (both.1 zero first refl);
    steps = held u x first choices later both.0.steps both.1;
  },
)
