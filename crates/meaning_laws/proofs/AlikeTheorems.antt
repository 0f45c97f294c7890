-- Systems that are alike have the same executions, and so the same properties.
use Rattle.std.proofs.Common.{◌≡◌, ℕ, suc, ◌<◌, List, [], ◌∷◌, Bool, true, false, cond, not, ◌&&◌, ◌||◌, Option, Some}
use Rattle.std.proofs.Common.{None, IsTrue, refl, sym, subst, ap, ◌∙◌, slice_get, drop}
use Rattle.std.proofs.lemmas.Option.{slice_get_within}
use Rattle.meaning_states.specs.State.{State, Ranges, is_state}
use Rattle.meaning_states.proofs.StepTheorems.{and_left}
use Rattle.meaning_executions.specs.Execution.{Act, System, Steps, IsExecution, act_step, chosen_step}
use Rattle.meaning_executions.specs.Rounds.{IsShortest}
use Rattle.meaning_executions.specs.Properties.{Test, but_not}
use Rattle.meaning_executions.proofs.ExecutionTheorems.{get_at, kept}
use Rattle.meaning_executions.specs.Systems.{passing}
use Rattle.meaning_executions.specs.Alike.{StepEquivalent, SameAt}
use Rattle.meaning_laws.specs.AlikeLaws.{AlikeBack, KeptAlike, RunsAlike, DefinedAlike, FixedAlike}
use Rattle.meaning_laws.specs.AlikeLaws.{InvariantAlike, UnlessAlike, ConstantAlike, EnsuresAlike, LeadsAlike}
use Rattle.meaning_laws.proofs.KeptTheorems.{kept_length, act_of_kept, step_of_kept}

pub alike_back : AlikeBack
alike_back ranges x y alike = record {
  count = sym alike.count;
  starts = λ s. sym (alike.starts s);
  inside = λ s h. alike.inside s (alike.starts s ∙ h);
  steps = λ s choice h. sym (alike.steps s choice h);
  keeps = λ s t choice h e. alike.keeps s t choice h (alike.steps s choice h ∙ e);
}

and_under : (a b c : Bool) → (IsTrue a → b ≡ c) → (a && b) ≡ (a && c)
and_under true b c same = same refl
and_under false b c same = refl

passing_same : (u v : Test) (o : Option State) → ((t : State) → o ≡ Some t → u t ≡ v t) → passing u o ≡ passing v o
passing_same u v None same = refl
passing_same u v (Some t) same = ap (λ b. cond b (Some t) None) (same t refl)

pub kept_alike : KeptAlike
kept_alike ranges x y alike u v same = record {
  count = kept_length u x ∙ (alike.count ∙ sym (kept_length v y));
  starts = λ s.
      ap (λ b. b && u s) (alike.starts s) ∙
      and_under (y.initial s) (u s) (v s) (λ t. same s (alike.inside s (alike.starts s ∙ t)));
  inside = λ s t. alike.inside s (and_left (x.initial s) (u s) t);
  steps = λ s choice h.
      let passed = passing_same u v (chosen_step x choice s) (λ t e. same t (alike.keeps s t choice h e)) in
      act_of_kept u x.steps choice s ∙
      (passed ∙ (ap (passing v) (alike.steps s choice h) ∙ sym (act_of_kept v y.steps choice s)));
  keeps = λ s t choice h e. alike.keeps s t choice h (step_of_kept u x choice s t e).0;
}

module _ (ranges : Ranges) (x y : System) (alike : StepEquivalent ranges x y) where
  moved : (s : State) (cs : List ℕ) (ts : List State) → IsTrue (is_state ranges s) → Steps x s cs ts → Steps y s cs ts
  moved s [] [] h f = tt
  moved s [] (t ∷ ts) h f = absurd f
  moved s (c ∷ cs) [] h f = absurd f
  moved s (c ∷ cs) (t ∷ ts) h f = (sym (alike.steps s c h) ∙ f.0, moved t cs ts (alike.keeps s t c h f.0) f.1)

  -- each state of an execution is one of the document
  state_of : (first : State) (choices : List ℕ) (later : List State) → IsExecution x first choices later →
      (place : ℕ) (s : State) →
      slice_get (first ∷ later) place ≡ Some s → IsTrue (is_state ranges s)
  state_of first choices later run place s e =
      kept x (λ t. IsTrue (is_state ranges t)) (λ t n c h f. alike.keeps t n c h f) first choices later
      (alike.inside first run.starts) run.steps
      place s e

pub runs_alike : RunsAlike
runs_alike ranges x y alike first choices later run = record {
  starts = sym (alike.starts first) ∙ run.starts;
  steps = moved ranges x y alike first choices later (alike.inside first run.starts) run.steps;
}

module _ (ranges : Ranges) (x y : System) (alike : StepEquivalent ranges x y) (first : State) (choices : List ℕ)
    (later : List State)
    (run : IsExecution y first choices later) where
  -- an execution of the second is one of the first
  other : IsExecution x first choices later
  other = runs_alike ranges y x (alike_back ranges x y alike) first choices later run

  there : (place : ℕ) (s : State) → slice_get (first ∷ later) place ≡ Some s → IsTrue (is_state ranges s)
  there = state_of ranges x y alike first choices later other

-- both make the same step by a choice
same_act : (ranges : Ranges) (x y : System) → StepEquivalent ranges x y → (choice : ℕ) (a b : Act) →
    slice_get x.steps choice ≡ Some a →
    slice_get y.steps choice ≡ Some b → (s : State) → IsTrue (is_state ranges s) → a s ≡ b s
same_act ranges x y alike choice a b d e s h = sym (ap (act_step s) d) ∙ (alike.steps s choice h ∙ ap (act_step s) e)

-- both have an act for a choice
other_act : (ranges : Ranges) (x y : System) → StepEquivalent ranges x y → (choice : ℕ) (a : Act) →
    slice_get x.steps choice ≡ Some a →
    (b : Act) × (slice_get y.steps choice ≡ Some b)
other_act ranges x y alike choice a e =
    get_at y.steps choice (subst (λ k. choice < k) alike.count (slice_get_within x.steps choice a e))

pub defined_alike : DefinedAlike
defined_alike ranges x y alike always first choices later run place s e choice act d undefined =
    let first_act = other_act ranges y x (alike_back ranges x y alike) choice act d in
    let same = same_act ranges x y alike choice first_act.0 act first_act.1 d s
    (there ranges x y alike first choices later run place s e) in
    always first choices later
    (other ranges x y alike first choices later run) place s e choice first_act.0 first_act.1 (same ∙ undefined)

pub fixed_alike : FixedAlike
fixed_alike ranges x y alike p p' sp fixed first choices later run place s e h choice act d =
    let here = there ranges x y alike first choices later run place s e in
    let first_act = other_act ranges y x (alike_back ranges x y alike) choice act d in
    let same = same_act ranges x y alike choice first_act.0 act first_act.1 d s here in
    sym same ∙
    fixed first choices later (other ranges x y alike first choices later run) place s e (sp s here ∙ h) choice
    first_act.0 first_act.1

pub invariant_alike : InvariantAlike
invariant_alike ranges x y alike p p' sp always first choices later run place s e =
    sym (sp s (there ranges x y alike first choices later run place s e)) ∙
    always first choices later (other ranges x y alike first choices later run) place s e

same_before : (ranges : Ranges) (p q p' q' : Test) → SameAt ranges p p' → SameAt ranges q q' → (s : State) →
    IsTrue (is_state ranges s) →
    IsTrue (but_not p' q' s) → IsTrue (but_not p q s)
same_before ranges p q p' q' sp sq s h t = (ap (λ b. b && not (q s)) (sp s h) ∙ ap (λ b. p' s && not b) (sq s h)) ∙ t

pub unless_alike : UnlessAlike
unless_alike ranges x y alike p q p' q' sp sq safe first choices later run place now next e d h =
    let inside = there ranges x y alike first choices later run in
    let after = inside (suc place) next d in
    sym (ap (λ b. b || q next) (sp next after) ∙ ap (λ b. p' next || b) (sq next after)) ∙
    safe first choices later (other ranges x y alike first choices later run) place now next e d
    (same_before ranges p q p' q' sp sq now (inside place now e) h)

pub constant_alike : ConstantAlike
constant_alike ranges x y alike p p' sp steady first choices later run place now next e d =
    let inside = there ranges x y alike first choices later run in
    sym (sp now (inside place now e)) ∙
    (steady first choices later (other ranges x y alike first choices later run) place now next e d ∙
    sp next (inside (suc place) next d))

pub ensures_alike : EnsuresAlike
ensures_alike ranges x y alike p q p' q' sp sq known =
    let choice : ℕ = known.helper.0 in
    let act = other_act ranges x y alike choice known.helper.1 known.helper.2 in
    record {
      unless = unless_alike ranges x y alike p q p' q' sp sq known.unless;
      helper = (
        choice,
        act.0,
        act.1,
        λ first choices later run place s e h.
            let here = there ranges x y alike first choices later run place s e in
            let found = known.helper.3 first choices later (other ranges x y alike first choices later run) place s e
            (same_before ranges p q p' q' sp sq s here h) in
            let chosen : chosen_step x choice s ≡ Some found.0 = ap (act_step s) known.helper.2 ∙ found.1 in
            let same = same_act ranges x y alike choice known.helper.1 act.0 known.helper.2 act.1 s here in
            (found.0, sym same ∙ found.1, sym (sq found.0 (alike.keeps s found.0 choice here chosen)) ∙ found.2),
      );
    }

pub leads_alike : LeadsAlike
leads_alike ranges x y alike p q p' q' bound sp sq leads first choices later run place n s e h short =
    let inside = there ranges x y alike first choices later run in
    let found = leads first choices later (other ranges x y alike first choices later run) place n s e
    (sp s (inside place s e) ∙ h)
    (subst (λ k. IsShortest (drop place choices) k bound n) (sym alike.count) short) in
    record {
      place = found.place;
      state = found.state;
      after = found.after;
      before = found.before;
      stands = found.stands;
      holds = sym (sq found.state (inside found.place found.state found.stands)) ∙ found.holds;
    }
