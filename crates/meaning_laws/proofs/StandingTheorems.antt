-- What stands of single steps holds in executions.
use Rattle.std.proofs.Common.{◌≡◌, ℕ, zero, suc, ◌+◌, ◌<◌, ◌≤◌, List, [], ◌∷◌, ◌++◌, Bool, true, false, ◌||◌, Option}
use Rattle.std.proofs.Common.{Some, None, IsTrue, refl, sym, subst, ap, ◌∙◌, slice_get, take, drop, length, nat_eq}
use Rattle.std.proofs.Common.{arith}
use Rattle.std.specs.Prelude.{◌≢◌}
use Rattle.std.specs.List.{list_any}
use Rattle.meaning_states.specs.State.{State}
use Rattle.meaning_states.proofs.StepTheorems.{both_true}
use Rattle.meaning_executions.specs.Execution.{System, Steps, IsExecution, act_step, chosen_step}
use Rattle.meaning_executions.specs.Properties.{Test, IsInvariant}
use Rattle.meaning_executions.specs.Rounds.{rounds, IsShortest}
use Rattle.meaning_executions.specs.RoundLaws.{HoldsLater}
use Rattle.meaning_executions.proofs.ExecutionTheorems.{each_is_a_step, prefix_is_execution, extended, get_at}
use Rattle.meaning_executions.proofs.PropertyTheorems.{earlier, within_none, leads_is_follows, next, place_of, get-drop}
use Rattle.meaning_executions.proofs.PropertyTheorems.{left_of}
use Rattle.meaning_executions.proofs.RoundTheorems.{no_rounds}
use Rattle.meaning_executions.specs.Systems.{kept}
use Rattle.meaning_laws.specs.Stands.{EnsuresStands}
use Rattle.meaning_laws.specs.KeptLaws.{ImplicationKept, UnlessKept, EnsuresLeadsKept, DefinedNarrows}
use Rattle.meaning_laws.specs.KeptLaws.{InvariantNarrows, UnlessNarrows, EnsuresNarrows, LeadsNarrows}
use Rattle.meaning_laws.specs.StandingLaws.{InvariantBoth, DefinedHolds, FixedHolds, InvariantHolds, UnlessHolds}
use Rattle.meaning_laws.specs.StandingLaws.{ConstantHolds, EnsuresHolds, LeadsHolds}
use Rattle.meaning_laws.proofs.KeptTheorems.{kept_runs, kept_length}

pub invariant_both : InvariantBoth
invariant_both x u v one other first choices later run place state e =
    both_true (u state) (v state) (one first choices later run place state e)
    (other first choices later run place state e)

pub defined_holds : DefinedHolds
defined_holds x u always stands first choices later run place state e choice act f =
    stands state choice act (always first choices later run place state e) f

pub fixed_holds : FixedHolds
fixed_holds x u p always stands first choices later run place state e h =
    stands state (always first choices later run place state e) h

-- by induction on the place
pub invariant_holds : InvariantHolds
invariant_holds x u p always stands first choices later run zero state e =
    let same : first ≡ state = cc in
    subst (λ s. IsTrue (p s)) same (stands.starts first run.starts (always first choices later run zero first refl))
invariant_holds x u p always stands first choices later run (suc place) state e =
    let before = earlier place (suc place) (first ∷ later) state (omega arith) e in
    let step = each_is_a_step x first choices later run place before.0 state before.1 e in
    stands.keeps step.0 before.0 state (always first choices later run place before.0 before.1)
    (always first choices later run (suc place) state e) step.2
    (invariant_holds x u p always stands first choices later run place before.0 before.1)

pub unless_holds : UnlessHolds
unless_holds x u p q always stands first choices later run place now next e d h =
    let step = each_is_a_step x first choices later run place now next e d in
    stands step.0 now next (always first choices later run place now e)
    (always first choices later run (suc place) next d) step.2 h

pub constant_holds : ConstantHolds
constant_holds x u p always stands first choices later run place now next e d =
    let step = each_is_a_step x first choices later run place now next e d in
    stands step.0 now next (always first choices later run place now e)
    (always first choices later run (suc place) next d) step.2

pub some_step : (o : Option State) → o ≢ None → (t : State) × (o ≡ Some t)
some_step None h = absurd (h refl)
some_step (Some t) h = (t, refl)

-- a state of an execution is the last of a prefix
last_of_prefix : (x : System) (s : State) (cs : List ℕ) (ts : List State) → Steps x s cs ts →
    (place : ℕ) (now : State) →
    slice_get (s ∷ ts) place ≡ Some now → slice_get (s ∷ take place ts) (length (take place cs)) ≡ Some now
last_of_prefix x s cs ts f zero now e = e
last_of_prefix x s [] [] f (suc place) now e = cc
last_of_prefix x s [] (t ∷ ts) f (suc place) now e = absurd f
last_of_prefix x s (c ∷ cs) [] f (suc place) now e = absurd f
last_of_prefix x s (c ∷ cs) (t ∷ ts) f (suc place) now e = last_of_prefix x t cs ts f.1 place now e

-- what holds in every execution holds after one more choice too
pub after_choice : (x : System) (u : Test) → IsInvariant x u → (first : State) (choices : List ℕ) (later : List State) →
    IsExecution x first choices later → (place : ℕ) (now next : State) (choice : ℕ) →
    slice_get (first ∷ later) place ≡ Some now → chosen_step x choice now ≡ Some next → IsTrue (u next)
after_choice x u always first choices later run place now next choice e f =
    let cut = prefix_is_execution x first choices later run place in
    let last = last_of_prefix x first choices later run.steps place now e in
    let further = extended x first (take place choices) (take place later) cut.steps choice now next last f in
    always first (take place choices ++ (choice ∷ [])) (take place later ++ (next ∷ []))
    (record { starts = run.starts; steps = further.0 })
    (length (take place choices ++ (choice ∷ []))) next further.1

pub ensures_holds : EnsuresHolds
ensures_holds x u p q choice always defined stands =
    let act = get_at x.steps choice stands.within in
    record {
      unless = unless_holds x u p q always stands.unless;
      helper = (
        choice,
        act.0,
        act.1,
        λ first choices later run place now e h.
            let next = some_step (act.0 now) (defined first choices later run place now e choice act.0 act.1) in
            let chosen : chosen_step x choice now ≡ Some next.0 = ap (act_step now) act.1 ∙ next.1 in
            let after = after_choice x u always first choices later run place now next.0 choice e chosen in
            (next.0, next.1, stands.helps now next.0 (always first choices later run place now e) after chosen h),
      );
    }

pub leads_holds : LeadsHolds
leads_holds x u p q bound always stands first choices later run place n state e h short =
    let inside = (kept_runs u x first choices later).1 (run, always first choices later run) in
    let same = kept_length u x in
    stands first choices later inside place n state e h
    (subst (λ k. IsShortest (drop place choices) k bound n) (sym same) short)

pub defined_narrows : DefinedNarrows
defined_narrows x u v stronger stands state choice act h e = stands state choice act (stronger state h) e

pub invariant_narrows : InvariantNarrows
invariant_narrows x u v p stronger stands = record {
  starts = λ state t h. stands.starts state t (stronger state h);
  keeps = λ choice now next before after e. stands.keeps choice now next (stronger now before) (stronger next after) e;
}

pub unless_narrows : UnlessNarrows
unless_narrows x u v p q stronger stands choice now next before after e =
    stands choice now next (stronger now before) (stronger next after) e

pub ensures_narrows : EnsuresNarrows
ensures_narrows x u v p q choice stronger stands = record {
  unless = unless_narrows x u v p q stronger stands.unless;
  within = stands.within;
  helps = λ now next before after e. stands.helps now next (stronger now before) (stronger next after) e;
}

pub leads_narrows : LeadsNarrows
leads_narrows x u v p q bound stronger stands first choices later run place n state e h short =
    let parts = (kept_runs v x first choices later).0 run in
    let inside = (kept_runs u x first choices later).1 (parts.0, λ i s d. stronger s (parts.1 i s d)) in
    stands first choices later inside place n state e h
    (subst (λ k. IsShortest (drop place choices) k bound n) (kept_length v x ∙ sym (kept_length u x)) short)

pub implication_kept : ImplicationKept
implication_kept x u p q implies =
    (within_none (kept u x) p q).1 (λ first choices later run place state e h.
    let inside = ((kept_runs u x first choices later).0 run).1 place state e in
    implies state (both_true (u state) (p state) inside h))

pub unless_kept : UnlessKept
unless_kept x u p q stands first choices later run place now next e d h =
    let parts = (kept_runs u x first choices later).0 run in
    let step = each_is_a_step x first choices later parts.0 place now next e d in
    stands step.0 now next (parts.1 place now e) (parts.1 (suc place) next d) step.2 h

module _ (x : System) (u p q : Test) (helper : ℕ) (known : EnsuresStands x u p q helper)
    (first : State) (choices : List ℕ) (later : List State) (run : IsExecution x first choices later)
    (inside : (place : ℕ) (s : State) → slice_get (first ∷ later) place ≡ Some s → IsTrue (u s)) where
  -- q is reached from place i, where the helper is chosen j places on
  reached : (j i at : ℕ) (s : State) → at ≡ i + j → slice_get (first ∷ later) i ≡ Some s → IsTrue (p s || q s) →
      slice_get choices at ≡ Some helper → (v : Bool) → q s ≡ v → HoldsLater q (first ∷ later) i
  reached j i at s sum here either chosen true e = record {
    place = i;
    state = s;
    after = omega arith;
    stands =
        here;
    holds = e;
  }
  reached zero i at s sum here either chosen false e =
      let now : p s ≡ true = left_of (p s) (q s) either e in
      let there : at ≡ i = omega arith in
      let step = next x first choices later run.steps i helper s here (rw there at chosen) in
      let helped = known.helps s step.0 (inside i s here) (inside (suc i) step.0 step.1) step.2 (rw (now, e) refl) in
      record { place = suc i; state = step.0; after = omega arith; stands = step.1; holds = helped }
  reached (suc j) i at s sum here either chosen false e =
      let now : p s ≡ true = left_of (p s) (q s) either e in
      let some = earlier i at choices helper (omega arith) chosen in
      let step = next x first choices later run.steps i some.0 s here some.1 in
      let after : IsTrue (p step.0 || q step.0) =
      known.unless some.0 s step.0 (inside i s here) (inside (suc i) step.0 step.1) step.2 (rw (now, e) refl) in
      let rest = reached j (suc i) at step.0 (omega arith) step.1 after chosen (q step.0) refl in
      record {
        place = rest.place;
        state = rest.state;
        after = omega
            (arith, rest.after);
        stands = rest.stands;
        holds = rest.holds;
      }

-- among choices with a round, each instance is chosen
chosen_in_round : (c k : ℕ) (cs : List ℕ) → c < k → 1 ≤ rounds cs k → (j : ℕ) × (slice_get cs j ≡ Some c)
chosen_in_round c k cs h enough = go (list_any (nat_eq c) cs) refl
  where
    go : (b : Bool) → list_any (nat_eq c) cs ≡ b → (j : ℕ) × (slice_get cs j ≡ Some c)
    go true e = place_of c cs e
    go false e = let none = no_rounds cs k c h e in absurd (omega (arith, none, enough))

pub ensures_leads_kept : EnsuresLeadsKept
ensures_leads_kept x u p q helper known =
    (leads_is_follows (kept u x) p q 1).1 (λ first choices later run i s here now enough.
    let parts = (kept_runs u x first choices later).0 run in
    let rest : List ℕ = drop i choices in
    let many : 1 ≤ rounds rest (length x.steps) = subst (λ k. 1 ≤ rounds rest k) (kept_length u x) enough in
    let found = chosen_in_round helper (length x.steps) rest known.within many in
    let chosen = get-drop i found.0 choices helper (i + found.0) refl found.1 in
    reached x u p q helper known first choices later parts.0 parts.1 found.0 i (i + found.0) s refl here
    (rw now refl) chosen (q s) refl)
