-- The laws of a document's systems, of unions and of `stable`.
use Rattle.std.proofs.Common.{◌≡◌, ℕ, zero, suc, List, [], ◌∷◌, ◌++◌, map, Bool, true, false, ◌&&◌, Some, IsTrue, refl}
use Rattle.std.proofs.Common.{sym, subst, ap, ◌∙◌, slice_get}
use Rattle.std.specs.Prelude.{◌↔◌}
use Rattle.std.specs.List.{list_all}
use Rattle.std.proofs.lemmas.List.{length-map, map-append}
use Rattle.std.proofs.lemmas.List.Folds.{list_all-append}
use Rattle.unity_syntax.specs.declared.expression.Expr.{Expr}
use Rattle.meaning_executions.specs.from_meaning_states.State.{State, is_state}
use Rattle.meaning_executions.proofs.lemmas_from_meaning_states.StepTheorems.{and_left, and_right, both_true}
use Rattle.meaning_executions.proofs.lemmas_from_meaning_states.StepTheorems.{step_keeps_ranges}
use Rattle.meaning_executions.specs.Execution.{act_step}
use Rattle.meaning_executions.specs.Properties.{Test, Unless, never}
use Rattle.meaning_executions.specs.Systems.{together}
use Rattle.meaning_executions.proofs.ExecutionTheorems.{kept}
use Rattle.meaning_documents.specs.Names.{Bindings}
use Rattle.meaning_documents.specs.Value.{holds}
use Rattle.meaning_documents.specs.Writes.{writes}
use Rattle.meaning_documents.specs.Instances.{Instance}
use Rattle.meaning_documents.specs.Setting.{Setting, slot_ranges, seen, is_true_at}
use Rattle.meaning_documents.specs.Programs.{Composed, union}
use Rattle.meaning_documents.specs.AsSystem.{instance_step, system_of}
use Rattle.meaning_documents.specs.SystemLaws.{EveryStateInRange, UnionSteps, UnionInitial, UnionIsTogether}
use Rattle.meaning_documents.specs.SystemLaws.{SourceAlike, StableIsUnlessFalse}
use Rattle.meaning_documents.proofs.ValueLaws.{value-False}

-- a step by choice is the step of an instance
pub chosen_instance : (g : Setting) (is : List Instance) (choice : ℕ) (s t : State) →
    act_step s (slice_get (map (instance_step g) is) choice) ≡ Some t →
    (i : Instance) × (slice_get is choice ≡ Some i) × (instance_step g i s ≡ Some t)
chosen_instance g [] choice s t e = cc
chosen_instance g (i ∷ is) zero s t e = (i, refl, e)
chosen_instance g (i ∷ is) (suc choice) s t e = chosen_instance g is choice s t e

pub every_state_in_range : EveryStateInRange
every_state_in_range g c first choices later run place state e =
    kept (system_of g c) (λ s. IsTrue (is_state (slot_ranges g.variables) s))
    (λ s t choice h f.
    let found = chosen_instance g c.instances choice s t f in
    step_keeps_ranges (slot_ranges g.variables) (writes found.0.assign (seen g found.0.bindings s)) s t h found.2)
    first choices later
    (and_left (is_state (slot_ranges g.variables) first)
    (list_all (λ formula. is_true_at g [] formula first) c.initially) run.starts)
    run.steps place state e

pub union_steps : UnionSteps
union_steps g f h = map-append (instance_step g) f.instances h.instances

all-append : {X : Type 0} (test : X → Bool) (xs ys : List X) →
    IsTrue (list_all test (xs ++ ys)) ↔ (IsTrue (list_all test xs) × IsTrue (list_all test ys))
all-append test [] ys = (λ t. (refl, t), λ t. t.1)
all-append test (x ∷ xs) ys =
    let rest = all-append test xs ys in (
      λ t. let both = rest.0 (and_right (test x) (list_all test (xs ++ ys)) t) in
          (both_true (test x) (list_all test xs) (and_left (test x) (list_all test (xs ++ ys)) t) both.0, both.1),
      λ t. both_true (test x) (list_all test (xs ++ ys)) (and_left (test x) (list_all test xs) t.0)
          (rest.1 (and_right (test x) (list_all test xs) t.0, t.1)),
    )

pub union_initial : UnionInitial
union_initial g f h state =
    let test : Expr → Bool = λ formula. is_true_at g [] formula state in
    let inside = is_state (slot_ranges g.variables) state in
    let parts = all-append test f.initially h.initially in (
      λ t.
          let here = and_left inside (list_all test (f.initially ++ h.initially)) t in
          let both = parts.0 (and_right inside (list_all test (f.initially ++ h.initially)) t) in (
            both_true inside (list_all test f.initially) here both.0,
            both_true inside (list_all test h.initially) here both.1,
          ),
      λ t. both_true inside (list_all test (f.initially ++ h.initially))
          (and_left inside (list_all test f.initially) t.0)
          (parts.1 (
            and_right inside (list_all test f.initially) t.0,
            and_right inside (list_all test h.initially) t.1,
          )),
    )

and_once : (a b c : Bool) → (a && (b && c)) ≡ ((a && b) && (a && c))
and_once true b c = refl
and_once false b c = refl

union_starts : (g : Setting) (f h : Composed) (state : State) →
    (system_of g (union f h)).initial state ≡ (together (system_of g f) (system_of g h)).initial state
union_starts g f h state =
    let inside : Bool = is_state (slot_ranges g.variables) state in
    ap (λ b. inside && b) (list_all-append (λ formula. is_true_at g [] formula state) f.initially h.initially) ∙
    and_once inside (list_all (λ formula. is_true_at g [] formula state) f.initially)
    (list_all (λ formula. is_true_at g [] formula state) h.initially)

pub union_is_together : UnionIsTogether
union_is_together g f h =
    λ i. record { initial = λ state. union_starts g f h state i; steps = union_steps g f h i }

pub source_alike : SourceAlike
source_alike g c y count starts steps = record {
  count = length-map c.instances (instance_step g) ∙ count;
  starts = starts;
  inside = λ s t. and_left (is_state (slot_ranges g.variables) s)
      (list_all (λ formula. is_true_at g [] formula s) c.initially) t;
  steps = steps;
  keeps = λ s t choice h e.
      let found = chosen_instance g c.instances choice s t e in
      step_keeps_ranges (slot_ranges g.variables) _ s t h found.2;
}

-- `false` is true at no state
pub never_true : (g : Setting) (bindings : Bindings) (at : ℕ) → is_true_at g bindings (Expr.False at) ≡ never
never_true g bindings at = λ i state. ap holds (value-False at (seen g bindings state)) i

pub stable_is_unless_false : StableIsUnlessFalse
stable_is_unless_false g x bindings bound at other p =
    let never_there = never_true g bindings other in
    let from_p : Test → Type 0 = Unless x (is_true_at g bindings p) in
    (subst from_p (sym never_there), subst from_p never_there)
