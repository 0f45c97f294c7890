-- The test of fixed points.
use Rattle.std.proofs.Common.{◌≡◌, ℕ, zero, suc, List, [], ◌∷◌, Bool, ◌&&◌, Option, Some, None, IsTrue, refl, sym, ap}
use Rattle.std.proofs.Common.{◌∙◌, subst, slice_get, map}
use Rattle.std.specs.List.{list_all}
use Rattle.meaning_states.specs.State.{State}
use Rattle.meaning_states.proofs.StepTheorems.{and_left, and_right, both_true}
use Rattle.executor.specs.from_meaning_executions.Execution.{Act, act_step}
use Rattle.core_terms.specs.declared.programs.CSlot.{CSlot}
use Rattle.core_terms.specs.declared.programs.CStmt.{CStmt}
use Rattle.core_terms.specs.declared.programs.CProgram.{CProgram}
use Rattle.core_terms.specs.Steps.{core_step}
use Rattle.executor.specs.CoreSystem.{core_system}
use Rattle.fixed_points.specs.FixedPoints.{leads_to, is_fixed}
use Rattle.fixed_points.specs.Laws.{TellsFixedPoints, FixedPointsStay}
use Rattle.fixed_points.proofs.WriteLaws.{led_back, leads_back}

all_at : {X : Type 0} (t : X → Bool) (xs : List X) → IsTrue (list_all t xs) → (n : ℕ) (x : X) →
    slice_get xs n ≡ Some x → IsTrue (t x)
all_at t [] h n x e = cc
all_at t (y ∷ ys) h zero x e =
    let same : y ≡ x = cc in subst (λ z. IsTrue (t z)) same (and_left (t y) (list_all t ys) h)
all_at t (y ∷ ys) h (suc n) x e = all_at t ys (and_right (t y) (list_all t ys) h) n x e

all_from_each : {X : Type 0} (t : X → Bool) (xs : List X) →
    ((n : ℕ) (x : X) → slice_get xs n ≡ Some x → IsTrue (t x)) → IsTrue (list_all t xs)
all_from_each t [] each = refl
all_from_each t (x ∷ xs) each =
    both_true (t x) (list_all t xs) (each zero x refl) (all_from_each t xs (λ n y e. each (suc n) y e))

pub tells_fixed_points : TellsFixedPoints
tells_fixed_points x state = (
  λ h choice act e. led_back (act state) state (all_at (λ (a : Act). leads_to (a state) state) x.steps h choice act e),
  λ h. all_from_each (λ (a : Act). leads_to (a state) state) x.steps
      (λ choice act e. leads_back (act state) state (h choice act e)),
)

pub fixed_points_stay : FixedPointsStay
fixed_points_stay x state next choice h e = go (slice_get x.steps choice) refl e
  where
    go : (o : Option Act) → slice_get x.steps choice ≡ o → act_step state o ≡ Some next → next ≡ state
    go None there e = cc
    go (Some act) there e =
        let back : Some next ≡ Some state = sym e ∙ h choice act there in
        cc

-- of a core program, by its statements
pub fixed_map : (slots : List CSlot) (p : CProgram) (state : State) →
    list_all (λ s. leads_to (core_step slots s state) state) p.statements ≡ is_fixed (core_system slots p) state
fixed_map slots p state = go p.statements
  where
    go : (ss : List CStmt) → list_all (λ s. leads_to (core_step slots s state) state) ss
        ≡ list_all (λ act. leads_to (act state) state) (map (core_step slots) ss)
    go [] = refl
    go (s ∷ ss) = ap (λ b. leads_to (core_step slots s state) state && b) (go ss)
