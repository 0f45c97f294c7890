-- A system that makes more writes is a layer.
use Rattle.std.proofs.Common.{◌≡◌, ℕ, zero, suc, ◌<◌, ◌≤◌, List, [], ◌∷◌, Bool, true, false, cond, Option, Some, None}
use Rattle.std.proofs.Common.{IsTrue, refl, sym, ap, ◌∙◌, subst, slice_get, length, map, arith}
use Rattle.meaning_states.specs.State.{State, Ranges}
use Rattle.meaning_laws.specs.from_meaning_executions.Execution.{act_step}
use Rattle.meaning_states.specs.Step.{is_defined, written, step}
use Rattle.layer_laws.specs.Resets.{reset, old_writes}
use Rattle.layer_laws.specs.Writing.{StateWrites, act_of, Extends, WritingLayer}
use Rattle.layer_laws.proofs.ResetTheorems.{reset_itself, written_reset, written_beside, old_are_defined}

abbrev step_by : Ranges → Option StateWrites → State → Option State
step_by ranges None s = None
step_by ranges (Some f) s = step ranges (f s) s

steps_as : (ranges : Ranges) (fs : List StateWrites) (c : ℕ) (s : State) →
    act_step s (slice_get (map (act_of ranges) fs) c) ≡ step_by ranges (slice_get fs c) s
steps_as ranges [] c s = refl
steps_as ranges (f ∷ fs) zero s = refl
steps_as ranges (f ∷ fs) (suc c) s = steps_as ranges fs c s

as_many : (ranges : Ranges) (fs : List StateWrites) → length (map (act_of ranges) fs) ≡ length fs
as_many ranges [] = refl
as_many ranges (f ∷ fs) = ap suc (as_many ranges fs)

there : (fs : List StateWrites) (c : ℕ) → c < length fs → (f : StateWrites) × (slice_get fs c ≡ Some f)
there [] c h = absurd (omega (arith, h))
there (f ∷ fs) zero h = (f, refl)
there (f ∷ fs) (suc c) h = there fs c (omega (arith, h))

made : (b : Bool) (u t : State) → cond b (Some u) None ≡ Some t → IsTrue b × (u ≡ t)
made true u t e = (refl, cc)
made false u t e = cc

makes : (b : Bool) (u t : State) → IsTrue b → u ≡ t → cond b (Some u) None ≡ Some t
makes true u t h e = ap Some e
makes false u t h e = cc

module _ (new : ℕ → Bool) (ranges : Ranges) (fs gs : List StateWrites) (ext : Extends new ranges fs gs)
    (origin s t : State)
    (c : ℕ) where
  below_by : (f g : StateWrites) → slice_get fs c ≡ Some f → slice_get gs c ≡ Some g → step ranges (g s) s ≡ Some t →
      step ranges (f (reset new 0 origin s)) (reset new 0 origin s) ≡ Some (reset new 0 origin t)
  below_by f g a b e =
      let was = made (is_defined ranges (g s)) (written s (g s)) t e in
      subst (λ ws. step ranges ws (reset new 0 origin s) ≡ Some (reset new 0 origin t))
      (sym (ext.below c f g a b origin s was.0))
      (makes (is_defined ranges (old_writes new (g s))) (written (reset new 0 origin s) (old_writes new (g s)))
      (reset new 0 origin t) (old_are_defined new ranges (g s) was.0)
      (written_reset new origin s (g s) ∙ ap (λ u. reset new 0 origin u) was.1))

  below : c < length fs → step_by ranges (slice_get gs c) s ≡ Some t →
      step_by ranges (slice_get fs c) (reset new 0 origin s) ≡ Some (reset new 0 origin t)
  below h e =
      let few = ext.few in
      let f = there fs c h in
      let g = there gs c (omega (arith, h, few)) in
      subst (λ o. step_by ranges o (reset new 0 origin s) ≡ Some (reset new 0 origin t)) (sym f.1)
      (below_by f.0 g.0 f.1 g.1 (subst (λ o. step_by ranges o s ≡ Some t) g.1 e))

  beside_by : length fs ≤ c → (o : Option StateWrites) → slice_get gs c ≡ o → step_by ranges o s ≡ Some t →
      reset new 0 origin t ≡ reset new 0 origin s
  beside_by h None d e = cc
  beside_by h (Some g) d e =
      let was = made (is_defined ranges (g s)) (written s (g s)) t e in
      ap (λ u. reset new 0 origin u) (sym was.1) ∙
      written_beside new origin s (g s) (λ place n w a b. ext.beside c g h d s place n w a b)

pub writing_layer : WritingLayer
writing_layer new ranges first initial fs gs ext =
    let many = as_many ranges fs in
    let more = as_many ranges gs in
    let some = ext.some in
    let few = ext.few in
    record {
      some = omega (arith, many, some);
      few = omega (arith, many, more, few);
      itself = λ s. reset_itself new 0 s;
      below = λ origin s t c h e. steps_as ranges fs c (reset new 0 origin s) ∙
          below new ranges fs gs ext origin s t c (omega (arith, h, many)) (sym (steps_as ranges gs c s) ∙ e);
      beside = λ origin s t c h e. beside_by new ranges fs gs ext origin s t c (omega (arith, h, many))
          (slice_get gs c) refl (sym (steps_as ranges gs c s) ∙ e);
    }
