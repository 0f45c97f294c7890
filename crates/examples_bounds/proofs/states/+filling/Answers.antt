use Rattle.std.proofs.Common.{◌≡◌, ◌++◌, ◌∷◌, [], ◌≤◌, ◌<ℤ◌, ℤ, Some, IsTrue, length, slice_get, sym, subst}
use Rattle.std.proofs.Common.{◌∙◌, arith, rules, ap, refl, List, false, pos, ◌+ℤ◌, to_z, of_z, w64, FitsSigned}
use Rattle.std.proofs.Common.{slice_index_or}
use Rattle.std.specs.Int.RustNames.{int_lt}
use Rattle.std.proofs.lemmas.Option.{slice_get_read}
use Rattle.std.specs.Prelude.{◌↔◌}
use Rattle.std.proofs.lemmas.Int.{ints, to_z-of_z}
use Rattle.std.proofs.lemmas.Result.{IfOk-weaker}
use Rattle.meaning_states.specs.State.{State}
use Rattle.core_terms.specs.declared.programs.CSlot.{CSlot}
use Rattle.core_terms.specs.Steps.{slot_ranges}
use Rattle.meaning_executions.specs.Execution.{System}
use Rattle.meaning_executions.specs.Properties.{Test}
use Rattle.examples_bounds.specs.Claims.{claimed, before, after}
use Rattle.examples_bounds.specs.Walking.{LeadsOn}
use Rattle.examples_bounds.proofs.LoopLaws.{always, never, refuted}
use Rattle.examples_bounds.proofs.StateLaws.{on_none, on_whole, on_more, on_each, on_split}
use Rattle.examples_bounds.proofs.states.+filling.Goals as goal

pub leads_on-returns-then-not-is_in : goal.leads_on-returns-then-not-is_in
leads_on-returns-then-not-is_in t c =
    let x : System = claimed c.args.claim.now in
    let few : length c.args.claim.now.slots.now ≤ length c.args.begun.now = omega (arith, c.if-begun-claim.false) in
    always _ (on_none c.args.claim.now.slots.now c.args.most x (before c.args.claim.now) (after c.args.claim.now)
    c.args.claim.now.bound c.args.begun.now few (sym c.if-not-is_in.true ∙ c.is_in.ensures))

pub leads_on-returns : goal.leads_on-returns
leads_on-returns t c =
    let x : System = claimed c.args.claim.now in
    let few : length c.args.claim.now.slots.now ≤ length c.args.begun.now = omega (arith, c.if-begun-claim.false) in
    IfOk-weaker c.leads.result _ _
    (λ b known. on_whole c.args.claim.now.slots.now c.args.most x (before c.args.claim.now) (after c.args.claim.now)
    c.args.claim.now.bound c.args.begun.now b few (sym c.if-not-is_in.false ∙ c.is_in.ensures) known)
    c.leads.ensures

pub leads_onward-returns-then-not-held : goal.leads_onward-returns-then-not-held
leads_onward-returns-then-not-held t c =
    let x : System = claimed c.args.claim.now in
    let p : Test = before c.args.claim.now in
    let q : Test = after c.args.claim.now in
    let bound = c.args.claim.now.bound in
    let slots = slot_ranges c.args.claim.now.slots.now in
    let m : ℤ = to_z w64 c.loop-number.number-bits in
    let here : IsTrue c.in_ok-held.held ↔ LeadsOn slots c.args.most x p q bound (c.args.begun.now ++ m ∷ []) =
    subst (λ (zs : State). IsTrue c.in_ok-held.held ↔ LeadsOn slots c.args.most x p q bound zs)
    (c.as_slice.ensures ∙ c.in_ok-push.ensures.ok ∙ ap (λ (zs : State). zs ++ m ∷ []) c.in_ok-longer.ensures)
    c.in_ok-held.ensures in
    never _ (λ on. refuted _ (subst (λ b. IsTrue b ↔ LeadsOn slots c.args.most x p q bound
    (c.args.begun.now ++ m ∷ [])) c.if-not-held.true here)
    (on_more c.args.claim.now.slots.now c.args.most x p q bound c.args.begun.now m on))

pub leads_onward-loop-number-preserved : goal.leads_onward-loop-number-preserved
leads_onward-loop-number-preserved t c = λ s n there low high.
    let x : System = claimed c.args.claim.now in
    let p : Test = before c.args.claim.now in
    let q : Test = after c.args.claim.now in
    let bound = c.args.claim.now.bound in
    let slots = slot_ranges c.args.claim.now.slots.now in
    let m : ℤ = to_z w64 c.loop-number.number-bits in
    let fits : FitsSigned w64 (m +ℤ pos 1) = search rules in
    let next : n <ℤ (m +ℤ pos 1) = subst (λ z. n <ℤ z) (to_z-of_z w64 (m +ℤ pos 1) fits) high in
    let here : IsTrue c.in_ok-held.held ↔ LeadsOn slots c.args.most x p q bound (c.args.begun.now ++ m ∷ []) =
    subst (λ (zs : State). IsTrue c.in_ok-held.held ↔ LeadsOn slots c.args.most x p q bound zs)
    (c.as_slice.ensures ∙ c.in_ok-push.ensures.ok ∙ ap (λ (zs : State). zs ++ m ∷ []) c.in_ok-longer.ensures)
    c.in_ok-held.ensures in
    on_split c.args.claim.now.slots.now c.args.most x p q bound c.args.begun.now m n next
    (λ less. c.loop-number.invariant s n there low less) (here.0 c.if-not-held.false)

pub leads_onward-returns : goal.leads_onward-returns
leads_onward-returns t c =
    let x : System = claimed c.args.claim.now in
    let s : CSlot = c.index-claim-begun.result in
    let slots : List CSlot = c.args.claim.now.slots.now in
    let there : slice_get slots (length c.args.begun.now) ≡ Some s =
    slice_get_read slots (length slots) (length c.args.begun.now) s refl c.requires.begun c.index-claim-begun.is in
    let g : CSlot = slice_index_or slots (length c.args.begun.now) s in
    let fits : FitsSigned w64 g.range.hi = search rules in
    let more : FitsSigned w64 (g.range.hi +ℤ pos 1) = search rules in
    let end : int_lt (to_z w64 c.loop-number.number-bits) (s.range.hi +ℤ pos 1) ≡ false =
    subst (λ z. int_lt (to_z w64 c.loop-number.number-bits) z ≡ false)
    (ap (λ z. to_z w64 (of_z w64 (z +ℤ pos 1))) (to_z-of_z w64 g.range.hi fits)
    ∙ to_z-of_z w64 (g.range.hi +ℤ pos 1) more
    ∙ ap (λ (u : CSlot). u.range.hi +ℤ pos 1) (sym c.index-claim-begun.is))
    c.loop-number-test.false in
    always _ (on_each slots c.args.most x (before c.args.claim.now) (after c.args.claim.now)
    c.args.claim.now.bound c.args.begun.now s there
    (λ n low high. c.loop-number.invariant s n there low (omega (arith, ints, end, high))))
