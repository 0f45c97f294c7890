use Rattle.std.proofs.Common.{[], ◌<◌, ◌-◌, IsTrue, true, false, sym, subst}
use Rattle.std.proofs.Common.{◌∙◌, arith, rules}
use Rattle.std.specs.Prelude.{◌↔◌}
use Rattle.meaning_states.specs.State.{State, is_state}
use Rattle.core_terms.specs.Steps.{slot_ranges}
use Rattle.meaning_executions.specs.Execution.{System}
use Rattle.meaning_executions.specs.Properties.{Test}
use Rattle.examples_bounds.specs.Claims.{claimed, before, after}
use Rattle.examples_bounds.specs.Walking.{LeadsBehind, LeadsWithin, LeadsAt}
use Rattle.examples_bounds.proofs.LoopLaws.{always, never, refuted, below_more}
use Rattle.examples_bounds.proofs.StepLaws.{chosen_within, step_stays}
use Rattle.examples_bounds.proofs.WalkLaws.{leads_here, leads_last, leads_step, leads_next}
use Rattle.examples_bounds.proofs.walking.+leading.Goals as goal

pub leads-returns-then-not-here : goal.leads-returns-then-not-here
leads-returns-then-not-here t c =
    let x : System = claimed c.args.claim.now in
    let p : Test = before c.args.claim.now in
    let q : Test = after c.args.claim.now in
    let s : State = c.args.state.now in
    never _ (λ leads. refuted _ (subst (λ b. IsTrue b ↔ (IsTrue (p s) →
    LeadsBehind x q c.args.claim.now.bound c.args.most [] s)) c.if-not-here.true c.in_ok-here.ensures)
    (λ h. leads_here x q c.args.claim.now.bound p c.args.most s leads h))

pub leads-returns-then-most-eq0 : goal.leads-returns-then-most-eq0
leads-returns-then-most-eq0 t c =
    let x : System = claimed c.args.claim.now in
    let p : Test = before c.args.claim.now in
    let q : Test = after c.args.claim.now in
    let s : State = c.args.state.now in
    always _ (subst (λ m. LeadsWithin x p q c.args.claim.now.bound m s) (sym c.if-most-eq0.true)
    (leads_last x q c.args.claim.now.bound p s (λ h. subst (λ m. LeadsBehind x q c.args.claim.now.bound m [] s)
    c.if-most-eq0.true (c.in_ok-here.ensures.0 c.if-not-here.false h))))

pub leads-loop-choice-preserved : goal.leads-loop-choice-preserved
leads-loop-choice-preserved t c = λ n less u e.
    below_more (λ m. LeadsAt (claimed c.args.claim.now) (before c.args.claim.now) (after c.args.claim.now)
    c.args.claim.now.bound (c.args.most - 1) c.args.state.now m) c.loop-choice.choice c.loop-choice.invariant
    (c.in_ok-held.ensures.0 c.if-not-held.false) n less u e

pub leads-returns-then-not-held : goal.leads-returns-then-not-held
leads-returns-then-not-held t c =
    let x : System = claimed c.args.claim.now in
    let p : Test = before c.args.claim.now in
    let q : Test = after c.args.claim.now in
    leads_step x q c.args.claim.now.bound p c.args.most (c.args.most - 1) c.args.state.now false
    (omega (arith, c.if-most-eq0.false)) (c.in_ok-here.ensures.0 c.if-not-here.false)
    (never _ (λ all. refuted _ (subst (λ b. IsTrue b ↔ LeadsAt x p q c.args.claim.now.bound (c.args.most - 1)
    c.args.state.now c.loop-choice.choice) c.if-not-held.true c.in_ok-held.ensures) (all c.loop-choice.choice)))

pub leads-returns : goal.leads-returns
leads-returns t c =
    let x : System = claimed c.args.claim.now in
    let p : Test = before c.args.claim.now in
    let q : Test = after c.args.claim.now in
    leads_step x q c.args.claim.now.bound p c.args.most (c.args.most - 1) c.args.state.now true
    (omega (arith, c.if-most-eq0.false)) (c.in_ok-here.ensures.0 c.if-not-here.false)
    (always _ (λ n u e.
    let within = chosen_within c.args.claim.now.slots.now c.args.claim.now.program.now n c.args.state.now u e in
    let below : n < c.loop-choice.choice = omega (
      arith,
      within,
      c.loop-choice-test.false,
      c.instances-choice-end.ensures,
    ) in
    c.loop-choice.invariant n below u e))

pub leads_at-leads-requires : goal.leads_at-leads-requires
leads_at-leads-requires t c =
    let slots = c.args.claim.now.slots.now in (
      search rules,
      (
        c.requires.claim,
        subst (λ (u : State). IsTrue (is_state (slot_ranges slots) u)) (sym c.as_slice.ensures)
            (step_stays slots c.args.claim.now.program.now c.args.choice c.args.state.now c.in-Some.next
            c.requires.state
            (sym c.in_ok-next.ensures ∙ c.in-Some.is)),
      ),
    )

pub leads_at-returns-in_ok-held-in-Some : goal.leads_at-returns-in_ok-held-in-Some
leads_at-returns-in_ok-held-in-Some t c =
    let x : System = claimed c.args.claim.now in
    let p : Test = before c.args.claim.now in
    let q : Test = after c.args.claim.now in
    leads_next x p q c.args.claim.now.bound c.args.most c.args.state.now c.in-Some.next c.args.choice
    c.in_ok-held-in-Some.held (sym c.in_ok-next.ensures ∙ c.in-Some.is)
    (subst (λ (u : State). IsTrue c.in_ok-held-in-Some.held ↔ LeadsWithin x p q c.args.claim.now.bound c.args.most u)
    c.as_slice.ensures c.in_ok-held-in-Some.ensures)
