use Rattle.std.proofs.Common.{◌++◌, ◌∷◌, [], ◌<◌, ◌-◌, length}
use Rattle.std.proofs.Common.{IsTrue, true, false, sym, subst, ◌∙◌, arith, rules}
use Rattle.std.specs.Prelude.{◌↔◌}
use Rattle.meaning_states.specs.State.{State, is_state}
use Rattle.core_terms.specs.Steps.{slot_ranges}
use Rattle.meaning_executions.specs.Execution.{System}
use Rattle.meaning_executions.specs.Properties.{Test}
use Rattle.examples_bounds.specs.Claims.{claimed, after}
use Rattle.examples_bounds.specs.Walking.{LeadsBehind, ComesAt}
use Rattle.examples_bounds.proofs.LoopLaws.{always, never, refuted, below_more}
use Rattle.examples_bounds.proofs.StepLaws.{readable_slots, readable_weight, steps_are, chosen_within, step_stays}
use Rattle.examples_bounds.proofs.WalkLaws.{comes_now, comes_late, comes_last, comes_step, comes_next, enough_rounds}
use Rattle.examples_bounds.proofs.WalkLaws.{few_rounds}
use Rattle.examples_bounds.proofs.walking.+coming.Goals as goal

pub comes-holds-requires-clause-slots : goal.comes-holds-requires-clause-slots
comes-holds-requires-clause-slots t c =
    readable_slots c.args.claim.now.slots.now c.args.state.now c.args.claim.now.params.now c.args.claim.now.q.now
    c.requires.state c.requires.claim.q_readable

pub comes-holds-requires-clause-weight : goal.comes-holds-requires-clause-weight
comes-holds-requires-clause-weight t c =
    readable_weight c.args.claim.now.slots.now c.args.state.now c.args.claim.now.params.now c.args.claim.now.q.now
    c.requires.state c.requires.claim.q_readable

pub comes-returns-then-holds : goal.comes-returns-then-holds
comes-returns-then-holds t c = λ made stands.
    always _ (comes_now (claimed c.args.claim.now) (after c.args.claim.now) c.args.claim.now.bound c.args.most made
    c.args.state.now (sym c.holds.ensures ∙ c.if-holds.true))

pub comes-returns-then-rounds-claim : goal.comes-returns-then-rounds-claim
comes-returns-then-rounds-claim t c = λ made stands.
    let x : System = claimed c.args.claim.now in
    let steps = steps_are c.args.claim.now.slots.now c.args.claim.now.program.now in
    never _ (comes_late x (after c.args.claim.now) c.args.claim.now.bound c.args.most made c.args.state.now
    (sym c.holds.ensures ∙ c.if-holds.false)
    (enough_rounds made (length x.steps) c.args.count.now.instances c.rounds.result c.args.claim.now.bound
    (steps ∙ sym c.requires.instances) (c.rounds.ensures made stands) c.if-rounds-claim.true))

pub comes-returns-then-most-eq0 : goal.comes-returns-then-most-eq0
comes-returns-then-most-eq0 t c = λ made stands.
    let x : System = claimed c.args.claim.now in
    let q : Test = after c.args.claim.now in
    let steps = steps_are c.args.claim.now.slots.now c.args.claim.now.program.now in
    let few = few_rounds made (length x.steps) c.args.count.now.instances c.rounds.result c.args.claim.now.bound
    (steps ∙ sym c.requires.instances) (c.rounds.ensures made stands) c.requires.claim.bound c.if-rounds-claim.false in
    always _ (subst (λ m. LeadsBehind x q c.args.claim.now.bound m made c.args.state.now) (sym c.if-most-eq0.true)
    (comes_last x q c.args.claim.now.bound made c.args.state.now few))

pub comes-loop-choice-preserved : goal.comes-loop-choice-preserved
comes-loop-choice-preserved t c = λ n less made stands u e.
    below_more (λ m. ComesAt (claimed c.args.claim.now) (after c.args.claim.now) c.args.claim.now.bound
    (c.args.most - 1) made c.args.state.now m) c.loop-choice.choice (λ m h. c.loop-choice.invariant m h made stands)
    ((c.in_ok-held.ensures made stands).0 c.if-not-held.false) n less u e

pub comes-returns-then-not-held : goal.comes-returns-then-not-held
comes-returns-then-not-held t c = λ made stands.
    let x : System = claimed c.args.claim.now in
    let q : Test = after c.args.claim.now in
    let steps = steps_are c.args.claim.now.slots.now c.args.claim.now.program.now in
    comes_step x q c.args.claim.now.bound c.args.most (c.args.most - 1) made c.args.state.now false
    (omega (arith, c.if-most-eq0.false)) (sym c.holds.ensures ∙ c.if-holds.false)
    (few_rounds made (length x.steps) c.args.count.now.instances c.rounds.result c.args.claim.now.bound
    (steps ∙ sym c.requires.instances) (c.rounds.ensures made stands) c.requires.claim.bound c.if-rounds-claim.false)
    (never _ (λ all. refuted _ (subst (λ b. IsTrue b ↔ ComesAt x q c.args.claim.now.bound (c.args.most - 1) made
    c.args.state.now c.loop-choice.choice) c.if-not-held.true (c.in_ok-held.ensures made stands))
    (all c.loop-choice.choice)))

pub comes-returns : goal.comes-returns
comes-returns t c = λ made stands.
    let x : System = claimed c.args.claim.now in
    let q : Test = after c.args.claim.now in
    let steps = steps_are c.args.claim.now.slots.now c.args.claim.now.program.now in
    comes_step x q c.args.claim.now.bound c.args.most (c.args.most - 1) made c.args.state.now true
    (omega (arith, c.if-most-eq0.false)) (sym c.holds.ensures ∙ c.if-holds.false)
    (few_rounds made (length x.steps) c.args.count.now.instances c.rounds.result c.args.claim.now.bound
    (steps ∙ sym c.requires.instances) (c.rounds.ensures made stands) c.requires.claim.bound c.if-rounds-claim.false)
    (always _ (λ n u e.
    let within = chosen_within c.args.claim.now.slots.now c.args.claim.now.program.now n c.args.state.now u e in
    let below : n < c.loop-choice.choice = omega (
      arith,
      within,
      c.loop-choice-test.false,
      c.instances-choice-end.ensures,
    ) in
    c.loop-choice.invariant n below made stands u e))

pub comes_at-comes-requires : goal.comes_at-comes-requires
comes_at-comes-requires t c =
    let slots = c.args.claim.now.slots.now in (
      search rules,
      (
        c.requires.claim,
        (
          subst (λ (u : State). IsTrue (is_state (slot_ranges slots) u)) (sym c.as_slice.ensures)
              (step_stays slots c.args.claim.now.program.now c.args.choice c.args.state.now c.in-Some.next
              c.requires.state (sym c.in_ok-next.ensures ∙ c.in-Some.is)),
          c.with_choice-longer.ensures.instances ∙ c.requires.instances,
        ),
      ),
    )

pub comes_at-returns-in_ok-held-in-Some : goal.comes_at-returns-in_ok-held-in-Some
comes_at-returns-in_ok-held-in-Some t c = λ made stands.
    let x : System = claimed c.args.claim.now in
    let q : Test = after c.args.claim.now in
    let bound = c.args.claim.now.bound in
    comes_next x q bound c.args.most made c.args.state.now c.in-Some.next c.args.choice
    c.in_ok-held-in-Some.held (sym c.in_ok-next.ensures ∙ c.in-Some.is)
    (subst (λ (u : State). IsTrue c.in_ok-held-in-Some.held ↔ LeadsBehind x q bound c.args.most
    (made ++ c.args.choice ∷ [])
    u)
    c.as_slice.ensures
    (c.in_ok-held-in-Some.ensures (made ++ c.args.choice ∷ []) (c.with_choice-longer.ensures.longer made stands)))
