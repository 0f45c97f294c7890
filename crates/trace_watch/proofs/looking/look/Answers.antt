use Rattle.std.proofs.Common.{◌+◌, ◌<◌, ◌≤◌, ◌∙◌, arith, le_refl, length, get_or, slice_set, subst, sym}
use Rattle.std.specs.Prelude.{option_to_list}
use Rattle.executor.proofs.StateLaws.{all_at}
use Rattle.trace_watch.specs.Places.{before_at, system_at, state_at}
use Rattle.trace_watch.specs.Stepping.{StepFits, StepSaw}
use Rattle.trace_watch.proofs.LookLaws.{LookedSteps, all_by, before_end, one_below, steps_one, steps_all, there}
use Rattle.trace_watch.proofs.looking.look.Goals as goal

pub look_step-found-requires-clause-saw : goal.look_step-found-requires-clause-saw
look_step-found-requires-clause-saw c =
    let inside : c.loop-place.place < length c.loop-place.steps =
    omega (arith, c.loop-place.auto.steps, c.loop-place-test.true) in
    all_at (StepSaw c.args.here.now.program.now (before_at c.args.here.now)) c.args.steps.now c.requires.saw
    c.loop-place.place (get_or c.loop-place.steps c.loop-place.place c.index-steps-place.result)
    (sym (c.loop-place.invariant.0.rest c.loop-place.place (le_refl c.loop-place.place))
    ∙ there c.loop-place.steps c.loop-place.place c.index-steps-place.result inside)

pub loop-place-preserved : goal.loop-place-preserved
loop-place-preserved c =
    let here = c.args.here.now in
    let inside : c.loop-place.place < length c.loop-place.steps =
    omega (arith, c.loop-place.auto.steps, c.loop-place-test.true) in
    let at = there c.loop-place.steps c.loop-place.place c.index-steps-place.result inside in (
      subst (λ o. LookedSteps here.slots.now here.program.now (system_at here) (state_at here)
          (option_to_list c.args.choice) c.args.steps.now
          (slice_set c.loop-place.steps c.loop-place.place c.look_step-found.new.step) o (c.loop-place.place + 1))
          (sym c.or_violation-first.ensures)
          (steps_one here.slots.now here.program.now (system_at here) (state_at here) (option_to_list c.args.choice)
          c.args.steps.now c.loop-place.steps c.loop-place.first c.look_step-found.result c.loop-place.place
          (get_or c.loop-place.steps c.loop-place.place c.index-steps-place.result) c.look_step-found.new.step at
          c.look_step-found.ensures.fits c.look_step-found.ensures.watched c.look_step-found.ensures.stands
          c.look_step-found.ensures.violated c.loop-place.invariant.0),
      one_below (λ n t. StepSaw here.program.now (state_at here) t) c.loop-place.steps c.loop-place.place
          (get_or c.loop-place.steps c.loop-place.place c.index-steps-place.result) c.look_step-found.new.step at
          c.look_step-found.ensures.saw c.loop-place.invariant.1,
      c.look_step-found.ensures.trial,
    )

pub returns-clause-fits : goal.returns-clause-fits
returns-clause-fits c = all_by (StepFits c.args.here.now.slots.now) c.loop-place.steps c.loop-place.invariant.0.fits

pub returns-clause-saw : goal.returns-clause-saw
returns-clause-saw c =
    let all : length c.loop-place.steps ≤ c.loop-place.place =
    omega (arith, c.loop-place.auto.steps, c.loop-place-test.false) in
    all_by (StepSaw c.args.here.now.program.now (state_at c.args.here.now)) c.loop-place.steps (λ n t at.
    let inside = before_end c.loop-place.steps n t at in
    c.loop-place.invariant.1 n t (omega (arith, inside, all)) at)

pub returns-clause-stands : goal.returns-clause-stands
returns-clause-stands c = λ states choices size h.
    let here = c.args.here.now in
    let enough : length c.loop-place.steps ≤ c.loop-place.place =
    omega (arith, c.loop-place.auto.steps, c.loop-place-test.false) in
    (steps_all here.slots.now here.program.now (system_at here) (state_at here) (option_to_list c.args.choice)
    c.args.steps.now c.loop-place.steps c.loop-place.first c.loop-place.place c.loop-place.invariant.0
    c.loop-place.auto.steps enough states choices (size, h)).0

pub returns-clause-violated : goal.returns-clause-violated
returns-clause-violated c = λ states choices size h.
    let here = c.args.here.now in
    let enough : length c.loop-place.steps ≤ c.loop-place.place =
    omega (arith, c.loop-place.auto.steps, c.loop-place-test.false) in
    (steps_all here.slots.now here.program.now (system_at here) (state_at here) (option_to_list c.args.choice)
    c.args.steps.now c.loop-place.steps c.loop-place.first c.loop-place.place c.loop-place.invariant.0
    c.loop-place.auto.steps enough states choices (size, h)).1
