use Rattle.std.proofs.Common.{◌∷◌, [], ◌∙◌, List, ap, length, map, refl, rules, subst, sym}
use Rattle.std.specs.Prelude.{All}
use Rattle.std.proofs.lemmas.List.{places, with_items_is}
use Rattle.meaning_states.specs.State.{State}
use Rattle.executor.specs.CoreSystem.{core_system}
use Rattle.executor.proofs.StateLaws.{state_length, statements_fit}
use Rattle.trace_watch.specs.declared.step.Step.{Step}
use Rattle.trace_watch.specs.Stepping.{StepFits, StepStands, StepSaw, watched_as}
use Rattle.trace_watch.specs.Violations.{violation}
use Rattle.trace_watch.proofs.KeepLaws.{begun_saw}
use Rattle.trace_watch.proofs.watch.Watch.new.Goals as goal

pub invariant_of-here : goal.invariant_of-here
invariant_of-here c = record {
  fits = statements_fit c.args.slots.now c.args.p.now.statements c.requires.program.statements;
  few = c.requires.program.few;
  is_state = c.requires.start;
}

pub look-first-requires-clause-saw : goal.look-first-requires-clause-saw
look-first-requires-clause-saw c =
    begun_saw c.args.p.now c.args.start.now c.deref_mut.result.now
    (subst (λ (ss : List Step). All (StepStands c.args.p.now [] []) ss) (sym c.deref_mut.ensures.value)
    c.in_ok-steps.ensures.stands)

pub invariant_of-result : goal.invariant_of-result
invariant_of-result c = record {
  program_fits = statements_fit c.args.slots.now c.args.p.now.statements c.requires.program.statements;
  few = c.requires.program.few;
  steps_fit = subst (λ (ss : List Step). All (StepFits c.args.slots.now) ss)
      (sym (with_items_is c.in_ok-steps.steps c.look-first.new.steps (search (rules, places))))
      c.look-first.ensures.fits;
  saw = subst (λ (ss : List Step). All (StepSaw c.args.p.now c.in_ok-state.state.items) ss)
      (sym (with_items_is c.in_ok-steps.steps c.look-first.new.steps (search (rules, places))))
      (subst (λ (s : State). All (StepSaw c.args.p.now s) c.look-first.new.steps) (sym c.in_ok-state.ensures.items)
      c.look-first.ensures.saw);
  size = ap length c.in_ok-state.ensures.items ∙ state_length c.args.slots.now c.args.start.now c.requires.start;
  room = c.look-first.ensures.trial.room ∙ state_length c.args.slots.now c.args.start.now c.requires.start;
}

pub returns-clause-begun : goal.returns-clause-begun
returns-clause-begun c =
    let p = c.args.p.now in
    let start = c.args.start.now in
    let items = with_items_is c.in_ok-steps.steps c.look-first.new.steps (search (rules, places)) in
    let begun = subst (λ (ss : List Step). All (StepStands p [] []) ss) (sym c.deref_mut.ensures.value)
    c.in_ok-steps.ensures.stands in
    record {
      places = refl;
      steps = subst (λ (ss : List Step). All (StepStands p (start ∷ []) []) ss) (sym items)
          (c.look-first.ensures.stands [] [] refl begun);
      first = c.look-first.ensures.violated [] [] refl begun
          ∙ ap (λ ws. violation (core_system c.args.slots.now p) ws (start ∷ []) [])
          (sym c.look-first.ensures.watched ∙ ap (map (watched_as p)) (sym items));
    }
