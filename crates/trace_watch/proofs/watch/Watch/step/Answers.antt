use Rattle.std.proofs.Common.{◌≡◌, ◌∷◌, ◌++◌, [], ◌∙◌, List, ap, arith, length, map, rules, subst, sym, take}
use Rattle.std.specs.Prelude.{All}
use Rattle.std.proofs.lemmas.List.{places, with_items_is}
use Rattle.meaning_states.specs.State.{State}
use Rattle.executor.proofs.StateLaws.{state_length}
use Rattle.trace_watch.specs.declared.step.Step.{Step}
use Rattle.trace_watch.specs.Stepping.{StepFits, StepSaw, StepStands, watched_as}
use Rattle.trace_watch.specs.Violations.{violation}
use Rattle.trace_watch.specs.Watching.{steps_of, system_of}
use Rattle.trace_watch.proofs.LookLaws.{first_again, length_pushed}
use Rattle.trace_watch.proofs.watch.Watch.step.Goals as goal

pub look-found-requires-clause-room : goal.look-found-requires-clause-room
look-found-requires-clause-room c =
    c.args.self.now.room ∙ sym (state_length c.args.self.now.slots.now c.args.next.now c.requires.next)

pub copy_from_slice-requires : goal.copy_from_slice-requires
copy_from_slice-requires c =
    sym c.as_slice.ensures.len ∙ ap length c.as_slice.ensures.value ∙ c.args.self.now.size
    ∙ sym (state_length c.args.self.now.slots.now c.args.next.now c.requires.next)

pub invariant_of-self-clause-steps_fit : goal.invariant_of-self-clause-steps_fit
invariant_of-self-clause-steps_fit c =
    subst (λ (ss : List Step). All (StepFits c.args.self.now.slots.now) ss)
    (sym (with_items_is c.args.self.now.steps c.look-found.new.steps (search (rules, places))))
    c.look-found.ensures.fits

pub invariant_of-self-clause-saw : goal.invariant_of-self-clause-saw
invariant_of-self-clause-saw c =
    let p = c.args.self.now.program.now in
    subst (λ (ss : List Step). All (StepSaw p c.copy_from_slice.new.self.items) ss)
    (sym (with_items_is c.args.self.now.steps c.look-found.new.steps (search (rules, places))))
    (subst (λ (s : State). All (StepSaw p s) c.look-found.new.steps) (sym c.copy_from_slice.ensures.items)
    c.look-found.ensures.saw)

pub invariant_of-self-clause-size : goal.invariant_of-self-clause-size
invariant_of-self-clause-size c =
    ap length c.copy_from_slice.ensures.items
    ∙ state_length c.args.self.now.slots.now c.args.next.now c.requires.next

pub invariant_of-self-clause-room : goal.invariant_of-self-clause-room
invariant_of-self-clause-room c =
    c.look-found.ensures.trial.room ∙ state_length c.args.self.now.slots.now c.args.next.now c.requires.next

pub returns-clause-longer : goal.returns-clause-longer
returns-clause-longer c = λ states choices h.
    let w = c.args.self.now in
    let p = w.program.now in
    let next = c.args.next.now in
    let items = with_items_is w.steps c.look-found.new.steps (search (rules, places)) in
    let more = length_pushed choices c.args.choice in
    let longer = length_pushed states next in
    let size : length (choices ++ c.args.choice ∷ []) ≡ length states = omega (arith, more, h.places) in
    let before = subst (λ (ss : List Step). All (StepStands p states choices) ss) (sym c.deref_mut.ensures.value)
    h.steps in
    record {
      places = omega (arith, more, longer, h.places);
      steps = subst (λ (ss : List Step). All (StepStands p (states ++ next ∷ []) (choices ++ c.args.choice ∷ [])) ss)
          (sym items) (c.look-found.ensures.stands states choices size before);
      first = h.first
          ∙ ap (λ ss. violation (system_of w) (steps_of w) ss [])
          (sym (first_again states next (length choices) h.places))
          ∙ ap (λ ws. violation (system_of w) ws (take 1 (states ++ next ∷ [])) [])
          (ap (map (watched_as p)) (sym c.deref_mut.ensures.value) ∙ sym c.look-found.ensures.watched
          ∙ ap (map (watched_as p)) (sym items));
    }

pub returns-clause-exact : goal.returns-clause-exact
returns-clause-exact c = λ states choices h.
    let w = c.args.self.now in
    let p = w.program.now in
    let next = c.args.next.now in
    let more = length_pushed choices c.args.choice in
    let size : length (choices ++ c.args.choice ∷ []) ≡ length states = omega (arith, more, h.places) in
    let before = subst (λ (ss : List Step). All (StepStands p states choices) ss) (sym c.deref_mut.ensures.value)
    h.steps in
    c.look-found.ensures.violated states choices size before
    ∙ ap (λ (ss : List Step). violation (system_of w) (map (watched_as p) ss) (states ++ next ∷ [])
    (choices ++ c.args.choice ∷ [])) c.deref_mut.ensures.value
