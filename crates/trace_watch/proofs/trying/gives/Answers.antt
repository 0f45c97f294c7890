use Rattle.trace_watch.proofs.TryLaws.{chosen_keeps, form_holds}
use Rattle.trace_watch.proofs.trying.gives.Goals as goal

pub holds-requires-clause-slots : goal.holds-requires-clause-slots
holds-requires-clause-slots c =
    (form_holds c.args.here.now.slots.now c.args.claim.now.params c.would_step.new.into c.args.values.now
    c.args.claim.now.q
    (chosen_keeps c.args.here.now.slots.now c.args.here.now.program.now c.args.choice c.args.here.now.state.now
    c.would_step.new.into c.args.here.now.is_state (c.would_step.ensures.done c.in-Done.is)) c.requires.values
    c.requires.fits.q).0

pub holds-requires-clause-params : goal.holds-requires-clause-params
holds-requires-clause-params c =
    (form_holds c.args.here.now.slots.now c.args.claim.now.params c.would_step.new.into c.args.values.now
    c.args.claim.now.q
    (chosen_keeps c.args.here.now.slots.now c.args.here.now.program.now c.args.choice c.args.here.now.state.now
    c.would_step.new.into c.args.here.now.is_state (c.would_step.ensures.done c.in-Done.is)) c.requires.values
    c.requires.fits.q).1

pub holds-requires-clause-weight : goal.holds-requires-clause-weight
holds-requires-clause-weight c =
    (form_holds c.args.here.now.slots.now c.args.claim.now.params c.would_step.new.into c.args.values.now
    c.args.claim.now.q
    (chosen_keeps c.args.here.now.slots.now c.args.here.now.program.now c.args.choice c.args.here.now.state.now
    c.would_step.new.into c.args.here.now.is_state (c.would_step.ensures.done c.in-Done.is)) c.requires.values
    c.requires.fits.q).2
