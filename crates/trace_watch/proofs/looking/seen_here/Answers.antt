use Rattle.trace_watch.proofs.KeepLaws.{still_seen}
use Rattle.trace_watch.proofs.TryLaws.{form_holds}
use Rattle.trace_watch.proofs.looking.seen_here.Goals as goal

pub holds-p-requires-clause-slots : goal.holds-p-requires-clause-slots
holds-p-requires-clause-slots c =
    (form_holds c.args.here.now.slots.now c.args.claim.now.params c.args.here.now.state.now c.args.values.now
    c.args.claim.now.p c.args.here.now.is_state c.requires.values c.requires.fits.p).0

pub holds-p-requires-clause-params : goal.holds-p-requires-clause-params
holds-p-requires-clause-params c =
    (form_holds c.args.here.now.slots.now c.args.claim.now.params c.args.here.now.state.now c.args.values.now
    c.args.claim.now.p c.args.here.now.is_state c.requires.values c.requires.fits.p).1

pub holds-p-requires-clause-weight : goal.holds-p-requires-clause-weight
holds-p-requires-clause-weight c =
    (form_holds c.args.here.now.slots.now c.args.claim.now.params c.args.here.now.state.now c.args.values.now
    c.args.claim.now.p c.args.here.now.is_state c.requires.values c.requires.fits.p).2

pub holds-q-requires-clause-slots : goal.holds-q-requires-clause-slots
holds-q-requires-clause-slots c =
    (form_holds c.args.here.now.slots.now c.args.claim.now.params c.args.here.now.state.now c.args.values.now
    c.args.claim.now.q c.args.here.now.is_state c.requires.values c.requires.fits.q).0

pub holds-q-requires-clause-params : goal.holds-q-requires-clause-params
holds-q-requires-clause-params c =
    (form_holds c.args.here.now.slots.now c.args.claim.now.params c.args.here.now.state.now c.args.values.now
    c.args.claim.now.q c.args.here.now.is_state c.requires.values c.requires.fits.q).1

pub holds-q-requires-clause-weight : goal.holds-q-requires-clause-weight
holds-q-requires-clause-weight c =
    (form_holds c.args.here.now.slots.now c.args.claim.now.params c.args.here.now.state.now c.args.values.now
    c.args.claim.now.q c.args.here.now.is_state c.requires.values c.requires.fits.q).2

pub returns-in-Some : goal.returns-in-Some
returns-in-Some c =
    still_seen c.args.here.now c.args.here.now.program.now c.args.claim.now c.args.values.now c.args.before
    c.in-Some.seen c.in-Some.is c.requires.saw (c.requires.kept c.if-is_kept.true)
