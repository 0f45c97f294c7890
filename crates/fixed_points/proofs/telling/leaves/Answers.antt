use Rattle.std.proofs.Common.{arith}
use Rattle.executor.proofs.StateLaws.{form_runs, term_runs, state_length}
use Rattle.fixed_points.proofs.telling.leaves.Goals as goal

pub holds-requires-clause-slots : goal.holds-requires-clause-slots
holds-requires-clause-slots c = (form_runs c.args.slots.now c.args.state.now _ c.requires.state c.requires.fits.1).0

pub holds-requires-clause-weight : goal.holds-requires-clause-weight
holds-requires-clause-weight c = (form_runs c.args.slots.now c.args.state.now _ c.requires.state c.requires.fits.1).2

pub value-requires-clause-slots : goal.value-requires-clause-slots
value-requires-clause-slots c = (term_runs c.args.slots.now c.args.state.now _ c.requires.state c.requires.fits.2).0

pub value-requires-clause-weight : goal.value-requires-clause-weight
value-requires-clause-weight c = (term_runs c.args.slots.now c.args.state.now _ c.requires.state c.requires.fits.2).2

pub bounds-state-write : goal.bounds-state-write
bounds-state-write c =
    let same = state_length c.args.slots.now c.args.state.now c.requires.state in
    let own = c.requires.fits.0 in
    omega (arith, same, own)
