use Rattle.std.proofs.Common.{refl, sym, subst}
use Rattle.std.proofs.lemmas.Option.{slice_get_read}
use Rattle.executor.specs.Fitting.{StatementRuns}
use Rattle.fixed_points.proofs.telling.changing_among.Goals as goal

pub leads_back-requires-clause-fits : goal.leads_back-requires-clause-fits
leads_back-requires-clause-fits c =
    subst (λ s. StatementRuns c.args.slots.now s) (sym c.get.ensures)
    (c.requires.fits _ _ (slice_get_read _ _ _ _ refl c.loop-place-test.true c.index-statements-place.is))
