use Rattle.executor.proofs.runner.Runner.step.Goals as goal

pub make_step-requires-clause-fits : goal.make_step-requires-clause-fits
make_step-requires-clause-fits c =
    c.args.self.now.fits c.args.choice c.chosen-statement.result.now c.chosen-statement.ensures
