use Rattle.executor.proofs.StartLaws.{placed-And}
use Rattle.executor.proofs.start.+put_fixed.Goals as goal

pub returns-in-And : goal.returns-in-And
returns-in-And t c = cc (placed-And c.args.slots.now c.args.state.now c.args.f.now c.in-And.g c.in-And.h c.in-And.is)
