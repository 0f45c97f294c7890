use Rattle.names_checks.proofs.Taking.{taken}
use Rattle.names_checks.proofs.taken.take.Goals as goal

pub returns-in-Ok : goal.returns-in-Ok
returns-in-Ok c = taken c.demand.result c.args.words.now.keys c.insert.new.self.keys c.as_slice.result c.args.name.now
    c.in-Ok.new
    c.as_slice.ensures c.in-Ok.ensures.added c.in-Ok.ensures.keys c.demand.ensures
