use Rattle.ranges_types.proofs.Taking.{slot_taken}
use Rattle.ranges_types.proofs.start.take.Goals as goal

pub returns-in-Ok : goal.returns-in-Ok
returns-in-Ok c = slot_taken c.demand.result c.args.slots.now.keys c.insert.new.self.keys c.args.slot c.in-Ok.new
    c.args.at
    c.in-Ok.ensures.added c.in-Ok.ensures.keys c.demand.ensures
