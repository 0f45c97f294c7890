use Rattle.schedule_replay.proofs.BufferLaws.{line_whole, line_part, line_cause}
use Rattle.told_obligations.proofs.listing.write_obligations.Goals as goal

pub returns-clause-whole : goal.returns-clause-whole
returns-clause-whole g c =
    line_whole (g.K.Sink.written c.finish.new.out) c.finish.result c.new-text.ensures c.put_all.ensures
    c.finish.ensures.whole

pub returns-clause-part : goal.returns-clause-part
returns-clause-part g c =
    line_part (g.K.Sink.written c.finish.new.out) c.finish.result c.new-text.ensures c.put_all.ensures
    c.finish.ensures.part

pub returns-clause-cause : goal.returns-clause-cause
returns-clause-cause g c =
    line_cause c.finish.result c.new-text.ensures c.put_all.ensures c.finish.ensures.cause
