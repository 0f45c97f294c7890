use Rattle.schedule_replay.proofs.BufferLaws.{part_second}
use Rattle.schedule_replay.proofs.buffer.write_both.Goals as goal

pub returns-clause-part : goal.returns-clause-part
returns-clause-part g c =
    part_second _ _ _ _ _ c.write_all-2.result c.in_ok-write_all.ensures.whole c.write_all-2.ensures.part
