use Rattle.std.proofs.Common.{arith, ◌∙◌}
use Rattle.unity_cli.specs.Admitted.{greatest_size}
use Rattle.unity_cli.proofs.Told.{sound_core, replay_answered, ended_early}
use Rattle.unity_cli.proofs.replay.replay_document.Goals as goal

pub replay_schedule-ended-requires : goal.replay_schedule-ended-requires
replay_schedule-ended-requires g c = sound_core greatest_size (omega arith) c.args.reading.now c.requires

pub returns-clause-told : goal.returns-clause-told
returns-clause-told g c = replay_answered c.args.reading.now _ _ _ c.replay_schedule-ended.result c.write_end.result
    c.replay_schedule-ended.ensures.answer c.write_end.ensures.told

pub returns-clause-nothing : goal.returns-clause-nothing
returns-clause-nothing g c = λ e.
    let early = ended_early c.replay_schedule-ended.result _ _ c.write_end.result c.write_end.ensures.told e in
    c.write_end.ensures.nothing e ∙ c.replay_schedule-ended.ensures.untouched early.0 early.1
