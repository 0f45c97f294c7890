use Rattle.std.proofs.Common.{arith, ◌∙◌, subst}
use Rattle.run_traces.specs.Answers.{CoreRuns}
use Rattle.unity_cli.specs.Admitted.{greatest_size}
use Rattle.unity_cli.proofs.Told.{sound_core, run_answered, ended_early}
use Rattle.unity_cli.proofs.run.run_document.Goals as goal

pub run_program-ended-requires : goal.run_program-ended-requires
run_program-ended-requires g c = sound_core greatest_size (omega arith) c.args.reading.now c.requires

pub returns-clause-told : goal.returns-clause-told
returns-clause-told g c = run_answered c.args.reading.now c.args.program.now c.args.steps
    (g.K.Sink.written c.args.out.now) (g.K.Sink.written c.run_program-ended.new.out)
    (g.K.Sink.written c.write_end.new.out) c.run_program-ended.result c.write_end.result
    (subst (λ name. CoreRuns c.args.reading.now.core name c.args.steps (g.K.Sink.written c.args.out.now)
    (g.K.Sink.written c.run_program-ended.new.out) c.run_program-ended.result)
    c.as_bytes.ensures.value c.run_program-ended.ensures.answer) c.write_end.ensures.told

pub returns-clause-nothing : goal.returns-clause-nothing
returns-clause-nothing g c = λ e.
    let early = ended_early c.run_program-ended.result _ _ c.write_end.result c.write_end.ensures.told e in
    c.write_end.ensures.nothing e ∙ c.run_program-ended.ensures.untouched early.0 early.1
