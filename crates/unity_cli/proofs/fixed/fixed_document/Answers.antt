use Rattle.std.proofs.Common.{arith, ◌∙◌, subst}
use Rattle.fixed_runs.specs.Answers.{CoreFixedRuns}
use Rattle.unity_cli.specs.Admitted.{greatest_size}
use Rattle.unity_cli.proofs.Told.{sound_core, fixed_answered, ended_early}
use Rattle.unity_cli.proofs.fixed.fixed_document.Goals as goal

pub run_to_fixed-ended-requires : goal.run_to_fixed-ended-requires
run_to_fixed-ended-requires g c = sound_core greatest_size (omega arith) c.args.reading.now c.requires

pub returns-clause-told : goal.returns-clause-told
returns-clause-told g c = fixed_answered c.args.reading.now c.args.program.now c.args.steps
    (g.K.Sink.written c.args.out.now) (g.K.Sink.written c.run_to_fixed-ended.new.out)
    (g.K.Sink.written c.write_end.new.out) c.run_to_fixed-ended.result c.write_end.result
    (subst (λ name. CoreFixedRuns c.args.reading.now.core name c.args.steps (g.K.Sink.written c.args.out.now)
    (g.K.Sink.written c.run_to_fixed-ended.new.out) c.run_to_fixed-ended.result)
    c.as_bytes.ensures.value c.run_to_fixed-ended.ensures.answer) c.write_end.ensures.told

pub returns-clause-nothing : goal.returns-clause-nothing
returns-clause-nothing g c = λ e.
    let early = ended_early c.run_to_fixed-ended.result _ _ c.write_end.result c.write_end.ensures.told e in
    c.write_end.ensures.nothing e ∙ c.run_to_fixed-ended.ensures.untouched early.0 early.1
