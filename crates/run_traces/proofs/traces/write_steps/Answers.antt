use Rattle.std.proofs.Common.{◌+◌, ◌<◌, length, take, drop, refl, sym, ap, ◌∙◌, subst, arith}
use Rattle.std.proofs.lemmas.Option.{slice_get_within}
use Rattle.meaning_states.specs.State.{State}
use Rattle.fair_rounds.specs.Counts.{CountStandsFor}
use Rattle.executor.specs.CoreSystem.{core_system}
use Rattle.executor.specs.Running.{state_of}
use Rattle.meaning_executions.specs.Rounds.{rounds}
use Rattle.schedule_replay.specs.Lines.{rounds_line}
use Rattle.schedule_replay.proofs.BufferLaws.{on_err}
use Rattle.run_traces.specs.Choices.{choices_of}
use Rattle.run_traces.specs.Traces.{steps_text, following, and_then_all, all_defined, ending}
use Rattle.run_traces.proofs.Writing.{rest_is}
use Rattle.run_traces.proofs.TraceLaws.{among, take_next, steps_next, defined_next, past_end, drop_past, rounds_are}
use Rattle.run_traces.proofs.TraceSteps.{there, none_follows, one_follows, step_written, step_ended, step_cut}
use Rattle.run_traces.proofs.TraceSteps.{ends_next, end_written, end_cut}
use Rattle.run_traces.proofs.traces.write_steps.Goals as goal

pub write_step-requires-clause-choice : goal.write_step-requires-clause-choice
write_step-requires-clause-choice g c =
    among _ c.args.choices.now c.steps.number _ c.requires.some c.requires.instances
    (there c.args.choices.now _ _ _ _ c.in-Some.ensures.choice c.instances-k.ensures)

pub returns-in-Undefined-clause-whole : goal.returns-in-Undefined-clause-whole
returns-in-Undefined-clause-whole g c =
    let d = c.args.doc.now in
    let p = c.args.p.now in
    let cs = choices_of (length p.statements) c.args.choices.now in
    let n = c.steps.number in
    let state = state_of c.steps.runner in
    let at = there c.args.choices.now _ _ _ _ c.in-Some.ensures.choice c.instances-k.ensures in
    step_ended d p n c.in-Some.choice state _ _ _ _ _ _ c.steps.invariant.writing
    (steps_next d p (core_system d.slots p) (rounds_line (rounds cs (length p.statements))) n _ state cs at)
    c.in_ok-write_step-in-Some.ensures.whole _ c.in_ok-write_step-in-Some.ensures.stepped c.in-Undefined.is

pub returns-in-Undefined-clause-ending : goal.returns-in-Undefined-clause-ending
returns-in-Undefined-clause-ending g c =
    let d = c.args.doc.now in
    let p = c.args.p.now in
    let x = core_system d.slots p in
    let cs = choices_of (length p.statements) c.args.choices.now in
    let n = c.steps.number in
    let state = state_of c.steps.runner in
    let at = there c.args.choices.now _ _ _ _ c.in-Some.ensures.choice c.instances-k.ensures in
    sym (ap ending (c.steps.invariant.defined ∙ defined_next x n c.in-Some.choice state cs at
    ∙ ap (and_then_all (λ (next : State). all_defined x next (drop (n + 1) cs)))
    (none_follows d p n c.in-Some.choice state _ c.in_ok-write_step-in-Some.ensures.stepped c.in-Undefined.is)))

pub add-requires : goal.add-requires
add-requires g c =
    subst (λ i. c.in-Some.choice < i) (sym c.steps.invariant.instances)
    (among _ c.args.choices.now c.steps.number _ c.requires.some c.requires.instances
    (there c.args.choices.now _ _ _ _ c.in-Some.ensures.choice c.instances-k.ensures))

pub steps-smaller : goal.steps-smaller
steps-smaller g c =
    let within = slice_get_within _ c.steps.number _
    (there c.args.choices.now _ _ _ _ c.in-Some.ensures.choice c.instances-k.ensures) in
    omega (arith, within)

pub steps-preserved : goal.steps-preserved
steps-preserved g c =
    let d = c.args.doc.now in
    let p = c.args.p.now in
    let k = length p.statements in
    let x = core_system d.slots p in
    let cs = choices_of k c.args.choices.now in
    let n = c.steps.number in
    let state = state_of c.steps.runner in
    let at = there c.args.choices.now _ _ _ _ c.in-Some.ensures.choice c.instances-k.ensures in
    let later = λ (next : State). steps_text d p x (rounds_line (rounds cs k)) (n + 1) next (drop (n + 1) cs) in
    let found = one_follows d p n c.in-Some.choice state _ (state_of c.write_step.new.runner)
    c.in_ok-write_step-in-Some.ensures.stepped c.in-Done.is c.write_step.ensures.state in
    let within = slice_get_within cs n c.in-Some.choice at in
    record {
      writing = rest_is _ _ _ _ (later (state_of c.write_step.new.runner)) (ap (following later) found)
          (step_written d p n c.in-Some.choice state later _ _ _ _ _ c.steps.invariant.writing
          (steps_next d p x (rounds_line (rounds cs k)) n c.in-Some.choice state cs at)
          c.in_ok-write_step-in-Some.ensures.whole);
      defined = c.steps.invariant.defined ∙ defined_next x n c.in-Some.choice state cs at
          ∙ ap (and_then_all (λ (next : State). all_defined x next (drop (n + 1) cs))) found;
      same = c.in_ok-write_step-in-Some.ensures.cause.same refl ∙ c.steps.invariant.same;
      program = c.write_step.ensures.program;
      slots = c.write_step.ensures.slots;
      instances = c.add.ensures.instances ∙ c.steps.invariant.instances;
      stands = subst (CountStandsFor c.add.new.self) (take_next cs n c.in-Some.choice at)
          (c.add.ensures.longer (take n cs) c.steps.invariant.stands);
      within = omega (arith, within);
    }

pub returns-in-None-clause-whole : goal.returns-in-None-clause-whole
returns-in-None-clause-whole g c =
    let p = c.args.p.now in
    let cs = choices_of (length p.statements) c.args.choices.now in
    let n = c.steps.number in
    let past = past_end cs n (there c.args.choices.now _ _ _ _ c.in-None.ensures.choice c.instances-k.ensures) in
    let number = rounds_are cs (length p.statements) n c.steps.count.instances c.rounds.result past (omega arith)
    c.steps.invariant.instances (c.rounds.ensures (take n cs) c.steps.invariant.stands) in
    end_written _ _ _ _ _ _ c.steps.invariant.writing (ends_next c.args.doc.now p cs n c.rounds.result
    (state_of c.steps.runner) past number) c.in_ok-write_rounds-in-None.ensures.whole

pub returns-in-None-clause-ending : goal.returns-in-None-clause-ending
returns-in-None-clause-ending g c =
    let n = c.steps.number in
    let cs = choices_of (length c.args.p.now.statements) c.args.choices.now in
    let ended = there c.args.choices.now _ _ _ _ c.in-None.ensures.choice c.instances-k.ensures in
    sym (ap ending (c.steps.invariant.defined
    ∙ ap (all_defined (core_system c.args.doc.now.slots c.args.p.now) (state_of c.steps.runner))
    (drop_past cs n (past_end cs n ended))))

pub returns-in_err-write_step-in-Some-clause-part : goal.returns-in_err-write_step-in-Some-clause-part
returns-in_err-write_step-in-Some-clause-part g c =
    let d = c.args.doc.now in
    let p = c.args.p.now in
    let cs = choices_of (length p.statements) c.args.choices.now in
    let n = c.steps.number in
    let state = state_of c.steps.runner in
    let at = there c.args.choices.now _ _ _ _ c.in-Some.ensures.choice c.instances-k.ensures in
    on_err c.from_residual.result _ (step_cut d p n c.in-Some.choice state _ _ _ _ _ _ c.steps.invariant.writing
    (steps_next d p (core_system d.slots p) (rounds_line (rounds cs (length p.statements))) n _ state cs at)
    c.in_err-write_step-in-Some.ensures.part)

pub returns-in_err-write_rounds-in-None-clause-part : goal.returns-in_err-write_rounds-in-None-clause-part
returns-in_err-write_rounds-in-None-clause-part g c =
    let p = c.args.p.now in
    let cs = choices_of (length p.statements) c.args.choices.now in
    let n = c.steps.number in
    let past = past_end cs n (there c.args.choices.now _ _ _ _ c.in-None.ensures.choice c.instances-k.ensures) in
    let number = rounds_are cs (length p.statements) n c.steps.count.instances c.rounds.result past (omega arith)
    c.steps.invariant.instances (c.rounds.ensures (take n cs) c.steps.invariant.stands) in
    on_err c.from_residual-in_err-write_rounds-in-None.result _ (end_cut _ _ _ _ _ _ c.steps.invariant.writing
    (ends_next c.args.doc.now p cs n c.rounds.result (state_of c.steps.runner) past number)
    c.in_err-write_rounds-in-None.ensures.part)
