use Rattle.std.proofs.Common.{◌+◌, ◌<◌, ◌++◌, ℕ, List, None, length, take, drop, refl, sym, ap, ◌∙◌, subst, arith}
use Rattle.std.specs.Io.KnownBytes.{Appends}
use Rattle.std.proofs.KnownBytes.{Appends-trans}
use Rattle.std.proofs.lemmas.Option.{slice_get_within}
use Rattle.unity_base.specs.Streams.{AppendsPart}
use Rattle.meaning_states.specs.State.{State}
use Rattle.fair_rounds.specs.Counts.{CountStandsFor}
use Rattle.executor.specs.CoreSystem.{core_system}
use Rattle.executor.specs.Running.{state_of}
use Rattle.schedule_replay.specs.Lines.{heading_line, state_line}
use Rattle.schedule_replay.specs.declared.heading.Heading.{Heading}
use Rattle.schedule_replay.specs.Schedules.{turns}
use Rattle.schedule_replay.proofs.BufferLaws.{on_err, part_front, part_after}
use Rattle.run_traces.specs.declared.choices.Choices.{Choices}
use Rattle.run_traces.specs.Traces.{following, and_then_all, ending}
use Rattle.run_traces.proofs.Writing.{rest_is}
use Rattle.run_traces.proofs.TraceLaws.{among, core_chosen, take_next, past_end, drop_past}
use Rattle.run_traces.proofs.TraceSteps.{there, none_follows, one_follows, step_written, step_ended, step_cut}
use Rattle.run_traces.proofs.TraceSteps.{end_written, end_cut}
use Rattle.fixed_runs.specs.Traces.{fixed_defined}
use Rattle.fixed_runs.specs.Cores.{rest_text, core_fixed_steps}
use Rattle.fixed_runs.proofs.RestLaws.{rest_begin, rest_step, defined_fixed, defined_ended, defined_step, chosen_keeps}
use Rattle.fixed_runs.proofs.RestLaws.{fixed_end, last_end, rounds_made}
use Rattle.fixed_runs.proofs.traces.write_trace.Goals as goal

pub returns-in_err-write_heading-clause-part : goal.returns-in_err-write_heading-clause-part
returns-in_err-write_heading-clause-part g c =
    let d = c.args.doc.now in
    let p = c.args.p.now in
    let start = state_of c.args.runner.now in
    let first = heading_line d p Heading.Run in
    let second = state_line d p 0 None start in
    let rest = core_fixed_steps d p start (turns (length p.statements) c.args.steps) in
    let old = g.K.Sink.written c.args.out.now in
    let new = g.K.Sink.written c.write_heading.new.out in
    on_err c.from_residual.result _
    (part_front old new (first ++ second) rest (part_front old new first second c.in_err-write_heading.ensures.part))

pub returns-in_err-write_line-clause-part : goal.returns-in_err-write_line-clause-part
returns-in_err-write_line-clause-part g c =
    let d = c.args.doc.now in
    let p = c.args.p.now in
    let cs = turns (length p.statements) c.args.steps in
    let start = state_of c.args.runner.now in
    let first = heading_line d p Heading.Run in
    let second = state_line d p 0 None start in
    let rest = core_fixed_steps d p start cs in
    let old = g.K.Sink.written c.args.out.now in
    let new = g.K.Sink.written c.write_line.new.out in
    on_err c.from_residual-in_err-write_line.result _
    (part_front old new (first ++ second) rest
    (part_after old _ new first second c.in_ok-write_heading.ensures.whole
    (subst (λ s. AppendsPart (g.K.Sink.written c.write_heading.new.out) new (state_line d p 0 None s)) c.state.ensures
    c.in_err-write_line.ensures.part)))

pub steps-init : goal.steps-init
steps-init g c =
    let d = c.args.doc.now in
    let p = c.args.p.now in
    let x = core_system d.slots p in
    let start = state_of c.args.runner.now in
    let cs = turns (length p.statements) c.args.steps in
    let first = heading_line d p Heading.Run in
    let second = state_line d p 0 None start in
    let old = g.K.Sink.written c.args.out.now in
    let mid = g.K.Sink.written c.write_heading.new.out in
    let new = g.K.Sink.written c.write_line.new.out in
    record {
      writing = record {
        front = first ++ second;
        appended = Appends-trans old mid new first second c.in_ok-write_heading.ensures.whole
            (subst (λ s. Appends mid new (state_line d p 0 None s)) c.state.ensures c.in_ok-write_line.ensures.whole);
        whole = ap (λ (rest : List ℕ). first ++ second ++ rest) (sym (rest_begin d p x start cs));
      };
      defined = refl;
      inside = c.requires.is_state;
      same = c.in_ok-write_line.ensures.cause.same refl ∙ c.in_ok-write_heading.ensures.cause.same refl;
      program = c.requires.program;
      slots = c.requires.slots;
      instances = c.new-count.ensures.instances ∙ c.instances-k.ensures;
      stands = c.new-count.ensures.empty;
      within = omega arith;
    }

pub write_step-requires-clause-choice : goal.write_step-requires-clause-choice
write_step-requires-clause-choice g c =
    among _ (Choices.Turns c.args.steps) c.steps.number _ c.requires.is_program.some tt
    (there (Choices.Turns c.args.steps) _ _ _ _ c.in-Some.ensures.choice c.instances-k.ensures)

pub returns-then-is_at_rest-clause-whole : goal.returns-then-is_at_rest-clause-whole
returns-then-is_at_rest-clause-whole g c =
    let p = c.args.p.now in
    let cs = turns (length p.statements) c.args.steps in
    let n = c.steps.number in
    let number = rounds_made cs (length p.statements) n c.steps.count.instances c.rounds.result (omega arith)
    c.steps.invariant.instances (c.rounds.ensures (take n cs) c.steps.invariant.stands) in
    end_written _ _ _ _ _ _ c.steps.invariant.writing (fixed_end c.args.doc.now p cs n c.rounds.result
    (state_of c.steps.runner) (sym c.if-is_at_rest.ensures) number) c.in_ok-write_end.ensures.whole

pub returns-then-is_at_rest-clause-ending : goal.returns-then-is_at_rest-clause-ending
returns-then-is_at_rest-clause-ending g c =
    let p = c.args.p.now in
    sym (ap ending (c.steps.invariant.defined ∙ defined_fixed (core_system c.args.doc.now.slots p)
    (state_of c.steps.runner) (drop c.steps.number (turns (length p.statements) c.args.steps))
    (sym c.if-is_at_rest.ensures)))

pub returns-in_err-write_end-clause-part : goal.returns-in_err-write_end-clause-part
returns-in_err-write_end-clause-part g c =
    let p = c.args.p.now in
    let cs = turns (length p.statements) c.args.steps in
    let n = c.steps.number in
    let number = rounds_made cs (length p.statements) n c.steps.count.instances c.rounds.result (omega arith)
    c.steps.invariant.instances (c.rounds.ensures (take n cs) c.steps.invariant.stands) in
    on_err c.from_residual-in_err-write_end.result _ (end_cut _ _ _ _ _ _ c.steps.invariant.writing
    (fixed_end c.args.doc.now p cs n c.rounds.result (state_of c.steps.runner) (sym c.if-is_at_rest.ensures) number)
    c.in_err-write_end.ensures.part)

pub returns-in-Undefined-clause-whole : goal.returns-in-Undefined-clause-whole
returns-in-Undefined-clause-whole g c =
    let d = c.args.doc.now in
    let p = c.args.p.now in
    let n = c.steps.number in
    let state = state_of c.steps.runner in
    let at = there (Choices.Turns c.args.steps) _ _ _ _ c.in-Some.ensures.choice c.instances-k.ensures in
    step_ended d p n c.in-Some.choice state _ _ _ _ _ _ c.steps.invariant.writing (rest_step d p
    (core_system d.slots p) n c.in-Some.choice state (turns (length p.statements) c.args.steps) at
    (sym c.if-is_at_rest.ensures))
    c.in_ok-write_step.ensures.whole _ c.in_ok-write_step.ensures.stepped c.in-Undefined.is

pub returns-in-Undefined-clause-ending : goal.returns-in-Undefined-clause-ending
returns-in-Undefined-clause-ending g c =
    let d = c.args.doc.now in
    let p = c.args.p.now in
    let x = core_system d.slots p in
    let cs = turns (length p.statements) c.args.steps in
    let n = c.steps.number in
    let at = there (Choices.Turns c.args.steps) _ _ _ _ c.in-Some.ensures.choice c.instances-k.ensures in
    sym (ap ending (c.steps.invariant.defined
    ∙ defined_step x n c.in-Some.choice (state_of c.steps.runner) cs at (sym c.if-is_at_rest.ensures)
    ∙ ap (and_then_all (λ (next : State). fixed_defined x next (drop (n + 1) cs))) (none_follows d p n
    c.in-Some.choice (state_of c.steps.runner) _ c.in_ok-write_step.ensures.stepped c.in-Undefined.is)))

pub add-requires : goal.add-requires
add-requires g c =
    subst (λ i. c.in-Some.choice < i) (sym c.steps.invariant.instances)
    (among _ (Choices.Turns c.args.steps) c.steps.number _ c.requires.is_program.some tt
    (there (Choices.Turns c.args.steps) _ _ _ _ c.in-Some.ensures.choice c.instances-k.ensures))

pub steps-smaller : goal.steps-smaller
steps-smaller g c =
    let within = slice_get_within _ c.steps.number _
    (there (Choices.Turns c.args.steps) _ _ _ _ c.in-Some.ensures.choice c.instances-k.ensures) in
    omega (arith, within)

pub steps-preserved : goal.steps-preserved
steps-preserved g c =
    let d = c.args.doc.now in
    let p = c.args.p.now in
    let x = core_system d.slots p in
    let cs = turns (length p.statements) c.args.steps in
    let n = c.steps.number in
    let i = c.in-Some.choice in
    let state = state_of c.steps.runner in
    let next = state_of c.write_step.new.runner in
    let at = there (Choices.Turns c.args.steps) _ _ _ _ c.in-Some.ensures.choice c.instances-k.ensures in
    let moves = sym c.if-is_at_rest.ensures in
    let later = λ (s : State). rest_text d p x (n + 1) s (take (n + 1) cs) (drop (n + 1) cs) in
    let found = one_follows d p n i state _ next c.in_ok-write_step.ensures.stepped c.in-Done.is
    c.write_step.ensures.state in
    let within = slice_get_within cs n i at in
    record {
      writing = rest_is _ _ _ _ (later next) (ap (following later) found)
          (step_written d p n i state later _ _ _ _ _ c.steps.invariant.writing
          (rest_step d p x n i state cs at moves) c.in_ok-write_step.ensures.whole);
      defined = c.steps.invariant.defined ∙ defined_step x n i state cs at moves
          ∙ ap (and_then_all (λ (s : State). fixed_defined x s (drop (n + 1) cs))) found;
      inside = chosen_keeps d.slots p i state next c.steps.invariant.inside
          (core_chosen d.slots p i state ∙ found);
      same = c.in_ok-write_step.ensures.cause.same refl ∙ c.steps.invariant.same;
      program = c.write_step.ensures.program;
      slots = c.write_step.ensures.slots;
      instances = c.add.ensures.instances ∙ c.steps.invariant.instances;
      stands = subst (CountStandsFor c.add.new.self) (take_next cs n i at)
          (c.add.ensures.longer (take n cs) c.steps.invariant.stands);
      within = omega (arith, within);
    }

pub returns-in_err-write_step-clause-part : goal.returns-in_err-write_step-clause-part
returns-in_err-write_step-clause-part g c =
    let d = c.args.doc.now in
    let p = c.args.p.now in
    let n = c.steps.number in
    let state = state_of c.steps.runner in
    let at = there (Choices.Turns c.args.steps) _ _ _ _ c.in-Some.ensures.choice c.instances-k.ensures in
    on_err c.from_residual-in_err-write_step.result _ (step_cut d p n c.in-Some.choice state _ _ _ _ _ _
    c.steps.invariant.writing (rest_step d p (core_system d.slots p) n c.in-Some.choice state
    (turns (length p.statements) c.args.steps) at (sym c.if-is_at_rest.ensures))
    c.in_err-write_step.ensures.part)

pub returns-in_default-clause-whole : goal.returns-in_default-clause-whole
returns-in_default-clause-whole g c =
    let p = c.args.p.now in
    let cs = turns (length p.statements) c.args.steps in
    let n = c.steps.number in
    let past = past_end cs n
    (there (Choices.Turns c.args.steps) _ _ _ _ c.in_default.ensures.choice c.instances-k.ensures) in
    let number = rounds_made cs (length p.statements) n c.steps.count.instances c.rounds-in_default.result (omega arith)
    c.steps.invariant.instances (c.rounds-in_default.ensures (take n cs) c.steps.invariant.stands) in
    end_written _ _ _ _ _ _ c.steps.invariant.writing (last_end c.args.doc.now p cs n c.rounds-in_default.result
    (state_of c.steps.runner) (sym c.if-is_at_rest.ensures) past number) c.in_ok-write_rounds.ensures.whole

pub returns-in_default-clause-ending : goal.returns-in_default-clause-ending
returns-in_default-clause-ending g c =
    let n = c.steps.number in
    let cs = turns (length c.args.p.now.statements) c.args.steps in
    let ended = there (Choices.Turns c.args.steps) _ _ _ _ c.in_default.ensures.choice c.instances-k.ensures in
    sym (ap ending (c.steps.invariant.defined
    ∙ defined_ended (core_system c.args.doc.now.slots c.args.p.now) (state_of c.steps.runner) (drop n cs)
    (sym c.if-is_at_rest.ensures) (drop_past cs n (past_end cs n ended))))

pub returns-in_err-write_rounds-clause-part : goal.returns-in_err-write_rounds-clause-part
returns-in_err-write_rounds-clause-part g c =
    let p = c.args.p.now in
    let cs = turns (length p.statements) c.args.steps in
    let n = c.steps.number in
    let past = past_end cs n
    (there (Choices.Turns c.args.steps) _ _ _ _ c.in_default.ensures.choice c.instances-k.ensures) in
    let number = rounds_made cs (length p.statements) n c.steps.count.instances c.rounds-in_default.result (omega arith)
    c.steps.invariant.instances (c.rounds-in_default.ensures (take n cs) c.steps.invariant.stands) in
    on_err c.from_residual-in_err-write_rounds.result _ (end_cut _ _ _ _ _ _ c.steps.invariant.writing
    (last_end c.args.doc.now p cs n c.rounds-in_default.result (state_of c.steps.runner) (sym c.if-is_at_rest.ensures)
    past number) c.in_err-write_rounds.ensures.part)
