use Rattle.std.proofs.Common.{◌≡◌, ◌-◌, ◌≤◌, length, take, drop}
use Rattle.meaning_executions.specs.Rounds.{rounds}
use Rattle.executor.specs.CoreSystem.{core_system}
use Rattle.fair_rounds.specs.Counts.{CountStandsFor}
use Rattle.executor.specs.Running.{program_of, slots_of, state_of}
use Rattle.schedule_replay.specs.Lines.{rounds_line}
use Rattle.run_traces.specs.Choices.{choices_of}
use Rattle.run_traces.specs.Traces.{steps_text, all_defined}
use Rattle.run_traces.proofs.Writing.{IsWriting}
use Rattle.run_traces.proofs.traces.write_steps.Given as goal

abbrev pub invariant-steps : goal.invariant-steps
invariant-steps g l =
    let k = length l.p.statements in
    let x = core_system l.doc.slots l.p in
    let choices = choices_of k l.choices in
    let last = rounds_line (rounds choices k) in
    record {
      writing : IsWriting (g.K.Sink.written l.initial.out) (g.K.Sink.written l.out)
          (steps_text l.doc l.p x last 0 (state_of l.initial.runner) choices)
          (steps_text l.doc l.p x last l.number (state_of l.runner) (drop l.number choices));
      defined : all_defined x (state_of l.initial.runner) choices
          ≡ all_defined x (state_of l.runner) (drop l.number choices);
      same : g.K.Sink.faults l.out ≡ g.K.Sink.faults l.initial.out;
      program : program_of l.runner ≡ l.p;
      slots : slots_of l.runner ≡ l.doc.slots;
      instances : l.count.instances ≡ k;
      stands : CountStandsFor l.count (take l.number choices);
      within : l.number ≤ length choices;
    }

abbrev pub decreases-steps : goal.decreases-steps
decreases-steps g l = length (choices_of (length l.p.statements) l.choices) - l.number
