use Rattle.std.proofs.Common.{◌≡◌, ◌-◌, ◌≤◌, length, take, drop, IsTrue}
use Rattle.meaning_states.specs.State.{is_state}
use Rattle.core_terms.specs.Steps.{slot_ranges}
use Rattle.executor.specs.CoreSystem.{core_system}
use Rattle.fair_rounds.specs.Counts.{CountStandsFor}
use Rattle.executor.specs.Running.{program_of, slots_of, state_of}
use Rattle.schedule_replay.specs.Schedules.{turns}
use Rattle.run_traces.proofs.Writing.{IsWriting}
use Rattle.fixed_runs.specs.Traces.{fixed_defined}
use Rattle.fixed_runs.specs.Cores.{rest_text, core_fixed_text}
use Rattle.fixed_runs.proofs.traces.write_trace.Given as goal

abbrev pub invariant-steps : goal.invariant-steps
invariant-steps g l =
    let k = length l.p.statements in
    let x = core_system l.doc.slots l.p in
    let choices = turns k l.steps in
    record {
      writing : IsWriting (g.K.Sink.written l.fn.out) (g.K.Sink.written l.out)
          (core_fixed_text l.doc l.p (state_of l.fn.runner) choices)
          (rest_text l.doc l.p x l.number (state_of l.runner) (take l.number choices) (drop l.number choices));
      defined : fixed_defined x (state_of l.fn.runner) choices
          ≡ fixed_defined x (state_of l.runner) (drop l.number choices);
      inside : IsTrue (is_state (slot_ranges l.doc.slots) (state_of l.runner));
      same : g.K.Sink.faults l.out ≡ g.K.Sink.faults l.fn.out;
      program : program_of l.runner ≡ l.p;
      slots : slots_of l.runner ≡ l.doc.slots;
      instances : l.count.instances ≡ k;
      stands : CountStandsFor l.count (take l.number choices);
      within : l.number ≤ length choices;
    }

abbrev pub decreases-steps : goal.decreases-steps
decreases-steps g l = length (turns (length l.p.statements) l.steps) - l.number
