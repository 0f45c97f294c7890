use Rattle.std.proofs.Common.{sym}
use Rattle.run_traces.proofs.AnswerLaws.{choices_among}
use Rattle.run_traces.proofs.FindingLaws.{no_schedule}
use Rattle.watch_schedules.proofs.watching.watch_schedule.Goals as goal

pub watch_program-requires-clause-scheduled : goal.watch_program-requires-clause-scheduled
watch_program-requires-clause-scheduled c = record {
  program = sym c.in-Some.ensures;
  choices_are = c.in_ok-choices.ensures.places;
  instances = choices_among c.args.doc.now c.in-Some.program.now c.in_ok-choices.choices (sym c.in-Some.ensures)
      c.in_ok-choices.ensures.instances;
}

pub returns-in-None : goal.returns-in-None
returns-in-None c = no_schedule c.args.doc.now c.requires (sym c.in-None.ensures)
