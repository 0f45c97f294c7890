use Rattle.std.proofs.Common.{◌<◌, ℕ, List, All, length, sym, subst}
use Rattle.watch_schedules.proofs.ScheduleLaws.{scheduled_is, violated_case}
use Rattle.watch_schedules.proofs.telling.ending_text.Goals as goal

pub violated_text-requires : goal.violated_text-requires
violated_text-requires c =
    violated_case c.args.doc.now c.args.watched.now c.requires.watched c.in-Violated.place c.in-Violated.violation
    c.in-Violated.is

pub watched_text-requires-clause-some : goal.watched_text-requires-clause-some
watched_text-requires-clause-some c =
    (scheduled_is c.args.doc.now c.args.watched.now.program.now c.requires.document
    c.requires.watched.scheduled.program).some

pub watched_text-requires-clause-few : goal.watched_text-requires-clause-few
watched_text-requires-clause-few c =
    (scheduled_is c.args.doc.now c.args.watched.now.program.now c.requires.document
    c.requires.watched.scheduled.program).few

pub watched_text-requires-clause-instances : goal.watched_text-requires-clause-instances
watched_text-requires-clause-instances c =
    subst (λ (choices : List ℕ). All (λ choice. choice < length c.args.watched.now.program.now.statements) choices)
    (sym c.as_slice-in-Unviolated.ensures) c.requires.watched.scheduled.instances
