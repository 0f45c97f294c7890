use Rattle.std.proofs.Common.{List, ℕ, IfOk, arith, subst}
use Rattle.unity_cli.specs.Admitted.{greatest_size}
use Rattle.unity_cli.specs.Answering.{IsStoppedFor}
use Rattle.unity_cli.proofs.Told.{sound_core}
use Rattle.unity_cli.proofs.Watched.{found_watched, stopped_watched}
use Rattle.unity_cli.proofs.watch.watch_document.Goals as goal

pub watch_schedule-requires : goal.watch_schedule-requires
watch_schedule-requires c = sound_core greatest_size (omega arith) c.args.reading.now c.requires

pub ending_text-requires-clause-document : goal.ending_text-requires-clause-document
ending_text-requires-clause-document c = sound_core greatest_size (omega arith) c.args.reading.now c.requires

pub returns-in_ok-ending_text-in-Ok : goal.returns-in_ok-ending_text-in-Ok
returns-in_ok-ending_text-in-Ok c =
    found_watched c.args.reading.now c.in-Ok.found c.in-Ok.ensures c.status_of.result
    c.in_ok-ending_text-in-Ok.field-0.items c.status_of.ensures c.in_ok-ending_text-in-Ok.ensures

pub returns-in-Err : goal.returns-in-Err
returns-in-Err c =
    stopped_watched c.args.reading.now c.in-Err.stop c.in-Err.ensures c.stopped.result
    (subst (λ (words : List (List ℕ)). IfOk c.stopped.result (IsStoppedFor words c.in-Err.stop)) c.as_slice.ensures
    c.stopped.ensures)
