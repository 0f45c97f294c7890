use Rattle.std.proofs.Common.{sym, ap}
use Rattle.schedule_replay.specs.Lines.{choice_text}
use Rattle.schedule_replay.proofs.BufferLaws.{put_then, put_same}
use Rattle.schedule_replay.proofs.pieces.put_choice.Goals as goal

pub returns-in-Some : goal.returns-in-Some
returns-in-Some g c =
    put_same (ap (choice_text c.args.doc.now c.args.p.now) (sym c.in-Some.is))
    (put_then c.put.ensures c.put_chosen.ensures)
