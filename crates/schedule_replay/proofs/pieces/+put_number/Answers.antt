use Rattle.std.proofs.Common.{sym, arith}
use Rattle.std.proofs.lemmas.Fmt.{decimal_digit, decimal_step}
use Rattle.schedule_replay.proofs.BufferLaws.{put_then, put_same}
use Rattle.schedule_replay.proofs.pieces.+put_number.Goals as goal

pub returns-then-number-lt10 : goal.returns-then-number-lt10
returns-then-number-lt10 g t c = put_same (sym (decimal_digit c.args.number (omega arith))) c.put.ensures

pub returns-else-number-lt10 : goal.returns-else-number-lt10
returns-else-number-lt10 g t c =
    put_same (sym (decimal_step c.args.number (omega arith) (omega arith)))
    (put_then c.put_number.ensures c.put-else-number-lt10.ensures)
