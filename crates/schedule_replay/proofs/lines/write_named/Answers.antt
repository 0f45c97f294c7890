use Rattle.std.proofs.Common.{◌++◌, codes, ap}
use Rattle.schedule_replay.specs.Lines.{word_text}
use Rattle.schedule_replay.proofs.BufferLaws.{put_then, put_same, line_whole, line_part, line_cause}
use Rattle.schedule_replay.proofs.lines.write_named.Goals as goal

pub returns-clause-whole : goal.returns-clause-whole
returns-clause-whole g c =
    line_whole (g.K.Sink.written c.finish.new.out) c.finish.result c.new-text.ensures
    (put_same (ap (λ words. c.args.word.now ++ word_text words c.args.p.now.name ++ codes "\n") c.as_slice.ensures)
    (put_then (put_then c.put.ensures c.put_word.ensures) c.put-2.ensures))
    c.finish.ensures.whole

pub returns-clause-part : goal.returns-clause-part
returns-clause-part g c =
    line_part (g.K.Sink.written c.finish.new.out) c.finish.result c.new-text.ensures
    (put_same (ap (λ words. c.args.word.now ++ word_text words c.args.p.now.name ++ codes "\n") c.as_slice.ensures)
    (put_then (put_then c.put.ensures c.put_word.ensures) c.put-2.ensures))
    c.finish.ensures.part

pub returns-clause-cause : goal.returns-clause-cause
returns-clause-cause g c =
    line_cause c.finish.result c.new-text.ensures
    (put_same (ap (λ words. c.args.word.now ++ word_text words c.args.p.now.name ++ codes "\n") c.as_slice.ensures)
    (put_then (put_then c.put.ensures c.put_word.ensures) c.put-2.ensures))
    c.finish.ensures.cause
