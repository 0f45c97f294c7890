use Rattle.std.proofs.Common.{◌++◌, codes, decimal, ap}
use Rattle.std.specs.List.{flat_map}
use Rattle.schedule_replay.specs.Lines.{choice_text, slot_text}
use Rattle.schedule_replay.proofs.BufferLaws.{put_then, put_same, line_whole, line_part, line_cause}
use Rattle.schedule_replay.proofs.lines.write_line.Goals as goal

pub returns-clause-whole : goal.returns-clause-whole
returns-clause-whole g c =
    line_whole (g.K.Sink.written c.finish.new.out) c.finish.result c.new-text.ensures
    (put_same (ap (λ shown. decimal c.args.number ++ choice_text c.args.doc.now c.args.p.now c.args.choice
    ++ flat_map (slot_text c.args.doc.now c.args.state.now) shown ++ codes "\n") c.as_slice.ensures)
    (put_then (put_then (put_then c.put_number.ensures c.put_choice.ensures) c.put_slots.ensures) c.put.ensures))
    c.finish.ensures.whole

pub returns-clause-part : goal.returns-clause-part
returns-clause-part g c =
    line_part (g.K.Sink.written c.finish.new.out) c.finish.result c.new-text.ensures
    (put_same (ap (λ shown. decimal c.args.number ++ choice_text c.args.doc.now c.args.p.now c.args.choice
    ++ flat_map (slot_text c.args.doc.now c.args.state.now) shown ++ codes "\n") c.as_slice.ensures)
    (put_then (put_then (put_then c.put_number.ensures c.put_choice.ensures) c.put_slots.ensures) c.put.ensures))
    c.finish.ensures.part

pub returns-clause-cause : goal.returns-clause-cause
returns-clause-cause g c =
    line_cause c.finish.result c.new-text.ensures
    (put_same (ap (λ shown. decimal c.args.number ++ choice_text c.args.doc.now c.args.p.now c.args.choice
    ++ flat_map (slot_text c.args.doc.now c.args.state.now) shown ++ codes "\n") c.as_slice.ensures)
    (put_then (put_then (put_then c.put_number.ensures c.put_choice.ensures) c.put_slots.ensures) c.put.ensures))
    c.finish.ensures.cause
