use Rattle.std.proofs.Common.{◌≡◌, Some, sym, ap, ◌∙◌, rules, to_z, of_z}
use Rattle.std.specs.Int.{w64}
use Rattle.schedule_replay.specs.Lines.{index_text}
use Rattle.schedule_replay.proofs.BufferLaws.{put_then, put_same}
use Rattle.schedule_replay.proofs.pieces.put_index.Goals as goal

pub returns-in-Some : goal.returns-in-Some
returns-in-Some g c =
    let number : to_z w64 (of_z w64 c.in-Some.index) ≡ c.in-Some.index = search rules in
    put_same (ap (λ z. index_text (Some z)) number ∙ ap index_text (sym c.in-Some.is))
    (put_then (put_then c.put.ensures c.put_signed.ensures) c.put-in-Some.ensures)
