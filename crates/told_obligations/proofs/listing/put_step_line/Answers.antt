use Rattle.std.proofs.Common.{ℕ, List, ◌++◌, codes, decimal, ap, ◌∙◌, unwrap_or, slice_get}
use Rattle.cli_texts.specs.Verdicts.{kind_text}
use Rattle.schedule_replay.proofs.BufferLaws.{put_then, put_same}
use Rattle.told_obligations.specs.Listing.{name_text}
use Rattle.told_obligations.proofs.listing.put_step_line.Goals as goal

pub returns : goal.returns
returns g c =
    let line : ℕ → ℕ → List ℕ = λ place number.
    codes "; step " ++ name_text c.args.listing.now.words.now c.args.made.now ++ codes " byte " ++ decimal place
    ++ codes " line " ++ decimal number ++ kind_text c.args.made.now.kind c.args.made.now.bound in
    put_same (ap (λ place. line place c.number_at-2.result) c.number_at.ensures
    ∙ ap (line (unwrap_or (slice_get c.args.listing.now.places.now c.args.number) 0)) c.number_at-2.ensures)
    (put_then (put_then (put_then (put_then (put_then (put_then c.put.ensures c.put_name.ensures) c.put-2.ensures)
    c.put_number.ensures) c.put-3.ensures) c.put_number-2.ensures) c.put_kind.ensures)
