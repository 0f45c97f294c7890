use Rattle.std.proofs.Common.{[], sym, ap, ◌∙◌, unwrap_or}
use Rattle.schedule_replay.proofs.BufferLaws.{put_same}
use Rattle.told_obligations.proofs.listing.put_kind_name.Goals as goal

pub returns : goal.returns
returns g c =
    put_same (c.as_bytes.ensures.value ∙ sym (ap (λ o. unwrap_or o []) c.name.ensures)) c.put.ensures
