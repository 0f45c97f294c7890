use Rattle.std.proofs.Common.{sym, ap}
use Rattle.schedule_replay.proofs.BufferLaws.{put_then, put_same}
use Rattle.told_obligations.specs.Listing.{kept_text}
use Rattle.told_obligations.proofs.listing.put_kept.Goals as goal

pub returns-in-None : goal.returns-in-None
returns-in-None g c = put_same (ap (kept_text c.args.words.now) (sym c.in-None.is)) c.put.ensures

pub returns-in-Some : goal.returns-in-Some
returns-in-Some g c =
    put_same (ap (kept_text c.args.words.now) (sym c.in-Some.is)) (put_then c.put_word.ensures c.put-in-Some.ensures)
