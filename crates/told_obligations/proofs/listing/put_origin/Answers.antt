use Rattle.std.proofs.Common.{sym, ap}
use Rattle.schedule_replay.proofs.BufferLaws.{put_same}
use Rattle.told_obligations.specs.Listing.{origin_text}
use Rattle.told_obligations.proofs.listing.put_origin.Goals as goal

pub returns-in-Meant : goal.returns-in-Meant
returns-in-Meant g c = put_same (ap (origin_text c.args.words.now) (sym c.in-Meant.is)) c.put-in-Meant.ensures

pub returns-in-Given : goal.returns-in-Given
returns-in-Given g c = put_same (ap (origin_text c.args.words.now) (sym c.in-Given.is)) c.put-in-Given.ensures

pub returns-in-Measure : goal.returns-in-Measure
returns-in-Measure g c = put_same (ap (origin_text c.args.words.now) (sym c.in-Measure.is)) c.put-in-Measure.ensures
