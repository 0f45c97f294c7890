use Rattle.schedule_replay.proofs.BufferLaws.{put_then}
use Rattle.told_obligations.specs.Listing.{told_in}
use Rattle.told_obligations.proofs.ListingLaws.{known_at, none_at, told_one, told_unknown}
use Rattle.told_obligations.proofs.listing.put_step.Goals as goal

pub returns-in-Some : goal.returns-in-Some
returns-in-Some g c =
    told_one (told_in c.args.listing.now) c.args.at c.args.step.now c.in-Some.made.now c.as_slice-params.result.now
    c.put_own-next.result (known_at c.args.listing.now.records.now c.args.at.step c.in-Some.made.now
    c.in-Some.ensures.lookup.0 c.in-Some.ensures.lookup.1) c.as_slice-params.ensures c.put_own-next.ensures.next
    (put_then c.put_step_line.ensures c.put_own-next.ensures.put)

pub returns-in-None : goal.returns-in-None
returns-in-None g c =
    told_unknown (told_in c.args.listing.now) c.args.at c.args.step.now (g.K.Sink.written c.args.out.now)
    (g.K.Sink.faults c.args.out.now) c.args.text.now
    (none_at c.args.listing.now.records.now c.args.at.step c.in-None.ensures.lookup.0)
