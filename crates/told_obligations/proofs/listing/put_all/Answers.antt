use Rattle.schedule_replay.proofs.BufferLaws.{put_then}
use Rattle.told_obligations.specs.Listing.{all_steps}
use Rattle.told_obligations.proofs.ListingLaws.{told_all}
use Rattle.told_obligations.proofs.listing.put_all.Goals as goal

pub returns : goal.returns
returns g c =
    put_then c.put_first.ensures (told_all _ (all_steps c.args.listing.now.proofs.now) c.put_proofs.ensures)
