use Rattle.std.proofs.Common.{ap}
use Rattle.told_obligations.specs.Listing.{obligations_text, told_in}
use Rattle.unity_cli.proofs.Listed.{listed_part, listed_whole, plan_listed}
use Rattle.unity_cli.proofs.listing.list_found.Goals as goal

pub returns-in-Ok-clause-told : goal.returns-in-Ok-clause-told
returns-in-Ok-clause-told g c =
    listed_whole c.args.bytes.now _ _ (obligations_text (told_in c.new-listing.result))
    (plan_listed c.args.bytes.now c.args.reading.now c.args.plan.now c.args.origins.now c.as_slice-places.result.now
    c.args.lines.now (obligations_text (told_in c.new-listing.result)) c.requires.reading c.requires.planned
    c.requires.origins c.as_slice-places.ensures c.requires.lines (ap obligations_text c.new-listing.ensures))
    c.in-Ok.ensures.whole

pub returns-in-Err-clause-told : goal.returns-in-Err-clause-told
returns-in-Err-clause-told g c =
    listed_part c.args.bytes.now _ _ (obligations_text (told_in c.new-listing.result))
    (plan_listed c.args.bytes.now c.args.reading.now c.args.plan.now c.args.origins.now c.as_slice-places.result.now
    c.args.lines.now (obligations_text (told_in c.new-listing.result)) c.requires.reading c.requires.planned
    c.requires.origins c.as_slice-places.ensures c.requires.lines (ap obligations_text c.new-listing.ensures))
    c.in-Err.ensures.part
