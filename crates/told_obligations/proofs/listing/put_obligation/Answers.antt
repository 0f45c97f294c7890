use Rattle.std.proofs.Common.{[], sym, ap}
use Rattle.std.specs.Option.{option_map_or}
use Rattle.schedule_replay.proofs.BufferLaws.{put_nothing, put_same}
use Rattle.told_obligations.specs.Listing.{known_text, told_in}
use Rattle.told_obligations.proofs.ListingLaws.{known_at, none_at}
use Rattle.told_obligations.proofs.listing.put_obligation.Goals as goal

pub returns-in-Some : goal.returns-in-Some
returns-in-Some g c =
    put_same (ap (λ o. option_map_or (known_text (told_in c.args.listing.now) c.args.made.now c.args.params.now
    c.args.number) o []) (sym (known_at c.args.listing.now.obligations.now c.args.number c.in-Some.obligation.now
    c.in-Some.ensures.lookup.0 c.in-Some.ensures.lookup.1))) c.put_known.ensures

pub returns-in-None : goal.returns-in-None
returns-in-None g c =
    put_same (ap (λ o. option_map_or (known_text (told_in c.args.listing.now) c.args.made.now c.args.params.now
    c.args.number) o []) (sym (none_at c.args.listing.now.obligations.now c.args.number c.in-None.ensures.lookup.0)))
    (put_nothing (g.K.Sink.written c.args.out.now) (g.K.Sink.faults c.args.out.now) c.args.text.now)
