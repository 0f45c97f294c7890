use Rattle.std.proofs.Common.{◌≡◌, ◌-◌, ap, arith, drop}
use Rattle.schedule_replay.proofs.BufferLaws.{put_then, put_same}
use Rattle.told_obligations.specs.Listing.{obligations_from, own, told_in}
use Rattle.told_obligations.proofs.ListingLaws.{obligations_more, own_end, own_next, own_none}
use Rattle.told_obligations.proofs.listing.put_own.Goals as goal

pub loop-next-preserved : goal.loop-next-preserved
loop-next-preserved g c =
    let own_one = own_next c.args.step c.args.listing.now.owner.now c.loop-next.next 0 c.loop-next-test.true
    c.if-listing-next.true in
    record {
      few = omega (arith, c.loop-next.invariant.few);
      sum = omega (arith, c.loop-next.invariant.sum, own_one);
      put = put_same (obligations_more (told_in c.args.listing.now) c.args.made.now c.args.params.now c.args.first
          c.loop-next.next c.loop-next.invariant.few)
          (put_then c.loop-next.invariant.put c.put_obligation.ensures);
    }

pub returns-else-listing-next-clause-put : goal.returns-else-listing-next-clause-put
returns-else-listing-next-clause-put g c =
    let none = own_none c.args.step c.args.listing.now.owner.now c.loop-next.next 0 c.if-listing-next.false in
    let all : c.loop-next.next - c.args.first ≡ own c.args.step (drop c.args.first c.args.listing.now.owner.now) =
    omega (arith, c.loop-next.invariant.sum, c.loop-next.invariant.few, none) in
    put_same (ap (obligations_from (told_in c.args.listing.now) c.args.made.now c.args.params.now c.args.first) all)
    c.loop-next.invariant.put

pub returns-after-loop-next-clause-put : goal.returns-after-loop-next-clause-put
returns-after-loop-next-clause-put g c =
    let none = own_end c.args.step c.args.listing.now.owner.now c.loop-next.next c.loop-next-test.false in
    let all : c.loop-next.next - c.args.first ≡ own c.args.step (drop c.args.first c.args.listing.now.owner.now) =
    omega (arith, c.loop-next.invariant.sum, c.loop-next.invariant.few, none) in
    put_same (ap (obligations_from (told_in c.args.listing.now) c.args.made.now c.args.params.now c.args.first) all)
    c.loop-next.invariant.put
