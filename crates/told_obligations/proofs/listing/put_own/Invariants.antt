use Rattle.std.proofs.Common.{◌≡◌, ◌+◌, ◌-◌, ◌≤◌, drop, length}
use Rattle.schedule_replay.specs.Buffered.{IsPut}
use Rattle.told_obligations.specs.Listing.{told_in, own, obligations_from}
use Rattle.told_obligations.proofs.listing.put_own.Given as goal

abbrev pub invariant-loop-next : goal.invariant-loop-next
invariant-loop-next g l = record {
  few : l.first ≤ l.next;
  sum : l.next + own l.step (drop l.next l.listing.owner.now)
      ≡ l.first + own l.step (drop l.first l.listing.owner.now);
  put : IsPut (g.K.Sink.written l.initial.out) (g.K.Sink.written l.out) (g.K.Sink.faults l.initial.out)
      (g.K.Sink.faults l.out) l.initial.text l.text
      (obligations_from (told_in l.listing) l.made l.params l.first (l.next - l.first));
}

abbrev pub decreases-loop-next : goal.decreases-loop-next
decreases-loop-next g l = length l.listing.owner.now - l.next
