use Rattle.std.proofs.Common.{[], refl}
use Rattle.event_checker.proofs.checker.Checker.new.Goals as goal

pub returns-clause-stands : goal.returns-clause-stands
returns-clause-stands c = record { obligation = refl; reading = c.in_ok-reading.ensures.stands }

pub returns-clause-ready : goal.returns-clause-ready
returns-clause-ready c = record {
  levels = c.args.levels;
  events = [];
  own = c.in_ok-reading.ensures.own;
  stands = record { obligation = refl; reading = c.in_ok-reading.ensures.stands };
}
