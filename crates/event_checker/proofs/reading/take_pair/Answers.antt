use Rattle.std.proofs.Common.{sym, ap, ◌∙◌}
use Rattle.certificate_machine.specs.Sums.{sum_line}
use Rattle.event_checker.specs.Events.{paired}
use Rattle.event_checker.specs.Readings.{pair_makes}
use Rattle.event_checker.proofs.PairLaws.{pair-goes, pair-fails}
use Rattle.event_checker.proofs.StepLaws.{stands-failed}
use Rattle.event_checker.proofs.reading.take_pair.Goals as goal

pub returns-in-Ok : goal.returns-in-Ok
returns-in-Ok c = λ vs root ns s.
    let r = c.args.reading.now in
    pair-goes vs root r _ ns c.args.pair
    (ap (λ fs. pair_makes r.state fs c.args.pair (sum_line r.sum)) (sym c.as_slice.ensures) ∙ c.in-Ok.ensures) s

pub returns-in-Err : goal.returns-in-Err
returns-in-Err c = λ vs root ns s.
    let r = c.args.reading.now in
    stands-failed vs root c.fail.new.reading (paired ns c.args.pair) c.in-Err.code r.node c.fail.ensures
    (pair-fails vs root r ns c.args.pair c.in-Err.code
    (ap (λ fs. pair_makes r.state fs c.args.pair (sum_line r.sum)) (sym c.as_slice.ensures) ∙ c.in-Err.ensures) s)
