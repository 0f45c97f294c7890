use Rattle.std.proofs.Common.{◌≡◌, Ok, OnOk, IfErr, to_z, of_z, w64, sym, subst, arith}
use Rattle.std.proofs.lemmas.Int.{to_z-of_z}
use Rattle.certificate_rules.specs.Refutation.{made_round}
use Rattle.certificate_machine.specs.Machines.{Goes, GoesErr}
use Rattle.certificate_machine.specs.Sums.{sum_line}
use Rattle.event_checker.specs.Readings.{NodeFinishes, FinishFails}
use Rattle.event_checker.proofs.reading.finish_open.Goals as goal

pub returns-in-Round-clause-ok : goal.returns-in-Round-clause-ok
returns-in-Round-clause-ok c =
    let m = c.args.machine.now in
    let same : to_z w64 (of_z w64 c.in-Round.d) ≡ c.in-Round.d = grind (arith, to_z-of_z) in
    subst (λ st. OnOk c.round.result (NodeFinishes c.args.vs.now st (sum_line c.args.sum.now) m c.round.new.machine))
    (sym c.in-Round.is)
    (subst (λ z. OnOk c.round.result
    (Goes c.args.vs.now m (made_round m.branch z (Ok (sum_line c.args.sum.now)))
    c.round.new.machine)) same c.round.ensures.ok)

pub returns-in-Round-clause-err : goal.returns-in-Round-clause-err
returns-in-Round-clause-err c =
    let m = c.args.machine.now in
    let same : to_z w64 (of_z w64 c.in-Round.d) ≡ c.in-Round.d = grind (arith, to_z-of_z) in
    subst (λ st. IfErr c.round.result (FinishFails c.args.vs.now st (sum_line c.args.sum.now) m)) (sym c.in-Round.is)
    (subst (λ z.
    IfErr c.round.result (GoesErr c.args.vs.now m (made_round m.branch z (Ok (sum_line c.args.sum.now))))) same
    c.round.ensures.err)
