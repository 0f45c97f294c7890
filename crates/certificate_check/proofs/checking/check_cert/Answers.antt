use Rattle.event_checker.proofs.CheckerLaws.{judged}
use Rattle.certificate_check.proofs.AnswerLaws.{where-ok, where-err, where-fault}
use Rattle.certificate_check.proofs.checking.check_cert.Goals as goal

pub returns-in-Ok : goal.returns-in-Ok
returns-in-Ok c =
    let r = c.verdict.result in
    let j = judged c.args.levels c.args.o.now c.args.c.now.nodes c.requires.whole c.requires.obligation
    c.in-Ok.reading r c.verdict.ensures c.in-Ok.ensures in record {
      walked = where-ok _ _ r j.walked;
      refuted = j.refuted;
      not_refuted = where-fault _ r j.not_refuted;
      fault = where-err _ _ r j.walked;
      valid = j.valid;
    }
