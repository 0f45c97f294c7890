use Rattle.std.proofs.Common.{[]}
use Rattle.proof_script.proofs.checking.check.Goals as goal

pub returns-clause-verdict : goal.returns-clause-verdict
returns-clause-verdict c = c.finish.ensures.verdict c.args.doc.now c.args.certs.now c.requires.whole
    (c.in_ok-tell_certs.ensures.tells [] c.in_ok-judge.ensures.stands)

pub returns-clause-holds : goal.returns-clause-holds
returns-clause-holds c = c.finish.ensures.holds c.args.doc.now c.args.certs.now c.requires.document c.requires.whole
    (c.in_ok-tell_certs.ensures.tells [] c.in_ok-judge.ensures.stands)
