use Rattle.std.proofs.Common.{arith}
use Rattle.streamed_documents.proofs.Skimming.{scan_is, token_rises}
use Rattle.streamed_documents.proofs.behind.take_any.Goals as goal

pub taken-requires : goal.taken-requires
taken-requires g c =
    let w = c.args.w.now in
    let x = c.next_token.new.w in
    let rises = token_rises w.at x.at _ _ c.in-Token.is c.in_ok-token.ensures.rises in
    omega (arith, c.requires)

pub returns-in-Fault-clause-scan : goal.returns-in-Fault-clause-scan
returns-in-Fault-clause-scan g c =
    scan_is c.args.w.now c.next_token.new.w (g.S.Source.left c.args.src.now) (g.S.Source.left c.next_token.new.src) _ _
    c.in-Fault.is c.in_ok-token.ensures.scan
