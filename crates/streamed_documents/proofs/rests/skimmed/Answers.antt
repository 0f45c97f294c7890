use Rattle.std.proofs.Common.{refl, ◌∙◌, arith}
use Rattle.unity_lexer.proofs.ScanSteps.{start_passed, passed_then}
use Rattle.streamed_documents.proofs.Passing.{told_passes, read_out_after}
use Rattle.streamed_documents.proofs.Skimming.{start_reading, token_reading, drained_after, end_after, too_long_after}
use Rattle.streamed_documents.proofs.Skimming.{long_after, scan_is, token_rises}
use Rattle.streamed_documents.proofs.rests.skimmed.Goals as goal

pub tokens-init : goal.tokens-init
tokens-init g c =
    let a = g.S.Source.left c.args.src.now in
    record { passed = start_passed c.args.w.now a; same = refl; reads = start_reading c.args.w.now a }

pub returns-in_err-next_token-clause-passed : goal.returns-in_err-next_token-clause-passed
returns-in_err-next_token-clause-passed g c =
    let u = c.args.w.now in
    let w = c.tokens.w in
    let x = c.next_token.new.w in
    let a = g.S.Source.left c.args.src.now in
    let b = g.S.Source.left c.tokens.src in
    let d = g.S.Source.left c.next_token.new.src in
    passed_then u w x a b d c.tokens.invariant.passed c.next_token.ensures.passed

pub tokens-smaller : goal.tokens-smaller
tokens-smaller g c =
    let w = c.tokens.w in
    let x = c.next_token.new.w in
    let rises = token_rises w.at x.at c.in_ok-next_token.field-0 c.in-Token.field-0 c.in-Token.is
    c.in_ok-next_token.ensures.rises in
    let limit = c.next_token.ensures.passed.limit in
    let inside = x.in_limit in
    omega arith

pub tokens-preserved : goal.tokens-preserved
tokens-preserved g c =
    let u = c.args.w.now in
    let w = c.tokens.w in
    let x = c.next_token.new.w in
    let a = g.S.Source.left c.args.src.now in
    let b = g.S.Source.left c.tokens.src in
    let d = g.S.Source.left c.next_token.new.src in
    record {
      passed = passed_then u w x a b d c.tokens.invariant.passed c.next_token.ensures.passed;
      same = c.in_ok-next_token.ensures.cause.same refl ∙ c.tokens.invariant.same;
      reads = token_reading u w x a b d c.in-Token.field-0 c.tokens.invariant.reads
          (scan_is w x b d _ _ c.in-Token.is c.in_ok-next_token.ensures.scan);
    }

pub returns-in-End-clause-skimmed : goal.returns-in-End-clause-skimmed
returns-in-End-clause-skimmed g c =
    let u = c.args.w.now in
    let w = c.tokens.w in
    let x = c.next_token.new.w in
    let a = g.S.Source.left c.args.src.now in
    let b = g.S.Source.left c.tokens.src in
    let d = g.S.Source.left c.next_token.new.src in
    let p = passed_then u w x a b d c.tokens.invariant.passed c.next_token.ensures.passed in
    end_after u w x a b d c.tokens.invariant.reads c.tokens.invariant.passed.limit p.limit c.args.code c.args.at
    (scan_is w x b d _ _ c.in-End.is c.in_ok-next_token.ensures.scan)

pub returns-in-End-clause-end : goal.returns-in-End-clause-end
returns-in-End-clause-end g c =
    c.in_ok-next_token.ensures.end c.in-End.is

pub returns-in-End-clause-passed : goal.returns-in-End-clause-passed
returns-in-End-clause-passed g c =
    let u = c.args.w.now in
    let w = c.tokens.w in
    let x = c.next_token.new.w in
    let a = g.S.Source.left c.args.src.now in
    let b = g.S.Source.left c.tokens.src in
    let d = g.S.Source.left c.next_token.new.src in
    passed_then u w x a b d c.tokens.invariant.passed c.next_token.ensures.passed

pub returns-in-Fault-clause-skimmed : goal.returns-in-Fault-clause-skimmed
returns-in-Fault-clause-skimmed g c =
    let u = c.args.w.now in
    let w = c.tokens.w in
    let x = c.next_token.new.w in
    let a = g.S.Source.left c.args.src.now in
    let b = g.S.Source.left c.tokens.src in
    let d = g.S.Source.left c.next_token.new.src in
    let p = passed_then u w x a b d c.tokens.invariant.passed c.next_token.ensures.passed in
    drained_after u w x a b d c.args.code c.in-Fault.first c.args.at c.in-Fault.place c.drained.result
    c.tokens.invariant.reads c.tokens.invariant.passed.limit p.limit
    (scan_is w x b d _ _ c.in-Fault.is c.in_ok-next_token.ensures.scan) c.drained.ensures.kept

pub returns-in-Fault-clause-end : goal.returns-in-Fault-clause-end
returns-in-Fault-clause-end g c =
    let u = c.args.w.now in
    let w = c.tokens.w in
    let x = c.next_token.new.w in
    let a = g.S.Source.left c.args.src.now in
    let b = g.S.Source.left c.tokens.src in
    let d = g.S.Source.left c.next_token.new.src in
    read_out_after u x c.drained.new.w a d (g.S.Source.left c.drained.new.src) c.drained.result
    (passed_then u w x a b d c.tokens.invariant.passed c.next_token.ensures.passed) c.drained.ensures.end

pub returns-in-Fault-clause-passed : goal.returns-in-Fault-clause-passed
returns-in-Fault-clause-passed g c =
    let u = c.args.w.now in
    let w = c.tokens.w in
    let x = c.next_token.new.w in
    let a = g.S.Source.left c.args.src.now in
    let b = g.S.Source.left c.tokens.src in
    let d = g.S.Source.left c.next_token.new.src in
    passed_then u x c.drained.new.w a d (g.S.Source.left c.drained.new.src)
    (passed_then u w x a b d c.tokens.invariant.passed c.next_token.ensures.passed) c.drained.ensures.passed

pub returns-in-TooLong-clause-skimmed : goal.returns-in-TooLong-clause-skimmed
returns-in-TooLong-clause-skimmed g c =
    let u = c.args.w.now in
    let w = c.tokens.w in
    let x = c.next_token.new.w in
    let a = g.S.Source.left c.args.src.now in
    let b = g.S.Source.left c.tokens.src in
    let d = g.S.Source.left c.next_token.new.src in
    let p = passed_then u w x a b d c.tokens.invariant.passed c.next_token.ensures.passed in
    too_long_after u w x a b d c.tokens.invariant.reads c.tokens.invariant.passed.limit p.limit c.args.code c.args.at
    (scan_is w x b d _ _ c.in-TooLong.is c.in_ok-next_token.ensures.scan)

pub returns-in-TooLong-clause-end : goal.returns-in-TooLong-clause-end
returns-in-TooLong-clause-end g c =
    let u = c.args.w.now in
    let w = c.tokens.w in
    let x = c.next_token.new.w in
    let a = g.S.Source.left c.args.src.now in
    let b = g.S.Source.left c.tokens.src in
    let d = g.S.Source.left c.next_token.new.src in
    told_passes u a (long_after u w a b x d c.tokens.invariant.reads c.tokens.invariant.passed.limit
    (scan_is w x b d _ _ c.in-TooLong.is c.in_ok-next_token.ensures.scan))

pub returns-in-TooLong-clause-passed : goal.returns-in-TooLong-clause-passed
returns-in-TooLong-clause-passed g c =
    let u = c.args.w.now in
    let w = c.tokens.w in
    let x = c.next_token.new.w in
    let a = g.S.Source.left c.args.src.now in
    let b = g.S.Source.left c.tokens.src in
    let d = g.S.Source.left c.next_token.new.src in
    passed_then u w x a b d c.tokens.invariant.passed c.next_token.ensures.passed
