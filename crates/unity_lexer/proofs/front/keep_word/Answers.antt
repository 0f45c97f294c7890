use Rattle.std.proofs.Common.{arith}
use Rattle.unity_lexer.proofs.LongRuns.{whole_word, inside_of}
use Rattle.unity_lexer.proofs.ScanSteps.{passed_then, dropped_passed}
use Rattle.unity_lexer.proofs.front.keep_word.Goals as goal

pub returns-in_err-keep_run-clause-passed : goal.returns-in_err-keep_run-clause-passed
returns-in_err-keep_run-clause-passed g c =
    passed_then c.args.w.now c.keep.new.w c.keep_run.new.w (g.S.Source.left c.args.src.now)
    (g.S.Source.left c.args.src.now) (g.S.Source.left c.keep_run.new.src)
    (dropped_passed c.args.w.now c.keep.new.w (g.S.Source.left c.args.src.now) 1 (omega (arith, c.requires.some))
    c.in_ok-keep.ensures.dropped) c.keep_run.ensures.passed

pub returns-then-is_past_limit-clause-passed : goal.returns-then-is_past_limit-clause-passed
returns-then-is_past_limit-clause-passed g c =
    passed_then c.args.w.now c.keep.new.w c.keep_run.new.w (g.S.Source.left c.args.src.now)
    (g.S.Source.left c.args.src.now) (g.S.Source.left c.keep_run.new.src)
    (dropped_passed c.args.w.now c.keep.new.w (g.S.Source.left c.args.src.now) 1 (omega (arith, c.requires.some))
    c.in_ok-keep.ensures.dropped) c.keep_run.ensures.passed

pub returns-clause-passed : goal.returns-clause-passed
returns-clause-passed g c =
    passed_then c.args.w.now c.keep.new.w c.keep_run.new.w (g.S.Source.left c.args.src.now)
    (g.S.Source.left c.args.src.now) (g.S.Source.left c.keep_run.new.src)
    (dropped_passed c.args.w.now c.keep.new.w (g.S.Source.left c.args.src.now) 1 (omega (arith, c.requires.some))
    c.in_ok-keep.ensures.dropped) c.keep_run.ensures.passed

pub returns-clause-word : goal.returns-clause-word
returns-clause-word g c =
    whole_word c.args.w.now c.keep.new.w c.keep_run.new.w (g.S.Source.left c.args.src.now)
    (g.S.Source.left c.keep_run.new.src) c.requires.some c.in_ok-keep.ensures.dropped
    c.in_ok-keep_run.ensures.kept.of_run c.in_ok-keep_run.ensures.halts
    (inside_of c.is_past_limit.result _ _ c.is_past_limit.ensures c.if-is_past_limit.false) c.requires.ahead
