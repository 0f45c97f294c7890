use Rattle.unity_lexer.proofs.LongRuns.{whole_word, word_passed, word_rises, inside_of}
use Rattle.unity_lexer.proofs.ScanSteps.{word_scan_at}
use Rattle.unity_lexer.proofs.scan.long_word.Goals as goal

pub returns-in_err-skip_run-clause-passed : goal.returns-in_err-skip_run-clause-passed
returns-in_err-skip_run-clause-passed g c =
    word_passed c.args.w.now c.advance.new.self c.skip_run.new.w (g.S.Source.left c.args.src.now)
    (g.S.Source.left c.skip_run.new.src) c.requires.some c.advance.ensures.dropped c.skip_run.ensures.run

pub returns-then-is_past_limit-clause-passed : goal.returns-then-is_past_limit-clause-passed
returns-then-is_past_limit-clause-passed g c =
    word_passed c.args.w.now c.advance.new.self c.skip_run.new.w (g.S.Source.left c.args.src.now)
    (g.S.Source.left c.skip_run.new.src) c.requires.some c.advance.ensures.dropped c.skip_run.ensures.run

pub returns-clause-passed : goal.returns-clause-passed
returns-clause-passed g c =
    word_passed c.args.w.now c.advance.new.self c.skip_run.new.w (g.S.Source.left c.args.src.now)
    (g.S.Source.left c.skip_run.new.src) c.requires.some c.advance.ensures.dropped c.skip_run.ensures.run

pub returns-clause-rises : goal.returns-clause-rises
returns-clause-rises g c =
    word_rises c.args.w.now c.advance.new.self c.skip_run.new.w (g.S.Source.left c.args.src.now)
    (g.S.Source.left c.skip_run.new.src) c.requires.some c.advance.ensures.dropped c.skip_run.ensures.run

pub returns-clause-scan : goal.returns-clause-scan
returns-clause-scan g c =
    word_scan_at c.args.w.now c.skip_run.new.w (g.S.Source.left c.args.src.now) (g.S.Source.left c.skip_run.new.src)
    c.at-start.result c.at-end.result c.at-start.ensures c.at-end.ensures
    (whole_word c.args.w.now c.advance.new.self c.skip_run.new.w (g.S.Source.left c.args.src.now)
    (g.S.Source.left c.skip_run.new.src) c.requires.some c.advance.ensures.dropped c.skip_run.ensures.run
    c.in_ok-skip_run.ensures.halts
    (inside_of c.is_past_limit.result _ _ c.is_past_limit.ensures c.if-is_past_limit.false) c.requires.ahead)
