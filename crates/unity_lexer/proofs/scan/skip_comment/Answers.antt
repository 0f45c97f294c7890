use Rattle.unity_lexer.proofs.LongRuns.{comment_passed, comment_taken, inside_of, not_past}
use Rattle.unity_lexer.proofs.scan.skip_comment.Goals as goal

pub returns-in_err-skip_run-clause-passed : goal.returns-in_err-skip_run-clause-passed
returns-in_err-skip_run-clause-passed g c =
    comment_passed c.args.w.now c.advance.new.self c.skip_run.new.w (g.S.Source.left c.args.src.now)
    (g.S.Source.left c.skip_run.new.src) c.requires c.advance.ensures.dropped c.skip_run.ensures.run

pub returns-clause-passed : goal.returns-clause-passed
returns-clause-passed g c =
    comment_passed c.args.w.now c.advance.new.self c.skip_run.new.w (g.S.Source.left c.args.src.now)
    (g.S.Source.left c.skip_run.new.src) c.requires c.advance.ensures.dropped c.skip_run.ensures.run

pub returns-clause-gap : goal.returns-clause-gap
returns-clause-gap g c = λ whole.
    comment_taken c.args.w.now c.advance.new.self c.skip_run.new.w (g.S.Source.left c.args.src.now)
    (g.S.Source.left c.skip_run.new.src) c.requires c.advance.ensures.dropped c.skip_run.ensures.run
    c.in_ok-skip_run.ensures.halts
    (inside_of c.is_past_limit.result _ _ c.is_past_limit.ensures (not_past c.is_past_limit.result whole))
