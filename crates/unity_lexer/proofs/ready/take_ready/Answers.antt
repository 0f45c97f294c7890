use Rattle.std.proofs.Common.{◌-◌, refl, arith}
use Rattle.unity_lexer.proofs.ReadyTokens.{ready_held, ready_inside, ready_some, ready_passed, ready_scan}
use Rattle.unity_lexer.proofs.ready.take_ready.Goals as goal

pub skip-requires-clause-holds : goal.skip-requires-clause-holds
skip-requires-clause-holds c =
    ready_held c.args.w.now c.args.blanks c.args.size c.args.kind c.requires.blanks c.requires.begins c.requires.decided

pub skip-requires-clause-in_limit : goal.skip-requires-clause-in_limit
skip-requires-clause-in_limit c =
    ready_inside c.args.w.now c.args.blanks c.args.size c.args.kind c.requires.blanks c.requires.begins
    c.requires.decided

pub returns-clause-scan : goal.returns-clause-scan
returns-clause-scan c = λ left bytes told.
    ready_scan c.args.w.now c.args.blanks c.args.size c.args.kind c.requires.blanks c.requires.begins
    c.requires.decided c.skip.new.self left c.skip.ensures.dropped (c.at-end.result - c.args.size) c.at-end.result
    c.at-end.ensures refl bytes told

pub returns-clause-rises : goal.returns-clause-rises
returns-clause-rises c =
    let some = ready_some c.args.w.now c.args.blanks c.args.size c.args.kind c.requires.blanks c.requires.begins
    c.requires.decided in
    let moved = c.skip.ensures.dropped.at in
    omega arith

pub returns-clause-passed : goal.returns-clause-passed
returns-clause-passed c = λ left.
    ready_passed c.args.w.now c.args.blanks c.args.size c.args.kind c.requires.blanks c.requires.begins
    c.requires.decided c.skip.new.self left c.skip.ensures.dropped
