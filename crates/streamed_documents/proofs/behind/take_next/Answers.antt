use Rattle.std.proofs.Common.{IfOk, subst, arith}
use Rattle.streamed_documents.specs.Steps.{scan_of}
use Rattle.streamed_documents.proofs.Skimming.{Scanning}
use Rattle.streamed_documents.proofs.behind.take_next.Goals as goal

pub taken-requires : goal.taken-requires
taken-requires g c = omega (arith, c.requires, c.in-Some.ensures.rises)

pub taken-requires-in-Some-ready_word : goal.taken-requires-in-Some-ready_word
taken-requires-in-Some-ready_word g c = omega (arith, c.requires, c.in-Some-ready_word.ensures.rises)

pub returns-in-None-clause-scan : goal.returns-in-None-clause-scan
returns-in-None-clause-scan g c =
    let x = c.take_any.new.w in
    let d = g.S.Source.left c.take_any.new.src in
    subst (λ w. IfOk c.take_any.result (λ step. Scanning w (g.S.Source.left c.args.src.now) x d (scan_of step)))
    (c.ready_number.ensures.none c.in-None.is) c.take_any.ensures.scan

pub returns-in-None-ready_word-clause-scan : goal.returns-in-None-ready_word-clause-scan
returns-in-None-ready_word-clause-scan g c =
    let call = c.take_any-in-None-ready_word in
    let x = call.new.w in
    let d = g.S.Source.left call.new.src in
    subst (λ w. IfOk call.result (λ step. Scanning w (g.S.Source.left c.args.src.now) x d (scan_of step)))
    (c.ready_word.ensures.none c.in-None-ready_word.is) call.ensures.scan
