use Rattle.std.proofs.Common.{◌≡◌, ◌<◌, length, slice_index, rules}
use Rattle.unity_lexer.proofs.ReadyPairs.{next_passed, next_reads}
use Rattle.unity_lexer.proofs.pairs.next_pair.Goals as goal

pub returns-clause-reads : goal.returns-clause-reads
returns-clause-reads c = λ left bytes told.
    let some : 0 < length c.bytes-bytes.result.now = search rules in
    next_reads c.args.w.now c.bytes-bytes.result.now c.in-Some.pair c.in-Some.size c.bytes-bytes.ensures some
    c.if-bytes-ne32.false c.in-Some.ensures c.skip.new.self left c.skip.ensures.dropped bytes told

pub returns-clause-passed : goal.returns-clause-passed
returns-clause-passed c = λ left.
    let some : 0 < length c.bytes-bytes.result.now = search rules in
    next_passed c.args.w.now c.bytes-bytes.result.now c.in-Some.pair c.in-Some.size c.bytes-bytes.ensures some
    c.if-bytes-ne32.false c.in-Some.ensures c.skip.new.self left c.skip.ensures.dropped
