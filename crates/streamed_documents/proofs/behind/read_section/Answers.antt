use Rattle.std.proofs.Common.{◌==◌, [], ◌∷◌, None, refl, ◌∙◌, sym, subst, arith}
use Rattle.unity_lexer.proofs.ScanSteps.{start_passed, passed_then}
use Rattle.certificate_events.specs.Events.{events}
use Rattle.certificate_events.specs.Sections.{TokenTakes}
use Rattle.streamed_documents.specs.Hearing.{Hears}
use Rattle.streamed_documents.specs.Steps.{TakesToken}
use Rattle.streamed_documents.proofs.Hearings.{hears_none, stays_same, stays_then, stays_may}
use Rattle.streamed_documents.proofs.PairSteps.{going_more}
use Rattle.streamed_documents.proofs.Passing.{told_passes, read_out_from}
use Rattle.streamed_documents.proofs.SectionSteps.{going_start, going_then, end_behind, end_read, drained_behind}
use Rattle.streamed_documents.proofs.SectionSteps.{IsGood, skimmed_behind, long_behind, long_going}
use Rattle.streamed_documents.proofs.SectionSteps.{step_is, step_takes, step_rises, ending_after}
use Rattle.streamed_documents.proofs.behind.read_section.Goals as goal

pub new-reader-requires : goal.new-reader-requires
new-reader-requires g c = c.requires.version

pub tokens-init : goal.tokens-init
tokens-init g c =
    let a = g.S.Source.left c.args.src.now in
    record {
      passed = start_passed c.args.w.now a;
      same = refl;
      count = omega (arith, c.new-reader.ensures.count);
      ready = stays_same c.args.pending.now c.requires.ready;
      goes = going_start (c.args.version == 2) c.args.w.now a c.new-reader.result c.args.pending.now
          c.new-reader.ensures.stands c.requires.ready;
    }

pub returns-in_err-token-clause-passed : goal.returns-in_err-token-clause-passed
returns-in_err-token-clause-passed g c =
    let u = c.args.w.now in
    let w = c.tokens.w in
    let x = c.take_next.new.w in
    let a = g.S.Source.left c.args.src.now in
    let b = g.S.Source.left c.tokens.src in
    let d = g.S.Source.left c.take_next.new.src in
    passed_then u w x a b d c.tokens.invariant.passed c.take_next.ensures.passed

pub take_next-requires : goal.take_next-requires
take_next-requires g c = c.tokens.invariant.count

pub tokens-smaller-in-Nothing : goal.tokens-smaller-in-Nothing
tokens-smaller-in-Nothing g c =
    let w = c.tokens.w in
    let x = c.take_next.new.w in
    let rises = step_rises w.at x.at _ _ _ c.in-Taken.is c.in_ok-token.ensures.rises in
    let limit = c.take_next.ensures.passed.limit in
    let inside = x.in_limit in
    omega arith

pub tokens-preserved-in-Nothing : goal.tokens-preserved-in-Nothing
tokens-preserved-in-Nothing g c =
    let u = c.args.w.now in
    let w = c.tokens.w in
    let x = c.take_next.new.w in
    let a = g.S.Source.left c.args.src.now in
    let b = g.S.Source.left c.tokens.src in
    let d = g.S.Source.left c.take_next.new.src in
    let rises = step_rises w.at x.at _ _ _ c.in-Taken.is c.in_ok-token.ensures.rises in
    let took : TakesToken c.tokens.reader c.take_next.new.reader c.in-Taken.token c.in-Taken.taken =
    step_takes c.tokens.reader c.take_next.new.reader _ _ c.in-Taken.is c.in_ok-token.ensures.takes in
    record {
      passed = passed_then u w x a b d c.tokens.invariant.passed c.take_next.ensures.passed;
      same = c.in_ok-token.ensures.cause.same refl ∙ c.tokens.invariant.same;
      count = omega (arith, took.count, c.tokens.invariant.count, rises);
      ready = c.tokens.invariant.ready;
      goes = going_then (c.args.version == 2) u w x a b d c.tokens.reader c.take_next.new.reader c.args.pending.now
          c.tokens.pending c.tokens.pending c.in-Taken.token c.in-Taken.taken c.tokens.invariant.goes
          (step_is w x b d _ _ c.in-Taken.is c.in_ok-token.ensures.scan) took (subst IsGood (sym c.in-Nothing.is) tt)
          (subst (λ taken. Hears c.tokens.pending c.tokens.pending (events (taken ∷ []))) (sym c.in-Nothing.is)
          (hears_none c.tokens.pending
          (stays_may c.args.pending.now c.tokens.pending c.tokens.invariant.ready)));
    }

pub hear-requires : goal.hear-requires
hear-requires g c =
    stays_may c.args.pending.now c.tokens.pending c.tokens.invariant.ready

pub read_pairs-requires : goal.read_pairs-requires
read_pairs-requires g c =
    stays_may c.args.pending.now c.hear.new.pending
    (stays_then c.args.pending.now c.tokens.pending c.hear.new.pending c.tokens.invariant.ready
    c.in_ok-hear-in-Event.ensures.ready)

pub tokens-smaller : goal.tokens-smaller
tokens-smaller g c =
    let w = c.tokens.w in
    let x = c.take_next.new.w in
    let y = c.read_pairs.new.w in
    let rises = step_rises w.at x.at _ _ _ c.in-Taken.is c.in_ok-token.ensures.rises in
    let limit = c.take_next.ensures.passed.limit in
    let more = c.read_pairs.ensures.rises in
    let same = (c.read_pairs.ensures.passed None).limit in
    let inside = y.in_limit in
    omega arith

pub tokens-preserved : goal.tokens-preserved
tokens-preserved g c =
    let u = c.args.w.now in
    let w = c.tokens.w in
    let x = c.take_next.new.w in
    let y = c.read_pairs.new.w in
    let a = g.S.Source.left c.args.src.now in
    let b = g.S.Source.left c.tokens.src in
    let d = g.S.Source.left c.take_next.new.src in
    let q = c.hear.new.pending in
    let z = c.read_pairs.new.pending in
    let rises = step_rises w.at x.at _ _ _ c.in-Taken.is c.in_ok-token.ensures.rises in
    let took : TakesToken c.tokens.reader c.take_next.new.reader c.in-Taken.token c.in-Taken.taken =
    step_takes c.tokens.reader c.take_next.new.reader _ _ c.in-Taken.is c.in_ok-token.ensures.takes in
    record {
      passed = passed_then u x y a d d
          (passed_then u w x a b d c.tokens.invariant.passed c.take_next.ensures.passed)
          (c.read_pairs.ensures.passed d);
      same = c.in_ok-token.ensures.cause.same refl ∙ c.tokens.invariant.same;
      count = omega (
        arith,
        took.count,
        c.tokens.invariant.count,
        rises,
        c.read_pairs.ensures.count,
        c.read_pairs.ensures.rises,
      );
      ready = stays_then c.args.pending.now q z
          (stays_then c.args.pending.now c.tokens.pending q c.tokens.invariant.ready
          c.in_ok-hear-in-Event.ensures.ready) c.in_ok-read_pairs-in-Event.ensures.ready;
      goes = going_more (c.args.version == 2) u x y a d c.take_next.new.reader c.read_pairs.new.reader
          c.args.pending.now q z
          (going_then (c.args.version == 2) u w x a b d c.tokens.reader c.take_next.new.reader c.args.pending.now
          c.tokens.pending q c.in-Taken.token c.in-Taken.taken c.tokens.invariant.goes
          (step_is w x b d _ _ c.in-Taken.is c.in_ok-token.ensures.scan) took (subst IsGood (sym c.in-Event.is) tt)
          (subst (λ taken. Hears c.tokens.pending q (events (taken ∷ []))) (sym c.in-Event.is)
          c.in_ok-hear-in-Event.ensures.heard)) (c.in_ok-read_pairs-in-Event.ensures.heard (c.args.version == 2) d);
    }

pub returns-in_err-read_pairs-in-Event-clause-passed : goal.returns-in_err-read_pairs-in-Event-clause-passed
returns-in_err-read_pairs-in-Event-clause-passed g c =
    let u = c.args.w.now in
    let w = c.tokens.w in
    let x = c.take_next.new.w in
    let y = c.read_pairs.new.w in
    let a = g.S.Source.left c.args.src.now in
    let b = g.S.Source.left c.tokens.src in
    let d = g.S.Source.left c.take_next.new.src in
    passed_then u x y a d d (passed_then u w x a b d c.tokens.invariant.passed c.take_next.ensures.passed)
    (c.read_pairs.ensures.passed d)

pub returns-in_err-hear-in-Event-clause-passed : goal.returns-in_err-hear-in-Event-clause-passed
returns-in_err-hear-in-Event-clause-passed g c =
    let u = c.args.w.now in
    let w = c.tokens.w in
    let x = c.take_next.new.w in
    let a = g.S.Source.left c.args.src.now in
    let b = g.S.Source.left c.tokens.src in
    let d = g.S.Source.left c.take_next.new.src in
    passed_then u w x a b d c.tokens.invariant.passed c.take_next.ensures.passed

pub returns-in_err-skimmed-in-Unexpected-clause-passed : goal.returns-in_err-skimmed-in-Unexpected-clause-passed
returns-in_err-skimmed-in-Unexpected-clause-passed g c =
    let u = c.args.w.now in
    let w = c.tokens.w in
    let x = c.take_next.new.w in
    let a = g.S.Source.left c.args.src.now in
    let b = g.S.Source.left c.tokens.src in
    let d = g.S.Source.left c.take_next.new.src in
    passed_then u x c.skimmed.new.w a d (g.S.Source.left c.skimmed.new.src)
    (passed_then u w x a b d c.tokens.invariant.passed c.take_next.ensures.passed) c.skimmed.ensures.passed

pub returns-in-Unexpected-clause-behind : goal.returns-in-Unexpected-clause-behind
returns-in-Unexpected-clause-behind g c =
    let u = c.args.w.now in
    let w = c.tokens.w in
    let x = c.take_next.new.w in
    let a = g.S.Source.left c.args.src.now in
    let b = g.S.Source.left c.tokens.src in
    let d = g.S.Source.left c.take_next.new.src in
    let p = passed_then u w x a b d c.tokens.invariant.passed c.take_next.ensures.passed in
    let took : TakesToken c.tokens.reader c.take_next.new.reader c.in-Taken.token c.in-Taken.taken =
    step_takes c.tokens.reader c.take_next.new.reader _ _ c.in-Taken.is c.in_ok-token.ensures.takes in
    skimmed_behind (c.args.version == 2) u w x a b d c.tokens.reader c.args.pending.now c.tokens.pending
    c.tokens.invariant.goes c.tokens.invariant.passed.limit c.in-Taken.token c.in_ok-skimmed-in-Unexpected.field-0
    p.limit (step_is w x b d _ _ c.in-Taken.is c.in_ok-token.ensures.scan)
    (λ later ts stands. subst (λ taken. TokenTakes later ts c.in-Taken.token taken) c.in-Unexpected.is
    (took.takes later ts stands)) c.in_ok-skimmed-in-Unexpected.ensures.skimmed

pub returns-in-Unexpected-clause-ready : goal.returns-in-Unexpected-clause-ready
returns-in-Unexpected-clause-ready g c =
    c.tokens.invariant.ready

pub returns-in-Unexpected-clause-end : goal.returns-in-Unexpected-clause-end
returns-in-Unexpected-clause-end g c =
    let u = c.args.w.now in
    let w = c.tokens.w in
    let x = c.take_next.new.w in
    let a = g.S.Source.left c.args.src.now in
    let b = g.S.Source.left c.tokens.src in
    let d = g.S.Source.left c.take_next.new.src in
    read_out_from u x c.skimmed.new.w a d (g.S.Source.left c.skimmed.new.src) c.in_ok-skimmed-in-Unexpected.field-0
    (passed_then u w x a b d c.tokens.invariant.passed c.take_next.ensures.passed)
    c.in_ok-skimmed-in-Unexpected.ensures.end

pub returns-in-Unexpected-clause-passed : goal.returns-in-Unexpected-clause-passed
returns-in-Unexpected-clause-passed g c =
    let u = c.args.w.now in
    let w = c.tokens.w in
    let x = c.take_next.new.w in
    let a = g.S.Source.left c.args.src.now in
    let b = g.S.Source.left c.tokens.src in
    let d = g.S.Source.left c.take_next.new.src in
    passed_then u x c.skimmed.new.w a d (g.S.Source.left c.skimmed.new.src)
    (passed_then u w x a b d c.tokens.invariant.passed c.take_next.ensures.passed) c.skimmed.ensures.passed

pub returns-in-End-clause-behind : goal.returns-in-End-clause-behind
returns-in-End-clause-behind g c =
    let u = c.args.w.now in
    let w = c.tokens.w in
    let x = c.take_next.new.w in
    let a = g.S.Source.left c.args.src.now in
    let b = g.S.Source.left c.tokens.src in
    let d = g.S.Source.left c.take_next.new.src in
    let p = passed_then u w x a b d c.tokens.invariant.passed c.take_next.ensures.passed in
    end_behind (c.args.version == 2) u w x a b d c.tokens.reader c.args.pending.now c.tokens.pending
    c.tokens.invariant.goes c.tokens.invariant.passed.limit c.ended.result c.at.result c.at.ensures p.limit
    (step_is w x b d _ _ c.in-End.is c.in_ok-token.ensures.scan)
    (ending_after c.tokens.reader c.take_next.new.reader c.at.result c.ended.result
    (step_takes c.tokens.reader c.take_next.new.reader _ _ c.in-End.is c.in_ok-token.ensures.takes) c.ended.ensures)

pub returns-in-End-clause-ready : goal.returns-in-End-clause-ready
returns-in-End-clause-ready g c =
    c.tokens.invariant.ready

pub returns-in-End-clause-end : goal.returns-in-End-clause-end
returns-in-End-clause-end g c =
    let u = c.args.w.now in
    let w = c.tokens.w in
    let x = c.take_next.new.w in
    let a = g.S.Source.left c.args.src.now in
    let b = g.S.Source.left c.tokens.src in
    let d = g.S.Source.left c.take_next.new.src in
    end_read (c.args.version == 2) u w x a b d c.tokens.reader c.args.pending.now c.tokens.pending
    c.tokens.invariant.goes c.tokens.invariant.passed.limit c.ended.result c.at.result
    (ending_after c.tokens.reader c.take_next.new.reader c.at.result c.ended.result
    (step_takes c.tokens.reader c.take_next.new.reader _ _ c.in-End.is c.in_ok-token.ensures.takes) c.ended.ensures)
    (c.in_ok-token.ensures.end c.in-End.is)

pub returns-in-End-clause-passed : goal.returns-in-End-clause-passed
returns-in-End-clause-passed g c =
    let u = c.args.w.now in
    let w = c.tokens.w in
    let x = c.take_next.new.w in
    let a = g.S.Source.left c.args.src.now in
    let b = g.S.Source.left c.tokens.src in
    let d = g.S.Source.left c.take_next.new.src in
    passed_then u w x a b d c.tokens.invariant.passed c.take_next.ensures.passed

pub returns-in_err-drained-in-Fault-clause-passed : goal.returns-in_err-drained-in-Fault-clause-passed
returns-in_err-drained-in-Fault-clause-passed g c =
    let u = c.args.w.now in
    let w = c.tokens.w in
    let x = c.take_next.new.w in
    let a = g.S.Source.left c.args.src.now in
    let b = g.S.Source.left c.tokens.src in
    let d = g.S.Source.left c.take_next.new.src in
    passed_then u x c.drained.new.w a d (g.S.Source.left c.drained.new.src)
    (passed_then u w x a b d c.tokens.invariant.passed c.take_next.ensures.passed) c.drained.ensures.passed

pub returns-in-Fault-clause-behind : goal.returns-in-Fault-clause-behind
returns-in-Fault-clause-behind g c =
    let u = c.args.w.now in
    let w = c.tokens.w in
    let x = c.take_next.new.w in
    let a = g.S.Source.left c.args.src.now in
    let b = g.S.Source.left c.tokens.src in
    let d = g.S.Source.left c.take_next.new.src in
    let p = passed_then u w x a b d c.tokens.invariant.passed c.take_next.ensures.passed in
    drained_behind (c.args.version == 2) u w x a b d c.tokens.reader c.args.pending.now c.tokens.pending
    c.tokens.invariant.goes c.tokens.invariant.passed.limit c.in-Fault.code c.in-Fault.at
    c.in_ok-drained-in-Fault.field-0 p.limit (step_is w x b d _ _ c.in-Fault.is c.in_ok-token.ensures.scan)
    c.in_ok-drained-in-Fault.ensures.kept

pub returns-in-Fault-clause-ready : goal.returns-in-Fault-clause-ready
returns-in-Fault-clause-ready g c =
    c.tokens.invariant.ready

pub returns-in-Fault-clause-end : goal.returns-in-Fault-clause-end
returns-in-Fault-clause-end g c =
    let u = c.args.w.now in
    let w = c.tokens.w in
    let x = c.take_next.new.w in
    let a = g.S.Source.left c.args.src.now in
    let b = g.S.Source.left c.tokens.src in
    let d = g.S.Source.left c.take_next.new.src in
    read_out_from u x c.drained.new.w a d (g.S.Source.left c.drained.new.src) c.in_ok-drained-in-Fault.field-0
    (passed_then u w x a b d c.tokens.invariant.passed c.take_next.ensures.passed)
    c.in_ok-drained-in-Fault.ensures.end

pub returns-in-Fault-clause-passed : goal.returns-in-Fault-clause-passed
returns-in-Fault-clause-passed g c =
    let u = c.args.w.now in
    let w = c.tokens.w in
    let x = c.take_next.new.w in
    let a = g.S.Source.left c.args.src.now in
    let b = g.S.Source.left c.tokens.src in
    let d = g.S.Source.left c.take_next.new.src in
    passed_then u x c.drained.new.w a d (g.S.Source.left c.drained.new.src)
    (passed_then u w x a b d c.tokens.invariant.passed c.take_next.ensures.passed) c.drained.ensures.passed

pub returns-in-TooLong-clause-behind : goal.returns-in-TooLong-clause-behind
returns-in-TooLong-clause-behind g c =
    let u = c.args.w.now in
    let w = c.tokens.w in
    let x = c.take_next.new.w in
    let a = g.S.Source.left c.args.src.now in
    let b = g.S.Source.left c.tokens.src in
    let d = g.S.Source.left c.take_next.new.src in
    long_behind (c.args.version == 2) u w x a b d c.tokens.reader c.args.pending.now c.tokens.pending
    c.tokens.invariant.goes c.tokens.invariant.passed.limit
    (step_is w x b d _ _ c.in-TooLong.is c.in_ok-token.ensures.scan)

pub returns-in-TooLong-clause-ready : goal.returns-in-TooLong-clause-ready
returns-in-TooLong-clause-ready g c =
    c.tokens.invariant.ready

pub returns-in-TooLong-clause-end : goal.returns-in-TooLong-clause-end
returns-in-TooLong-clause-end g c =
    let u = c.args.w.now in
    let w = c.tokens.w in
    let x = c.take_next.new.w in
    let a = g.S.Source.left c.args.src.now in
    let b = g.S.Source.left c.tokens.src in
    let d = g.S.Source.left c.take_next.new.src in
    told_passes u a (long_going (c.args.version == 2) u w x a b d c.tokens.reader c.args.pending.now c.tokens.pending
    c.tokens.invariant.goes c.tokens.invariant.passed.limit
    (step_is w x b d _ _ c.in-TooLong.is c.in_ok-token.ensures.scan))

pub returns-in-TooLong-clause-passed : goal.returns-in-TooLong-clause-passed
returns-in-TooLong-clause-passed g c =
    let u = c.args.w.now in
    let w = c.tokens.w in
    let x = c.take_next.new.w in
    let a = g.S.Source.left c.args.src.now in
    let b = g.S.Source.left c.tokens.src in
    let d = g.S.Source.left c.take_next.new.src in
    passed_then u w x a b d c.tokens.invariant.passed c.take_next.ensures.passed
