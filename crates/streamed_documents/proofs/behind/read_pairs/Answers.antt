use Rattle.std.proofs.Common.{None, refl, sym, ◌∙◌, arith}
use Rattle.unity_lexer.proofs.ScanSteps.{start_passed, passed_then}
use Rattle.streamed_documents.proofs.Hearings.{stays_same, stays_then}
use Rattle.streamed_documents.proofs.PairSteps.{more_none, more_pair, more_then}
use Rattle.streamed_documents.proofs.behind.read_pairs.Goals as goal

pub returns-then-not-awaits_pair-clause-heard : goal.returns-then-not-awaits_pair-clause-heard
returns-then-not-awaits_pair-clause-heard c = λ later left.
    more_none later c.args.w.now left c.args.reader.now c.args.pending.now c.requires

pub pairs-init : goal.pairs-init
pairs-init c = record {
  passed = start_passed c.args.w.now;
  awaits = sym c.awaits_pair.ensures ∙ c.if-not-awaits_pair.false;
  count = refl;
  ready = stays_same c.args.pending.now c.requires;
  rises = omega arith;
  heard = λ later left. more_none later c.args.w.now left c.args.reader.now c.args.pending.now c.requires;
}

pub pairs-smaller : goal.pairs-smaller
pairs-smaller c =
    let w = c.pairs.w in
    let x = c.next_pair.new.w in
    let rises = c.in-Some.ensures.rises in
    let limit = (c.next_pair.ensures.passed None).limit in
    let inside = x.in_limit in
    omega arith

pub pairs-preserved : goal.pairs-preserved
pairs-preserved c =
    let u = c.args.w.now in
    let w = c.pairs.w in
    let x = c.next_pair.new.w in
    let p = c.args.pending.now in
    let q = c.pairs.pending in
    let v = c.hear.new.pending in
    let old = c.pairs.reader in
    let new = c.take_pair.new.self in
    record {
      passed = λ left.
          passed_then u w x left left left (c.pairs.invariant.passed left) (c.next_pair.ensures.passed left);
      awaits = c.take_pair.ensures.pair;
      count = c.take_pair.ensures.count ∙ c.pairs.invariant.count;
      ready = stays_then p q v c.pairs.invariant.ready c.in_ok-hear.ensures.ready;
      rises = omega (arith, c.pairs.invariant.rises, c.in-Some.ensures.rises);
      heard = λ later left. more_then later u w x left c.args.reader.now old new p q v
          (c.pairs.invariant.heard later left)
          (more_pair later w x left old new q v c.in-Some.pair c.take_pair.result c.in-Some.ensures.reads
          c.take_pair.ensures.takes c.in_ok-hear.ensures.heard);
    }

pub returns-in_err-hear-clause-passed : goal.returns-in_err-hear-clause-passed
returns-in_err-hear-clause-passed c = λ left.
    passed_then c.args.w.now c.pairs.w c.next_pair.new.w left left left (c.pairs.invariant.passed left)
    (c.next_pair.ensures.passed left)
