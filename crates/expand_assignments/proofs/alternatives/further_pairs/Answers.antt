use Rattle.std.proofs.Common.{◌<◌, ◌≤◌, length, min, subst, sym}
use Rattle.expand_rules.specs.Assigning.{beside, paired_effect}
use Rattle.expand_expressions.specs.Places.{scope}
use Rattle.expand_expressions.specs.Sound.{of_truth}
use Rattle.expand_assignments.proofs.AddLaws.{pairs_next, pairs_end}
use Rattle.expand_assignments.proofs.alternatives.further_pairs.Goals as goal

pub loop-i-preserved : goal.loop-i-preserved
loop-i-preserved c =
    let s = scope c.args.known.now c.args.env.now in
    let ts = c.args.ts.now in
    let es = c.args.es.now in
    let t = of_truth c.args.c.now in
    let b : c.loop-i.i < min (length ts) (length es) = subst (λ n. c.loop-i.i < n) c.min-i-end.ensures
    c.loop-i-test.true in
    pairs_next s ts es c.loop-i.i c.index-ts-i.result c.index-es-i.result t c.loop-i.effect c.target.new.effect
    (beside c.args.effect.now (paired_effect s ts es t)) b (sym c.index-ts-i.is) (sym c.index-es-i.is)
    c.in_ok-target.ensures
    c.loop-i.invariant.0

pub returns : goal.returns
returns c =
    let s = scope c.args.known.now c.args.env.now in
    let ts = c.args.ts.now in
    let es = c.args.es.now in
    let t = of_truth c.args.c.now in
    let b : min (length ts) (length es) ≤ c.loop-i.i = subst (λ n. n ≤ c.loop-i.i) c.min-i-end.ensures
    c.loop-i-test.false in
    pairs_end s ts es c.loop-i.i t c.loop-i.effect (beside c.args.effect.now (paired_effect s ts es t)) b
    c.loop-i.invariant.1 c.loop-i.invariant.0
