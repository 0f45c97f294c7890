use Rattle.std.proofs.Common.{take}
use Rattle.safety_rules.proofs.UsableLaws.{read_is}
use Rattle.superposition.specs.Patterns.{label_pairs}
use Rattle.superposition.proofs.LabelLaws.{one_agrees, one_disagrees, all_agree}
use Rattle.superposition.proofs.labels.pattern.Goals as goal

pub returns-then-not-branch : goal.returns-then-not-branch
returns-then-not-branch c =
    one_disagrees c.args.fs.now c.args.hs.now c.requires c.loop-place.place c.get.result.now
    c.get-in-loop-place.result.now c.in_ok-agree.field-0 c.agree.new.self.over.by_label
    c.agree.new.self.below.by_label c.loop-place-test.true
    (read_is c.args.fs.now c.loop-place.place _ _ c.get.ensures c.index-fs-place.is)
    (read_is c.args.hs.now c.loop-place.place _ _ c.get-in-loop-place.ensures c.index-hs-place.is)
    c.if-not-branch.true
    (c.in_ok-agree.ensures (take c.loop-place.place (label_pairs c.args.fs.now c.args.hs.now))
    c.loop-place.invariant.pattern c.loop-place.invariant.notes)

pub loop-place-preserved : goal.loop-place-preserved
loop-place-preserved c =
    one_agrees c.args.fs.now c.args.hs.now c.requires c.loop-place.place c.get.result.now
    c.get-in-loop-place.result.now c.in_ok-agree.field-0 c.agree.new.self.over.by_label
    c.agree.new.self.below.by_label c.loop-place-test.true
    (read_is c.args.fs.now c.loop-place.place _ _ c.get.ensures c.index-fs-place.is)
    (read_is c.args.hs.now c.loop-place.place _ _ c.get-in-loop-place.ensures c.index-hs-place.is)
    c.if-not-branch.false
    (c.in_ok-agree.ensures (take c.loop-place.place (label_pairs c.args.fs.now c.args.hs.now))
    c.loop-place.invariant.pattern c.loop-place.invariant.notes)

pub returns : goal.returns
returns c =
    all_agree c.args.fs.now c.args.hs.now c.requires c.loop-place.place c.loop-place.pairs.over.by_label
    c.loop-place.pairs.below.by_label c.loop-place-test.false c.loop-place.invariant
