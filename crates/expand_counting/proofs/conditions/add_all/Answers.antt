use Rattle.std.proofs.Common.{◌∷◌, [], ◌++◌, pos, None, sym, subst, append-nil}
use Rattle.std.proofs.lemmas.List.{take_all}
use Rattle.expand_counting.specs.declared.ranges.Condition.{Condition}
use Rattle.expand_counting.specs.Conditions.{Entails}
use Rattle.expand_counting.proofs.FollowLaws.{entails_same, entails_added}
use Rattle.expand_counting.proofs.conditions.add_all.Goals as goal

pub loop-c-init : goal.loop-c-init
loop-c-init c = subst (λ cs. Entails cs c.args.list.now) (sym (append-nil c.args.list.now))
    (entails_same c.args.list.now)

pub loop-c-preserved : goal.loop-c-preserved
loop-c-preserved c =
    let d : Condition = record { low = None; high = None; gap = pos 0 } in
    entails_added c.args.list.now c.args.conditions.now c.loop-c.c-index d c.loop-c.list c.add.new.list
    c.loop-c-test.true c.loop-c.invariant
    (subst (λ x. Entails (c.loop-c.list ++ x ∷ []) c.add.new.list) c.plain.ensures c.in_ok-add.ensures)

pub returns : goal.returns
returns c = subst (λ cs. Entails (c.args.list.now ++ cs) c.loop-c.list)
    (take_all c.loop-c.c-index c.args.conditions.now c.loop-c-test.false) c.loop-c.invariant
