use Rattle.std.proofs.Common.{take, pos, get_or, None, subst, sym}
use Rattle.std.proofs.lemmas.List.{take_more}
use Rattle.expand_counting.specs.declared.ranges.Condition.{Condition}
use Rattle.expand_counting.specs.Conditions.{Narrows}
use Rattle.expand_counting.proofs.NarrowLaws.{narrows_more}
use Rattle.expand_counting.proofs.walk.kept.Goals as goal

pub loop-c-preserved : goal.loop-c-preserved
loop-c-preserved c =
    let xs = c.as_slice-c-items.result.now in
    let d : Condition = record { low = None; high = None; gap = pos 0 } in
    subst (λ cs. Narrows c.args.values.now cs c.args.old.now c.narrowed-interval.result)
    (sym (take_more xs c.loop-c.c-index d c.loop-c-test.true))
    (narrows_more c.args.values.now (take c.loop-c.c-index xs) (get_or xs c.loop-c.c-index d) c.args.old.now
    c.loop-c.interval c.narrowed-interval.result c.loop-c.invariant c.narrowed-interval.ensures)
