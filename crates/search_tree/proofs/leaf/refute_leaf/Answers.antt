use Rattle.search_tree.proofs.FixedLaws.{low-met}
use Rattle.search_tree.proofs.leaf.refute_leaf.Goals as goal

pub returns-in_ok-low_ends : goal.returns-in_ok-low_ends
returns-in_ok-low_ends c =
    low-met c.args.view.vs.now c.args.view.rest c.args.view.ranges.now c.args.branch.now c.in_ok-low_ends.field-0
    c.requires.ready
    c.if-branch-eq0.true c.requires.reach c.requires.none c.requires.fixed c.in_ok-low_ends.ensures
