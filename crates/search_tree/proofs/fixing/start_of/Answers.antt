use Rattle.std.proofs.Common.{subst, ◌∙◌}
use Rattle.search_tree.specs.Points.{ArePoints}
use Rattle.search_tree.proofs.FixingLaws.{start-fixing}
use Rattle.search_tree.proofs.fixing.start_of.Goals as goal

pub returns : goal.returns
returns c =
    start-fixing c.args.vs.now c.args.rest c.args.ranges.now c.args.branch.now _ c.requires.ready
    (c.in_ok-copy.ensures ∙ c.requires.facts) c.new.ensures
    (subst (λ fs. ArePoints fs 0 c.in_ok-points.points) c.requires.facts c.in_ok-points.ensures.are)
    c.in_ok-points.ensures.values
