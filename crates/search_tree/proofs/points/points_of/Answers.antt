use Rattle.std.proofs.Common.{arith}
use Rattle.search_tree.proofs.BoundLaws.{points-next, values-next, long-next}
use Rattle.search_tree.proofs.points.points_of.Goals as goal

pub values-preserved : goal.values-preserved
values-preserved c =
    let i = c.values.invariant in
    let inside = i.inside in
    record {
      inside = omega arith;
      long = long-next c.values.points c.push.new.self c.own_point.result c.values.place c.in_ok-push.ensures.ok i.long;
      are = points-next c.args.facts.now c.values.points c.push.new.self c.own_point.result c.values.place
          c.in_ok-push.ensures.ok i.are i.long c.own_point.ensures.is;
      values = values-next c.values.points c.push.new.self c.own_point.result c.args.ranges.now c.values.place _
          c.in_ok-push.ensures.ok i.values (omega arith) c.own_point.ensures.value;
    }
