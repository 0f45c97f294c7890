use Rattle.std.proofs.Common.{None, false}
use Rattle.expand_counting.specs.declared.ranges.NestRange.{NestRange}
use Rattle.expand_counting.proofs.PlanLaws.{plan_holds}
use Rattle.expand_counting.proofs.plans.+plan.Goals as goal

pub returns-in_ok-insert-in-len1-up : goal.returns-in_ok-insert-in-len1-up
returns-in_ok-insert-in-len1-up t c =
    let d : NestRange = record {
      low = record { level = None; minus = false; number = 0 };
      high = record
          { level = None; minus = false; number = 0 };
    } in
    plan_holds c.args.ranges.now c.args.leaf.now c.args.k c.in_ok-conditions-in-len1-up.conditions
    c.in_ok-out-in-len1-up.out c.plan.new.plans c.insert.new.self d
    c.in-len1-up.len_at_least c.in_ok-conditions-in-len1-up.ensures c.in_ok-out-in-len1-up.ensures
    c.in_ok-insert-in-len1-up.ensures.ok
