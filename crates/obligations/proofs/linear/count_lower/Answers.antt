use Rattle.std.proofs.Common.{◌+◌, ◌-◌, ◌/◌, ◌<◌, arith, sym, ◌∙◌}
use Rattle.obligations.proofs.OrderLaws.{lower-to, upper-from}
use Rattle.obligations.proofs.linear.count_lower.Goals as goal

pub halves-preserved-then-is_lower : goal.halves-preserved-then-is_lower
halves-preserved-then-is_lower c =
    let inside : c.halves.low + (c.halves.high - c.halves.low) / 2 < c.halves.high = omega arith in
    record {
      ends = omega arith;
      bound = c.halves.invariant.bound;
      before =
          lower-to c.args.param c.args.number c.args.vs.now (c.halves.low + (c.halves.high - c.halves.low) / 2) _
          c.requires (omega arith) (sym c.is_lower.ensures ∙ c.if-is_lower.true);
      after = c.halves.invariant.after;
    }

pub halves-preserved : goal.halves-preserved
halves-preserved c =
    let inside : c.halves.low + (c.halves.high - c.halves.low) / 2 < c.halves.high = omega arith in
    record {
      ends = omega arith;
      bound = omega arith;
      before = c.halves.invariant.before;
      after =
          upper-from c.args.param c.args.number c.args.vs.now (c.halves.low + (c.halves.high - c.halves.low) / 2) _
          c.requires (omega arith) (sym c.is_lower.ensures ∙ c.if-is_lower.false);
    }
