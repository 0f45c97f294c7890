use Rattle.std.proofs.Common.{sym}
use Rattle.search_tree.proofs.HalfLaws.{half-is}
use Rattle.search_tree.proofs.halves.half_ranges.Goals as goal

pub returns-in-Some : goal.returns-in-Some
returns-in-Some c =
    half-is c.args.half c.args.halves c.args.ranges.now c.in_ok-all.all c.replace.new.self c.in-Some.range.now
    c.half_range.result c.replace.ensures.rest c.in_ok-all.ensures (sym c.in-Some.ensures) c.half_range.ensures
