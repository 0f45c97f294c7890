use Rattle.std.proofs.Common.{◌≡◌, ◌+ℤ◌, rules, to_z, of_z}
use Rattle.std.specs.Int.{w64, w128}
use Rattle.trace_watch.proofs.CaseLaws.{number_wide, up_to_end}
use Rattle.trace_watch.proofs.numbers.number_at.Goals as goal

pub returns : goal.returns
returns c =
    let up = up_to_end c.args.range.lo c.args.range.hi c.args.place c.requires in
    let given : to_z w128 (of_z w128 c.from.result) ≡ c.args.range.lo = search rules in
    number_wide c.args.range.lo c.args.range.hi c.args.place (to_z w128 (of_z w128 c.from.result))
    (to_z w64 (of_z w64 (to_z w128 (of_z w128 (to_z w128 (of_z w128 c.from.result) +ℤ to_z w128 c.args.place)))))
    c.requires given (search (rules, up))
