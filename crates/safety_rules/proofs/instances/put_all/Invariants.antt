use Rattle.std.proofs.Common.{◌≡◌, map, take}
use Rattle.rules_table.specs.Table.{put_in}
use Rattle.safety_rules.proofs.instances.put_all.Given as goal

abbrev pub invariant-loop-index : goal.invariant-loop-index
invariant-loop-index l = l.all ≡ map (put_in l.args) (take l.index-index l.indices)
