use Rattle.std.proofs.Common.{◌≡◌, rules, to_z, of_z}
use Rattle.std.specs.Int.{w64}
use Rattle.schedule_replay.proofs.BufferLaws.{put_then, put_same}
use Rattle.solver_scripts.specs.Naming.{symbols}
use Rattle.solver_scripts.proofs.ScriptTexts.{range_is}
use Rattle.solver_scripts.proofs.scripts.put_range.Goals as goal

pub returns : goal.returns
returns g c =
    let v = c.args.variable in
    let lo : to_z w64 (of_z w64 v.range.lo) ≡ v.range.lo = search rules in
    let hi : to_z w64 (of_z w64 v.range.hi) ≡ v.range.hi = search rules in
    put_same (range_is (symbols c.args.names.now v.param v.number) v.range.lo v.range.hi _ _ lo hi)
    (put_then c.put.ensures
    (put_then (put_then (put_then c.put_constant.ensures c.put-2.ensures) c.put_symbol.ensures)
    (put_then c.put-3.ensures
    (put_then (put_then (put_then c.put_symbol-2.ensures c.put-4.ensures) c.put_constant-2.ensures)
    c.put-5.ensures))))
