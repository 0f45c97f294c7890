use Rattle.std.proofs.Common.{◌≡◌, ◌++◌, List, ℕ, ℤ, pos, codes, get_or, take, ap, ◌∙◌, rules, to_z, of_z}
use Rattle.std.specs.Int.{w64}
use Rattle.std.specs.List.{flat_map}
use Rattle.std.specs.Fmt.{signed_decimal}
use Rattle.schedule_replay.proofs.BufferLaws.{put_then, put_same}
use Rattle.schedule_replay.proofs.LineLaws.{flat_map_more}
use Rattle.schedule_replay.proofs.pieces.put_more.Goals as goal

pub loop-index-preserved : goal.loop-index-preserved
loop-index-preserved g c =
    let z = get_or c.args.indices.now c.loop-index.index-index (pos 0) in
    let number : to_z w64 (of_z w64 z) ≡ z = search rules in
    let more : ℤ → List ℕ = λ x. codes "," ++ signed_decimal x in
    put_same (ap (λ x. flat_map more (take c.loop-index.index-index c.args.indices.now) ++ more x) number
    ∙ flat_map_more more c.args.indices.now c.loop-index.index-index (pos 0) c.loop-index-test.true)
    (put_then c.loop-index.invariant (put_then c.put.ensures c.put_signed.ensures))
