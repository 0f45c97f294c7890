use Rattle.std.proofs.Common.{◌≡◌, ◌-◌, ◌++◌, List, ℕ, ℤ, pos, codes, length, get_or, take, drop, take_all, arith, ap}
use Rattle.std.proofs.Common.{◌∙◌, rules, to_z, of_z}
use Rattle.std.proofs.lemmas.Grind.{common_steps}
use Rattle.std.specs.Int.{w64}
use Rattle.std.specs.List.{flat_map}
use Rattle.std.specs.Fmt.{signed_decimal}
use Rattle.schedule_replay.proofs.BufferLaws.{put_then, put_same}
use Rattle.schedule_replay.proofs.LineLaws.{indices_joined}
use Rattle.schedule_replay.proofs.pieces.put_indices.Goals as goal

pub returns-in-len1-up : goal.returns-in-len1-up
returns-in-len1-up g c =
    let z = get_or c.args.indices.now 0 (pos 0) in
    let number : to_z w64 (of_z w64 z) ≡ z = search rules in
    let more : List ℤ → List ℕ = λ zs. flat_map (λ x. codes "," ++ signed_decimal x) zs in
    let rest : take (length c.args.indices.now - 1) (drop 1 c.args.indices.now) ≡ drop 1 c.args.indices.now =
    take_all (length c.args.indices.now - 1) (drop 1 c.args.indices.now) (grind (arith, common_steps)) in
    put_same (ap (λ zs. codes "[" ++ (signed_decimal (to_z w64 (of_z w64 z)) ++ more zs) ++ codes "]") rest
    ∙ ap (λ x. codes "[" ++ (signed_decimal x ++ more (drop 1 c.args.indices.now)) ++ codes "]") number
    ∙ indices_joined c.args.indices.now c.in-len1-up.len_at_least)
    (put_then (put_then c.put.ensures (put_then c.put_signed.ensures c.put_more.ensures)) c.put-in-len1-up.ensures)
