use Rattle.std.proofs.Common.{◌≡◌, ◌++◌, drop}
use Rattle.std.specs.List.{flat_map}
use Rattle.certificate_printing.specs.Certificates.{pair_text}
use Rattle.certificate_printing.proofs.certificates.push_pairs.Given as goal

abbrev pub invariant-loop-pair : goal.invariant-loop-pair
invariant-loop-pair l =
    l.text.items ++ flat_map pair_text (drop l.pair-index l.pairs) ≡ l.initial.text.items ++ flat_map pair_text l.pairs
