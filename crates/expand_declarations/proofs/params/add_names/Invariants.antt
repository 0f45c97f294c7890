use Rattle.std.proofs.Common.{◌≡◌, ◌++◌, map, take}
use Rattle.expand_declarations.specs.WordNumbers.{word_number}
use Rattle.expand_declarations.proofs.params.add_names.Given as goal

abbrev pub invariant-loop-p : goal.invariant-loop-p
invariant-loop-p l =
    l.names ≡ l.initial.names ++ map (word_number l.words) (map (λ p. p.name.text) (take l.p-index l.ps))
