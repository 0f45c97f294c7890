use Rattle.std.proofs.Common.{◌≡◌, ◌++◌, map, take}
use Rattle.expand_declarations.specs.WordNumbers.{word_number}
use Rattle.expand_declarations.proofs.elements.add_numbers.Given as goal

abbrev pub invariant-loop-name : goal.invariant-loop-name
invariant-loop-name l =
    l.numbers ≡ l.initial.numbers ++ map (λ w. word_number l.words w.text) (take l.name-index l.names)
