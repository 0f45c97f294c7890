use Rattle.std.proofs.Common.{◌≡◌, take}
use Rattle.expand_declarations.proofs.WordLaws.{seen}
use Rattle.expand_declarations.proofs.words.WordTable.texts.Given as goal

abbrev pub invariant-loop-text : goal.invariant-loop-text
invariant-loop-text l = l.texts ≡ seen (take l.text-index l.text-items)
