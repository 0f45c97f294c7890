use Rattle.std.proofs.Common.{◌≡◌, take}
use Rattle.expand_declarations.proofs.words.copy_text.Given as goal

abbrev pub invariant-loop-byte : goal.invariant-loop-byte
invariant-loop-byte l = l.copy ≡ take l.byte-index l.text
