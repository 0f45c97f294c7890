use Rattle.std.proofs.Common.{◌≡◌, drop}
use Rattle.names_rules.specs.Scope.{entries}
use Rattle.expand_declarations.specs.Start.{enumeration_words, with_words}
use Rattle.expand_declarations.proofs.enumerations.add_parts.Given as goal

abbrev pub invariant-loop-part : goal.invariant-loop-part
invariant-loop-part l = with_words (entries l.values) (enumeration_words (drop l.part-index l.parts))
    ≡ with_words (entries l.initial.values) (enumeration_words l.parts)
