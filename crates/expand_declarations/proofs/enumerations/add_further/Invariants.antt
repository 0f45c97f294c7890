use Rattle.std.proofs.Common.{◌≡◌, drop, ◌+◌}
use Rattle.expand_expressions.specs.from_meaning_documents.Setting.{with_places}
use Rattle.names_rules.specs.Scope.{entries}
use Rattle.expand_declarations.specs.Start.{with_words}
use Rattle.expand_declarations.proofs.enumerations.add_further.Given as goal

abbrev pub invariant-loop-i : goal.invariant-loop-i
invariant-loop-i l = with_words (entries l.values) (with_places (l.i + 1) (drop l.i l.names))
    ≡ with_words (entries l.initial.values) (with_places 1 l.names)
