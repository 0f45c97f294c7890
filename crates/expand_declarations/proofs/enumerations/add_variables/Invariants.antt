use Rattle.std.proofs.Common.{◌≡◌, drop}
use Rattle.std.specs.List.{flat_map}
use Rattle.names_rules.specs.Scope.{entries}
use Rattle.expand_declarations.specs.Start.{var_words, with_words}
use Rattle.expand_declarations.proofs.enumerations.add_variables.Given as goal

abbrev pub invariant-loop-v : goal.invariant-loop-v
invariant-loop-v l = with_words (entries l.values) (flat_map var_words (drop l.v-index l.vs))
    ≡ with_words (entries l.initial.values) (flat_map var_words l.vs)
