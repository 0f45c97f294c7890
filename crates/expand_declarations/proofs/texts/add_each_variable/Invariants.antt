use Rattle.std.proofs.Common.{◌≡◌, drop}
use Rattle.std.specs.List.{flat_map}
use Rattle.names_rules.specs.Scope.{seen_keys}
use Rattle.expand_declarations.specs.Texts.{var_texts}
use Rattle.expand_declarations.specs.WordNumbers.{with_texts}
use Rattle.expand_declarations.proofs.texts.add_each_variable.Given as goal

abbrev pub invariant-loop-v : goal.invariant-loop-v
invariant-loop-v l = with_texts (seen_keys l.words) (flat_map var_texts (drop l.v-index l.vs))
    ≡ with_texts (seen_keys l.initial.words) (flat_map var_texts l.vs)
