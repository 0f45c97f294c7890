use Rattle.std.proofs.Common.{◌≡◌, drop}
use Rattle.std.specs.List.{flat_map}
use Rattle.names_rules.specs.Scope.{seen_keys}
use Rattle.expand_declarations.specs.Texts.{item_texts}
use Rattle.expand_declarations.specs.WordNumbers.{with_texts}
use Rattle.expand_declarations.proofs.texts.+items.Given as goal

abbrev pub invariant-add_further-loop-i : goal.invariant-add_further-loop-i
invariant-add_further-loop-i l = with_texts (seen_keys l.words) (flat_map item_texts (drop l.i-index l.i-items))
    ≡ with_texts (seen_keys l.initial.words) (flat_map item_texts l.i-items)
