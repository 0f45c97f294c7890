use Rattle.std.proofs.Common.{◌≡◌, drop, map}
use Rattle.names_rules.specs.Scope.{seen_keys}
use Rattle.expand_declarations.specs.WordNumbers.{with_texts}
use Rattle.expand_declarations.proofs.words.add_words.Given as goal

abbrev pub invariant-loop-item : goal.invariant-loop-item
invariant-loop-item g l = with_texts (seen_keys l.words) (map g.T.Worded.text (drop l.item-index l.items))
    ≡ with_texts (seen_keys l.initial.words) (map g.T.Worded.text l.items)
