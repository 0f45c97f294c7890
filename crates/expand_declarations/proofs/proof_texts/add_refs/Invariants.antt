use Rattle.std.proofs.Common.{◌≡◌, drop}
use Rattle.std.specs.List.{flat_map}
use Rattle.names_rules.specs.Scope.{seen_keys}
use Rattle.expand_declarations.specs.Texts.{ref_texts}
use Rattle.expand_declarations.specs.WordNumbers.{with_texts}
use Rattle.expand_declarations.proofs.proof_texts.add_refs.Given as goal

abbrev pub invariant-loop-r : goal.invariant-loop-r
invariant-loop-r l = with_texts (seen_keys l.words) (flat_map ref_texts (drop l.r-index l.refs))
    ≡ with_texts (seen_keys l.initial.words) (flat_map ref_texts l.refs)
