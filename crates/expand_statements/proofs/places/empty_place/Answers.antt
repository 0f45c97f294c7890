use Rattle.std.proofs.Common.{List, ap, map, ◌∙◌}
use Rattle.unity_syntax.specs.declared.name.Name.{Name}
use Rattle.expand_rules.specs.Lists.{place_where}
use Rattle.expand_statements.specs.Chains.{chain_range}
use Rattle.expand_statements.specs.Standing.{names_of}
use Rattle.expand_statements.proofs.PlaceLaws.{empty_found}
use Rattle.expand_statements.proofs.places.empty_place.Goals as goal
use denote.Bor.{Bor}

pub returns : goal.returns
returns c =
    let chain = c.args.chain.now in
    let range = c.args.range.now in
    c.place_where.ensures ∙ ap (λ b. place_where b range.at)
    (empty_found (names_of chain) chain.ranges c.as_slice-2.result.now range c.nest_range-nested.result
    c.in_ok-there.there
    c.as_slice-2.ensures (c.nest_range-nested.ensures
    ∙ ap (λ (ns : List (Bor Name)). chain_range (map (λ n. n.now.text) ns) range) c.as_slice.ensures)
    c.in_ok-there.ensures)
