use Rattle.std.proofs.Common.{List, ap, map, ◌∙◌}
use Rattle.unity_syntax.specs.declared.name.Name.{Name}
use Rattle.expand_rules.specs.Measures.{place_of}
use Rattle.expand_rules.specs.Lists.{place_where}
use Rattle.expand_statements.specs.Chains.{chain_end}
use Rattle.expand_statements.specs.Standing.{names_of}
use Rattle.expand_statements.proofs.PlaceLaws.{large_found}
use Rattle.expand_statements.proofs.places.large_place.Goals as goal
use denote.Bor.{Bor}

pub returns : goal.returns
returns c =
    let chain = c.args.chain.now in
    let end = c.args.end.now in
    c.place_where.ensures ∙ ap (place_where c.in_ok-there.there) c.place_of.ensures ∙ ap
    (λ b. place_where b (place_of end))
    (large_found (names_of chain) chain.ranges c.as_slice-2.result.now end c.nest_end-nested.result c.in_ok-there.there
    c.as_slice-2.ensures (c.nest_end-nested.ensures
    ∙ ap (λ (ns : List (Bor Name)). chain_end (map (λ n. n.now.text) ns) end) c.as_slice.ensures)
    c.in_ok-there.ensures)
