use Rattle.std.proofs.Common.{ap, ◌∙◌}
use Rattle.names_rules.specs.Scope.{seen_entries}
use Rattle.expand_expressions.specs.Places.{variables_of}
use Rattle.expand_declarations.proofs.LayoutLaws.{entered}
use Rattle.expand_declarations.proofs.layout.enter.Goals as goal

pub returns : goal.returns
returns c = ap (λ es. variables_of (seen_entries es)) c.in_ok-insert.ensures.entries
    ∙ entered c.args.variables.now.entries c.as_slice.result c.args.name.now.text
    c.args.placed c.as_slice.ensures c.requires
