use Rattle.std.proofs.Common.{◌∙◌, ap}
use Rattle.std.specs.Map.{lookup}
use Rattle.std.specs.Str.{bytes_eq}
use Rattle.names_rules.proofs.Lookups.{lookup_seen}
use Rattle.expand_expressions.proofs.places.find_variable.Goals as goal

pub returns : goal.returns
returns c = c.copied.ensures ∙ c.get.ensures.value
    ∙ ap (λ w. lookup (λ k. bytes_eq w k.now) c.args.variables.now.entries) c.as_slice.ensures
    ∙ lookup_seen _ c.args.variables.now.entries
