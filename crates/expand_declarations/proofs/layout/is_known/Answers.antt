use Rattle.std.proofs.Common.{◌∙◌, ap, is_some}
use Rattle.std.specs.Map.{lookup}
use Rattle.std.specs.Str.{bytes_eq}
use Rattle.names_rules.specs.Scope.{entries}
use Rattle.names_rules.proofs.Lookups.{lookup_seen}
use Rattle.expand_declarations.proofs.LayoutLaws.{known_found}
use Rattle.expand_declarations.proofs.layout.is_known.Goals as goal

pub returns : goal.returns
returns c = c.contains_key.ensures
    ∙ ap (λ w. is_some (lookup (λ k. bytes_eq w k.now) c.args.variables.now.entries)) c.as_slice.ensures
    ∙ ap is_some (lookup_seen (bytes_eq c.args.name.now.text) c.args.variables.now.entries)
    ∙ known_found (entries c.args.variables.now) c.args.name.now.text
