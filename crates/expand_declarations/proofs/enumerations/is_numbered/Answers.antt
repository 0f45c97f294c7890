use Rattle.std.proofs.Common.{◌∙◌, ap, is_some}
use Rattle.std.specs.Map.{lookup}
use Rattle.std.specs.Str.{bytes_eq}
use Rattle.names_rules.proofs.Lookups.{lookup_seen}
use Rattle.expand_declarations.proofs.enumerations.is_numbered.Goals as goal

pub returns : goal.returns
returns c = c.contains_key.ensures
    ∙ ap (λ w. is_some (lookup (λ k. bytes_eq w k.now) c.args.values.now.entries)) c.as_slice.ensures
    ∙ ap is_some (lookup_seen (bytes_eq c.args.name.now.text) c.args.values.now.entries)
