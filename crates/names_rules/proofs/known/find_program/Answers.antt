use Rattle.std.proofs.Common.{◌∙◌, ap}
use Rattle.std.specs.Map.{lookup}
use Rattle.std.specs.Str.{bytes_eq}
use Rattle.names_rules.proofs.Lookups.{lookup_seen}
use Rattle.names_rules.proofs.known.find_program.Goals as goal

pub returns : goal.returns
returns c = c.get.ensures.value
    ∙ ap (λ w. lookup (λ k. bytes_eq w k.now) c.args.programs.now.entries) c.as_slice.ensures
    ∙ lookup_seen _ c.args.programs.now.entries
