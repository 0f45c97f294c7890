use Rattle.std.proofs.Common.{ap, ◌∙◌, ℕ, List}
use Rattle.std.specs.Str.{bytes_eq}
use Rattle.indexmap.specs.IndexMap.{insert_entry}
use Rattle.names_rules.specs.Scope.{entries, seen_entries}
use Rattle.names_rules.proofs.Lookups.{inserted}
use Rattle.ranges_types.proofs.programs.compose.Goals as goal

pub returns-in-Ok : goal.returns-in-Ok
returns-in-Ok c =
    ap (λ es. seen_entries es) c.in-Ok.ensures.entries
    ∙ inserted c.args.programs.now.entries c.as_slice.result c.args.composed
    ∙ ap (λ (w : List ℕ). insert_entry bytes_eq (entries c.args.programs.now) w c.args.composed) c.as_slice.ensures
