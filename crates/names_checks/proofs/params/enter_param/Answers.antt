use Rattle.std.proofs.Common.{ap, ◌∙◌, ℕ, List}
use Rattle.std.specs.Str.{bytes_eq}
use Rattle.indexmap.specs.IndexMap.{insert_entry}
use Rattle.names_rules.specs.Scope.{entries, seen_entries}
use Rattle.names_rules.proofs.Lookups.{inserted}
use Rattle.names_checks.proofs.params.enter_param.Goals as goal

pub returns-in-Ok : goal.returns-in-Ok
returns-in-Ok c =
    ap (λ es. seen_entries es) c.in-Ok.ensures.entries
    ∙ inserted c.args.params.now.entries c.as_slice.result c.args.number
    ∙ ap (λ (w : List ℕ). insert_entry bytes_eq (entries c.args.params.now) w c.args.number) c.as_slice.ensures
