use Rattle.std.proofs.Common.{ap, ◌∙◌, ℕ, List}
use Rattle.names_rules.specs.Scope.{entries, seen_entries}
use Rattle.names_rules.specs.Declarations.{with_named}
use Rattle.names_rules.proofs.Lookups.{inserted}
use Rattle.ranges_types.proofs.entering.enter.Goals as goal

pub returns-in-Ok : goal.returns-in-Ok
returns-in-Ok c =
    ap (λ es. seen_entries es) c.in-Ok.ensures.entries
    ∙ inserted c.args.names.now.entries c.as_slice.result c.args.named
    ∙ ap (λ (w : List ℕ). with_named (entries c.args.names.now) w c.args.named) c.as_slice.ensures
