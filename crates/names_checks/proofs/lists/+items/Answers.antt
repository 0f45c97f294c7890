use Rattle.std.proofs.Common.{sym, subst}
use Rattle.names_rules.specs.Scope.{scope, seen_keys}
use Rattle.names_rules.specs.Part.{Part, run}
use Rattle.names_rules.specs.Statements.{Labels, item_part}
use Rattle.names_rules.specs.Answers.{Leaves}
use Rattle.names_rules.proofs.Steps.{before_leaves}
use Rattle.names_checks.proofs.StatementLaws.{items-parts}
use Rattle.names_checks.proofs.lists.+items.Goals as goal

pub items-returns : goal.items-returns
items-returns t c = let s = scope c.args.known.now c.args.env.now in
    let x = c.args.x.now in
    subst (λ (p : Part Labels).
    Leaves c.further.result c.args.table.now c.further.new.table (seen_keys c.further.new.labels) p)
    (sym (items-parts x s (seen_keys c.args.labels.now)))
    (before_leaves c.further.result c.args.table.now c.item.new.table c.further.new.table
    (seen_keys c.item.new.labels) (seen_keys c.further.new.labels)
    (item_part x.first s (seen_keys c.args.labels.now))
    (λ more. run (λ others i. item_part i s others) more x.rest) c.in_ok-item.ensures c.further.ensures)
