use Rattle.std.proofs.Common.{sym, subst, map}
use Rattle.names_rules.specs.Scope.{scope}
use Rattle.names_rules.specs.Reading.{Reading, all_beside}
use Rattle.names_rules.specs.Statements.{component_reading}
use Rattle.names_rules.specs.Answers.{Notes}
use Rattle.names_rules.proofs.Steps.{beside_notes}
use Rattle.names_checks.proofs.StatementLaws.{assign-parts}
use Rattle.names_checks.proofs.components.+assign.Goals as goal

pub assign-returns : goal.assign-returns
assign-returns t c = let s = scope c.args.known.now c.args.env.now in
    subst (λ (r : Reading). Notes c.further.result c.args.table.now c.further.new.table r)
    (sym (assign-parts c.args.a.now s))
    (beside_notes c.further.result c.args.table.now c.component.new.table c.further.new.table
    (component_reading c.args.a.now.first s)
    (all_beside (map (λ c. component_reading c s) c.args.a.now.rest)) c.in_ok-component.ensures c.further.ensures)
