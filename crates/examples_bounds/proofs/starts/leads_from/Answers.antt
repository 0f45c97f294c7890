use Rattle.std.proofs.Common.{List, map, ap}
use Rattle.core_terms.specs.declared.programs.CStmt.{CStmt}
use Rattle.core_terms.specs.Steps.{core_step}
use Rattle.executor.specs.CoreSystem.{core_system}
use Rattle.fair_rounds.specs.Records.{holding}
use Rattle.examples_bounds.proofs.ShortLaws.{walked_like}
use Rattle.examples_bounds.proofs.starts.leads_from.Goals as goal

pub returns : goal.returns
returns c =
    walked_like (core_system c.args.slots.now c.in_ok-whole.whole) (core_system c.args.slots.now c.args.program.now)
    (ap (λ (ss : List CStmt). map (core_step c.args.slots.now) ss) c.in_ok-whole.ensures.statements) c.args.first.now
    c.args.most
    (holding c.args.params.now c.args.p.now) (holding c.args.params.now c.args.q.now) c.args.bound c.in_ok-held.held
    c.in_ok-held.ensures
