use Rattle.std.proofs.Common.{List, map, ap, IsTrue, subst}
use Rattle.std.specs.Prelude.{◌↔◌}
use Rattle.meaning_states.specs.State.{State}
use Rattle.core_terms.specs.declared.programs.CStmt.{CStmt}
use Rattle.core_terms.specs.Steps.{core_step, slot_ranges}
use Rattle.executor.specs.CoreSystem.{core_system}
use Rattle.fair_rounds.specs.Records.{holding}
use Rattle.examples_bounds.specs.Walking.{LeadsOn}
use Rattle.examples_bounds.proofs.ShortLaws.{walked_all}
use Rattle.examples_bounds.proofs.states.leads_everywhere.Goals as goal

pub returns : goal.returns
returns c =
    let slots = c.args.slots.now in
    walked_all (core_system slots c.in_ok-whole.whole) (core_system slots c.args.program.now)
    (ap (λ (ss : List CStmt). map (core_step slots) ss) c.in_ok-whole.ensures.statements) (slot_ranges slots)
    c.args.most (holding c.args.params.now c.args.p.now) (holding c.args.params.now c.args.q.now) c.args.bound
    c.in_ok-held.held
    (subst (λ (zs : State). IsTrue c.in_ok-held.held ↔ LeadsOn (slot_ranges slots) c.args.most
    (core_system slots c.in_ok-whole.whole) (holding c.args.params.now c.args.p.now)
    (holding c.args.params.now c.args.q.now) c.args.bound zs) c.as_slice.ensures c.in_ok-held.ensures)
