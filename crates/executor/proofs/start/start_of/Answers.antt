use Rattle.std.proofs.Common.{IsTrue, sym, subst}
use Rattle.meaning_states.specs.State.{State, is_state}
use Rattle.core_terms.specs.Steps.{slot_ranges}
use Rattle.executor.proofs.StartLaws.{start_is_placed}
use Rattle.executor.proofs.StartStateLaws.{start_is_state}
use Rattle.executor.proofs.start.start_of.Goals as goal

pub returns-clause-numbers : goal.returns-clause-numbers
returns-clause-numbers c = cc (start_is_placed c.args.slots.now c.args.p.now, c.in_ok-state.ensures)

pub returns-clause-ranges : goal.returns-clause-ranges
returns-clause-ranges c = λ slots fits.
    subst (λ (state : State). IsTrue (is_state (slot_ranges c.args.slots.now) state)) (sym (returns-clause-numbers c))
    (start_is_state c.args.slots.now c.args.p.now slots fits)
