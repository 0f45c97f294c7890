use Rattle.std.proofs.Common.{List, [], length, slice_get, sym, ap, ◌∙◌, refl, arith}
use Rattle.std.specs.List.{list_any}
use Rattle.meaning_states.specs.Step.{is_defined, written}
use Rattle.meaning_states.proofs.StepTheorems.{step_keeps_ranges}
use Rattle.core_terms.specs.declared.programs.CWrite.{CWrite}
use Rattle.core_terms.specs.Values.{form_value}
use Rattle.core_terms.specs.Steps.{slot_ranges, core_writes, inside_writes}
use Rattle.executor.proofs.StateLaws.{state_length}
use Rattle.executor.proofs.PreparingLaws.{step_outside, step_done, step_undefined, touches_back}
use Rattle.executor.proofs.preparing.make_step.Goals as goal

pub writes_outside-requires-clause-fits : goal.writes_outside-requires-clause-fits
writes_outside-requires-clause-fits c = λ place f e.
    c.requires.fits.0 place f (ap (λ fs. slice_get fs place) (sym c.as_slice.ensures) ∙ e)

pub returns-then-writes_outside-clause-undefined : goal.returns-then-writes_outside-clause-undefined
returns-then-writes_outside-clause-undefined c = λ _.
    step_outside c.args.slots.now c.args.statement.now c.args.state.now
    (ap (list_any (form_value c.args.state.now [])) (sym c.as_slice.ensures) ∙ sym c.writes_outside.ensures
    ∙ c.if-writes_outside.true)

pub prepare-requires-clause-fits : goal.prepare-requires-clause-fits
prepare-requires-clause-fits c = λ place w e.
    c.requires.fits.1 place w (ap (λ (ws : List CWrite). slice_get ws place) (sym c.as_slice-writes.ensures) ∙ e)

pub level-requires-clause-targets : goal.level-requires-clause-targets
level-requires-clause-targets c = λ place w e.
    let there = ap (λ (ws : List CWrite). slice_get ws place) (sym c.as_slice-writes.ensures) ∙ e in
    omega (
      arith,
      (c.requires.fits.1 place w there).0,
      state_length c.args.slots.now c.args.state.now c.requires.state,
      c.prepare.auto.next,
      ap length c.requires.next,
    )

pub level-requires-clause-touched : goal.level-requires-clause-touched
level-requires-clause-touched c =
    touches_back c.args.state.now c.prepare.new.next c.prepare.new.marked c.as_slice-writes.result.now
    (c.prepare.auto.next ∙ ap length c.requires.next) c.prepare.ensures.touched

pub level-requires-else-prepare-clause-targets : goal.level-requires-else-prepare-clause-targets
level-requires-else-prepare-clause-targets c = λ place w e.
    let there = ap (λ (ws : List CWrite). slice_get ws place) (sym c.as_slice-writes.ensures) ∙ e in
    omega (arith, (c.requires.fits.1 place w there).0, state_length c.args.slots.now c.args.state.now c.requires.state)

pub returns-then-prepare-clause-done : goal.returns-then-prepare-clause-done
returns-then-prepare-clause-done c = λ _.
    step_done c.args.slots.now c.args.statement.now c.args.state.now c.level.new.next
    (ap (list_any (form_value c.args.state.now [])) (sym c.as_slice.ensures) ∙ sym c.writes_outside.ensures
    ∙ c.if-writes_outside.false)
    (c.if-prepare.ensures.defined
    ∙ ap (λ (ws : List CWrite). is_defined (slot_ranges c.args.slots.now) (inside_writes c.args.state.now ws))
    c.as_slice-writes.ensures)
    (c.level.ensures.next ∙ c.if-prepare.ensures.next refl
    ∙ ap (λ (ws : List CWrite). written c.args.state.now (inside_writes c.args.state.now ws)) c.as_slice-writes.ensures)

pub returns-then-prepare-clause-ranges : goal.returns-then-prepare-clause-ranges
returns-then-prepare-clause-ranges c =
    step_keeps_ranges (slot_ranges c.args.slots.now) (core_writes c.args.state.now c.args.statement.now)
    c.args.state.now c.level.new.next c.requires.state (returns-then-prepare-clause-done c refl)

pub returns-else-prepare-clause-undefined : goal.returns-else-prepare-clause-undefined
returns-else-prepare-clause-undefined c = λ _.
    step_undefined c.args.slots.now c.args.statement.now c.args.state.now
    (ap (list_any (form_value c.args.state.now [])) (sym c.as_slice.ensures) ∙ sym c.writes_outside.ensures
    ∙ c.if-writes_outside.false)
    (c.if-prepare.ensures.defined
    ∙ ap (λ (ws : List CWrite). is_defined (slot_ranges c.args.slots.now) (inside_writes c.args.state.now ws))
    c.as_slice-writes.ensures)
