use Rattle.std.proofs.Common.{◌∙◌, [], List, ap, slice_get, sym}
use Rattle.std.specs.List.{list_any}
use Rattle.core_terms.specs.declared.programs.CWrite.{CWrite}
use Rattle.core_terms.specs.Values.{form_value}
use Rattle.core_terms.specs.Steps.{slot_ranges}
use Rattle.executor.proofs.TryingLaws.{undefined_outside, defined_by}
use Rattle.executor.proofs.trying.is_step_defined.Goals as goal

pub writes_outside-requires-clause-fits : goal.writes_outside-requires-clause-fits
writes_outside-requires-clause-fits c = λ place f e.
    c.requires.fits.0 place f (ap (λ fs. slice_get fs place) (sym c.as_slice.ensures) ∙ e)

pub returns-then-writes_outside : goal.returns-then-writes_outside
returns-then-writes_outside c =
    sym (undefined_outside (slot_ranges c.args.slots.now) c.args.state.now c.args.statement.now
    (ap (list_any (form_value c.args.state.now [])) (sym c.as_slice.ensures) ∙ sym c.writes_outside.ensures
    ∙ c.if-writes_outside.true))

pub are_inside-requires-clause-fits : goal.are_inside-requires-clause-fits
are_inside-requires-clause-fits c = λ place w e.
    c.requires.fits.1 place w (ap (λ (ws : List CWrite). slice_get ws place) (sym c.as_slice-writes.ensures) ∙ e)

pub do_agree-requires-clause-fits : goal.do_agree-requires-clause-fits
do_agree-requires-clause-fits c = λ place w e.
    c.requires.fits.1 place w (ap (λ (ws : List CWrite). slice_get ws place) (sym c.as_slice-writes.ensures) ∙ e)

pub returns-then-are_inside : goal.returns-then-are_inside
returns-then-are_inside c =
    defined_by (slot_ranges c.args.slots.now) c.args.state.now c.args.statement.now c.as_slice-writes.result.now
    c.do_agree.result c.as_slice-writes.ensures
    (ap (list_any (form_value c.args.state.now [])) (sym c.as_slice.ensures) ∙ sym c.writes_outside.ensures
    ∙ c.if-writes_outside.false)
    c.if-are_inside.ensures c.do_agree.ensures
