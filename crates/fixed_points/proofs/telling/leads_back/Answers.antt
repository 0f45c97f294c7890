use Rattle.std.proofs.Common.{◌∙◌, [], List, ap, slice_get, sym, false, true, not, refl}
use Rattle.std.specs.List.{list_any, list_all}
use Rattle.core_terms.specs.declared.programs.CWrite.{CWrite}
use Rattle.core_terms.specs.Values.{form_value}
use Rattle.fixed_points.specs.Leaving.{leaves}
use Rattle.fixed_points.proofs.TellingLaws.{back_found}
use Rattle.fixed_points.proofs.telling.leads_back.Goals as goal

pub writes_outside-requires-clause-fits : goal.writes_outside-requires-clause-fits
writes_outside-requires-clause-fits c = λ place f e.
    c.requires.fits.0 place f (ap (λ fs. slice_get fs place) (sym c.as_slice.ensures) ∙ e)

pub leaves_all-requires-clause-fits : goal.leaves_all-requires-clause-fits
leaves_all-requires-clause-fits c = λ place w e.
    c.requires.fits.1 place w
    (ap (λ (ws : List CWrite). slice_get ws place) (sym c.as_slice-then-not-writes_outside.ensures) ∙ e)

pub returns-then-not-writes_outside : goal.returns-then-not-writes_outside
returns-then-not-writes_outside c =
    back_found c.args.slots.now c.args.statement.now c.args.state.now false c.leaves_all.result c.requires.state
    c.requires.fits
    (c.if-not-writes_outside.ensures ∙ ap (list_any (form_value c.args.state.now [])) c.as_slice.ensures)
    (c.leaves_all.ensures ∙ ap (list_all (leaves c.args.state.now)) c.as_slice-then-not-writes_outside.ensures)

pub returns-else-not-writes_outside : goal.returns-else-not-writes_outside
returns-else-not-writes_outside c =
    ap not c.if-not-writes_outside.false
    ∙ back_found c.args.slots.now c.args.statement.now c.args.state.now true
    (list_all (leaves c.args.state.now) c.args.statement.now.writes) c.requires.state c.requires.fits
    (c.if-not-writes_outside.ensures ∙ ap (list_any (form_value c.args.state.now [])) c.as_slice.ensures) refl
