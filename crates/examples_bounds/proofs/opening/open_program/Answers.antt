use Rattle.std.proofs.Common.{◌∙◌}
use Rattle.examples_bounds.proofs.OpenLaws.{opened}
use Rattle.examples_bounds.proofs.opening.open_program.Goals as goal

pub returns-clause-program : goal.returns-clause-program
returns-clause-program c =
    opened c.args.slots.now c.args.program.now c.args.program.now.name c.in_ok-shown.shown c.any_state.result
    c.new.result
    c.in_ok-statements.statements c.requires (c.in_ok-shown.ensures ∙ c.as_slice-2.ensures) c.new.ensures
    (c.in_ok-statements.ensures ∙ c.as_slice.ensures) c.any_state.ensures.fits
    (c.any_state.ensures.shown c.args.program.now.shown)
