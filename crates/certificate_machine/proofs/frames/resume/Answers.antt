use Rattle.std.proofs.Common.{◌∙◌, arith}
use Rattle.obligations.proofs.ScopeLaws.{scope-done}
use Rattle.certificate_machine.proofs.frames.resume.Goals as goal

pub go_second-requires-clause-variables : goal.go_second-requires-clause-variables
go_second-requires-clause-variables c =
    let room = c.requires.fits.0.room in
    scope-done c.args.vs.now _ c.args.frame.added c.requires.own (omega (arith, room))
    (c.as_slice.ensures ∙ c.cut_variables.ensures)
