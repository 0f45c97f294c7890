use Rattle.std.proofs.Common.{◌∙◌, List, ap, slice_get, sym}
use Rattle.core_terms.specs.declared.programs.CWrite.{CWrite}
use Rattle.meaning_states.specs.Step.{written}
use Rattle.core_terms.specs.Steps.{inside_writes}
use Rattle.executor.proofs.TryingLaws.{chosen_made}
use Rattle.executor.proofs.trying.would_step.Goals as goal

pub is_step_defined-requires-clause-fits : goal.is_step_defined-requires-clause-fits
is_step_defined-requires-clause-fits c =
    c.requires.fits c.args.choice c.chosen-statement.result.now c.chosen-statement.ensures

pub make_writes-requires-clause-fits : goal.make_writes-requires-clause-fits
make_writes-requires-clause-fits c = λ place w e.
    (c.requires.fits c.args.choice c.chosen-statement.result.now c.chosen-statement.ensures).1 place w
    (ap (λ (ws : List CWrite). slice_get ws place) (sym c.as_slice.ensures) ∙ e)

pub returns-clause-done : goal.returns-clause-done
returns-clause-done c = λ _.
    chosen_made c.args.slots.now c.args.p.now c.args.choice c.args.state.now c.make_writes.new.into
    c.chosen-statement.result.now c.as_slice.result.now c.chosen-statement.ensures c.as_slice.ensures
    c.if-not-is_step_defined.ensures
    (c.make_writes.ensures
    ∙ ap (λ s. written s (inside_writes c.args.state.now c.as_slice.result.now)) c.copy_from_slice.ensures.after)
