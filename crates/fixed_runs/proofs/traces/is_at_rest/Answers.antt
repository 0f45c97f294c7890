use Rattle.std.proofs.Common.{List, sym, subst}
use Rattle.core_terms.specs.declared.programs.CSlot.{CSlot}
use Rattle.executor.specs.Fitting.{StatementRuns}
use Rattle.executor.proofs.StateLaws.{statements_fit}
use Rattle.fixed_runs.proofs.traces.is_at_rest.Goals as goal

pub changing-requires-clause-fits : goal.changing-requires-clause-fits
changing-requires-clause-fits c = λ n s e.
    subst (λ (slots : List CSlot). StatementRuns slots s) (sym c.as_slice.ensures)
    (statements_fit c.args.doc.now.slots c.args.p.now.statements c.requires.is_program.statements n s e)
