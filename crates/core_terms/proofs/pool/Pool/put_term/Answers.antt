use Rattle.std.proofs.Common.{sym, subst}
use Rattle.core_terms.specs.Marks.{Fits}
use Rattle.core_terms.specs.Pools.{pooled}
use Rattle.core_terms.proofs.MarkLaws.{marks_kept}
use Rattle.core_terms.proofs.pool.Pool.put_term.Goals as goal

pub returns-clause-marks : goal.returns-clause-marks
returns-clause-marks c =
    λ m fits. marks_kept (pooled c.self.inside.tables) (pooled c.put_term.new.tables) c.self.invariant
    c.put_term.ensures.kept m (subst (λ p. Fits p m) (sym c.self.view_is) fits)
