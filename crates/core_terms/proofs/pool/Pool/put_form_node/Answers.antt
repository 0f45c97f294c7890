use Rattle.std.proofs.Common.{length, sym, subst}
use Rattle.core_terms.specs.Marks.{Fits}
use Rattle.core_terms.specs.Pools.{Pooled, pooled, IsFormWithin}
use Rattle.core_terms.proofs.MarkLaws.{marks_kept}
use Rattle.core_terms.proofs.LookLaws.{form_within_entries}
use Rattle.core_terms.proofs.pool.Pool.put_form_node.Goals as goal

pub place_form-requires-clause-parts : goal.place_form-requires-clause-parts
place_form-requires-clause-parts c =
    form_within_entries c.self.inside.tables.forms c.self.inside.tables.terms c.args.node
    (subst (λ (p : Pooled). IsFormWithin (length p.forms) (length p.terms) c.args.node) (sym c.self.view_is) c.requires)

pub returns-clause-marks : goal.returns-clause-marks
returns-clause-marks c =
    λ m fits. marks_kept (pooled c.self.inside.tables) (pooled c.place_form.new.tables) c.self.invariant
    c.place_form.ensures.kept m (subst (λ p. Fits p m) (sym c.self.view_is) fits)
