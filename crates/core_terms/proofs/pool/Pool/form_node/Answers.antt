use Rattle.std.proofs.Common.{◌≡◌, Some, length, sym, ap, subst, arith}
use Rattle.std.specs.Prelude.{slice_get}
use Rattle.core_terms.specs.Pools.{Pooled, pooled, form_of_node, IsFormWithin}
use Rattle.core_terms.specs.Marks.{Fits}
use Rattle.core_terms.proofs.LookLaws.{in_front, form_there}
use Rattle.core_terms.proofs.PoolLaws.{form_count}
use Rattle.core_terms.proofs.pool.Pool.form_node.Goals as goal

pub form_node_at-requires : goal.form_node_at-requires
form_node_at-requires c =
    omega (
      arith,
      form_count (pooled c.self.inside.tables) c.self.invariant,
      ap (λ (p : Pooled). length p.forms) c.self.view_is,
      c.requires,
    )

pub returns-clause-tree : goal.returns-clause-tree
returns-clause-tree c =
    subst (λ (p : Pooled). slice_get p.forms c.args.id.place ≡
    Some (form_of_node p.forms p.terms c.form_node_at.result)) c.self.view_is
    (form_there (pooled c.self.inside.tables) c.args.id.place c.form_node_at.result c.self.invariant
    c.form_node_at.ensures)

pub returns-clause-parts : goal.returns-clause-parts
returns-clause-parts c =
    λ mark fits low. in_front (IsFormWithin mark.forms mark.terms) (pooled c.self.inside.tables).form_nodes mark.forms
    c.args.id.place c.form_node_at.result (subst (λ p. Fits p mark) (sym c.self.view_is) fits).form_parts low
    c.form_node_at.ensures
