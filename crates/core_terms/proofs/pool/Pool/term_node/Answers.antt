use Rattle.std.proofs.Common.{◌≡◌, Some, length, sym, ap, subst, arith}
use Rattle.std.specs.Prelude.{slice_get}
use Rattle.core_terms.specs.Pools.{Pooled, pooled, term_of_node, IsTermWithin}
use Rattle.core_terms.specs.Marks.{Fits}
use Rattle.core_terms.proofs.LookLaws.{in_front}
use Rattle.core_terms.proofs.PoolLaws.{term_count, term_there}
use Rattle.core_terms.proofs.pool.Pool.term_node.Goals as goal

pub term_node_at-requires : goal.term_node_at-requires
term_node_at-requires c =
    omega (
      arith,
      term_count (pooled c.self.inside.tables) c.self.invariant,
      ap (λ (p : Pooled). length p.terms) c.self.view_is,
      c.requires,
    )

pub returns-clause-tree : goal.returns-clause-tree
returns-clause-tree c =
    subst (λ (p : Pooled). slice_get p.terms c.args.id.place ≡
    Some (term_of_node p.forms p.terms c.term_node_at.result)) c.self.view_is
    (term_there (pooled c.self.inside.tables) c.args.id.place c.term_node_at.result c.self.invariant
    c.term_node_at.ensures)

pub returns-clause-parts : goal.returns-clause-parts
returns-clause-parts c =
    λ mark fits low. in_front (IsTermWithin mark.forms mark.terms) (pooled c.self.inside.tables).term_nodes mark.terms
    c.args.id.place c.term_node_at.result (subst (λ p. Fits p mark) (sym c.self.view_is) fits).term_parts low
    c.term_node_at.ensures
