use Rattle.std.proofs.Common.{◌≤◌, ap, sym, subst, ◌∙◌, arith}
use Rattle.core_terms.specs.Folding.{truth_of}
use Rattle.core_terms.specs.Sizes.{form_nodes}
use Rattle.leadsto_rules.proofs.AnyLaws.{counted}
use Rattle.leadsto_rules.proofs.disjunctions.joined.Goals as goal

pub returns-clause-known : goal.returns-clause-known
returns-clause-known c =
    let size = c.size_of-more.ensures in
    let same = ap form_nodes c.get.ensures in
    let fewer : c.size_of-more.result ≤ form_nodes c.args.g = omega (arith, size, same) in
    record {
      truth = c.in_ok-whole.ensures.truth;
      nodes = subst (λ f. c.nodes_of.result ≤ form_nodes f) (sym c.in_ok-whole.ensures.tree)
          (counted c.args.d.whole c.args.g c.joined_known.new.truth c.nodes_of.result c.args.d.nodes
          c.size_of-more.result
          (c.in_ok-whole.ensures.truth ∙ ap truth_of c.in_ok-whole.ensures.tree) c.requires.known.nodes fewer
          c.nodes_of.ensures);
    }
