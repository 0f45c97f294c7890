use Rattle.std.proofs.Common.{◌≡◌, ◌≤◌, ◌<◌, None, refl, sym, subst, ◌∙◌, w64, rules, arith, FitsSigned}
use Rattle.std.proofs.lemmas.Int.{to_z-of_z}
use Rattle.core_terms.specs.Folding.{truth_of}
use Rattle.core_terms.specs.Sizes.{form_nodes}
use Rattle.rules_table.specs.Forms.{any_of}
use Rattle.meaning_executions.specs.Counting.{range_size}
use Rattle.leadsto_rules.specs.Disjunctions.{instance_at, instances_at}
use Rattle.leadsto_rules.proofs.AnyLaws.{too_large}
use Rattle.leadsto_rules.proofs.disjunctions.any_instance.Goals as goal

pub returns-then-is_too_large : goal.returns-then-is_too_large
returns-then-is_too_large c =
    let d = c.in_ok-d-2.d in
    let range = c.args.range in
    let so_far = c.in_ok-d-2.ensures.after in
    let tested = c.is_too_large.ensures c.if-is_too_large.true in
    let fits : FitsSigned w64 c.args.range.lo = search rules in
    let whole : c.in_ok-d-2.d.whole ≡ any_of (instances_at c.args.i.now c.args.range.lo c.in_ok-d-2.d.done) =
    subst (λ z. c.in_ok-d-2.d.whole ≡ any_of (instances_at c.args.i.now z c.in_ok-d-2.d.done))
    (to_z-of_z w64 c.args.range.lo fits) so_far.whole in
    let inside = so_far.within in
    let count = c.count_of-total.ensures in
    let within : c.in_ok-d-2.d.done ≤ range_size (c.args.range.lo, c.args.range.hi) = omega (arith, inside, count) in
    let unknown : truth_of c.in_ok-d-2.d.whole ≡ None = sym so_far.known.truth ∙ tested.0 in
    let nodes = so_far.known.nodes in
    let many = tested.1 in
    let large : 65536 < form_nodes c.in_ok-d-2.d.whole = omega (arith, nodes, many) in (
      refl,
      too_large (instance_at c.args.i.now) range.lo d.done (range_size (range.lo, range.hi)) d.whole so_far.some within
          whole unknown large,
    )
