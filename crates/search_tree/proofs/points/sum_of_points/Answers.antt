use Rattle.std.proofs.Common.{◌-◌, ◌≤◌, ◌^◌, arith, subst, sym, ◌∙◌}
use Rattle.std.specs.Int.RustNames.{unsigned_abs}
use Rattle.std.proofs.lemmas.Int.{to_z-of_z}
use Rattle.search_tree.specs.Points.{values_in}
use Rattle.search_tree.proofs.BoundLaws.{total-small, same-sum, sum-more}
use Rattle.search_tree.proofs.points.sum_of_points.Goals as goal

pub factors-preserved : goal.factors-preserved
factors-preserved c =
    let i = c.factors.invariant in
    let some = c.factors-test.true in
    let inside = i.inside in
    let known = c.factors.sum-is in
    let is =
    sum-more (values_in c.args.points.now) c.args.factors.now c.factors.left _ _ _ c.with_product-next.result
    (omega (arith, some)) inside i.is c.with_product-next.ensures (grind (arith, to_z-of_z)) in
    let small =
    total-small c.args.points.now c.args.factors.now (c.factors.left - 1) c.with_product-next.result c.requires.tame
    c.requires.wide is in
    let same = same-sum c.with_product-next.result small in
    record {
      inside = omega (arith, inside);
      is = same ∙ is;
      small = subst (λ z. unsigned_abs z ≤ 2 ^ 125) (sym same) small;
    }
