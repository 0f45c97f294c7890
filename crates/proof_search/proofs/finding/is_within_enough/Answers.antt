use Rattle.std.proofs.Common.{◌+◌, ◌≤◌, length, ap, arith, ◌∙◌}
use Rattle.proof_search.proofs.FindingLaws.{leaves-enough}
use Rattle.proof_search.proofs.finding.is_within_enough.Goals as goal

pub returns-clause-enough : goal.returns-clause-enough
returns-clause-enough c h =
    let product = c.saturating_mul.ensures in
    let within : c.args.total ≤ c.saturating_mul.result = grind (arith, h) in
    leaves-enough c.args.o.now c.args.total _ c.in_ok-leaves.leaves c.leaf_units-2.result c.in_ok-leaves.ensures
    (c.leaf_units-2.ensures ∙ ap (λ vs. length vs + 256) c.as_slice-2.ensures) (omega (arith, product, within))
