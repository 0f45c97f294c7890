use Rattle.std.proofs.Common.{◌≡◌, ◌+◌, ◌++◌, drop, map}
use Rattle.std.specs.Int.{int_div_euclid}
use Rattle.obligations.specs.LinearForms.{sparse}
use Rattle.certificate_rules.proofs.sums.parts.Given as goal

abbrev pub invariant-loop-place : goal.invariant-loop-place
invariant-loop-place l =
    l.factors ++ sparse (l.first + l.place) (map (λ z. int_div_euclid z l.d) (drop l.place l.zs))
    ≡ sparse l.first (map (λ z. int_div_euclid z l.d) l.zs)
