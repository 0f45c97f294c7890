use Rattle.std.proofs.Common.{◌≡◌, FitsSigned, ◌∙◌, arith, rules, to_z, of_z}
use Rattle.std.proofs.lemmas.Int.{to_z-of_z}
use mir.Syntax.{w64}
use Rattle.wrong_listings.proofs.Quotients.{rounded_down}
use Rattle.wrong_listings.proofs.dividing.divided.Goals as goal

pub returns : goal.returns
returns c =
    let m : to_z w64 (of_z w64 c.args.m) ≡ c.args.m = search rules in
    let n : to_z w64 (of_z w64 c.args.n) ≡ c.args.n = search rules in
    let fits : FitsSigned w64 c.div_euclid-quotient.result = grind (arith, c.div_euclid-quotient.type_inv) in
    let rest_fits : FitsSigned w64 c.rem_euclid-rest.result = grind (arith, c.rem_euclid-rest.type_inv) in
    rounded_down c.args.m c.args.n _ _ _ _ m n c.requires
    (to_z-of_z w64 c.div_euclid-quotient.result fits ∙ c.div_euclid-quotient.ensures)
    (to_z-of_z w64 c.rem_euclid-rest.result rest_fits ∙ c.rem_euclid-rest.ensures.value)
