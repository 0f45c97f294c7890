use Rattle.std.proofs.Common.{◌≤◌, ◌^◌, rules, subst, sym, w64, FitsSigned, arith}
use Rattle.std.proofs.lemmas.Int.{ints, to_z-of_z}
use Rattle.std.specs.Int.RustNames.{unsigned_abs}
use Rattle.core_terms.specs.declared.trees.CTerm.TheVariants.{Div}
use Rattle.core_terms.specs.Weights.{plain_weights}
use Rattle.core_terms.proofs.LighterLaws.{quotient_little}
use Rattle.core_terms.proofs.folding.quotient_term.Goals as goal

pub returns-clause-most : goal.returns-clause-most
returns-clause-most c =
    let fits : FitsSigned w64 c.args.k = search rules in
    let small : unsigned_abs c.args.k ≤ 2 ^ 63 = omega (arith, ints, fits) in
    let part : (plain_weights c.in_ok-new.field-0).most ≤ 2 ^ 126 = search rules in
    let whole = subst (λ z. (plain_weights (Div c.in_ok-new.field-0 z)).most ≤ 2 ^ 126)
    (sym (to_z-of_z w64 c.args.k fits)) (quotient_little c.args.k c.in_ok-new.field-0 small part) in
    omega (arith, whole, c.folded_term.ensures.most)
