use Rattle.std.proofs.Common.{◌≤◌, arith, rules, ap, subst, to_z, of_z, FitsSigned, w64}
use Rattle.std.proofs.lemmas.Int.{to_z-of_z}
use Rattle.std.proofs.lemmas.Result.{IfOk-weaker}
use Rattle.core_terms.specs.Weights.{Weights, plain_weights}
use Rattle.core_terms.proofs.WeightLaws.{divided_lighter}
use Rattle.wp_substitution.specs.Chains.{after_weights}
use Rattle.wp_substitution.proofs.LightLaws.{multiple_lighter, multiple_is}
use Rattle.wp_substitution.proofs.substitution.+after.Goals as goal

pub multiple_after-returns-in-Ok-clause-own : goal.multiple_after-returns-in-Ok-clause-own
multiple_after-returns-in-Ok-clause-own t c =
    let fits : FitsSigned w64 c.args.k = search rules in
    let part = c.in-Ok.part in
    let own = multiple_lighter c.args.k (to_z w64 (of_z w64 c.args.k)) c.args.a.now part
    (to_z-of_z w64 c.args.k fits)
    (subst (λ x. (plain_weights part).own ≤ (after_weights x).own) c.get.ensures c.in-Ok.ensures.own) in
    IfOk-weaker c.scaled_known.result _ _ (λ u h. omega (arith, own, h)) c.scaled_known.ensures.own

pub multiple_after-returns-in-Ok-clause-most : goal.multiple_after-returns-in-Ok-clause-most
multiple_after-returns-in-Ok-clause-most t c =
    let fits : FitsSigned w64 c.args.k = search rules in
    let part = c.in-Ok.part in
    let own = multiple_lighter c.args.k (to_z w64 (of_z w64 c.args.k)) c.args.a.now part
    (to_z-of_z w64 c.args.k fits)
    (subst (λ x. (plain_weights part).own ≤ (after_weights x).own) c.get.ensures c.in-Ok.ensures.own) in
    let most = subst (λ x. (plain_weights part).most ≤ (after_weights x).most) c.get.ensures c.in-Ok.ensures.most in
    IfOk-weaker c.scaled_known.result _ _ (λ u h. omega (arith, own, most, h)) c.scaled_known.ensures.most

pub term_after-returns-in-Scale-clause-own : goal.term_after-returns-in-Scale-clause-own
term_after-returns-in-Scale-clause-own t c =
    let fits : FitsSigned w64 c.in-Scale.k = search rules in
    let whole = ap (λ (w : Weights). w.own) (multiple_is c.in-Scale.k (to_z w64 (of_z w64 c.in-Scale.k)) c.args.t.now
    c.in-Scale.a c.in-Scale.is (to_z-of_z w64 c.in-Scale.k fits)) in
    IfOk-weaker c.multiple_after.result _ _ (λ u h. omega (arith, whole, h)) c.multiple_after.ensures.own

pub term_after-returns-in-Scale-clause-most : goal.term_after-returns-in-Scale-clause-most
term_after-returns-in-Scale-clause-most t c =
    let fits : FitsSigned w64 c.in-Scale.k = search rules in
    let whole = ap (λ (w : Weights). w.most) (multiple_is c.in-Scale.k (to_z w64 (of_z w64 c.in-Scale.k)) c.args.t.now
    c.in-Scale.a c.in-Scale.is (to_z-of_z w64 c.in-Scale.k fits)) in
    IfOk-weaker c.multiple_after.result _ _ (λ u h. omega (arith, whole, h)) c.multiple_after.ensures.most

pub divided_after-returns-in-Ok-clause-own : goal.divided_after-returns-in-Ok-clause-own
divided_after-returns-in-Ok-clause-own t c =
    let fits : FitsSigned w64 c.args.k = search rules in
    let part = c.in-Ok.part in
    let lighter = divided_lighter c.args.which c.args.k (to_z w64 (of_z w64 c.args.k)) (plain_weights part)
    (after_weights c.args.a.now) (to_z-of_z w64 c.args.k fits) (
      subst (λ x. (plain_weights part).own ≤ (after_weights x).own) c.get.ensures c.in-Ok.ensures.own,
      subst (λ x. (plain_weights part).most ≤ (after_weights x).most) c.get.ensures c.in-Ok.ensures.most,
    ) in
    IfOk-weaker c.divided_known.result _ _ (λ u h. omega (arith, lighter.0, h)) c.divided_known.ensures.own

pub divided_after-returns-in-Ok-clause-most : goal.divided_after-returns-in-Ok-clause-most
divided_after-returns-in-Ok-clause-most t c =
    let fits : FitsSigned w64 c.args.k = search rules in
    let part = c.in-Ok.part in
    let lighter = divided_lighter c.args.which c.args.k (to_z w64 (of_z w64 c.args.k)) (plain_weights part)
    (after_weights c.args.a.now) (to_z-of_z w64 c.args.k fits) (
      subst (λ x. (plain_weights part).own ≤ (after_weights x).own) c.get.ensures c.in-Ok.ensures.own,
      subst (λ x. (plain_weights part).most ≤ (after_weights x).most) c.get.ensures c.in-Ok.ensures.most,
    ) in
    IfOk-weaker c.divided_known.result _ _ (λ u h. omega (arith, lighter.1, h)) c.divided_known.ensures.most
