use Rattle.std.proofs.Common.{◌≡◌, ℤ, IfOk, to_z, of_z, w64, subst, arith}
use Rattle.std.specs.Int.{int_div_euclid}
use Rattle.std.proofs.lemmas.Int.{to_z-of_z}
use Rattle.certificate_machine.specs.Sums.{wide_line}
use Rattle.certificate_machine.specs.Terms.{made_terms}
use Rattle.certificate_machine.proofs.SpanLaws.{zero-quotient}
use Rattle.certificate_machine.proofs.RunningLaws.{few-sparse}
use Rattle.certificate_machine.proofs.running.Running.divided_factors.Goals as goal

pub returns-then-self : goal.returns-then-self
returns-then-self c =
    let r = c.args.self.now in
    let by : ℤ → ℤ = λ z. int_div_euclid z c.args.d in
    let same : to_z w64 (of_z w64 c.args.d) ≡ c.args.d = grind (arith, to_z-of_z) in
    subst (λ ts. IfOk c.divided_factors.result (λ f. f ≡ ts))
    (few-sparse r.few (wide_line r.wide) (r.inside c.if-self.true) by (zero-quotient c.args.d c.requires.divisor)
    r.is_few c.if-self.true)
    (subst (λ d. IfOk c.divided_factors.result (λ f. f ≡ made_terms (λ z. int_div_euclid z d) r.few.terms.items)) same
    c.divided_factors.ensures)
