use Rattle.std.proofs.Common.{◌≡◌, ℤ, ◌+◌, min, map, IfOk, to_z, of_z, w64, ap, ◌∙◌, subst, arith}
use Rattle.std.specs.Int.{int_div_euclid}
use Rattle.std.proofs.lemmas.Int.{to_z-of_z}
use Rattle.obligations.specs.LinearForms.{sparse}
use Rattle.certificate_machine.proofs.SpanLaws.{fewer-first, terms-spanned, zero-quotient}
use Rattle.certificate_machine.proofs.wide.Wide.divided_factors.Goals as goal

pub returns : goal.returns
returns c =
    let r = c.args.self.now in
    let zs = r.line.factors in
    let low = min r.low r.high in
    let by : ℤ → ℤ = λ z. int_div_euclid z c.args.d in
    let same : to_z w64 (of_z w64 c.args.d) ≡ c.args.d = grind (arith, to_z-of_z) in
    let here : low ≡ 0 + low = omega arith in
    subst (λ ts. IfOk c.parts.result (λ f. f ≡ ts))
    (ap (λ n. sparse n (map by c.span.result.now)) (c.first.ensures ∙ here)
    ∙ ap (λ ys. sparse (0 + low) (map by ys)) c.span.ensures
    ∙ terms-spanned by (zero-quotient c.args.d c.requires.divisor) zs 0 low r.high (omega arith)
    (fewer-first zs low r.low (omega arith) r.before) r.behind)
    (subst (λ d. IfOk c.parts.result
    (λ f. f ≡ sparse c.first.result (map (λ z. int_div_euclid z d) c.span.result.now))) same c.parts.ensures)
