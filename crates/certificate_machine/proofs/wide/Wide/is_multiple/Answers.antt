use Rattle.std.proofs.Common.{◌≡◌, ℤ, pos, Bool, min, to_z, of_z, w64, ap, ◌∙◌, subst, arith}
use Rattle.std.specs.Int.{int_rem_euclid}
use Rattle.std.specs.List.{list_all}
use Rattle.std.proofs.lemmas.Int.{to_z-of_z}
use Rattle.meaning_states.specs.State.{int_eq}
use Rattle.certificate_machine.proofs.SpanLaws.{fewer-first, all-spanned, zero-divided}
use Rattle.certificate_machine.proofs.wide.Wide.is_multiple.Goals as goal

pub returns : goal.returns
returns c =
    let r = c.args.self.now in
    let zs = r.line.factors in
    let test : ℤ → Bool = λ z. int_eq (int_rem_euclid z c.args.d) (pos 0) in
    let same : to_z w64 (of_z w64 c.args.d) ≡ c.args.d = grind (arith, to_z-of_z) in
    subst (λ d. c.all_divided.result ≡ list_all (λ z. int_eq (int_rem_euclid z d) (pos 0)) c.span.result.now) same
    c.all_divided.ensures ∙ ap (list_all test) c.span.ensures
    ∙ all-spanned test (zero-divided c.args.d c.requires) zs (min r.low r.high) r.high (omega arith)
    (fewer-first zs (min r.low r.high) r.low (omega arith) r.before) r.behind
