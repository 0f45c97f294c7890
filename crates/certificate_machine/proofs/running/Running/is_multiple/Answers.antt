use Rattle.std.proofs.Common.{◌≡◌, ℤ, pos, Bool, to_z, of_z, w64, ◌∙◌, subst, arith}
use Rattle.std.specs.Int.{int_rem_euclid}
use Rattle.std.specs.List.{list_all}
use Rattle.std.proofs.lemmas.Int.{to_z-of_z}
use Rattle.meaning_states.specs.State.{int_eq}
use Rattle.certificate_machine.specs.Sums.{wide_line}
use Rattle.certificate_machine.proofs.SpanLaws.{zero-divided}
use Rattle.certificate_machine.proofs.RunningLaws.{few-all}
use Rattle.certificate_machine.proofs.running.Running.is_multiple.Goals as goal

pub returns-then-self : goal.returns-then-self
returns-then-self c =
    let r = c.args.self.now in
    let same : to_z w64 (of_z w64 c.args.d) ≡ c.args.d = grind (arith, to_z-of_z) in
    let test : ℤ → Bool = λ z. int_eq (int_rem_euclid z c.args.d) (pos 0) in
    subst (λ d. c.is_multiple.result ≡ list_all (λ t. int_eq (int_rem_euclid t.1 d) (pos 0)) r.few.terms.items) same
    c.is_multiple.ensures
    ∙ few-all r.few (wide_line r.wide) (r.inside c.if-self.true) test (zero-divided c.args.d c.requires) r.is_few
    c.if-self.true
