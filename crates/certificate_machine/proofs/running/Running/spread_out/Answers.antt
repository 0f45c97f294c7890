use Rattle.std.proofs.Common.{◌≡◌, to_z, of_z, w64, ap, ◌∙◌, arith}
use Rattle.std.proofs.lemmas.Int.{to_z-of_z}
use Rattle.certificate_machine.specs.Sums.{wide_line}
use Rattle.certificate_machine.specs.Terms.{add_terms}
use Rattle.certificate_machine.proofs.RunningLaws.{few-spread}
use Rattle.certificate_machine.proofs.running.Running.spread_out.Goals as goal

pub invariant_of-self : goal.invariant_of-self
invariant_of-self c = record { inside = λ e. absurd (cc); unused = λ e. absurd (cc) }

pub returns-then-self-clause-line : goal.returns-then-self-clause-line
returns-then-self-clause-line c =
    let r = c.args.self.now in
    let l = wide_line r.wide in
    let same : to_z w64 (of_z w64 c.constant.result) ≡ c.constant.result = grind (arith, to_z-of_z) in
    few-spread r.is_few (wide_line c.put_all.new.self) l r.few c.if-self.true (r.unused c.if-self.true)
    (c.put_all.ensures.factors ∙ ap (λ ts. add_terms ts l.factors) c.terms.ensures)
    (c.put_all.ensures.constant ∙ same ∙ c.constant.ensures)
