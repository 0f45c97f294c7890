use Rattle.std.proofs.Common.{◌≤◌, ◌+◌, ◌∷◌, [], ◌++◌, sym, ap, ◌∙◌, subst}
use Rattle.certificate_events.specs.Steps.{Step}
use Rattle.certificate_events.specs.Sections.{TokenTakes, told}
use Rattle.certificate_events.proofs.SectionLaws.{handed, one_more, told_more, takes_is, missing_bound, number_bound}
use Rattle.certificate_events.proofs.reader.CertReader.take.Goals as goal

pub invariant_of-self : goal.invariant_of-self
invariant_of-self c = record {
  few_missing =
      subst (λ (q : Step). q.0.missing ≤ c.args.self.now.taken + 1) (sym c.step.ensures)
      (missing_bound c.args.self.now.place c.sign_of.result c.args.self.now.taken c.args.self.now.few_missing);
  few_begun =
      subst (λ (q : Step). q.0.number ≤ c.args.self.now.taken + 1) (sym c.step.ensures)
      (number_bound c.args.self.now.place c.sign_of.result c.args.self.now.taken c.args.self.now.few_begun);
}

pub returns-clause-stands : goal.returns-clause-stands
returns-clause-stands c = λ later ts s. record {
  version = s.version;
  place =
      ap (λ (q : Step). q.0)
      (handed later c.args.self.now ts c.args.t _ _ c.sign_of.ensures c.step.ensures s)
      ∙ sym (one_more later ts c.args.t);
}

pub returns-clause-takes : goal.returns-clause-takes
returns-clause-takes c = λ later ts s.
    subst (λ (q : Step). TokenTakes later ts c.args.t q.1)
    (sym (handed later c.args.self.now ts c.args.t _ _ c.sign_of.ensures c.step.ensures s))
    (takes_is later ts c.args.t)

pub returns-clause-told : goal.returns-clause-told
returns-clause-told c = λ later ts s.
    told_more later ts c.args.t
    ∙ ap (λ (q : Step). told later ts ++ q.1 ∷ [])
    (sym (handed later c.args.self.now ts c.args.t _ _ c.sign_of.ensures c.step.ensures s))
