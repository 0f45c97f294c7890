use Rattle.std.proofs.Common.{◌↔◌, IsTrue, ap, sym, ◌∙◌, subst}
use Rattle.certificate_events.specs.Steps.{is_done}
use Rattle.certificate_events.specs.declared.places.Place.{Place}
use Rattle.certificate_events.specs.Sections.{IsSections}
use Rattle.certificate_events.proofs.SectionLaws.{finished_is}
use Rattle.certificate_events.proofs.reader.CertReader.finished.Goals as goal

pub returns : goal.returns
returns c = λ later ts s.
    subst (λ b. IsTrue b ↔ IsSections later ts)
    (sym (c.is_done.ensures ∙ ap (λ (p : Place). is_done p.stage) s.place)) (finished_is later ts)
