-- A judge that was told the events of certificates.
use Rattle.std.proofs.Common.{List, None, subst}
use Rattle.core_terms.specs.declared.documents.CDocument.{CDocument}
use Rattle.obligations.specs.declared.certificates.Cert.{Cert}
use Rattle.event_checker.proofs.NodeLaws.{events-tell-nodes}
use Rattle.event_judge.specs.declared.judge.Judge.{Judge}
use Rattle.event_judge.specs.Told.{certs_events}
use Rattle.event_judge.specs.Judges.{JudgeStands, JudgeStandsFor}
use Rattle.event_judge.proofs.ToldLaws.{events-tell-certificates}

pub told-whole : (d : CDocument) (j : Judge) (certs : List Cert) → JudgeStandsFor d j (certs_events certs) →
    JudgeStands d j (record { certs = certs; part = None })
told-whole d j certs s = subst (JudgeStands d j) (events-tell-certificates events-tell-nodes certs) s
