use Rattle.std.proofs.Common.{List, ◌∷◌, [], ◌++◌, ap}
use Rattle.std.proofs.lemmas.Result.{on_ok_weaker}
use Rattle.unity_base.specs.declared.events.CertEvent.{CertEvent}
use Rattle.obligations.specs.declared.certificates.Node.{Node}
use Rattle.certificate_check.specs.from_event_checker.Events.{events_of}
use Rattle.event_judge.specs.Told.{cert_events}
use Rattle.proof_script.proofs.TellingLaws.{told-so, told-then}
use Rattle.proof_script.proofs.telling.tell_cert.Goals as goal

pub returns-clause-tells : goal.returns-clause-tells
returns-clause-tells c =
    let first = c.args.judge.now in
    let last = c.take-2.new.self in
    let nodes = events_of c.as_slice.result.now in
    let begun : List CertEvent = CertEvent.Begin ∷ [] in
    let ends : List CertEvent = CertEvent.End ∷ [] in
    on_ok_weaker c.take-2.result (λ tells.
    told-so c.args.doc.now first last ((begun ++ nodes) ++ ends) (cert_events c.args.cert.now)
    (ap (λ (ns : List Node). CertEvent.Begin ∷ (events_of ns ++ CertEvent.End ∷ [])) c.as_slice.ensures)
    (told-then c.args.doc.now first c.tell_nodes.new.judge last (begun ++ nodes) ends
    (told-then c.args.doc.now first c.take.new.self c.tell_nodes.new.judge begun nodes c.in_ok-take.ensures.stands
    c.in_ok-tell_nodes.ensures.tells) tells)) c.take-2.ensures.stands
