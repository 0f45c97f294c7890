-- The events of a section are those of its certificates, as a judge is told them.
use Rattle.std.proofs.Common.{◌≡◌, ℕ, Bool, true, false, List, [], ◌∷◌, ◌++◌, map, refl, sym, ap, ◌∙◌, subst}
use Rattle.std.specs.List.{flat_map}
use Rattle.unity_base.specs.declared.events.CertEvent.{CertEvent}
use Rattle.unity_syntax.specs.declared.certificate.Pair.{Pair}
use Rattle.unity_syntax.specs.declared.certificate.Node.{Node}
use Rattle.unity_syntax.specs.declared.certificate.CertText.{CertText}
use Rattle.unity_syntax.specs.declared.certificate.Certificates.{Certificates}
use Rattle.core_terms.specs.declared.documents.CDocument.{CDocument}
use Rattle.certificate_events.specs.Events as written
use Rattle.certificate_reading.specs.Certificates.{number_of, pair_of, node_of, certificate_of}
use Rattle.event_judge.specs.from_event_checker.Events as checked
use Rattle.event_judge.specs.declared.judge.Judge.{Judge}
use Rattle.event_judge.specs.Judges.{JudgeStands, JudgeStandsFor}
use Rattle.event_judge.specs.Told.{cert_events, certs_events, told_by, told_more}
use Rattle.event_judge.proofs.lemmas_from_event_checker.NodeLaws.{events-tell-nodes}
use Rattle.event_judge.proofs.ToldLaws.{told-last, events-tell-certificates}

number_same : (minus : Bool) (n : ℕ) → written.number_of minus n ≡ number_of minus n
number_same true n = refl
number_same false n = refl

pairs_same : (ps : List Pair) → map written.pair_event ps ≡ map checked.pair_event (map pair_of ps)
pairs_same [] = refl
pairs_same (p ∷ ps) = λ i. CertEvent.Pair (number_same p.minus p.multiplier i) p.fact ∷ pairs_same ps i

node_same : (n : Node) → written.node_events n ≡ checked.node_events (node_of n)
node_same (Node.Case at k) = refl
node_same (Node.Split at v minus b) = ap (λ z. CertEvent.Split v z ∷ []) (number_same minus b)
node_same (Node.Sum at ps) = ap (λ es. CertEvent.Sum ∷ es) (pairs_same ps)
node_same (Node.Round at minus d ps) = λ i. CertEvent.Round (number_same minus d i) ∷ pairs_same ps i
node_same (Node.Quot at k) = refl
node_same (Node.Share at minus c ps) = λ i. CertEvent.Share (number_same minus c i) ∷ pairs_same ps i

nodes_same : (ns : List Node) → flat_map written.node_events ns ≡ checked.events_of (map node_of ns)
nodes_same [] = refl
nodes_same (n ∷ ns) = λ i. node_same n i ++ nodes_same ns i

certificate_same : (c : CertText) → written.certificate_events c ≡ cert_events (certificate_of c)
certificate_same c = ap (λ es. CertEvent.Begin ∷ (es ++ CertEvent.End ∷ [])) (nodes_same (c.first ∷ c.rest))

certificates_same : (cs : List CertText) → flat_map written.certificate_events cs ≡ certs_events (map certificate_of cs)
certificates_same [] = refl
certificates_same (c ∷ cs) = λ i. certificate_same c i ++ certificates_same cs i

-- the section's end tells nothing more
pub section_told : (c : Certificates)
    → told_by (written.section_events c) ≡ told_by (certs_events (map certificate_of c.items))
section_told c =
    let certs = map certificate_of c.items in
    ap (λ es. told_by (es ++ CertEvent.Last ∷ [])) (certificates_same c.items)
    ∙ told-last (certs_events certs) CertEvent.Last
    ∙ ap (λ t. told_more t CertEvent.Last) (events-tell-certificates events-tell-nodes certs)
    ∙ sym (events-tell-certificates events-tell-nodes certs)

pub stands_for_section : (d : CDocument) (judge : Judge) (c : Certificates)
    → JudgeStandsFor d judge (written.section_events c) → JudgeStandsFor d judge
    (certs_events (map certificate_of c.items))
stands_for_section d judge c h = subst (λ t. JudgeStands d judge t) (section_told c) h
