-- What the events of certificates tell.
use Rattle.std.proofs.Common.{◌≡◌, ℕ, ℤ, List, [], ◌∷◌, ◌++◌, map, Some, None, refl, sym, ap, ◌∙◌}
use Rattle.std.proofs.Common.{append_assoc, append-nil}
use Rattle.unity_base.specs.declared.events.CertEvent.{CertEvent}
use Rattle.obligations.specs.declared.certificates.Cert.{Cert}
use Rattle.obligations.specs.declared.certificates.Node.{Node}
use Rattle.event_checker.specs.Events.{events_of, node_events, pair_event}
use Rattle.event_checker.specs.Laws.{EventsTellNodes}
use Rattle.event_judge.specs.Told.{Told, cert_events, certs_events, told_more, told_from, told_by}
use Rattle.event_judge.specs.Laws.{EventsTellCertificates}

-- one event after others
pub told-append : (t : Told) (es fs : List CertEvent) → told_from t (es ++ fs) ≡ told_from (told_from t es) fs
told-append t [] fs = refl
told-append t (e ∷ es) fs = told-append (told_more t e) es fs

pub told-last : (es : List CertEvent) (e : CertEvent) → told_by (es ++ e ∷ []) ≡ told_more (told_by es) e
told-last es e = told-append _ es (e ∷ [])

module _ (certs : List Cert) where
  abbrev within : List CertEvent → Told
  within es = record { certs = certs; part = Some es }

  pairs-within : (ps : List (ℤ × ℕ)) (es : List CertEvent) →
      told_from (within es) (map pair_event ps) ≡ within (es ++ map pair_event ps)
  pairs-within [] es = ap within (sym (append-nil es))
  pairs-within (p ∷ ps) es = pairs-within ps (es ++ pair_event p ∷ [])
      ∙ ap within (append_assoc es (pair_event p ∷ []) (map pair_event ps))

  listed-within : (e : CertEvent) (ps : List (ℤ × ℕ)) (es : List CertEvent) →
      told_from (within (es ++ e ∷ [])) (map pair_event ps) ≡ within (es ++ e ∷ map pair_event ps)
  listed-within e ps es =
      pairs-within ps (es ++ e ∷ []) ∙ ap within (append_assoc es (e ∷ []) (map pair_event ps))

  node-within : (n : Node) (es : List CertEvent) → told_from (within es) (node_events n) ≡ within (es ++ node_events n)
  node-within (Node.Case k) es = refl
  node-within (Node.Split v k) es = refl
  node-within (Node.Sum ps) es = listed-within CertEvent.Sum ps es
  node-within (Node.Round d ps) es = listed-within (CertEvent.Round d) ps es
  node-within (Node.Quot k) es = refl
  node-within (Node.Share c ps) es = listed-within (CertEvent.Share c) ps es

  nodes-within : (ns : List Node) (es : List CertEvent) →
      told_from (within es) (events_of ns) ≡ within (es ++ events_of ns)
  nodes-within [] es = ap within (sym (append-nil es))
  nodes-within (n ∷ ns) es = told-append (within es) (node_events n) (events_of ns)
      ∙ ap (λ t. told_from t (events_of ns)) (node-within n es) ∙ nodes-within ns (es ++ node_events n)
      ∙ ap within (append_assoc es (node_events n) (events_of ns))

  cert-told : EventsTellNodes → (c : Cert) →
      told_from (record { certs = certs; part = None }) (cert_events c)
      ≡ record { certs = certs ++ c ∷ []; part = None }
  cert-told tell c = told-append (within []) (events_of c.nodes) (CertEvent.End ∷ [])
      ∙ ap (λ t. told_from t (CertEvent.End ∷ [])) (nodes-within c.nodes [])
      ∙ ap (λ (ns : List Node). record { certs = certs ++ record { nodes = ns } ∷ []; part = None }) (tell c.nodes)

certs-told : EventsTellNodes → (before certs : List Cert) →
    told_from (record { certs = before; part = None }) (certs_events certs)
    ≡ record { certs = before ++ certs; part = None }
certs-told tell before [] = ap (λ (cs : List Cert). record { certs = cs; part = None }) (sym (append-nil before))
certs-told tell before (c ∷ certs) =
    told-append (record { certs = before; part = None }) (cert_events c) (certs_events certs)
    ∙ ap (λ t. told_from t (certs_events certs)) (cert-told before tell c) ∙ certs-told tell (before ++ c ∷ []) certs
    ∙ ap (λ (cs : List Cert). record { certs = cs; part = None }) (append_assoc before (c ∷ []) certs)

pub events-tell-certificates : EventsTellNodes → EventsTellCertificates
events-tell-certificates tell certs = certs-told tell [] certs
