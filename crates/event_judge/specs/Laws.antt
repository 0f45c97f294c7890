-- What the events of certificates tell.
use Rattle.std.specs.Prelude.{◌≡◌, List, None}
use Rattle.obligations.specs.declared.certificates.Cert.{Cert}
use Rattle.event_judge.specs.Told.{certs_events, told_by}

-- the events of certificates tell these certificates, and leave none open
abbrev pub EventsTellCertificates : Type 0
EventsTellCertificates = (certs : List Cert) → told_by (certs_events certs) ≡ record { certs = certs; part = None }
