-- The certificates that events tell.
use Rattle.std.specs.Prelude.{ℕ, ◌+◌, Bool, true, false, List, [], ◌∷◌, ◌++◌, length, Option, Some, None}
use Rattle.std.specs.List.{flat_map}
use Rattle.unity_base.specs.declared.events.CertEvent.{CertEvent}
use Rattle.obligations.specs.declared.certificates.Cert.{Cert}
use Rattle.event_checker.specs.Events.{events_of, nodes_from}

-- what a certificate tells
abbrev pub cert_events : Cert → List CertEvent
cert_events c = CertEvent.Begin ∷ (events_of c.nodes ++ CertEvent.End ∷ [])

-- what certificates tell, one after the other
abbrev pub certs_events : List Cert → List CertEvent
certs_events certs = flat_map cert_events certs

-- the certificates that were told to their ends, and what was told so far of one that is open
pub record Told : Type 0 where
  pub certs : List Cert
  pub part : Option (List CertEvent)

abbrev pub nothing_told : Told
nothing_told = record { certs = []; part = None }

-- one more event, where no certificate is open
abbrev pub told_between : List Cert → CertEvent → Told
told_between certs CertEvent.Begin = record { certs = certs; part = Some [] }
told_between certs e = record { certs = certs; part = None }

-- and where one is
abbrev pub told_within : List Cert → List CertEvent → CertEvent → Told
told_within certs es CertEvent.Begin = record { certs = certs; part = Some es }
told_within certs es CertEvent.End = record { certs = certs ++ record { nodes = nodes_from [] es } ∷ []; part = None }
told_within certs es e = record { certs = certs; part = Some (es ++ e ∷ []) }

abbrev pub told_at : List Cert → Option (List CertEvent) → CertEvent → Told
told_at certs None e = told_between certs e
told_at certs (Some es) e = told_within certs es e

-- one more event
abbrev pub told_more : Told → CertEvent → Told
told_more t e = told_at t.certs t.part e

-- more events
abbrev pub told_from : Told → List CertEvent → Told
told_from t [] = t
told_from t (e ∷ es) = told_from (told_more t e) es

-- what events tell
abbrev pub told_by : List CertEvent → Told
told_by es = told_from nothing_told es

-- an event that is neither a certificate's beginning nor its end
abbrev pub is_inner : CertEvent → Bool
is_inner CertEvent.Begin = false
is_inner CertEvent.End = false
is_inner e = true

-- how many certificates were begun
abbrev pub part_count : Option (List CertEvent) → ℕ
part_count None = 0
part_count (Some es) = 1

abbrev pub begun : Told → ℕ
begun t = length t.certs + part_count t.part
