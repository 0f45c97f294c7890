-- What the tokens of a section of certificates tell.
use Rattle.std.specs.Prelude.{◌≡◌, Bool, List}
use Rattle.unity_syntax.specs.declared.token.Token.{Token}
use Rattle.unity_syntax.specs.declared.certificate.Certificates.{Certificates}
use Rattle.certificate_events.specs.Events.{section_takes, section_events, events}
use Rattle.certificate_events.specs.Sections.{IsSection, told}

-- the tokens of a section tell what its tree says
abbrev pub ToldByTokens : Type 0
ToldByTokens = (later : Bool) (ts : List Token) (c : Certificates) → IsSection later ts c →
    told later ts ≡ section_takes c

-- so the events are those of its certificates, one after the other
abbrev pub EventsOfSections : Type 0
EventsOfSections = (c : Certificates) → events (section_takes c) ≡ section_events c
