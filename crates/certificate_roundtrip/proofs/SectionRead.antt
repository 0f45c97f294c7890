-- The tokens of a written section are those of a section that says these certificates.
use Rattle.std.proofs.Common.{◌≡◌, true}
use Rattle.std.specs.List.{list_all}
use Rattle.std.proofs.lemmas.List.Elements.{recursion_from_All}
use Rattle.obligations.specs.declared.certificates.Cert.{Cert}
use Rattle.certificate_reading.specs.Laws.{IsWholeTree}
use Rattle.certificate_roundtrip.specs.Pieces.{is_node_of}
use Rattle.certificate_roundtrip.specs.DocumentLaws.{SectionIsDerived}
use Rattle.certificate_roundtrip.proofs.SaysCertificates.{says_section}
use Rattle.certificate_roundtrip.proofs.SectionTokens.{section_derives}
use Rattle.certificate_roundtrip.proofs.Written.{written_section}

pub section_is_derived : SectionIsDerived
section_is_derived later bytes at certs whole readable of =
    let w = recursion_from_All IsWholeTree certs whole in
    let each = recursion_from_All (λ (c : Cert). list_all (is_node_of later) c.nodes ≡ true) certs of in
    (written_section at certs, section_derives later bytes at certs w each, says_section at certs w readable)
