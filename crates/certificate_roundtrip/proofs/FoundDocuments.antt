-- The text of a document with certificates that were found is that document with these certificates.
use Rattle.certificate_roundtrip.proofs.PlaceLaws.{front_is_read, whole_is_read}
use Rattle.certificate_roundtrip.proofs.SmallLaws.{small_are_readable}
use Rattle.certificate_roundtrip.specs.DocumentLaws.{FoundIsRead}
use Rattle.certificate_roundtrip.proofs.FoundByTokens.{found_by_tokens}

pub found_is_read : FoundIsRead
found_is_read bytes d certs is whole of small few =
    found_by_tokens front_is_read whole_is_read bytes d certs is whole (small_are_readable certs small few) of
