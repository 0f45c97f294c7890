-- The text of a document with other certificates.
use Rattle.std.specs.Prelude.{ℕ, List, ◌∷◌, ◌++◌, take, Option, Some, None}
use Rattle.unity_syntax.specs.declared.certificate.Certificates.{Certificates}
use Rattle.unity_syntax.specs.declared.document.Document.{Document}
use Rattle.obligations.specs.declared.certificates.Cert.{Cert}
use Rattle.certificate_printing.specs.Certificates.{certificates_text}

-- the bytes before the word `certificates`, which are all where there is none
abbrev pub front : List ℕ → Option Certificates → List ℕ
front bytes None = bytes
front bytes (Some c) = take c.at bytes

-- the document with other certificates: its front, a line feed, and their section
abbrev pub text_with : List ℕ → Document → List Cert → List ℕ
text_with bytes d certs = front bytes d.certificates ++ 10 ∷ certificates_text certs
