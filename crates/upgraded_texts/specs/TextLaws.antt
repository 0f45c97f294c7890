-- What the upgraded text of a document is.
use Rattle.std.specs.Prelude.{◌≡◌, ◌<◌, ℕ, List, length}
use Rattle.unity_syntax.specs.declared.document.Document.{Document}
use Rattle.unity_parser.specs.Document.{IsDocument}
use Rattle.upgraded_texts.specs.Upgraded.{upgraded, upgraded_text}

-- the bytes have one at the place of the version's number
abbrev pub NumberIsInside : Type 0
NumberIsInside = (bytes : List ℕ) (d : Document) → IsDocument bytes d → d.number_at < length bytes

-- the upgraded text is as long as the text
abbrev pub UpgradedIsAsLong : Type 0
UpgradedIsAsLong = (bytes : List ℕ) (d : Document) → IsDocument bytes d →
    length (upgraded_text bytes d) ≡ length bytes

-- a text of version 2 comes back as it is
abbrev pub SecondComesBack : Type 0
SecondComesBack = (bytes : List ℕ) (d : Document) → IsDocument bytes d → d.number ≡ 2 → upgraded_text bytes d ≡ bytes

-- the upgraded text is the document in version 2
abbrev pub UpgradedIsRead : Type 0
UpgradedIsRead = (bytes : List ℕ) (d : Document) → IsDocument bytes d →
    IsDocument (upgraded_text bytes d) (upgraded d)
