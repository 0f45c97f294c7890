-- What a document without a fault is: its slots are few enough, and no heading and no body of a part has a fault.
use Rattle.std.specs.Prelude.{◌≡◌, [], None}
use Rattle.unity_syntax.specs.declared.document.Document.{Document}
use Rattle.expand_declarations.specs.WordNumbers.{document_words}
use Rattle.expand_declarations.specs.Slots.{document_slots, past_part}
use Rattle.expand_documents.specs.Cores.{declared_scope, document_scope}
use Rattle.expand_documents.specs.Faults.{headings_fault, bodies_fault, expansion_fault}

-- by no part are there too many slots,
abbrev pub SlotsAreFew : Type 0
SlotsAreFew = (d : Document) → expansion_fault d ≡ None → past_part d.parts ≡ None

-- each heading is without a fault, with the always names before it,
abbrev pub HeadingsFaultless : Type 0
HeadingsFaultless = (d : Document) → expansion_fault d ≡ None → headings_fault (declared_scope d.parts) d.parts ≡ None

-- and each body is, with the always names of all parts
abbrev pub BodiesFaultless : Type 0
BodiesFaultless = (d : Document) → expansion_fault d ≡ None →
    bodies_fault (document_words d) (document_scope d.parts) (document_slots (document_words d) d.parts) [] d.parts
    ≡ None
