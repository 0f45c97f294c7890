-- A document without a fault of size has few slots, and its programs have statements, but not too many.
use Rattle.std.specs.Prelude.{◌≡◌, ◌≤◌, length, None, All}
use Rattle.unity_syntax.specs.declared.document.Document.{Document}
use Rattle.expand_correct.specs.from_expand_documents.Cores.{core_document}
use Rattle.expand_correct.specs.from_expand_documents.Faults.{expansion_fault}

-- there are at most 4,096 slots,
abbrev pub CoreSlotsAreFew : Type 0
CoreSlotsAreFew = (d : Document) → expansion_fault d ≡ None → length (core_document d).slots ≤ 4096

-- and each program has 1 to 4,096 statements
abbrev pub StatementsAreFew : Type 0
StatementsAreFew = (d : Document) → expansion_fault d ≡ None →
    All (λ c. (1 ≤ length c.statements) × (length c.statements ≤ 4096)) (core_document d).programs
