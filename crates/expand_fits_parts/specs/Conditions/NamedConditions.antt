-- In a well-named document no two statements of a program have one name, and proofs and schedules are of programs.
use Rattle.std.specs.Prelude.{All}
use Rattle.unity_syntax.specs.declared.document.Document.{Document}
use Rattle.core_terms.specs.Conditions.{EachPair, AreApart, IsNamed}
use Rattle.names_rules.specs.WellNamed.{IsWellNamed}
use Rattle.expand_correct.specs.from_expand_documents.Cores.{core_document}

-- two statements of a program differ in label or indices, and those of one label have equally many indices,
abbrev pub StatementsApart : Type 0
StatementsApart = (d : Document) → IsWellNamed d →
    All (λ c. EachPair AreApart c.statements) (core_document d).programs

-- and each proof is of a program
abbrev pub ProofsNamed : Type 0
ProofsNamed = (d : Document) → IsWellNamed d →
    All (λ p. IsNamed (core_document d).programs p.program) (core_document d).proofs
