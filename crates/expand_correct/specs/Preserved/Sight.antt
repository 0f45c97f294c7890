-- Where a document's expressions become core form, words stand for what they stand for where these have their meaning.
use Rattle.std.specs.Prelude.{ℕ, List}
use Rattle.unity_syntax.specs.declared.document.Part.{Part}
use Rattle.meaning_documents.specs.Setting.{programs_among}
use Rattle.expand_rules.specs.declared.cores.Bound.{Bound}
use Rattle.expand_rules.specs.Documents.{scope_of, within}
use Rattle.expand_correct.specs.Values.SightLaws.{SeeSame}
use Rattle.expand_documents.specs.Cores.{document_scope}

-- each word stands for the same: of an enumeration's words the first counts, of always names the last,
abbrev pub SeesAlike : Type 0
SeesAlike = (parts : List Part) → SeeSame (document_scope parts) (scope_of (programs_among parts))

-- and so it does among bound names and parameters
abbrev pub SeesAlikeAmong : Type 0
SeesAlikeAmong = (parts : List Part) (bs : List (List ℕ × Bound)) →
    SeeSame (within (document_scope parts) bs) (within (scope_of (programs_among parts)) bs)
