-- What a judge is told.
use Rattle.std.specs.Prelude.{List, ◌++◌}
use Rattle.unity_base.specs.declared.events.CertEvent.{CertEvent}
use Rattle.core_terms.specs.declared.documents.CDocument.{CDocument}
use Rattle.event_judge.specs.declared.judge.Judge.{Judge}
use Rattle.event_judge.specs.Judges.{JudgeStandsFor}

-- a judge of this document was told these events more
abbrev pub JudgeIsTold : CDocument → Judge → Judge → List CertEvent → Type 0
JudgeIsTold d old new told = (es : List CertEvent) → JudgeStandsFor d old es → JudgeStandsFor d new (es ++ told)
