-- What is told of the trace of a document's schedule.
use Rattle.std.specs.Prelude.{ℕ, List, Option}
use Rattle.std.specs.Io.KnownBytes.{Appends}
use Rattle.unity_syntax.specs.declared.document.Document.{Document}
use Rattle.trace_watch.specs.declared.tracing.Ending.{Ending}
use Rattle.trace_watch.specs.declared.violations.Violation.{Violation}
use Rattle.watch_correct.specs.Watched.{IsWatched}

-- the text that was written tells that the trace ends so
pub record WritesEnding (d : Document) (ending : Ending) (old new : Option (List ℕ)) : Type 0 where
  pub text : List ℕ
  pub watched : IsWatched d ending text
  pub appends : Appends old new text

-- at its first violation of what the document's own proof claims
abbrev pub WritesFirstViolation : Document → Option (List ℕ) → Option (List ℕ) → Type 0
WritesFirstViolation d old new = (place : ℕ) × (v : Violation) × WritesEnding d (Ending.Violated place v) old new
