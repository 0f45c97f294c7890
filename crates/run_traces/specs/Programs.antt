-- The programs that the commands execute.
use Rattle.std.specs.Prelude.{ℕ, nat_eq, List, Bool, Option, find, bytes_eq, option_and_then}
use Rattle.core_terms.specs.declared.programs.CProgram.{CProgram}
use Rattle.core_terms.specs.declared.documents.CSchedule.{CSchedule}
use Rattle.core_terms.specs.declared.documents.CDocument.{CDocument}
use Rattle.schedule_replay.specs.Lines.{word_text}

-- the program has this name
abbrev pub is_called : CDocument → List ℕ → CProgram → Bool
is_called d name p = bytes_eq (word_text d.words p.name) name

-- the first program of this name
abbrev pub program_called : CDocument → List ℕ → Option CProgram
program_called d name = find (is_called d name) d.programs

-- the program that a schedule names
abbrev pub program_of : CDocument → CSchedule → Option CProgram
program_of d s = find (λ p. nat_eq p.name s.program) d.programs

-- the program of the document's schedule
abbrev pub scheduled_program : CDocument → Option CProgram
scheduled_program d = option_and_then (program_of d) d.schedule
