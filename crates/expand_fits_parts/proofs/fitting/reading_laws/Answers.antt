use Rattle.expand_fits_parts.proofs.Forms.ReadWords.{expressions_read, assignments_read}
use Rattle.expand_fits_parts.proofs.fitting.reading_laws.Goals as goal

pub returns-clause-expressions : goal.returns-clause-expressions
returns-clause-expressions c = expressions_read

pub returns-clause-assignments : goal.returns-clause-assignments
returns-clause-assignments c = assignments_read
