use Rattle.expand_fits_parts.proofs.Forms.ShownPrograms.{programs_show}
use Rattle.expand_fits_parts.proofs.fitting.showing_laws.Goals as goal

pub returns : goal.returns
returns c = programs_show
