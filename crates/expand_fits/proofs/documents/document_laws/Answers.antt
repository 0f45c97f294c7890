use Rattle.expand_fits.proofs.Sound.{documents_sound}
use Rattle.expand_fits.proofs.documents.document_laws.Goals as goal

pub returns : goal.returns
returns c = documents_sound
