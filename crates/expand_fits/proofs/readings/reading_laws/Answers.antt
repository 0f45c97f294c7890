use Rattle.expand_fits.proofs.Parsed.Reading.{read_sound, read_cores}
use Rattle.expand_fits.proofs.readings.reading_laws.Goals as goal

pub returns-clause-sound : goal.returns-clause-sound
returns-clause-sound c = read_sound

pub returns-clause-core : goal.returns-clause-core
returns-clause-core c = read_cores
