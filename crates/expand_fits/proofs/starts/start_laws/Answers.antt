use Rattle.expand_fits.proofs.Initial.Starts.{starts_once}
use Rattle.expand_fits.proofs.Initial.StartValues.{starts_fit}
use Rattle.expand_fits.proofs.Initial.ShownStarts.{starts_shown}
use Rattle.expand_fits.proofs.starts.start_laws.Goals as goal

pub returns-clause-once : goal.returns-clause-once
returns-clause-once c = starts_once

pub returns-clause-fit : goal.returns-clause-fit
returns-clause-fit c = starts_fit

pub returns-clause-shown : goal.returns-clause-shown
returns-clause-shown c = starts_shown
