use Rattle.expand_fits_parts.proofs.Forms.Placed.{slots_exist, slots_weigh, slots_shown}
use Rattle.expand_fits_parts.proofs.fitting.layout_laws.Goals as goal

pub returns-clause-exist : goal.returns-clause-exist
returns-clause-exist c = slots_exist

pub returns-clause-weigh : goal.returns-clause-weigh
returns-clause-weigh c = slots_weigh

pub returns-clause-shown : goal.returns-clause-shown
returns-clause-shown c = slots_shown
