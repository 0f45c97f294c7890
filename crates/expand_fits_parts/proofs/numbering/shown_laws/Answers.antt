use Rattle.expand_fits_parts.proofs.Conditions.Shown.{shown_slots_exist, shown_slots_rise, schedules_fit}
use Rattle.expand_fits_parts.proofs.numbering.shown_laws.Goals as goal

pub returns-clause-exist : goal.returns-clause-exist
returns-clause-exist c = shown_slots_exist

pub returns-clause-rise : goal.returns-clause-rise
returns-clause-rise c = shown_slots_rise

pub returns-clause-schedules : goal.returns-clause-schedules
returns-clause-schedules c = schedules_fit
