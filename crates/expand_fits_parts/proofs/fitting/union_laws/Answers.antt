use Rattle.expand_fits_parts.proofs.Forms.Unions.{keeps_fit, unions_keep, unions_show}
use Rattle.expand_fits_parts.proofs.fitting.union_laws.Goals as goal

pub returns-clause-keep : goal.returns-clause-keep
returns-clause-keep c = keeps_fit

pub returns-clause-unions_keep : goal.returns-clause-unions_keep
returns-clause-unions_keep c = unions_keep

pub returns-clause-unions_show : goal.returns-clause-unions_show
returns-clause-unions_show c = unions_show
