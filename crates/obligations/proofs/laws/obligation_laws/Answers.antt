use Rattle.obligations.proofs.NumberLaws.{obligation-variables, obligation-load, obligation-narrow, obligation-sound}
use Rattle.obligations.proofs.NumberLaws.{obligation-own, weight-settles}
use Rattle.obligations.proofs.ScopeLaws.{scope-variables, scope-room}
use Rattle.obligations.proofs.VariableLaws.{obligation-means}
use Rattle.obligations.proofs.laws.obligation_laws.Goals as goal

pub returns-clause-variables : goal.returns-clause-variables
returns-clause-variables c = obligation-variables

pub returns-clause-own : goal.returns-clause-own
returns-clause-own c = obligation-own

pub returns-clause-scope : goal.returns-clause-scope
returns-clause-scope c = scope-variables

pub returns-clause-room : goal.returns-clause-room
returns-clause-room c = scope-room

pub returns-clause-load : goal.returns-clause-load
returns-clause-load c = obligation-load

pub returns-clause-width : goal.returns-clause-width
returns-clause-width c = obligation-narrow

pub returns-clause-ranges : goal.returns-clause-ranges
returns-clause-ranges c = obligation-sound

pub returns-clause-settling : goal.returns-clause-settling
returns-clause-settling c = weight-settles

pub returns-clause-meaning : goal.returns-clause-meaning
returns-clause-meaning c = obligation-means
