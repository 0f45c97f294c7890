use Rattle.obligations.proofs.SettlingLaws.{settled-holds, refused-holds}
use Rattle.obligations.proofs.OpeningLaws.{first-holds}
use Rattle.obligations.proofs.laws.settling_laws.Goals as goal

pub returns-clause-settled : goal.returns-clause-settled
returns-clause-settled c = settled-holds

pub returns-clause-refused : goal.returns-clause-refused
returns-clause-refused c = refused-holds

pub returns-clause-first : goal.returns-clause-first
returns-clause-first c = first-holds
