use Rattle.upgraded_texts.proofs.Accepting.{upgraded_is_accepted}
use Rattle.upgraded_texts.proofs.Cores.{upgraded_core, upgraded_expands, upgraded_is_named}
use Rattle.upgraded_texts.proofs.verdicts.verdict_laws.Goals as goal

pub returns-clause-named : goal.returns-clause-named
returns-clause-named c = upgraded_is_named

pub returns-clause-expands : goal.returns-clause-expands
returns-clause-expands c = upgraded_expands

pub returns-clause-core : goal.returns-clause-core
returns-clause-core c = upgraded_core

pub returns-clause-accepted : goal.returns-clause-accepted
returns-clause-accepted c = upgraded_is_accepted
