use Rattle.examples_definitions.proofs.ClaimTrials.{execution_examples, safety_examples, ensures_examples}
use Rattle.examples_definitions.proofs.ClaimTrials.{progress_examples, no_program_found}
use Rattle.examples_definitions.proofs.meanings.claim_examples.Goals as goal

pub returns-clause-executions : goal.returns-clause-executions
returns-clause-executions c = execution_examples

pub returns-clause-safety : goal.returns-clause-safety
returns-clause-safety c = safety_examples

pub returns-clause-helping : goal.returns-clause-helping
returns-clause-helping c = ensures_examples

pub returns-clause-progress : goal.returns-clause-progress
returns-clause-progress c = progress_examples

pub returns-clause-no_program : goal.returns-clause-no_program
returns-clause-no_program c = no_program_found
