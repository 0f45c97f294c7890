-- A claim of a program, as its executions see it.
use Rattle.std.specs.Prelude.{◌≡◌, ◌<◌, ◌^◌}
use Rattle.meaning_executions.specs.Execution.{System}
use Rattle.meaning_executions.specs.Properties.{Test}
use Rattle.core_terms.specs.declared.trees.CForm.TheVariants.{Top}
use Rattle.core_terms.specs.Conditions.{IsProgram}
use Rattle.executor.specs.CoreSystem.{core_system}
use Rattle.fair_rounds.specs.Records.{holding}
use Rattle.examples_bounds.specs.declared.claims.Claim.{Claim}
use Rattle.examples_bounds.specs.Readable.{FormIsReadable}

-- every state is a start of its program, and its formulas can be evaluated at each state
pub record IsClaim (claim : Claim) : Type 0 where
  pub program : IsProgram claim.slots.now claim.program.now
  pub any_start : claim.program.now.initially ≡ Top
  pub bound : claim.bound < 2 ^ 64
  pub p_readable : FormIsReadable claim.slots.now claim.params.now claim.p.now
  pub q_readable : FormIsReadable claim.slots.now claim.params.now claim.q.now

-- its program
abbrev pub claimed : Claim → System
claimed claim = core_system claim.slots.now claim.program.now

-- its two formulas, as tests
abbrev pub before : Claim → Test
before claim = holding claim.params.now claim.p.now

abbrev pub after : Claim → Test
after claim = holding claim.params.now claim.q.now
