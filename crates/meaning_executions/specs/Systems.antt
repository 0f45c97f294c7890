-- Systems made of others: the union of two, and a system kept to a test.
use Rattle.std.specs.Prelude.{◌++◌, cond, ◌&&◌, Option, Some, None, map}
use Rattle.meaning_states.specs.State.{State}
use Rattle.meaning_executions.specs.Execution.{Act, System}
use Rattle.meaning_executions.specs.Properties.{Test}

-- `F [] G` (chapter 7): F's steps followed by G's, and initial where both are
abbrev pub together : System → System → System
together x y = record { initial = λ state. x.initial state && y.initial state; steps = x.steps ++ y.steps }

-- the next state, if it passes the test
abbrev pub passing : Test → Option State → Option State
passing u None = None
passing u (Some next) = cond (u next) (Some next) None

-- an act that is done only where it leads to a state that passes the test
abbrev pub kept_act : Test → Act → Act
kept_act u act state = passing u (act state)

-- a system begun and continued only at states that pass the test: this profile's reading of a property under an
-- assumption
abbrev pub kept : Test → System → System
kept u x = record { initial = λ state. x.initial state && u state; steps = map (kept_act u) x.steps }
