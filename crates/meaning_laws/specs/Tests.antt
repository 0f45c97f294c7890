-- Tests of states, combined.
use Rattle.std.specs.Prelude.{not, ◌&&◌, ◌||◌, IsTrue}
use Rattle.meaning_states.specs.State.{State}
use Rattle.meaning_executions.specs.Properties.{Test}

-- both tests hold
abbrev pub both_hold : Test → Test → Test
both_hold p q state = p state && q state

-- one of two tests holds
abbrev pub one_holds : Test → Test → Test
one_holds p q state = p state || q state

-- the test does not hold
abbrev pub fails : Test → Test
fails p state = not (p state)

-- the first does not hold and the second does
abbrev pub fails_with : Test → Test → Test
fails_with p q state = not (p state) && q state

-- where the first holds, the second does
abbrev pub Implies : Test → Test → Type 0
Implies p q = (state : State) → IsTrue (p state) → IsTrue (q state)
