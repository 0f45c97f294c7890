-- What the core of an expression is worth.
use Rattle.std.specs.Prelude.{◌≡◌, ℕ, ℤ, List, true}
use Rattle.unity_syntax.specs.declared.expression.Expr.{Expr}
use Rattle.unity_syntax.specs.declared.program.Program.{Program}
use Rattle.meaning_states.specs.State.{State, is_state}
use Rattle.meaning_documents.specs.Value.{value}
use Rattle.meaning_documents.specs.Setting.{setting_of, slot_ranges, seen}
use Rattle.expand_rules.specs.Measures.{no_flaws}
use Rattle.expand_rules.specs.declared.cores.Bound.{Bound}
use Rattle.expand_rules.specs.Forming.{formed}
use Rattle.expand_correct.specs.Values.Worth.{core_value, values_of}
use Rattle.expand_rules.specs.Documents.{scope_of, within}

-- at each state of the document, and for all numbers of parameters, the core is worth what the expression is, if it is
-- exact and no range and no divisor in it is bad
abbrev pub CoreHasValue : Type 0
CoreHasValue = (programs : List Program) (state : State) (params : List ℤ) (bs : List (List ℕ × Bound)) (e : Expr) →
    is_state (slot_ranges (setting_of programs).variables) state ≡ true →
    (formed e (within (scope_of programs) bs)).exact ≡ true →
    (formed e (within (scope_of programs) bs)).measure.flaws ≡ no_flaws →
    core_value state params (formed e (within (scope_of programs) bs)).core
    ≡ value e (seen (setting_of programs) (values_of params bs) state)
