-- Statements have the steps of their sources, at the states of a document.
use Rattle.std.proofs.Common.{◌≡◌, ℤ, List, [], ◌∷◌, ◌++◌, map, refl, sym, ap, ◌∙◌}
use Rattle.unity_syntax.specs.declared.program.Program.{Program}
use Rattle.meaning_states.specs.State.{State}
use Rattle.meaning_states.specs.Step.{step}
use Rattle.meaning_documents.specs.Names.{Bindings}
use Rattle.meaning_documents.specs.Setting.{setting_of, slot_ranges, seen}
use Rattle.core_terms.specs.Steps.{outside_writes, inside_writes}
use Rattle.expand_rules.specs.declared.cores.Bound.{Bound}
use Rattle.expand_correct.specs.Values.Worth.{values_of}
use Rattle.expand_rules.specs.Assigning.{among, effect_of}
use Rattle.expand_rules.specs.Documents.{scope_of, within}
use Rattle.expand_correct.specs.Values.StepLaws.{CoreHasStep}
use Rattle.expand_correct.proofs.Values.Values.{Sees}
use Rattle.expand_correct.proofs.Values.DocumentValues.{are_bits, sees_within}
use Rattle.expand_correct.proofs.Values.Doing.{step_law}

numbers_back : (params : List ℤ) (b : Bindings) → values_of params (map (λ x. (x.0, Bound.Number x.1)) b) ≡ b
numbers_back params [] = refl
numbers_back params (x ∷ xs) = ap (λ ys. x ∷ ys) (numbers_back params xs)

pub sees_among : (programs : List Program) (state : State) (b : Bindings) → Sees state [] (within (scope_of programs)
    []) (seen (setting_of programs) [] state) →
    Sees state [] (among (scope_of programs) b) (seen (setting_of programs) b state)
sees_among programs state b h = record {
  variables = h.variables;
  words = h.words;
  there = h.there;
  always = h.always;
  bound = sym (numbers_back [] b);
  bits = h.bits;
}

pub core_has_step : CoreHasStep
core_has_step programs state i c h e x n =
    let g = setting_of programs in
    let ranges = slot_ranges g.variables in
    ap (λ fs. step ranges (outside_writes state fs ++ inside_writes state c.writes) state) e.outside
    ∙ ap (λ ws. step ranges (outside_writes state (effect_of i.assign (among (scope_of programs) i.bindings)).outside
    ++ inside_writes state ws) state) e.writes
    ∙ step_law state ranges i.assign (among (scope_of programs) i.bindings) (seen g i.bindings state)
    (sees_among programs state i.bindings (sees_within state [] programs [] (are_bits programs state h))) x n
