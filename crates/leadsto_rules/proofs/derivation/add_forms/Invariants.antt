use Rattle.std.proofs.Common.{take}
use Rattle.core_terms.specs.declared.trees.CForm.{CForm}
use Rattle.safety_rules.proofs.AnswerLaws.{AddedFor}
use Rattle.leadsto_rules.proofs.derivation.add_forms.Given as goal

abbrev pub invariant-loop-f : goal.invariant-loop-f
invariant-loop-f l =
    AddedFor l.wide.slots.now l.wide.params.now (λ (f : CForm). f) (take l.f-index l.forms) l.initial.goals l.goals
