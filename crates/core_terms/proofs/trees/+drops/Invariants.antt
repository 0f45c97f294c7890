use Rattle.std.proofs.Common.{◌≤◌}
use Rattle.core_terms.specs.declared.trees.CForm.{size-CForm}
use Rattle.core_terms.specs.declared.trees.CTerm.{size-CTerm}
use Rattle.core_terms.proofs.trees.+drops.Given as goal

abbrev pub invariant-CForm::drop-loop-self : goal.invariant-CForm::drop-loop-self
invariant-CForm::drop-loop-self l = size-CForm l.self ≤ size-CForm l.fn.self

abbrev pub invariant-CTerm::drop-loop-self : goal.invariant-CTerm::drop-loop-self
invariant-CTerm::drop-loop-self l = size-CTerm l.self ≤ size-CTerm l.fn.self
