use Rattle.std.proofs.Common.{◌≡◌, take}
use Rattle.std.specs.Int.{int_div_euclid}
use Rattle.certificate_machine.specs.Terms.{made_terms}
use Rattle.certificate_machine.proofs.few.Few.divided_factors.Given as goal

abbrev pub invariant-loop-term : goal.invariant-loop-term
invariant-loop-term l = record {
  factors : l.factors ≡ made_terms (λ z. int_div_euclid z l.d) (take l.term-index l.term-items);
}
