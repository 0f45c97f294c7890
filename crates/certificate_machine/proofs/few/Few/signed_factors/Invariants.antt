use Rattle.std.proofs.Common.{◌≡◌, take}
use Rattle.certificate_machine.specs.Terms.{made_terms, sign}
use Rattle.certificate_machine.proofs.few.Few.signed_factors.Given as goal

abbrev pub invariant-loop-term : goal.invariant-loop-term
invariant-loop-term l = record {
  factors : l.factors ≡ made_terms (sign l.turned) (take l.term-index l.term-items);
}
