use Rattle.std.proofs.Common.{◌≡◌, drop}
use Rattle.certificate_machine.specs.Terms.{add_terms}
use Rattle.certificate_machine.proofs.TermLaws.{ToPut}
use Rattle.certificate_machine.proofs.wide.Wide.put_all.Given as goal

abbrev pub invariant-loop-term : goal.invariant-loop-term
invariant-loop-term l = record {
  factors : add_terms (drop l.term-index l.terms) l.self.line.factors ≡ add_terms l.terms l.fn.self.line.factors;
  left : ToPut (drop l.term-index l.terms) l.self.line.factors;
  constant : l.self.line.constant ≡ l.constant;
}
