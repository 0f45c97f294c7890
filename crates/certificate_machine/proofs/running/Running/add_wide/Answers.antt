use Rattle.std.proofs.Common.{sym, ◌∙◌}
use Rattle.certificate_machine.proofs.running.Running.add_wide.Goals as goal

pub invariant_of-self : goal.invariant_of-self
invariant_of-self c = record {
  inside = λ e. let no = sym c.spread_out.ensures.wide ∙ e in absurd (cc);
  unused = λ e. let no = sym c.spread_out.ensures.wide ∙ e in absurd (cc);
}
