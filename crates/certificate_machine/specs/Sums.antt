-- The line that a running sum is.
use Rattle.std.specs.Prelude.{cond}
use Rattle.obligations.specs.declared.branches.Line.{Line}
use Rattle.obligations.specs.LinearForms.{zeros}
use Rattle.certificate_machine.specs.declared.few.Few.{Few}
use Rattle.certificate_machine.specs.declared.wide.Wide.{Wide}
use Rattle.certificate_machine.specs.declared.running.Running.{Running}
use Rattle.certificate_machine.specs.Terms.{add_terms}

abbrev pub wide_line : Wide → Line
wide_line w = w.line

-- over as many variables as the other line has
abbrev pub few_line : Line → Few → Line
few_line l f = record { factors = add_terms f.terms.items (zeros l.factors); constant = f.constant }

abbrev pub sum_line : Running → Line
sum_line r = cond r.is_few (few_line (wide_line r.wide) r.few) (wide_line r.wide)
