use Rattle.std.proofs.Common.{◌≡◌, ◌++◌, drop}
use Rattle.certificate_printing.specs.Findings.{variable_lines}
use Rattle.certificate_printing.proofs.findings.push_variables.Given as goal

abbrev pub invariant-loop-place : goal.invariant-loop-place
invariant-loop-place l =
    l.text.items ++ variable_lines l.doc l.names (drop l.place l.variables) (drop l.place l.values)
    ≡ l.initial.text.items ++ variable_lines l.doc l.names l.variables l.values
