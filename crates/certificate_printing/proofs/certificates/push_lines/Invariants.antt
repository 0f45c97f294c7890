use Rattle.std.proofs.Common.{◌≡◌, ◌++◌, suc, drop}
use Rattle.certificate_printing.specs.Certificates.{certificate_lines}
use Rattle.certificate_printing.proofs.certificates.push_lines.Given as goal

abbrev pub invariant-loop-place : goal.invariant-loop-place
invariant-loop-place l =
    l.text.items ++ certificate_lines (suc l.place) (drop l.place l.certs)
    ≡ l.initial.text.items ++ certificate_lines 1 l.certs
