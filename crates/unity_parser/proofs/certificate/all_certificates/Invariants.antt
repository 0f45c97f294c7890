use Rattle.std.proofs.Common.{◌+◌, ◌≤◌}
use Rattle.grammar_theory.specs.Reader.{count}
use Rattle.parser_programs.specs.from_parser_expressions.Gives.{remaining}
use Rattle.unity_parser.proofs.CertificateLoops.{Certificates}
use Rattle.unity_parser.proofs.certificate.all_certificates.Given as goal

abbrev pub invariant-items : goal.invariant-items
invariant-items l = Certificates l.depth (remaining l.fn.text) l.found l.count (remaining l.rest) ×
    (l.count + count (remaining l.rest) ≤ count (remaining l.fn.text))

abbrev pub decreases-items : goal.decreases-items
decreases-items l = count (remaining l.rest)
