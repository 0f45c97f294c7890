use Rattle.std.proofs.Common.{◌+◌, ◌≤◌}
use Rattle.grammar_theory.specs.Reader.{count}
use Rattle.parser_programs.specs.from_parser_expressions.Gives.{remaining}
use Rattle.unity_parser.proofs.CertificateLoops.{Nodes}
use Rattle.unity_parser.proofs.certificate.more_nodes.Given as goal

abbrev pub invariant-items : goal.invariant-items
invariant-items l = Nodes l.depth l.trees (remaining l.fn.text) l.found l.missing (remaining l.rest) ×
    (l.missing + count (remaining l.rest) ≤ 2 + count (remaining l.fn.text))

abbrev pub decreases-items : goal.decreases-items
decreases-items l = count (remaining l.rest)
