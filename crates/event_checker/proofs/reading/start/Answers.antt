use Rattle.std.proofs.Common.{ap, ◌∙◌}
use Rattle.std.specs.List.{list_all}
use Rattle.obligations.specs.Load.{in_limit}
use Rattle.obligations.specs.declared.branches.Line.{Line}
use Rattle.certificate_rules.proofs.SumLaws.{small-zeros}
use Rattle.event_checker.proofs.reading.start.Goals as goal

pub returns-clause-factors : goal.returns-clause-factors
returns-clause-factors c =
    ap (λ (l : Line). list_all in_limit l.factors) c.in_ok-restart.ensures ∙ small-zeros c.as_slice.result.now
