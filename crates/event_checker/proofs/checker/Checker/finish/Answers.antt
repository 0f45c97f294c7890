use Rattle.std.proofs.Common.{◌∷◌, []}
use Rattle.certificate_rules.specs.Refutation.{allowing}
use Rattle.obligations.specs.Opening.{first_branch}
use Rattle.event_checker.proofs.CheckerLaws.{judged, told-nodes}
use Rattle.event_checker.proofs.checker.Checker.finish.Goals as goal

pub returns-clause-judges : goal.returns-clause-judges
returns-clause-judges c = λ levels o nodes is s whole.
    judged levels o nodes whole is c.args.self.reading _ c.verdict-verdict.ensures
    (told-nodes o.variables (allowing levels (first_branch o) ∷ []) c.args.self.reading nodes s.reading)
