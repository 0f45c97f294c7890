use Rattle.std.proofs.Common.{ap, ◌∙◌}
use Rattle.cli_texts.specs.from_proof_plans.Planning.{reach_from}
use Rattle.unity_cli.proofs.listing.list_planned.Goals as goal

pub list_plan-requires-clause-planned : goal.list_plan-requires-clause-planned
list_plan-requires-clause-planned g c =
    c.requires.planned ∙ ap (reach_from c.args.planned.now.plan) c.in-None.is

pub list_fault-requires-clause-planned : goal.list_fault-requires-clause-planned
list_fault-requires-clause-planned g c =
    c.requires.planned ∙ ap (reach_from c.args.planned.now.plan) c.in-Some.is
