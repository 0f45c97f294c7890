use Rattle.std.proofs.Common.{Option, ap, ◌∙◌, refl}
use Rattle.proof_plans.specs.declared.plans.StepFault.{StepFault}
use Rattle.proof_plans.specs.Planning.{reach_from}
use Rattle.proof_plans.specs.Reaching.{reach_of}
use Rattle.proof_script.proofs.SearchLaws.{proved_by, stopped_by}
use Rattle.proof_script.proofs.proving.ended.Goals as goal

pub returns-in-None : goal.returns-in-None
returns-in-None c = λ d e.
    proved_by d c.args.finding.budget c.args.plan c.args.finding
    (e ∙ ap (λ (s : Option StepFault). reach_from c.args.plan s) c.in-None.is) c.requires refl

pub returns-in-Some : goal.returns-in-Some
returns-in-Some c = λ d e.
    stopped_by (reach_of d) c.args.plan c.args.finding c.in-Some.fault
    (e ∙ ap (λ (s : Option StepFault). reach_from c.args.plan s) c.in-Some.is) c.requires
