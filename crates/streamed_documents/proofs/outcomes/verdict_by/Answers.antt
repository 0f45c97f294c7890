use Rattle.std.proofs.Common.{Err, ap, subst}
use Rattle.proof_plans.specs.declared.plans.ScriptError.{ScriptError}
use Rattle.proof_plans.specs.Verdicts.{verdict_of}
use Rattle.step_plans.specs.declared.summaries.Summary.{Summary}
use Rattle.step_plans.specs.Summaries.{SummaryAnswers, summed}
use Rattle.streamed_documents.proofs.outcomes.verdict_by.Goals as goal

pub returns-in-Err-Step : goal.returns-in-Err-Step
returns-in-Err-Step c = λ d certs whole stands.
    ap summed (subst (λ (e : ScriptError). SummaryAnswers (Err e) (verdict_of d certs)) c.in-Err-Step.field-0-is
    (c.in-Err-Step.ensures.verdict d certs whole stands))
