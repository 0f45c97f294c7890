use Rattle.std.proofs.Common.{subst}
use Rattle.core_terms.specs.declared.trees.CForm.{CForm}
use Rattle.expand_expressions.specs.Places.{scope}
use Rattle.expand_steps.specs.Elements.{GivesOne}
use Rattle.expand_steps.specs.ProofTerms.{place}
use Rattle.expand_steps.specs.Steps.{claim_formulas, core_rule, rule_formulas, step_core, step_with}
use Rattle.expand_steps.proofs.TermLaws.{expands_after}
use Rattle.expand_steps.proofs.steps.placed_step.Goals as goal

pub returns : goal.returns
returns c =
    let here = c.args.here.now in let names = c.args.names.now in let s = c.args.s.now in
    let p = place here names c.args.env.now in let given = c.in_ok-pair.ensures in
    expands_after c.ruled_step.result (step_core p s) here.front c.args.bad.now c.claim.new.bad c.ruled_step.new.bad
    (claim_formulas (scope here.known.now c.args.env.now) s.claim) (rule_formulas p s.rule) given.noted given.fits
    (subst (λ (pair : CForm × CForm). GivesOne c.ruled_step.result (step_with here names s pair (core_rule p s.rule))
    here.front c.claim.new.bad c.ruled_step.new.bad (rule_formulas p s.rule)) given.same c.ruled_step.ensures)
