use Rattle.std.proofs.Common.{◌∙◌, subst}
use Rattle.expand_steps.specs.Elements.{element_fault}
use Rattle.expand_steps.specs.ProofTerms.{Place}
use Rattle.expand_steps.specs.Steps.{Yields, outer_scope, step_core, step_formulas}
use Rattle.expand_steps.proofs.steps.step_in.Goals as goal

pub returns : goal.returns
returns c = let s = c.args.s.now in
    subst (λ (p : Place). Yields c.among.result (step_core p s) (element_fault s.name.at (step_formulas p s)))
    (λ i. record {
      words = c.args.words.now;
      owner = c.args.owner.now.text;
      scope = record (outer_scope c.args.known.now) { bound = (c.among_params.ensures ∙ c.requires.bounds) i };
      bounds = c.outside.ensures i;
      params = c.requires.params i;
    }) c.among.ensures
