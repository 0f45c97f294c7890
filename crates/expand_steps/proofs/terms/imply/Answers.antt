use Rattle.std.proofs.Common.{List, [], ◌∷◌, ap, ◌∙◌}
use Rattle.core_terms.specs.declared.trees.CForm.{CForm}
use Rattle.expand_rules.specs.declared.cores.Formed.{Formed}
use Rattle.expand_expressions.specs.Places.{scope}
use Rattle.expand_steps.specs.Elements.{form_in, truth_in}
use Rattle.expand_steps.proofs.TermLaws.{noted_both, fits_both}
use Rattle.expand_steps.proofs.terms.imply.Goals as goal

pub returns : goal.returns
returns c =
    let s = scope c.args.here.now.known.now c.args.env.now in
    let first = c.in_ok-first.ensures in let second = c.in_ok-second.ensures in
    let fs : List Formed = truth_in s c.args.p.now ∷ [] in let gs : List Formed = truth_in s c.args.q.now ∷ [] in
    record {
      same = ap (λ (f : CForm). (f, c.in_ok-second.second)) first.same
          ∙ ap (λ (g : CForm). (form_in s c.args.p.now, g)) second.same;
      noted = noted_both c.args.bad.now c.formula.new.bad c.formula-2.new.bad fs gs first.noted second.noted;
      fits = fits_both fs gs first.fits second.fits;
    }
