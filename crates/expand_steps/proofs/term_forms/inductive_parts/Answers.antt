use Rattle.std.proofs.Common.{◌≡◌, ℕ, List, [], ◌∷◌, ap, ◌∙◌}
use Rattle.core_terms.specs.declared.trees.Range.{Range}
use Rattle.core_terms.specs.declared.trees.CTerm.{CTerm}
use Rattle.core_terms.specs.declared.trees.CForm.{CForm}
use Rattle.expand_rules.specs.declared.cores.Formed.{Formed}
use Rattle.expand_expressions.specs.Places.{scope}
use Rattle.expand_declarations.specs.Numbers.{core_range}
use Rattle.expand_steps.specs.declared.term_forms.Induction.{Induction}
use Rattle.expand_steps.specs.Elements.{form_in, number_in, term_in, truth_in}
use Rattle.expand_steps.specs.ProofTerms.{fixed_ends}
use Rattle.expand_steps.proofs.TermLaws.{noted_both, fits_both}
use Rattle.expand_steps.proofs.term_forms.inductive_parts.Goals as goal

abbrev parts : ℕ → Range → CTerm → CForm × CForm → Induction
parts number range measure both =
    record { number = number; range = range; measure = measure; p = both.0; q = both.1 }

same_parts : (n : ℕ) (r s : Range) (m l : CTerm) (f g : CForm × CForm) → r ≡ s → m ≡ l → f ≡ g →
    parts n r m f ≡ parts n s l g
same_parts n r s m l f g h i j = ap (λ (x : Range). parts n x m f) h ∙ ap (λ (x : CTerm). parts n s x f) i
    ∙ ap (λ (x : CForm × CForm). parts n s l x) j

pub returns : goal.returns
returns c =
    let s = scope c.args.here.now.known.now c.args.env.now in
    let first = c.in_ok-measure.ensures in let second = c.in_ok-p.ensures in
    let fs : List Formed = number_in s c.args.measure.now ∷ [] in
    let gs : List Formed = truth_in s c.args.p.now ∷ truth_in s c.args.q.now ∷ [] in
    record {
      same = same_parts c.args.number c.in_ok-range.range (core_range (fixed_ends c.args.range.now))
          c.in_ok-measure.measure (term_in s c.args.measure.now) (c.in_ok-p.p, c.in_ok-p.q)
          (form_in s c.args.p.now, form_in s c.args.q.now) c.in_ok-range.ensures first.same second.same;
      noted = noted_both c.args.bad.now c.metric.new.bad c.imply.new.bad fs gs first.noted second.noted;
      fits = fits_both fs gs first.fits second.fits;
    }
