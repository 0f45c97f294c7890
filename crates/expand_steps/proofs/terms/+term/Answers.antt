use Rattle.std.proofs.Common.{ℕ, [], ◌∷◌, Ok, sym, subst, ap, ◌∙◌}
use Rattle.unity_syntax.specs.declared.term.Term.{Term}
use Rattle.core_terms.specs.declared.trees.CForm.{CForm}
use Rattle.core_terms.specs.declared.documents.PTerm.{PTerm}
use Rattle.expand_expressions.specs.Places.{scope}
use Rattle.expand_steps.specs.declared.term_forms.Induction.{Induction}
use Rattle.expand_steps.specs.Elements.{form_in, number_in, term_in, truth_in}
use Rattle.expand_steps.specs.ProofTerms.{Termed, Terms, place, with_bound_name, fixed_ends, inducted_by}
use Rattle.expand_steps.specs.ProofTerms.{second_paired, termed, weakened_by}
use Rattle.expand_declarations.specs.Numbers.{core_range}
use Rattle.expand_steps.proofs.TermLaws.{termed-Pair, terms_after}
use Rattle.expand_steps.proofs.terms.+term.Goals as goal

pub induct-returns : goal.induct-returns
induct-returns t c =
    let s = scope c.args.here.now.known.now c.args.env.now in
    let front = c.args.here.now.front in let result = c.induct_by.result in let next = c.induct_by.new.next in
    let middle = c.inductive_parts.new.bad in let new = c.induct_by.new.bad in
    let here = place c.args.here.now c.args.names.now c.args.env.now in
    let given = c.in_ok-shape.ensures in
    let parts : Induction = record {
      number = c.args.number;
      range = core_range (fixed_ends c.args.range.now);
      measure = term_in s c.args.measure.now;
      p = form_in s c.args.p.now;
      q = form_in s c.args.q.now;
    } in
    terms_after result next front c.args.bad.now middle new
    (number_in s c.args.measure.now ∷ truth_in s c.args.p.now ∷ truth_in s c.args.q.now ∷ [])
    (inducted_by parts (termed c.args.of.now (with_bound_name here c.args.name.now.text c.args.number
    c.args.range.now)
    c.args.next.now)) given.noted given.fits
    (subst (λ (i : Induction). Terms result next front middle new
    (inducted_by i (termed c.args.of.now (with_bound_name here c.args.name.now.text i.number c.args.range.now)
    c.args.next.now))) given.same c.induct_by.ensures)

pub term-returns-in_ok-first-in-Pair : goal.term-returns-in_ok-first-in-Pair
term-returns-in_ok-first-in-Pair t c =
    let front = c.args.here.now.front in let result = c.second_term.result in let next = c.second_term.new.next in
    let old = c.args.bad.now in let middle = c.term.new.bad in let new = c.second_term.new.bad in
    let here = place c.args.here.now c.args.names.now c.args.env.now in
    let which = c.in-Pair.which in let second = c.in-Pair.second in
    let first = termed c.in-Pair.first here c.args.next.now in
    let given = subst (λ (x : Term).
    Terms (Ok c.in_ok-first-in-Pair.first) c.term.new.next front old middle (termed x here c.args.next.now))
    c.get.ensures c.in_ok-first-in-Pair.ensures in
    subst (λ (u : Termed). Terms result next front old new u)
    (sym (ap (λ (x : Term). termed x here c.args.next.now) c.in-Pair.is
    ∙ termed-Pair c.in-Pair.at which c.in-Pair.first second here c.args.next.now))
    (terms_after result next front old middle new first.formulas
    (second_paired which first.core (termed second here first.next)) given.0.noted given.0.fits
    (subst (λ (n : ℕ). Terms result next front middle new (second_paired which first.core (termed second here n)))
    given.1
    (subst (λ (core : PTerm).
    Terms result next front middle new (second_paired which core (termed second here c.term.new.next)))
    given.0.same c.second_term.ensures)))

pub weaken-returns : goal.weaken-returns
weaken-returns t c =
    let s = scope c.args.here.now.known.now c.args.env.now in
    let front = c.args.here.now.front in let result = c.weaken_by.result in let next = c.weaken_by.new.next in
    let middle = c.imply.new.bad in let new = c.weaken_by.new.bad in
    let here = place c.args.here.now c.args.names.now c.args.env.now in
    let given = c.in_ok-p.ensures in
    let of : Termed = termed c.args.of.now here c.args.next.now in
    terms_after result next front c.args.bad.now middle new (truth_in s c.args.p.now ∷ truth_in s c.args.q.now ∷ [])
    (weakened_by (form_in s c.args.p.now) (form_in s c.args.q.now) of) given.noted given.fits
    (subst (λ (f : CForm × CForm). Terms result next front middle new (weakened_by f.0 f.1 of)) given.same
    c.weaken_by.ensures)
