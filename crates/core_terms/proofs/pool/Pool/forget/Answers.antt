use Rattle.std.proofs.Common.{◌≡◌, ℕ, List, take, sym, ap, ◌∙◌, subst}
use Rattle.std.proofs.lemmas.List.{take-map}
use Rattle.core_terms.specs.declared.entries.FormEntry.{FormEntry}
use Rattle.core_terms.specs.declared.entries.TermEntry.{TermEntry}
use Rattle.core_terms.specs.Marks.{Fits}
use Rattle.core_terms.specs.Pools.{Pooled, pooled, form_trees, term_trees}
use Rattle.core_terms.proofs.MarkLaws.{cut_back}
use Rattle.core_terms.proofs.pool.Pool.forget.Goals as goal

form_trees_cut : (xs ys : List FormEntry) (n : ℕ) → ys ≡ take n xs → form_trees ys ≡ take n (form_trees xs)
form_trees_cut xs ys n e = ap form_trees e ∙ sym (take-map (λ (e : FormEntry). e.tree) n xs)

term_trees_cut : (xs ys : List TermEntry) (n : ℕ) → ys ≡ take n xs → term_trees ys ≡ take n (term_trees xs)
term_trees_cut xs ys n e = ap term_trees e ∙ sym (take-map (λ (e : TermEntry). e.tree) n xs)

pub invariant_of-self : goal.invariant_of-self
invariant_of-self c =
    (cut_back (pooled c.self.inside.tables) _ c.args.mark c.self.invariant
    (subst (λ p. Fits p c.args.mark) (sym c.self.view_is) c.requires) c.truncate.ensures.keys
    (form_trees_cut _ _ _ c.truncate-2.ensures) c.truncate-3.ensures.keys
    (term_trees_cut _ _ _ c.truncate-4.ensures)).0

pub returns-clause-forms : goal.returns-clause-forms
returns-clause-forms c =
    form_trees_cut _ _ _ c.truncate-2.ensures ∙ ap (λ (p : Pooled). take c.args.mark.forms p.forms) c.self.view_is

pub returns-clause-terms : goal.returns-clause-terms
returns-clause-terms c =
    term_trees_cut _ _ _ c.truncate-4.ensures ∙ ap (λ (p : Pooled). take c.args.mark.terms p.terms) c.self.view_is

pub returns-clause-marks : goal.returns-clause-marks
returns-clause-marks c =
    λ m low below fits. (cut_back (pooled c.self.inside.tables) _ c.args.mark c.self.invariant
    (subst (λ p. Fits p c.args.mark) (sym c.self.view_is) c.requires) c.truncate.ensures.keys
    (form_trees_cut _ _ _ c.truncate-2.ensures) c.truncate-3.ensures.keys
    (term_trees_cut _ _ _ c.truncate-4.ensures)).1 m low below (subst (λ p. Fits p m) (sym c.self.view_is) fits)
