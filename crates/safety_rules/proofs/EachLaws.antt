-- Formulas, each once, of lists that are joined.
use Rattle.std.proofs.Common.{◌≡◌, List, [], ◌∷◌, ◌++◌, cond, refl, ◌∙◌}
use Rattle.std.specs.List.{list_any}
use Rattle.core_terms.specs.declared.trees.CForm.{CForm}
use Rattle.core_terms.specs.Trees.{same_form}
use Rattle.rules_table.specs.Table.{with_each}

each-two : (seen xs ys : List CForm) → with_each seen (xs ++ ys) ≡ with_each (with_each seen xs) ys
each-two seen [] ys = refl
each-two seen (x ∷ xs) ys = each-two (cond (list_any (same_form x) seen) seen (seen ++ (x ∷ []))) xs ys

pub each-append : (seen xs ys zs : List CForm) →
    with_each seen (xs ++ (ys ++ zs)) ≡ with_each (with_each (with_each seen xs) ys) zs
each-append seen xs ys zs = each-two seen xs (ys ++ zs) ∙ each-two (with_each seen xs) ys zs
