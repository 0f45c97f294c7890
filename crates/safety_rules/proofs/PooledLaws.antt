-- The one tree that stands at a place of a pool.
use Rattle.std.proofs.Common.{◌≡◌, ℕ, List, Some, sym, ◌∙◌, subst}
use Rattle.std.specs.Prelude.{slice_get}
use Rattle.std.proofs.lemmas.Option.{get_or_from_slice_get}
use Rattle.core_terms.specs.declared.trees.CForm.{CForm}

-- two trees at one place are one
one_tree : (forms : List CForm) (i : ℕ) (f g : CForm) → slice_get forms i ≡ Some f → slice_get forms i ≡ Some g →
    f ≡ g
one_tree forms i f g a b = sym (get_or_from_slice_get forms i f f a) ∙ get_or_from_slice_get forms i g f b

-- what is so of the tree at a place is so of each tree at it
pub each_tree : (P : CForm → Type 0) (forms : List CForm) (i : ℕ) (f g : CForm) → slice_get forms i ≡ Some f →
    slice_get forms i ≡ Some g → P f → P g
each_tree P forms i f g a b = subst P (one_tree forms i f g a b)
