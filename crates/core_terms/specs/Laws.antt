-- Laws of core trees, as statements that functions name.
use Rattle.std.specs.Prelude.{◌≡◌, ◌≤◌, ◌↔◌, ℕ, ℤ, List, Bool, Some, IsTrue}
use Rattle.core_terms.specs.declared.trees.CTerm.{CTerm}
use Rattle.core_terms.specs.declared.trees.CForm.{CForm}
use Rattle.core_terms.specs.Values.{number_at, term_value, form_value}
use Rattle.core_terms.specs.Weights.{term_weights, form_weight}
use Rattle.core_terms.specs.Places.{names_param, term_names_param}
use Rattle.core_terms.specs.Folding.{number_of, truth_of, folded_term, folded_form}
use Rattle.core_terms.specs.Replacing.{term_with, form_with}
use Rattle.core_terms.specs.Trees.{same_form}

-- a folded tree is worth what the tree is
abbrev pub FoldingKeepsTerms : Type 0
FoldingKeepsTerms =
    (state params : List ℤ) (t : CTerm) → term_value state params (folded_term t) ≡ term_value state params t

abbrev pub FoldingKeepsForms : Type 0
FoldingKeepsForms =
    (state params : List ℤ) (f : CForm) → form_value state params (folded_form f) ≡ form_value state params f

-- and weighs no more, whatever slots and parameters weigh
abbrev pub FoldingRaisesNoTerm : Type 0
FoldingRaisesNoTerm = (slots params : ℕ → ℕ) (t : CTerm) →
    ((term_weights slots params (folded_term t)).own ≤ (term_weights slots params t).own)
    × ((term_weights slots params (folded_term t)).most ≤ (term_weights slots params t).most)

abbrev pub FoldingRaisesNoForm : Type 0
FoldingRaisesNoForm =
    (slots params : ℕ → ℕ) (f : CForm) → form_weight slots params (folded_form f) ≤ form_weight slots params f

-- what is known of a tree is known of the folded one: so of known parts each operation makes a known whole
abbrev pub KnownTermStays : Type 0
KnownTermStays = (t : CTerm) → number_of (folded_term t) ≡ number_of t

abbrev pub KnownFormStays : Type 0
KnownFormStays = (f : CForm) → truth_of (folded_form f) ≡ truth_of f

-- what is known of a tree is its value everywhere
abbrev pub KnownTermIsValue : Type 0
KnownTermIsValue = (state params : List ℤ) (t : CTerm) (z : ℤ) → number_of t ≡ Some z → term_value state params t ≡ z

abbrev pub KnownFormIsValue : Type 0
KnownFormIsValue = (state params : List ℤ) (f : CForm) (b : Bool) → truth_of f ≡ Some b → form_value state params f ≡ b

-- where terms are worth at one place what slots and parameters are at another, the formula in which they are
-- put is worth at the one what the formula is at the other
abbrev pub ReplacingKeepsValue : Type 0
ReplacingKeepsValue = (state params after numbers : List ℤ) (slots names : ℕ → CTerm) →
    ((n : ℕ) → term_value state params (slots n) ≡ number_at after n) →
    ((n : ℕ) → term_value state params (names n) ≡ number_at numbers n) →
    (f : CForm) → form_value state params (form_with slots names f) ≡ form_value after numbers f

abbrev pub ReplacingKeepsTerms : Type 0
ReplacingKeepsTerms = (state params after numbers : List ℤ) (slots names : ℕ → CTerm) →
    ((n : ℕ) → term_value state params (slots n) ≡ number_at after n) →
    ((n : ℕ) → term_value state params (names n) ≡ number_at numbers n) →
    (t : CTerm) → term_value state params (term_with slots names t) ≡ term_value after numbers t

-- and the formula weighs at most what it does where slots and parameters weigh as the terms that are put for them
abbrev pub ReplacingWeighsForms : Type 0
ReplacingWeighsForms = (slots params after numbers : ℕ → ℕ) (terms names : ℕ → CTerm) →
    ((n : ℕ) → (term_weights slots params (terms n)).most ≤ after n) →
    ((n : ℕ) → (term_weights slots params (names n)).most ≤ numbers n) →
    (f : CForm) → form_weight slots params (form_with terms names f) ≤ form_weight after numbers f

abbrev pub ReplacingWeighsTerms : Type 0
ReplacingWeighsTerms = (slots params after numbers : ℕ → ℕ) (terms names : ℕ → CTerm) →
    ((n : ℕ) → (term_weights slots params (terms n)).most ≤ after n) →
    ((n : ℕ) → (term_weights slots params (names n)).most ≤ numbers n) →
    (t : CTerm) →
    ((term_weights slots params (term_with terms names t)).own ≤ (term_weights after numbers t).own)
    × ((term_weights slots params (term_with terms names t)).most ≤ (term_weights after numbers t).most)

-- a value depends on the parameters that are named alone
abbrev pub FormFrame : Type 0
FormFrame = (state params others : List ℤ) (f : CForm) →
    ((n : ℕ) → IsTrue (names_param n f) → number_at params n ≡ number_at others n) →
    form_value state params f ≡ form_value state others f

abbrev pub TermFrame : Type 0
TermFrame = (state params others : List ℤ) (t : CTerm) →
    ((n : ℕ) → IsTrue (term_names_param n t) → number_at params n ≡ number_at others n) →
    term_value state params t ≡ term_value state others t

-- the test of equal trees passes at equal trees alone
abbrev pub SameIsEqual : Type 0
SameIsEqual = (f g : CForm) → IsTrue (same_form f g) ↔ (f ≡ g)
