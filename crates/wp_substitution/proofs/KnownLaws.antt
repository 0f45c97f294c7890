-- What is known of the formulas of a statement, and that they are folded.
use Rattle.std.proofs.Common.{◌≡◌, ℕ, ◌≤◌, ◌^◌, ℤ, Bool, true, false, Option, Some, None, refl, sym, ap, ◌∙◌, arith}
use Rattle.std.specs.Prelude.{MatchOption}
use Rattle.std.specs.Int.RustNames.{unsigned_abs}
use Rattle.core_terms.specs.declared.trees.CForm.{CForm, fold-roll-CForm}
use Rattle.core_terms.specs.declared.trees.CForm.TheOpen.{CForm-F}
use Rattle.core_terms.specs.declared.trees.CForm.TheVariants.{Top, Bottom, Not, And, Or, rolls-Bottom}
use Rattle.core_terms.specs.Folding.{truth_of, truth_or, truth_step, number_step, folded_form, not_form, and_form}
use Rattle.core_terms.specs.Folding.{or_form}
use Rattle.core_terms.proofs.KnownLaws.{known_folded_form}
use Rattle.wp_substitution.specs.Joined.{IsFolded}
use Rattle.wp_substitution.proofs.JoinedLaws.{truth-Top}

pub number_small : (m : Option ℤ) (n : ℕ) → MatchOption m (Unit {0}) (λ z. unsigned_abs z ≤ n) → n ≤ 2 ^ 62 →
    MatchOption m (Unit {0}) (λ z. unsigned_abs z ≤ 2 ^ 62)
number_small None n h k = tt
number_small (Some z) n h k = omega (arith, h, k)

pub ruleset number_laws = number_small

-- folding again changes nothing
again : (f : CForm) (m : Option Bool) → truth_or m (truth_or m f) ≡ truth_or m f
again f None = refl
again f (Some true) = refl
again f (Some false) = refl

folded_again : (f : CForm) → IsFolded (folded_form f)
folded_again f = ap (λ m. truth_or m (folded_form f)) (known_folded_form f) ∙ again f (truth_of f)

pub not_folded : (f g : CForm) → g ≡ not_form f → IsFolded g
not_folded f g e = ap folded_form e ∙ folded_again (Not f) ∙ sym e

pub and_folded : (f g h : CForm) → h ≡ and_form f g → IsFolded h
and_folded f g h e = ap folded_form e ∙ folded_again (And f g) ∙ sym e

pub or_folded : (f g h : CForm) → h ≡ or_form f g → IsFolded h
or_folded f g h e = ap folded_form e ∙ folded_again (Or f g) ∙ sym e

pub ruleset folded_laws = (not_folded, and_folded, or_folded)

pub top_folded : IsFolded Top
top_folded = ap (λ m. truth_or m Top) truth-Top

pub ruleset top_laws = (top_folded, truth-Top)

pub truth-Bottom : truth_of Bottom ≡ Some false
truth-Bottom = ap truth_of (sym rolls-Bottom) ∙ fold-roll-CForm _ _ truth_step number_step CForm-F.Bottom

pub bottom_folded : IsFolded Bottom
bottom_folded = ap (λ m. truth_or m Bottom) truth-Bottom

pub ruleset bottom_laws = (bottom_folded, truth-Bottom)
