-- The truth of what two writes to one slot need.
use Rattle.std.proofs.Common.{◌≡◌, ℤ, pos, ◌-ℤ◌, Bool, not, ◌&&◌, ◌||◌, Option, sym, ap, ◌∙◌}
use Rattle.std.specs.Option.{option_map}
use Rattle.meaning_states.specs.State.{int_eq}
use Rattle.core_terms.specs.declared.trees.CTerm.{CTerm, fold-roll-CTerm}
use Rattle.core_terms.specs.declared.trees.CTerm.TheVariants.{Sub, rolls-Sub}
use Rattle.core_terms.specs.declared.trees.CForm.{CForm, fold-roll-CForm}
use Rattle.core_terms.specs.declared.trees.CForm.TheOpen.{CTerm-F, CForm-F}
use Rattle.core_terms.specs.declared.trees.CForm.TheVariants.{Zero, Not, And, Or, rolls-Zero, rolls-Not, rolls-And}
use Rattle.core_terms.specs.declared.trees.CForm.TheVariants.{rolls-Or}
use Rattle.core_terms.specs.declared.programs.CWrite.{CWrite}
use Rattle.core_terms.specs.Folding.{joined, number_step, truth_step, number_of, truth_of, difference_term}
use Rattle.core_terms.specs.Folding.{zero_form, not_form, and_form}
use Rattle.core_terms.proofs.KnownLaws.{known_folded_form, known_folded_term}
use Rattle.wp_substitution.specs.Preconditions.{pair_form}
use Rattle.wp_substitution.specs.Joined.{known_write, known_pair}

pub number-Sub : (a b : CTerm) → number_of (Sub a b) ≡ joined (λ x y. x -ℤ y) (number_of a) (number_of b)
number-Sub a b = ap number_of (sym (rolls-Sub a b)) ∙ fold-roll-CTerm (Option Bool) (Option ℤ) truth_step number_step
    (CTerm-F.Sub a b)

truth-Zero : (t : CTerm) → truth_of (Zero t) ≡ option_map (λ x. int_eq x (pos 0)) (number_of t)
truth-Zero t = ap truth_of (sym (rolls-Zero t)) ∙ fold-roll-CForm (Option Bool) (Option ℤ) truth_step number_step
    (CForm-F.Zero t)

pub truth-Not : (f : CForm) → truth_of (Not f) ≡ option_map not (truth_of f)
truth-Not f = ap truth_of (sym (rolls-Not f)) ∙ fold-roll-CForm (Option Bool) (Option ℤ) truth_step number_step
    (CForm-F.Not f)

pub truth-And : (f g : CForm) → truth_of (And f g) ≡ joined (λ x y. x && y) (truth_of f) (truth_of g)
truth-And f g = ap truth_of (sym (rolls-And f g)) ∙ fold-roll-CForm (Option Bool) (Option ℤ) truth_step number_step
    (CForm-F.And f g)

pub truth-Or : (f g : CForm) → truth_of (Or f g) ≡ joined (λ x y. x || y) (truth_of f) (truth_of g)
truth-Or f g = ap truth_of (sym (rolls-Or f g)) ∙ fold-roll-CForm (Option Bool) (Option ℤ) truth_step number_step
    (CForm-F.Or f g)

-- the truth of what two writes need is what is known of it
pub pair_truth : (v w : CWrite) → truth_of (pair_form v w) ≡ known_pair (known_write v) (known_write w)
pair_truth v w =
    let both = and_form v.when w.when in
    let apart = difference_term v.value w.value in
    let first : truth_of (not_form both) ≡
    option_map not (joined (λ x y. x && y) (truth_of v.when) (truth_of w.when)) =
    known_folded_form (Not both) ∙ truth-Not both
    ∙ ap (option_map not) (known_folded_form (And v.when w.when) ∙ truth-And v.when w.when) in
    let second : truth_of (zero_form apart) ≡
    option_map (λ z. int_eq z (pos 0)) (joined (λ x y. x -ℤ y) (number_of v.value) (number_of w.value)) =
    known_folded_form (Zero apart) ∙ truth-Zero apart
    ∙ ap (option_map (λ z. int_eq z (pos 0))) (known_folded_term (Sub v.value w.value) ∙ number-Sub v.value w.value) in
    known_folded_form (Or (not_form both) (zero_form apart)) ∙ truth-Or (not_form both) (zero_form apart)
    ∙ ap (λ m. joined (λ x y. x || y) m (truth_of (zero_form apart))) first
    ∙ ap (joined (λ x y. x || y) (option_map not (joined (λ x y. x && y) (truth_of v.when) (truth_of w.when)))) second
