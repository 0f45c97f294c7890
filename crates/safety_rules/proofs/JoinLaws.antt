-- Formulas joined one after the other are those of their list.
use Rattle.std.proofs.Common.{◌≡◌, ℕ, zero, suc, ◌<◌, ◌≤◌, List, [], ◌∷◌, length, drop, Option, Some, None, refl, sym}
use Rattle.std.proofs.Common.{ap}
use Rattle.std.proofs.Common.{◌++◌, ◌∙◌, append_assoc, arith}
use Rattle.std.specs.Prelude.{All}
use Rattle.std.proofs.lemmas.List.Elements.{All-weaker}
use Rattle.core_terms.specs.declared.trees.Range.{Range}
use Rattle.core_terms.specs.declared.programs.CSlot.{CSlot}
use Rattle.core_terms.specs.declared.trees.CForm.{CForm}
use Rattle.core_terms.specs.Folding.{and_form, or_form, not_form}
use Rattle.core_terms.specs.declared.known.Joining.{Joining}
use Rattle.core_terms.specs.Weights.{one_weight}
use Rattle.core_terms.proofs.WeightLaws.{weight-Top, weight-Bottom}
use Rattle.rules_table.specs.Forms.{imply}
use Rattle.wp_substitution.specs.Preconditions.{all_of}
use Rattle.safety_rules.specs.Usable.{IsUsable}
use Rattle.safety_rules.specs.Foldable.{IsFoldable, gathered, gathered_all, gathered_none, gathered_or}

after_first : (joining : Joining) (f : CForm) (fs : List CForm) →
    gathered_all joining (Some f) fs ≡ Some (gathered joining (f ∷ fs))
after_first Joining.Both f [] = refl
after_first Joining.Both f (g ∷ fs) = after_first Joining.Both (and_form f g) fs
after_first Joining.Either f [] = refl
after_first Joining.Either f (g ∷ fs) = after_first Joining.Either (or_form f g) fs

whole_list : (joining : Joining) (fs : List CForm) → gathered_or joining (gathered_all joining None fs) ≡
    gathered joining fs
whole_list Joining.Both [] = refl
whole_list Joining.Both (f ∷ fs) = ap (gathered_or Joining.Both) (after_first Joining.Both f fs)
whole_list Joining.Either [] = refl
whole_list Joining.Either (f ∷ fs) = ap (gathered_or Joining.Either) (after_first Joining.Either f fs)

pub none_foldable : (joining : Joining) → IsFoldable (gathered_none joining)
none_foldable Joining.Both = let w = weight-Top one_weight one_weight in omega (arith, w)
none_foldable Joining.Either = let w = weight-Bottom one_weight one_weight in omega (arith, w)

pub some_imply : (fs : List CForm) (q : CForm) → 0 < length fs → or_form (not_form (all_of fs)) q ≡ imply fs q
some_imply [] q some = absurd (omega (arith, some))
some_imply (f ∷ fs) q some = refl

none_left : {X : Type 0} (xs : List X) (i : ℕ) → length xs ≤ i → drop i xs ≡ []
none_left [] zero past = refl
none_left [] (suc i) past = refl
none_left (x ∷ xs) zero past = absurd (omega arith)
none_left (x ∷ xs) (suc i) past = let inner : length xs ≤ i = omega arith in none_left xs i inner

-- where all of a list were taken
pub gathered_whole : (joining : Joining) (whole : Option CForm) (forms : List CForm) (i : ℕ) → length forms ≤ i →
    gathered_all joining whole (drop i forms) ≡ gathered_all joining None forms →
    gathered_or joining whole ≡ gathered joining forms
gathered_whole joining whole forms i past is =
    ap (gathered_or joining) (sym (ap (gathered_all joining whole) (none_left forms i past)) ∙ is)
    ∙ whole_list joining forms

-- U and two formulas more
pub premises_are : (using first all : List CForm) (p n f : CForm) → first ≡ using ++ p ∷ [] → n ≡ f →
    all ≡ first ++ n ∷ [] → all ≡ using ++ (p ∷ f ∷ [])
premises_are using first all p n f e g h =
    h ∙ ap (λ fs. fs ++ n ∷ []) e ∙ append_assoc using (p ∷ []) (n ∷ []) ∙ ap (λ x. using ++ (p ∷ x ∷ [])) g

pub all_foldable : (slots : List CSlot) (params : List Range) (fs : List CForm) → All (IsUsable slots params) fs →
    All IsFoldable fs
all_foldable slots params fs h =
    All-weaker (IsUsable slots params) IsFoldable (λ f u. let light = u.light in omega (arith, light)) fs h
