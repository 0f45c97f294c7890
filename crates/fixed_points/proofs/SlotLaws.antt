-- What is known of a slot.
use Rattle.std.proofs.Common.{◌≡◌, ℕ, ◌≤◌, Bool, ℤ, Option, None, sym, ap, ◌∙◌, arith}
use Rattle.core_terms.specs.declared.trees.CTerm.{fold-roll-CTerm}
use Rattle.core_terms.specs.declared.trees.CTerm.TheVariants.{Slot, rolls-Slot}
use Rattle.core_terms.specs.declared.trees.CForm.TheOpen.{CTerm-F}
use Rattle.core_terms.specs.Folding.{number_step, truth_step, number_of}
use Rattle.core_terms.specs.Weights.{Weights, weigh_form, weigh_term, one_weight, plain_weights}

pub number-Slot : (n : ℕ) → number_of (Slot n) ≡ None
number-Slot n = ap number_of (sym (rolls-Slot n))
    ∙ fold-roll-CTerm (Option Bool) (Option ℤ) truth_step number_step (CTerm-F.Slot n)

weights-Slot : (n : ℕ) → plain_weights (Slot n) ≡ weigh_term one_weight one_weight (CTerm-F.Slot n)
weights-Slot n = ap plain_weights (sym (rolls-Slot n)) ∙ fold-roll-CTerm ℕ Weights weigh_form
    (weigh_term one_weight one_weight) (CTerm-F.Slot n)

pub slot_own : (n : ℕ) → (plain_weights (Slot n)).own ≤ 1
slot_own n = let is = ap (λ (w : Weights). w.own) (weights-Slot n) in omega (arith, is)

pub slot_most : (n : ℕ) → (plain_weights (Slot n)).most ≤ 1
slot_most n = let is = ap (λ (w : Weights). w.most) (weights-Slot n) in omega (arith, is)

pub ruleset slot_laws = (number-Slot, slot_own, slot_most)
