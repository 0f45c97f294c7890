-- What waits and is no `Or` has a quotient that can be taken.
use Rattle.std.proofs.Common.{◌≡◌, ℕ, true, false, Option, Some, None, List, ◌∷◌, refl, sym, ap, subst, ◌∙◌}
use Rattle.std.specs.List.{list_all}
use Rattle.std.proofs.lemmas.Bool.{and_parts}
use Rattle.core_terms.specs.declared.trees.CTerm.{CTerm}
use Rattle.core_terms.specs.declared.trees.CForm.{CForm, out-CForm}
use Rattle.core_terms.specs.declared.trees.CForm.TheVariants.{AtLeast, Zero}
use Rattle.core_terms.specs.declared.trees.CForm.TheOpen.{CForm-F}
use Rattle.core_terms.specs.declared.trees.Range.{Range}
use Rattle.obligations.specs.declared.branches.Branch.{Branch}
use Rattle.obligations.specs.declared.branches.Replaced.{Replaced}
use Rattle.obligations.specs.declared.branches.Taken.{Taken}
use Rattle.obligations.specs.declared.branches.Variable.{Variable}
use Rattle.obligations.specs.Plain.{waiting_only}
use Rattle.obligations.specs.Quotients.{is_either_in, is_either, replaced, replaced_in, without_quotient}
use Rattle.obligations.specs.Settling.{has_quotient, first_taken}
use Rattle.obligations.proofs.QuotientValues.{Plain, taken-plain}
use Rattle.search_tree.specs.Choices.{can_wait_in, can_wait}
use Rattle.search_tree.specs.Searching.{Ready}

some-quotient : (v : ℕ) (t : CTerm) (node : CTerm → CForm) → has_quotient t ≡ true → (o : Option Taken) →
    first_taken v t ≡ o → (r : Replaced) × (replaced node (first_taken v t) ≡ Some r)
some-quotient v t node h None e = let none = subst (Plain v t) e (taken-plain v t) in absurd cc
some-quotient v t node h (Some q) e = (record { taken = q; form = node q.rest }, ap (replaced node) e)

pub first-quotient : (v : ℕ) (y : CForm-F CForm CTerm) → can_wait_in y ≡ true → is_either_in y ≡ false →
    (r : Replaced) × (replaced_in v y ≡ Some r)
first-quotient v CForm-F.Top h n = absurd cc
first-quotient v CForm-F.Bottom h n = absurd cc
first-quotient v (CForm-F.AtLeast t) h n = some-quotient v t AtLeast h (first_taken v t) refl
first-quotient v (CForm-F.Zero t) h n = some-quotient v t Zero h (first_taken v t) refl
first-quotient v (CForm-F.Not g) h n = absurd cc
first-quotient v (CForm-F.And g k) h n = absurd cc
first-quotient v (CForm-F.Or g k) h n = absurd cc

-- as the code meets it
pub quotient-found : (vs : List Variable) (k : ℕ) (rs : List Range) (f : CForm) (b : Branch) (n : ℕ)
    (o : Option Replaced) → Ready vs k rs (waiting_only b (f ∷ b.waiting)) → is_either f ≡ false →
    o ≡ without_quotient n f → o ≡ None → ⊥
quotient-found vs k rs f b n o r either e none =
    let w = (and_parts (can_wait f) (list_all can_wait b.waiting) r.waits).0 in
    let q = first-quotient n (out-CForm f) w either in
    absurd (let x = sym none ∙ e ∙ q.1 in cc)
