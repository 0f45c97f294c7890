-- A list stays light where an item is taken out, and the sides of a light formula are light.
use Rattle.std.proofs.Common.{◌≡◌, ℕ, zero, suc, ◌≤◌, Bool, true, ◌&&◌, List, [], ◌∷◌, arith, refl, ap, ◌∙◌}
use Rattle.std.specs.Prelude.{remove}
use Rattle.std.specs.List.{list_all}
use Rattle.std.specs.Int.RustNames.{unsigned_abs}
use Rattle.std.proofs.lemmas.Bool.{and_parts}
use Rattle.core_terms.specs.declared.trees.CForm.{CForm, out-CForm, fold_out-CForm}
use Rattle.core_terms.specs.declared.trees.CTerm.{CTerm}
use Rattle.core_terms.specs.declared.trees.CForm.TheOpen.{CForm-F}
use Rattle.core_terms.specs.declared.trees.CForm.TheFolds.{map-CForm}
use Rattle.obligations.specs.Load.{Load, Need, need, term_need, form_need_step, term_need_step}
use Rattle.obligations.specs.Settling.{sides_in, sides}

pub remove-light : {A : Type 0} (t : A → Bool) (n : ℕ) (xs : List A) → list_all t xs ≡ true →
    list_all t (remove xs n) ≡ true
remove-light t zero [] h = refl
remove-light t (suc n) [] h = refl
remove-light t zero (x ∷ xs) h = (and_parts (t x) (list_all t xs) h).1
remove-light t (suc n) (x ∷ xs) h =
    let p = and_parts (t x) (list_all t xs) h in ap (λ z. z && list_all t (remove xs n)) p.0 ∙ remove-light t n xs p.1

side_need : (f : CForm) (x : CForm-F CForm CTerm) (bound : ℕ) → out-CForm f ≡ x → (need f).yes ≤ bound →
    ((need (sides_in f x).0).yes ≤ bound) × ((need (sides_in f x).1).yes ≤ bound)
side_need f CForm-F.Top bound e h = (h, h)
side_need f CForm-F.Bottom bound e h = (h, h)
side_need f (CForm-F.AtLeast t) bound e h = (h, h)
side_need f (CForm-F.Zero t) bound e h = (h, h)
side_need f (CForm-F.Not g) bound e h = (h, h)
side_need f (CForm-F.And g k) bound e h = (h, h)
side_need f (CForm-F.Or g k) bound e h =
    let n = ap (λ (x : Need). x.yes)
    (fold_out-CForm Need Load (form_need_step unsigned_abs) (term_need_step unsigned_abs) f
    ∙ ap (λ x. form_need_step unsigned_abs (map-CForm CForm CTerm Need Load need term_need x)) e) in
    (omega (arith, n, h), omega (arith, n, h))

pub first-side : (f : CForm) (bound : ℕ) → (need f).yes ≤ bound → (need (sides f).0).yes ≤ bound
first-side f bound h = (side_need f (out-CForm f) bound refl h).0

pub second-side : (f : CForm) (bound : ℕ) → (need f).yes ≤ bound → (need (sides f).1).yes ≤ bound
second-side f bound h = (side_need f (out-CForm f) bound refl h).1

pub ruleset side_laws = (first-side, second-side)
