-- A branch with a quotient taken is ready for the search.
use Rattle.std.proofs.Common.{◌≡◌, ℕ, suc, ◌+◌, ◌≤◌, ◌^◌, max, nat_le, ℤ, pos}
use Rattle.std.proofs.Common.{Bool, true, false, cond, not, ◌&&◌, Option, Some, None, List, [], ◌∷◌, ◌++◌, length}
use Rattle.std.proofs.Common.{arith}
use Rattle.std.proofs.Common.{refl, ap, subst, ◌∙◌}
use Rattle.std.specs.List.{list_all}
use Rattle.std.specs.Int.RustNames.{unsigned_abs}
use Rattle.std.proofs.lemmas.List.Folds.{list_all-append}
use Rattle.core_terms.specs.declared.trees.CTerm.{CTerm}
use Rattle.core_terms.specs.declared.trees.CForm.{CForm, out-CForm, fold_out-CForm}
use Rattle.core_terms.specs.declared.trees.CForm.TheVariants.{AtLeast, Zero}
use Rattle.core_terms.specs.declared.trees.CForm.TheOpen.{CForm-F}
use Rattle.core_terms.specs.declared.trees.CForm.TheFolds.{map-CForm}
use Rattle.meaning_states.specs.State.{int_eq}
use Rattle.obligations.specs.declared.branches.Line.{Line}
use Rattle.obligations.specs.declared.branches.Replaced.{Replaced}
use Rattle.obligations.specs.declared.branches.Taken.{Taken}
use Rattle.obligations.specs.LinearForms.{sparse}
use Rattle.obligations.specs.Load.{sizes, Load, Need, needs, term_needs, form_need_step, term_need_step}
use Rattle.obligations.specs.Quotients.{replaced, replaced_in, without_quotient, fact_with}
use Rattle.obligations.specs.Reach.{is_exact}
use Rattle.obligations.specs.Settling.{first_taken}
use Rattle.obligations.proofs.NeedLaws.{need-AtLeast, need-Zero}
use Rattle.obligations.proofs.QuotientLaws.{Lighter, taken-light}
use Rattle.linear_prover.specs.Chains.{is_plain_factor}
use Rattle.search_tree.specs.Searching.{widths, is_slender}
use Rattle.search_tree.proofs.SlenderLaws.{plain-sparse, widths-sparse}

le-true : (a b : ℕ) → a ≤ b → nat_le a b ≡ true
le-true a b h = grind arith

-- What is left of a formula needs no more than the formula, nor do its quotient's parts.
module _ (size : ℤ → ℕ) (v : ℕ) where
  pub record IsLighter (f : CForm) (r : Replaced) : Type 0 where
    pub of : (term_needs size r.taken.of).own ≤ (needs size f).yes
    pub divisor : unsigned_abs r.taken.divisor ≤ (needs size f).yes
    pub form : (needs size r.form).yes ≤ (needs size f).yes

  node-lighter : (f : CForm) (t : CTerm) (o : Option Taken) (make : CTerm → CForm) (r : Replaced) →
      ((u : CTerm) → (needs size (make u)).yes ≡ max (term_needs size u).own (term_needs size u).most) →
      (needs size f).yes ≡ max (term_needs size t).own (term_needs size t).most → Lighter size v t o →
      replaced make o ≡ Some r → IsLighter f r
  node-lighter f t None make r is e p h = absurd cc
  node-lighter f t (Some q) make r is e p h =
      let same : record { taken = q; form = make q.rest } ≡ r = cc in
      let p0 = p.of in let p1 = p.divisor in let p2 = p.rest_own in let p3 = p.rest_most in
      let m = is q.rest in
      subst (IsLighter f) same (record {
        of = omega (arith, p0, e);
        divisor = omega (arith, p1, e);
        form = omega (arith, p2, p3, e, m);
      })

  need-out : (f : CForm) (x : CForm-F CForm CTerm) → out-CForm f ≡ x →
      needs size f ≡ form_need_step size (map-CForm CForm CTerm Need Load (needs size) (term_needs size) x)
  need-out f x e = fold_out-CForm Need Load (form_need_step size) (term_need_step size) f
      ∙ ap (λ x. form_need_step size (map-CForm CForm CTerm Need Load (needs size) (term_needs size) x)) e

  lighter-in : (f : CForm) (x : CForm-F CForm CTerm) (r : Replaced) → out-CForm f ≡ x → replaced_in v x ≡ Some r →
      IsLighter f r
  lighter-in f CForm-F.Top r e h = absurd cc
  lighter-in f CForm-F.Bottom r e h = absurd cc
  lighter-in f (CForm-F.AtLeast t) r e h =
      node-lighter f t (first_taken v t) AtLeast r (λ u. ap (λ (x : Need). x.yes) (need-AtLeast size u))
      (ap (λ (x : Need). x.yes) (need-out f (CForm-F.AtLeast t) e)) (taken-light size v t) h
  lighter-in f (CForm-F.Zero t) r e h =
      node-lighter f t (first_taken v t) Zero r (λ u. ap (λ (x : Need). x.yes) (need-Zero size u))
      (ap (λ (x : Need). x.yes) (need-out f (CForm-F.Zero t) e)) (taken-light size v t) h
  lighter-in f (CForm-F.Not g) r e h = absurd cc
  lighter-in f (CForm-F.And g k) r e h = absurd cc
  lighter-in f (CForm-F.Or g k) r e h = absurd cc

  pub without-lighter : (f : CForm) (r : Replaced) → without_quotient v f ≡ Some r → IsLighter f r
  without-lighter f r h = lighter-in f (out-CForm f) r refl h

-- A quotient's facts.
pub widths-append : (fs gs : List (ℕ × ℤ)) → widths (fs ++ gs) ≡ widths fs + widths gs
widths-append [] gs = omega arith
widths-append (f ∷ fs) gs = let ih = widths-append fs gs in omega (arith, ih)

pub with-slender : (l : Line) (k : ℤ) → sizes l.factors ≤ 2 ^ 62 → unsigned_abs k ≤ 2 ^ 62 →
    unsigned_abs l.constant ≤ 2 ^ 64 → is_slender (fact_with l k) ≡ true
with-slender l k p q c =
    let fs : List (ℕ × ℤ) = sparse 0 l.factors in
    let gs : List (ℕ × ℤ) = (length l.factors, k) ∷ [] in
    let rest : Bool = nat_le (unsigned_abs l.constant) (2 ^ 64) in
    let wide : Bool = nat_le (widths (fs ++ gs)) (2 ^ 63) in
    let w = widths-append fs gs in let u = widths-sparse 0 l.factors in
    ap (λ t. t && (wide && rest)) (list_all-append is_plain_factor fs gs
    ∙ ap (λ t. t && list_all is_plain_factor gs) (plain-sparse 0 l.factors p)
    ∙ ap (λ t. t && true) (le-true (unsigned_abs k) (2 ^ 62) q))
    ∙ ap (λ t. t && rest) (le-true (widths (fs ++ gs)) (2 ^ 63) (omega (arith, w, u, p, q)))
    ∙ le-true (unsigned_abs l.constant) (2 ^ 64) c

pub with-exact : (n m : ℕ) (zs : List ℤ) (k : ℤ) → n + length zs ≤ m → not (int_eq k (pos 0)) ≡ true →
    is_exact n (sparse n zs ++ (m, k) ∷ []) ≡ true
with-exact n m [] k h e =
    ap (λ t. (t && not (int_eq k (pos 0))) && true) (le-true n m (omega (arith, h))) ∙ ap (λ t. t && true) e
with-exact n m (z ∷ zs) k h e = by_test (int_eq z (pos 0)) refl (with-exact (suc n) m zs k (omega (arith, h)) e)
  where
    loosen : (n : ℕ) (fs : List (ℕ × ℤ)) → is_exact (suc n) fs ≡ true → is_exact n fs ≡ true
    loosen n [] x = refl
    loosen n (f ∷ fs) x = loosen-by (nat_le (suc n) f.0) refl x
      where
        loosen-by : (t : Bool) → nat_le (suc n) f.0 ≡ t → ((t && not (int_eq f.1 (pos 0))) && is_exact (suc f.0) fs) ≡
            true → ((nat_le n f.0 && not (int_eq f.1 (pos 0))) && is_exact (suc f.0) fs) ≡ true
        loosen-by true q y =
            ap (λ t. (t && not (int_eq f.1 (pos 0))) && is_exact (suc f.0) fs) (le-true n f.0 (grind arith)) ∙ y
        loosen-by false q y = cc

    by_test : (t : Bool) → int_eq z (pos 0) ≡ t → is_exact (suc n) (sparse (suc n) zs ++ (m, k) ∷ []) ≡ true →
        is_exact n (cond t (sparse (suc n) zs) ((n, z) ∷ sparse (suc n) zs) ++ (m, k) ∷ []) ≡ true
    by_test true q x = loosen n (sparse (suc n) zs ++ (m, k) ∷ []) x
    by_test false q x =
        ap (λ t. (t && not (int_eq z (pos 0))) && is_exact (suc n) (sparse (suc n) zs ++ (m, k) ∷ []))
        (le-true n n (omega arith))
        ∙ ap (λ t. not t && is_exact (suc n) (sparse (suc n) zs ++ (m, k) ∷ [])) q ∙ x
