-- Where a branch and a formula hold, the branch with the formula's quotient taken holds, for some value of the new
-- variable.
use Rattle.std.proofs.Common.{◌≡◌, ℕ, suc, ◌+◌, ◌≤◌, nat_le, ℤ, pos, ◌+ℤ◌, ◌*ℤ◌, Bool, true, false, ◌&&◌, Option, Some}
use Rattle.std.proofs.Common.{None}
use Rattle.std.proofs.Common.{List, [], ◌∷◌, ◌++◌, length, arith, refl, sym, ap, ◌∙◌, subst}
use Rattle.std.specs.List.{list_all}
use Rattle.std.specs.Int.{int_div_euclid}
use Rattle.std.specs.Int.RustNames.{int_le}
use Rattle.std.proofs.lemmas.Bool.{and_parts}
use Rattle.core_terms.specs.declared.trees.CTerm.{CTerm}
use Rattle.core_terms.specs.declared.trees.CTerm.TheVariants.{Param}
use Rattle.core_terms.specs.declared.trees.CForm.{CForm, out-CForm, fold_out-CForm}
use Rattle.core_terms.specs.declared.trees.CForm.TheVariants.{AtLeast, Zero}
use Rattle.core_terms.specs.declared.trees.CForm.TheOpen.{CForm-F}
use Rattle.core_terms.specs.declared.trees.CForm.TheFolds.{map-CForm}
use Rattle.core_terms.specs.Values.{number_at, form_step}
use Rattle.core_terms.specs.from_meaning_states.State.{int_eq}
use Rattle.obligations.specs.declared.branches.Variable.{Variable}
use Rattle.obligations.specs.declared.branches.Fact.{Fact}
use Rattle.obligations.specs.declared.branches.Branch.{Branch}
use Rattle.obligations.specs.declared.branches.Replaced.{Replaced}
use Rattle.obligations.specs.declared.branches.Taken.{Taken}
use Rattle.obligations.specs.Closed.{HasNoChoiceIn, Waits, AllWait, IsClosed}
use Rattle.obligations.specs.LinearForms.{sum_of, fact_holds}
use Rattle.obligations.specs.Quotients.{low_fact, high_fact, one_more, replaced, replaced_in, without_quotient}
use Rattle.obligations.specs.Quotients.{with_quotient}
use Rattle.obligations.specs.Reach.{is_within}
use Rattle.obligations.specs.Scopes.{next_param, next_variable, with_next}
use Rattle.obligations.specs.Settling.{term_at_step, term_at, form_at, branch_holds, added, first_ite}
use Rattle.obligations.specs.Settling.{has_quotient, first_taken}
use Rattle.obligations.proofs.FrameLaws.{form-grows, term-grows, number-grows}
use Rattle.obligations.proofs.QuotientValues.{last-number, low-holds, high-holds, only-quotient, taken-plain}
use Rattle.obligations.proofs.QuotientValues.{taken-worth, Plain, Worth}
use Rattle.obligations.proofs.ScopeLaws.{length-next}
use Rattle.obligations.proofs.SettlingLaws.{settled-holds, holds-joined, value-Param, value-AtLeast, value-Zero}
use Rattle.obligations.proofs.TakenNames.{place-next, replaced-named}

true_and : (a b : Bool) → a ≡ true → b ≡ true → (a && b) ≡ true
true_and a b p q = ap (λ x. x && b) p ∙ q

module _ (vs : List Variable) (values : List ℤ) (long : length values ≡ length vs) (z : ℤ) where
  abbrev us : List Variable
  us = with_next vs

  abbrev ws : List ℤ
  ws = values ++ z ∷ []

  le-is : (a n : ℕ) → nat_le a n ≡ true → a ≤ n
  le-is a n h = grind arith

  sum-next : (fs : List (ℕ × ℤ)) → is_within (length vs) fs ≡ true → sum_of ws fs ≡ sum_of values fs
  sum-next [] h = refl
  sum-next (f ∷ fs) h =
      let s = and_parts (nat_le (suc f.0) (length vs)) (is_within (length vs) fs) h in
      let b = le-is (suc f.0) (length vs) s.0 in
      ap (λ x. f.1 *ℤ x +ℤ sum_of ws fs) (number-grows values (z ∷ []) f.0 (omega (arith, b, long)))
      ∙ ap (λ x. f.1 *ℤ number_at values f.0 +ℤ x) (sum-next fs s.1)

  facts-same : (fs : List Fact) → list_all (λ (f : Fact). is_within (length vs) f.factors) fs ≡ true →
      list_all (fact_holds ws) fs ≡ list_all (fact_holds values) fs
  facts-same [] h = refl
  facts-same (f ∷ fs) h =
      let s = and_parts (is_within (length vs) f.factors)
      (list_all (λ (g : Fact). is_within (length vs) g.factors) fs) h in
      ap (λ x. int_le (pos 0) (x +ℤ f.constant) && list_all (fact_holds ws) fs) (sum-next f.factors s.0)
      ∙ ap (λ x. fact_holds values f && x) (facts-same fs s.1)

  waits-same : (fs : List CForm) → AllWait vs fs → list_all (form_at us ws) fs ≡ list_all (form_at vs values) fs
  waits-same [] h = refl
  waits-same (f ∷ fs) h =
      ap (λ x. x && list_all (form_at us ws) fs) (form-grows vs (next_variable vs) values z f long h.0.names)
      ∙ ap (λ x. form_at vs values f && x) (waits-same fs h.1)

  pub branch-same : (b : Branch) → IsClosed vs b → branch_holds us ws (one_more b) ≡ branch_holds vs values b
  branch-same b h =
      ap (λ x. x && list_all (form_at us ws) b.waiting) (facts-same b.facts h.facts)
      ∙ ap (λ x. list_all (fact_holds values) b.facts && x) (waits-same b.waiting h.waiting)

  added-holds : (b : Branch) (f : Fact) → branch_holds us ws b ≡ true → fact_holds ws f ≡ true →
      branch_holds us ws (added b f) ≡ true
  added-holds b f p q =
      holds-joined us ws b (record { facts = f ∷ []; waiting = []; added = 0 })
      ∙ true_and _ _ p (ap (λ x. (x && true) && true) q)

  long-next : length ws ≡ length us
  long-next = let a = more values in let b = length-next vs in omega (arith, a, b, long)
    where
      more : (xs : List ℤ) → length (xs ++ z ∷ []) ≡ suc (length xs)
      more [] = refl
      more (x ∷ xs) = ap suc (more xs)

  -- a formula without its quotient, where the new variable is worth the quotient
  record Replaces (f : CForm) (r : Replaced) : Type 0 where
    choice : first_ite r.taken.of ≡ None
    quotient : has_quotient r.taken.of ≡ false
    same : term_at us ws (Param (next_param vs)) ≡ int_div_euclid (term_at us ws r.taken.of) r.taken.divisor →
        form_at us ws r.form ≡ form_at us ws f

  module _ (node : CTerm → CForm) (op : ℤ → Bool)
      (is : (t : CTerm) → form_at us ws (node t) ≡ op (term_at us ws t)) where
    node-replaces : (f : CForm) (t : CTerm) → form_at us ws f ≡ op (term_at us ws t) → first_ite t ≡ None →
        (o : Option Taken) → first_taken (next_param vs) t ≡ o → (r : Replaced) → replaced node o ≡ Some r →
        Replaces f r
    node-replaces f t e n None q r h = absurd (cc)
    node-replaces f t e n (Some k) q r h =
        let same : record { taken = k; form = node k.rest } ≡ r = cc in
        let plain = subst (Plain (next_param vs) t) q (taken-plain (next_param vs) t) in
        let worth = subst (Worth (next_param vs) us ws t) q (taken-worth (next_param vs) us ws t) in
        subst (Replaces f) same (record {
          choice = plain.choice n;
          quotient = plain.quotient;
          same = λ w. is k.rest ∙ ap op (worth w) ∙ sym e;
        })

  form-out : (f : CForm) (x : CForm-F CForm CTerm) → out-CForm f ≡ x →
      form_at us ws f ≡ form_step (map-CForm CForm CTerm Bool ℤ (form_at us ws) (term_at us ws) x)
  form-out f x e =
      fold_out-CForm Bool ℤ form_step (term_at_step us ws) f
      ∙ ap (λ y. form_step (map-CForm CForm CTerm Bool ℤ (form_at us ws) (term_at us ws) y)) e

  replaces-in : (f : CForm) (x : CForm-F CForm CTerm) → out-CForm f ≡ x → HasNoChoiceIn x → (r : Replaced) →
      replaced_in (next_param vs) x ≡ Some r → Replaces f r
  replaces-in f CForm-F.Top e n r h = absurd (cc)
  replaces-in f CForm-F.Bottom e n r h = absurd (cc)
  replaces-in f (CForm-F.AtLeast t) e n r h =
      node-replaces AtLeast (λ x. int_le (pos 0) x) (value-AtLeast us ws) f t (form-out f (CForm-F.AtLeast t) e) n
      (first_taken (next_param vs) t) refl r h
  replaces-in f (CForm-F.Zero t) e n r h =
      node-replaces Zero (λ x. int_eq x (pos 0)) (value-Zero us ws) f t (form-out f (CForm-F.Zero t) e) n
      (first_taken (next_param vs) t) refl r h
  replaces-in f (CForm-F.Not g) e n r h = absurd (cc)
  replaces-in f (CForm-F.And g k) e n r h = absurd (cc)
  replaces-in f (CForm-F.Or g k) e n r h = absurd (cc)

  taken-holds : (c : Branch) (f : CForm) (r : Replaced) → without_quotient (next_param vs) f ≡ Some r → Waits vs f →
      IsClosed vs c → branch_holds vs values c ≡ true → form_at vs values f ≡ true →
      z ≡ int_div_euclid (term_at vs values r.taken.of) r.taken.divisor →
      branch_holds us ws (with_quotient vs r c) ≡ true
  taken-holds c f r h w closed p q e =
      let low = low_fact vs r.taken in let high = high_fact vs r.taken in
      let named = replaced-named vs f r h in
      let replaces = replaces-in f (out-CForm f) refl w.choice r h in
      let of-same = term-grows vs (next_variable vs) values z r.taken.of long (named.of w.names) in
      let new = value-Param us ws (next_param vs) ∙ ap (number_at ws) (place-next vs)
      ∙ last-number values z (length vs) (sym long) in
      let form = replaces.same (new ∙ e ∙ ap (λ x. int_div_euclid x r.taken.divisor) (sym of-same)) in
      settled-holds us ws r.form (added (added (one_more c) low) high) long-next
      ∙ true_and _ _
      (added-holds (added (one_more c) low) high
      (added-holds (one_more c) low (branch-same c closed ∙ p)
      (low-holds vs values long r.taken named.by named.divides replaces.choice replaces.quotient z e))
      (high-holds vs values long r.taken named.by named.divides replaces.choice replaces.quotient z e))
      (form ∙ form-grows vs (next_variable vs) values z f long w.names ∙ q)

  added-parts : (b : Branch) (f : Fact) → branch_holds us ws (added b f) ≡ true →
      (branch_holds us ws b ≡ true) × (fact_holds ws f ≡ true)
  added-parts b f p =
      let x : Branch = record { facts = f ∷ []; waiting = []; added = 0 } in
      let whole = and_parts (branch_holds us ws b) (branch_holds us ws x) (sym (holds-joined us ws b x) ∙ p) in
      let facts = and_parts (fact_holds ws f && true) true whole.1 in
      (whole.0, (and_parts (fact_holds ws f) true facts.0).0)

  taken-back : (c : Branch) (f : CForm) (r : Replaced) → without_quotient (next_param vs) f ≡ Some r → Waits vs f →
      IsClosed vs c → branch_holds us ws (with_quotient vs r c) ≡ true →
      (branch_holds vs values c && form_at vs values f) ≡ true
  taken-back c f r h w closed p =
      let low = low_fact vs r.taken in let high = high_fact vs r.taken in
      let named = replaced-named vs f r h in
      let replaces = replaces-in f (out-CForm f) refl w.choice r h in
      let of-same = term-grows vs (next_variable vs) values z r.taken.of long (named.of w.names) in
      let new = value-Param us ws (next_param vs) ∙ ap (number_at ws) (place-next vs)
      ∙ last-number values z (length vs) (sym long) in
      let all = and_parts (branch_holds us ws (added (added (one_more c) low) high)) (form_at us ws r.form)
      (sym (settled-holds us ws r.form (added (added (one_more c) low) high) long-next) ∙ p) in
      let one = added-parts (added (one_more c) low) high all.0 in
      let two = added-parts (one_more c) low one.0 in
      let e = only-quotient vs values long r.taken named.by named.divides replaces.choice replaces.quotient z two.1
      one.1 in
      let form = replaces.same (new ∙ e ∙ ap (λ x. int_div_euclid x r.taken.divisor) (sym of-same)) in
      true_and _ _ (sym (branch-same c closed) ∙ two.0)
      (sym (form-grows vs (next_variable vs) values z f long w.names) ∙ sym form ∙ all.1)

-- then it holds for the value of the quotient
pub quotient-holds : (vs : List Variable) (values : List ℤ) → length values ≡ length vs → (c : Branch) (f : CForm)
    (r : Replaced) → without_quotient (next_param vs) f ≡ Some r → Waits vs f → IsClosed vs c →
    branch_holds vs values c ≡ true → form_at vs values f ≡ true →
    (z : ℤ) × (branch_holds (with_next vs) (values ++ z ∷ []) (with_quotient vs r c) ≡ true)
quotient-holds vs values long c f r h w closed p q =
    let z = int_div_euclid (term_at vs values r.taken.of) r.taken.divisor in
    (z, taken-holds vs values long z c f r h w closed p q refl)

-- and only then
pub quotient-back : (vs : List Variable) (values : List ℤ) → length values ≡ length vs → (c : Branch) (f : CForm)
    (r : Replaced) → without_quotient (next_param vs) f ≡ Some r → Waits vs f → IsClosed vs c → (z : ℤ) →
    branch_holds (with_next vs) (values ++ z ∷ []) (with_quotient vs r c) ≡ true →
    (branch_holds vs values c && form_at vs values f) ≡ true
quotient-back vs values long c f r h w closed z p = taken-back vs values long z c f r h w closed p
