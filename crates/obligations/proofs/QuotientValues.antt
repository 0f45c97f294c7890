-- What a quotient that is taken is worth: the formula without it is as true, and its two facts hold.
use Rattle.std.proofs.Common.{◌≡◌, ℕ, zero, suc, ◌≤ℤ◌, ℤ, pos, negsuc, neg_ℤ, ◌+ℤ◌, ◌-ℤ◌, ◌*ℤ◌, Bool, true, false, ◌||◌}
use Rattle.std.proofs.Common.{List, []}
use Rattle.std.proofs.Common.{◌∷◌, ◌++◌, Option, Some, None, length, arith, refl, sym, ap, ◌∙◌}
use Rattle.std.proofs.lemmas.Int.{ints}
use Rattle.std.specs.Int.{int_div_euclid, int_rem_euclid}
use Rattle.std.specs.Int.RustNames.{int_le}
use lib.IntN.{zero-*ℤ}
use Rattle.core_terms.specs.declared.trees.CTerm.{CTerm}
use Rattle.core_terms.specs.declared.trees.CTerm.TheVariants.{Param, Add, Sub, Scale, Div, Mod}
use Rattle.core_terms.specs.Values.{number_at}
use Rattle.core_terms.specs.from_meaning_states.Division.{divisor, floored, rest_of}
use Rattle.core_terms.proofs.lemmas_from_meaning_states.DivisionTheorems.{parts_make_the_number}
use Rattle.core_terms.proofs.QuotientLaws.{rest_of_is, floored_is}
use Rattle.obligations.specs.declared.branches.Variable.{Variable}
use Rattle.obligations.specs.declared.branches.Line.{Line}
use Rattle.obligations.specs.declared.branches.Choice.{Choice}
use Rattle.obligations.specs.declared.branches.Taken.{Taken}
use Rattle.obligations.specs.LinearForms.{dot, line_value, sparse, sum_of, fact_value, fact_holds, linear, negated}
use Rattle.obligations.specs.LinearForms.{line_of_const, zeros}
use Rattle.obligations.specs.Settling.{term_at, first_ite, first_choice, has_quotient, first_taken, first_of, or_whole}
use Rattle.obligations.specs.Quotients.{fact_with, raised, low_fact, high_fact}
use Rattle.obligations.proofs.RingLaws.{add-times}
use Rattle.obligations.proofs.LineLaws.{sparse-dot, dot-zeros, length-zeros, length-plus, line_plus-value}
use Rattle.obligations.proofs.SettlingLaws.{value-Add, value-Sub, value-Scale, value-Div, value-Mod}
use Rattle.obligations.proofs.SettlingLaws.{linear-value, linear-long, ite-Add, ite-Sub, ite-Scale, ite-Div, ite-Mod}
use Rattle.obligations.proofs.SettlingLaws.{quotient-Const, quotient-Slot, quotient-Param, quotient-Add, quotient-Sub}
use Rattle.obligations.proofs.SettlingLaws.{quotient-Scale, quotient-Ite}
use Rattle.obligations.proofs.TakenLaws.{whole_quotient, whole_remainder, taken_keeps}

-- What is divided has no `Ite` where the term has none, and no quotient.
module _ (v : ℕ) where
  pub record Plainly (t : CTerm) (q : Taken) : Type 0 where
    pub choice : first_ite t ≡ None → first_ite q.of ≡ None
    pub quotient : has_quotient q.of ≡ false

  abbrev pub Plain : CTerm → Option Taken → Type 0
  Plain t None = has_quotient t ≡ false
  Plain t (Some q) = Plainly t q

  choice-none : (f g : CTerm → CTerm) (m n : Option Choice) → first_choice f g m n ≡ None →
      (m ≡ None) × (n ≡ None)
  choice-none f g None None e = (refl, refl)
  choice-none f g None (Some d) e = absurd (cc)
  choice-none f g (Some c) n e = absurd (cc)

  both-false : (a b : Bool) → a ≡ false → b ≡ false → (a || b) ≡ false
  both-false a b p q = ap (λ x. x || b) p ∙ q

  pair-plain : (node : CTerm → CTerm → CTerm) → ((a b : CTerm) → has_quotient (node a b)
      ≡ (has_quotient a || has_quotient b)) → ((a b : CTerm) → first_ite (node a b)
      ≡ first_choice (λ x. node x b) (λ y. node a y) (first_ite a) (first_ite b)) → (a b : CTerm)
      (m n : Option Taken) → Plain a m → Plain b n → Plain (node a b) (first_of (λ x. node x b) (λ y. node a y) m n)
  pair-plain node has ite a b None None p q = has a b ∙ both-false (has_quotient a) (has_quotient b) p q
  pair-plain node has ite a b None (Some r) p q = record {
    choice = λ e. q.choice (choice-none _ _ (first_ite a) (first_ite b) (sym (ite a b) ∙ e)).1;
    quotient = q.quotient;
  }
  pair-plain node has ite a b (Some r) n p q = record {
    choice = λ e. p.choice (choice-none _ _ (first_ite a) (first_ite b) (sym (ite a b) ∙ e)).0;
    quotient = p.quotient;
  }

  scale-plain : (k : ℤ) (a : CTerm) (m : Option Taken) → Plain a m →
      Plain (Scale k a) (first_of (λ x. Scale k x) (λ x. Scale k x) m None)
  scale-plain k a None p = quotient-Scale k a ∙ p
  scale-plain k a (Some r) p = record {
    choice = λ e. p.choice (choice-none _ _ (first_ite a) None (sym (ite-Scale k a) ∙ e)).0;
    quotient = p.quotient;
  }

  div-plain : (a : CTerm) (k : ℤ) (m : Option Taken) → Plain a m →
      Plain (Div a k) (or_whole (λ x. Div x k) m (whole_quotient v a k))
  div-plain a k None p = record {
    choice = λ e. (choice-none _ _ (first_ite a) None (sym (ite-Div a k) ∙ e)).0;
    quotient = p;
  }
  div-plain a k (Some r) p = record {
    choice = λ e. p.choice (choice-none _ _ (first_ite a) None (sym (ite-Div a k) ∙ e)).0;
    quotient = p.quotient;
  }

  mod-plain : (a : CTerm) (k : ℤ) (m : Option Taken) → Plain a m →
      Plain (Mod a k) (or_whole (λ x. Mod x k) m (whole_remainder v a k))
  mod-plain a k None p = record {
    choice = λ e. (choice-none _ _ (first_ite a) None (sym (ite-Mod a k) ∙ e)).0;
    quotient = p;
  }
  mod-plain a k (Some r) p = record {
    choice = λ e. p.choice (choice-none _ _ (first_ite a) None (sym (ite-Mod a k) ∙ e)).0;
    quotient = p.quotient;
  }

  pub taken-plain : (t : CTerm) → Plain t (first_taken v t)
  taken-plain = taken_keeps v Plain (record {
    of_const = quotient-Const;
    of_slot = quotient-Slot;
    of_param = quotient-Param;
    of_add = pair-plain Add quotient-Add ite-Add;
    of_sub = pair-plain Sub quotient-Sub ite-Sub;
    of_scale = scale-plain;
    of_div = div-plain;
    of_mod = mod-plain;
    of_ite = quotient-Ite;
  })

-- A term without its quotient is worth the same, where the variable is worth the quotient.
module _ (v : ℕ) (vs : List Variable) (values : List ℤ) where
  abbrev pub T : CTerm → ℤ
  T = term_at vs values

  abbrev pub Worth : CTerm → Option Taken → Type 0
  Worth t None = Unit {0}
  Worth t (Some q) = T (Param v) ≡ int_div_euclid (T q.of) q.divisor → T q.rest ≡ T t

  pair-worth : (op : ℤ → ℤ → ℤ) (node : CTerm → CTerm → CTerm) → ((a b : CTerm) → T (node a b) ≡ op (T a) (T b)) →
      (a b : CTerm) (m n : Option Taken) → Worth a m → Worth b n →
      Worth (node a b) (first_of (λ x. node x b) (λ y. node a y) m n)
  pair-worth op node is a b None None p q = tt
  pair-worth op node is a b None (Some r) p q = λ h. is a r.rest ∙ ap (op (T a)) (q h) ∙ sym (is a b)
  pair-worth op node is a b (Some r) n p q = λ h. is r.rest b ∙ ap (λ x. op x (T b)) (p h) ∙ sym (is a b)

  scale-worth : (k : ℤ) (a : CTerm) (m : Option Taken) → Worth a m →
      Worth (Scale k a) (first_of (λ x. Scale k x) (λ x. Scale k x) m None)
  scale-worth k a None p = tt
  scale-worth k a (Some r) p =
      λ h. value-Scale vs values k r.rest ∙ ap (λ x. k *ℤ x) (p h) ∙ sym (value-Scale vs values k a)

  div-worth : (a : CTerm) (k : ℤ) (m : Option Taken) → Worth a m →
      Worth (Div a k) (or_whole (λ x. Div x k) m (whole_quotient v a k))
  div-worth a k None p = λ h. h ∙ sym (value-Div vs values a k)
  div-worth a k (Some r) p =
      λ h. value-Div vs values r.rest k ∙ ap (λ x. floored x k) (p h) ∙ sym (value-Div vs values a k)

  mod-worth : (a : CTerm) (k : ℤ) (m : Option Taken) → Worth a m →
      Worth (Mod a k) (or_whole (λ x. Mod x k) m (whole_remainder v a k))
  mod-worth a k None p = λ h.
      let d = divisor k in
      let parts = parts_make_the_number (T a) k in
      value-Sub vs values a (Scale d (Param v)) ∙ ap (λ x. T a -ℤ x) (value-Scale vs values d (Param v))
      ∙ ap (λ x. T a -ℤ d *ℤ x) h ∙ omega (arith, ints, parts) ∙ sym (value-Mod vs values a k)
  mod-worth a k (Some r) p =
      λ h. value-Mod vs values r.rest k ∙ ap (λ x. rest_of x k) (p h) ∙ sym (value-Mod vs values a k)

  pub taken-worth : (t : CTerm) → Worth t (first_taken v t)
  taken-worth = taken_keeps v Worth (record {
    of_const = λ c. tt;
    of_slot = λ n. tt;
    of_param = λ n. tt;
    of_add = pair-worth (λ x y. x +ℤ y) Add (value-Add vs values);
    of_sub = pair-worth (λ x y. x -ℤ y) Sub (value-Sub vs values);
    of_scale = scale-worth;
    of_div = div-worth;
    of_mod = mod-worth;
    of_ite = λ c a b. tt;
  })

-- The value of a fact with a further variable.
sum-append : (values : List ℤ) (fs gs : List (ℕ × ℤ)) →
    sum_of values (fs ++ gs) ≡ sum_of values fs +ℤ sum_of values gs
sum-append values [] gs = omega (arith, ints)
sum-append values (f ∷ fs) gs = let ih = sum-append values fs gs in omega (arith, ints, ih)

dot-longer : (fs values : List ℤ) (z : ℤ) → length values ≡ length fs → dot fs (values ++ z ∷ []) ≡ dot fs values
dot-longer [] values z e = refl
dot-longer (x ∷ fs) [] z e = absurd (omega (arith, e))
dot-longer (x ∷ fs) (y ∷ values) z e = ap (λ s. x *ℤ y +ℤ s) (dot-longer fs values z (omega (arith, e)))

pub last-number : (values : List ℤ) (z : ℤ) (n : ℕ) → n ≡ length values → number_at (values ++ z ∷ []) n ≡ z
last-number [] z zero e = refl
last-number [] z (suc n) e = absurd (omega (arith, e))
last-number (x ∷ values) z zero e = absurd (omega (arith, e))
last-number (x ∷ values) z (suc n) e = last-number values z n (omega (arith, e))

with-value : (l : Line) (k z : ℤ) (values : List ℤ) → length values ≡ length l.factors →
    fact_value (values ++ z ∷ []) (fact_with l k) ≡ line_value values l +ℤ k *ℤ z
with-value l k z values e =
    let s = sum-append (values ++ z ∷ []) (sparse 0 l.factors) ((length l.factors, k) ∷ []) in
    let d = sparse-dot l.factors (values ++ z ∷ []) ∙ dot-longer l.factors values z e in
    let n = ap (λ x. k *ℤ x) (last-number values z (length l.factors) (sym e)) in
    omega (arith, ints, s, d, n)

neg-times : (z v : ℤ) → neg_ℤ z *ℤ v ≡ neg_ℤ (z *ℤ v)
neg-times z v =
    let whole = add-times z (neg_ℤ z) v in
    let zero-sum : z +ℤ neg_ℤ z ≡ pos 0 = omega (arith, ints) in
    let none : (z +ℤ neg_ℤ z) *ℤ v ≡ pos 0 = ap (λ x. x *ℤ v) zero-sum ∙ zero-*ℤ v in
    omega (arith, ints, whole, none)

at-least-0 : (y : ℤ) → pos 0 ≤ℤ y → int_le (pos 0) y ≡ true
at-least-0 (pos n) h = grind (arith, ints)
at-least-0 (negsuc n) h = absurd (omega (arith, ints, h))

-- what is divided, less its divisor times the quotient, is not below 0, and less than the divisor
module _ (z k : ℤ) where
  abbrev whole : ℤ
  whole = int_div_euclid z (divisor k)

  abbrev left : ℤ
  left = int_rem_euclid z (divisor k)

  low-least : (y : ℤ) → y ≡ z +ℤ neg_ℤ (divisor k) *ℤ whole → int_le (pos 0) y ≡ true
  low-least y e =
      let parts = parts_make_the_number z k in
      let n = neg-times (divisor k) whole in
      let same : y ≡ left = omega (arith, ints, e, parts, n) in
      let least = (rest_of_is z k).0 in at-least-0 y (omega (arith, ints, same, least))

  high-least : (y : ℤ) → y ≡ ((pos 0 +ℤ negsuc 0 *ℤ z) +ℤ (divisor k -ℤ pos 1)) +ℤ divisor k *ℤ whole →
      int_le (pos 0) y ≡ true
  high-least y e =
      let parts = parts_make_the_number z k in
      let same : y ≡ (divisor k -ℤ pos 1) -ℤ left = omega (arith, ints, e, parts) in
      let below = (rest_of_is z k).1 in at-least-0 y (omega (arith, ints, same, below))

-- a quotient's two facts hold where the variable after the others is worth it
module _ (vs : List Variable) (values : List ℤ) (long : length values ≡ length vs) (q : Taken) (k : ℤ)
    (by : q.divisor ≡ divisor k) (choice : first_ite q.of ≡ None) (quotient : has_quotient q.of ≡ false) where
  abbrev worth : ℤ
  worth = term_at vs values q.of

  line-worth : line_value values (linear vs q.of) ≡ worth
  line-worth = linear-value vs values long q.of choice quotient

  fits : length values ≡ length (linear vs q.of).factors
  fits = long ∙ sym (linear-long vs q.of)

  low-value : (z : ℤ) → fact_value (values ++ z ∷ []) (low_fact vs q) ≡ worth +ℤ neg_ℤ (divisor k) *ℤ z
  low-value z =
      with-value (linear vs q.of) (neg_ℤ q.divisor) z values fits ∙ ap (λ x. x +ℤ neg_ℤ q.divisor *ℤ z) line-worth
      ∙ ap (λ d. worth +ℤ neg_ℤ d *ℤ z) by

  pub low-holds : (z : ℤ) → z ≡ int_div_euclid worth q.divisor →
      fact_holds (values ++ z ∷ []) (low_fact vs q) ≡ true
  low-holds z e =
      low-least worth k (fact_value (values ++ z ∷ []) (low_fact vs q))
      (low-value z ∙ ap (λ x. worth +ℤ neg_ℤ (divisor k) *ℤ x) (e ∙ ap (int_div_euclid worth) by))

  negative-worth : line_value values (negated vs (linear vs q.of)) ≡ pos 0 +ℤ negsuc 0 *ℤ worth
  negative-worth =
      line_plus-value (negsuc 0) (line_of_const vs (pos 0)) (linear vs q.of) values
      (linear-long vs q.of ∙ sym (length-zeros vs))
      ∙ ap (λ x. (x +ℤ pos 0) +ℤ negsuc 0 *ℤ line_value values (linear vs q.of)) (dot-zeros vs values)
      ∙ ap (λ x. (pos 0 +ℤ pos 0) +ℤ negsuc 0 *ℤ x) line-worth

  raised-worth : (l : Line) (c : ℤ) → line_value values (raised l c) ≡ line_value values l +ℤ c
  raised-worth l c = omega (arith, ints)

  high-value : (z : ℤ) → fact_value (values ++ z ∷ []) (high_fact vs q) ≡
      ((pos 0 +ℤ negsuc 0 *ℤ worth) +ℤ (divisor k -ℤ pos 1)) +ℤ divisor k *ℤ z
  high-value z =
      let l : Line = negated vs (linear vs q.of) in
      let long-negated : length l.factors ≡ length vs =
      length-plus (negsuc 0) (zeros vs) (linear vs q.of).factors ∙ length-zeros vs in
      with-value (raised l (q.divisor -ℤ pos 1)) q.divisor z values (long ∙ sym long-negated)
      ∙ ap (λ x. x +ℤ q.divisor *ℤ z) (raised-worth l (q.divisor -ℤ pos 1))
      ∙ ap (λ x. (x +ℤ (q.divisor -ℤ pos 1)) +ℤ q.divisor *ℤ z) negative-worth
      ∙ ap (λ d. ((pos 0 +ℤ negsuc 0 *ℤ worth) +ℤ (d -ℤ pos 1)) +ℤ d *ℤ z) by

  pub high-holds : (z : ℤ) → z ≡ int_div_euclid worth q.divisor →
      fact_holds (values ++ z ∷ []) (high_fact vs q) ≡ true
  high-holds z e =
      high-least worth k (fact_value (values ++ z ∷ []) (high_fact vs q))
      (high-value z ∙ ap (λ x. ((pos 0 +ℤ negsuc 0 *ℤ worth) +ℤ (divisor k -ℤ pos 1)) +ℤ divisor k *ℤ x)
      (e ∙ ap (int_div_euclid worth) by))

  least-0 : (y : ℤ) → int_le (pos 0) y ≡ true → pos 0 ≤ℤ y
  least-0 y h = grind (arith, ints)

  -- where both hold, it is worth the quotient
  pub only-quotient : (z : ℤ) → fact_holds (values ++ z ∷ []) (low_fact vs q) ≡ true →
      fact_holds (values ++ z ∷ []) (high_fact vs q) ≡ true → z ≡ int_div_euclid worth q.divisor
  only-quotient z p h =
      let low = least-0 (fact_value (values ++ z ∷ []) (low_fact vs q)) p in
      let high = least-0 (fact_value (values ++ z ∷ []) (high_fact vs q)) h in
      let low-is = low-value z in let high-is = high-value z in
      let n = neg-times (divisor k) z in
      sym (floored_is worth k z (worth -ℤ divisor k *ℤ z) (omega (arith, ints)) (omega (arith, ints, low, low-is, n))
      (omega (arith, ints, high, high-is))) ∙ ap (int_div_euclid worth) (sym by)
