-- What settling adds holds exactly where the formula does.
use Rattle.std.proofs.Common.{◌≡◌, ℕ, zero, suc, ℤ, pos, negsuc, ◌+ℤ◌, ◌-ℤ◌, ◌*ℤ◌, List, ◌++◌, Bool, true, false}
use Rattle.std.proofs.Common.{cond}
use Rattle.std.proofs.Common.{not, ◌&&◌, ◌||◌, Option, Some, None, refl, sym, ap, ◌∙◌, subst, length, arith}
use Rattle.std.specs.List.{list_all}
use Rattle.std.proofs.lemmas.List.Folds.{list_all-append}
use Rattle.std.proofs.lemmas.Int.{ints}
use Rattle.std.specs.Int.RustNames.{int_le}
use lib.IntN.{*ℤ_comm, *ℤ-one}
use Rattle.core_terms.specs.declared.trees.CTerm.{CTerm}
use Rattle.core_terms.specs.declared.trees.CTerm.TheVariants.{Const, Slot, Param, Add, Sub, Scale, Ite, Div, Mod}
use Rattle.core_terms.specs.declared.trees.CTerm.TheVariants.{rolls-Const, rolls-Div, rolls-Mod}
use Rattle.core_terms.specs.declared.trees.CTerm.TheVariants.{rolls-Slot, rolls-Param, rolls-Add, rolls-Sub}
use Rattle.core_terms.specs.declared.trees.CTerm.TheVariants.{rolls-Scale, rolls-Ite}
use Rattle.core_terms.specs.declared.trees.CForm.{CForm}
use Rattle.core_terms.specs.declared.trees.CForm.TheVariants.{Top, Bottom, AtLeast, Zero, Not, And, Or, rolls-Top}
use Rattle.core_terms.specs.declared.trees.CForm.TheVariants.{rolls-Bottom, rolls-AtLeast, rolls-Zero, rolls-Not}
use Rattle.core_terms.specs.declared.trees.CForm.TheVariants.{rolls-And, rolls-Or}
use Rattle.core_terms.specs.declared.trees.CForm.TheOpen.{CTerm-F, CForm-F}
use Rattle.core_terms.specs.from_meaning_states.Division.{floored, rest_of}
use Rattle.core_terms.specs.from_meaning_states.State.{int_eq}
use Rattle.core_terms.specs.Values.{number_at, form_step}
use Rattle.obligations.specs.declared.branches.Branch.{Branch}
use Rattle.obligations.specs.declared.branches.Obligation.{Obligation}
use Rattle.obligations.specs.declared.branches.Variable.{Variable}
use Rattle.obligations.specs.declared.branches.Line.{Line}
use Rattle.obligations.specs.declared.branches.Choice.{Choice}
use Rattle.obligations.specs.LinearForms.{zeros, line_value, fact_of, fact_holds, place_of, line_of_const}
use Rattle.obligations.specs.LinearForms.{line_of_place, line_plus, negated, linear}
use Rattle.obligations.specs.Settling.{term_at_step, term_at, form_at, branch_holds, joined, one_fact, one_waiting}
use Rattle.obligations.specs.Settling.{first_choice, first_ite, choice_form, least_adds, zero_adds, unequal_adds}
use Rattle.obligations.specs.Scopes.{scope_of}
use Rattle.obligations.specs.Settling.{quotient_step, no_mark, has_quotient, two_facts}
use Rattle.obligations.specs.Settling.{below_zero, outcome, settled, SettledHolds, RefusedHolds, HoldsWith}
use Rattle.obligations.proofs.LineLaws.{fact_of-value, dot-zeros, length-zeros, dot-add_at, line_plus-value}
use Rattle.obligations.proofs.SettledKeeps.{choice_keeps, settled_keeps}
pub use Rattle.obligations.proofs.TreeLaws.{term_fold, form_fold, linear-Const, linear-Slot, linear-Param, linear-Add}
pub use Rattle.obligations.proofs.TreeLaws.{linear-Sub, linear-Scale, linear-Ite, linear-Div, linear-Mod, R}
pub use Rattle.obligations.proofs.TreeLaws.{linear-long, parted-tree}
pub use Rattle.obligations.proofs.TreeLaws.{form_tree-is, term_tree-is, outcome-tree, ite-Const, ite-Slot, ite-Param}
pub use Rattle.obligations.proofs.TreeLaws.{ite-Add, ite-Sub, ite-Scale, ite-Ite, ite-Div, ite-Mod}

-- Laws of truth values, by cases.
and_right : (a : Bool) → (a && true) ≡ a
and_right true = refl
and_right false = refl

pairs : (a b c d : Bool) → ((a && b) && (c && d)) ≡ ((a && c) && (b && d))
pairs true true c d = refl
pairs true false true d = refl
pairs true false false d = refl
pairs false b c d = refl

not_and : (a b : Bool) → (not a || not b) ≡ not (a && b)
not_and true b = refl
not_and false b = refl

not_or : (a b : Bool) → (not a && not b) ≡ not (a || b)
not_or true b = refl
not_or false b = refl

not_not : (a : Bool) → a ≡ not (not a)
not_not true = refl
not_not false = refl

either_way : (c : Bool) (x y : Bool) → ((c && x) || (not c && y)) ≡ cond c x y
either_way true true y = refl
either_way true false y = refl
either_way false x y = refl

pub cond_of : {A B : Type 0} (f : A → B) (c : Bool) (x y : A) → cond c (f x) (f y) ≡ f (cond c x y)
cond_of f true x y = refl
cond_of f false x y = refl

zero_test : (z : ℤ) → (int_le (pos 0) z && (int_le (pos 0) (pos 0 +ℤ negsuc 0 *ℤ z) && true)) ≡ int_eq z (pos 0)
zero_test (pos zero) = refl
zero_test (pos (suc n)) = grind (arith, ints)
zero_test (negsuc n) = grind (arith, ints)

unequal_test : (z : ℤ) → (int_le (pos 0) (z -ℤ pos 1) || int_le (pos 0) (negsuc 0 -ℤ z)) ≡ not (int_eq z (pos 0))
unequal_test (pos zero) = refl
unequal_test (pos (suc n)) = grind (arith, ints)
unequal_test (negsuc n) = grind (arith, ints)

less_test : (z : ℤ) → int_le (pos 0) (negsuc 0 -ℤ z) ≡ not (int_le (pos 0) z)
less_test (pos zero) = refl
less_test (pos (suc n)) = grind (arith, ints)
less_test (negsuc n) = grind (arith, ints)

or_none : (a b : Bool) → (a || b) ≡ false → (a ≡ false) × (b ≡ false)
or_none true b h = absurd (cc)
or_none false b h = (refl, h)

-- whether a term has a quotient, by its head
abbrev Q : CTerm → Bool
Q = has_quotient

pub quotient-Const : (c : ℤ) → Q (Const c) ≡ false
quotient-Const c = term_fold no_mark quotient_step (CTerm-F.Const c) (Const c) (rolls-Const c)

pub quotient-Slot : (n : ℕ) → Q (Slot n) ≡ false
quotient-Slot n = term_fold no_mark quotient_step (CTerm-F.Slot n) (Slot n) (rolls-Slot n)

pub quotient-Param : (n : ℕ) → Q (Param n) ≡ false
quotient-Param n = term_fold no_mark quotient_step (CTerm-F.Param n) (Param n) (rolls-Param n)

pub quotient-Add : (a b : CTerm) → Q (Add a b) ≡ (Q a || Q b)
quotient-Add a b = term_fold no_mark quotient_step (CTerm-F.Add a b) (Add a b) (rolls-Add a b)

pub quotient-Sub : (a b : CTerm) → Q (Sub a b) ≡ (Q a || Q b)
quotient-Sub a b = term_fold no_mark quotient_step (CTerm-F.Sub a b) (Sub a b) (rolls-Sub a b)

pub quotient-Scale : (k : ℤ) (a : CTerm) → Q (Scale k a) ≡ Q a
quotient-Scale k a = term_fold no_mark quotient_step (CTerm-F.Scale k a) (Scale k a) (rolls-Scale k a)

pub quotient-Ite : (c : CForm) (a b : CTerm) → Q (Ite c a b) ≡ false
quotient-Ite c a b = term_fold no_mark quotient_step (CTerm-F.Ite c a b) (Ite c a b) (rolls-Ite c a b)

pub quotient-Div : (a : CTerm) (k : ℤ) → Q (Div a k) ≡ true
quotient-Div a k = term_fold no_mark quotient_step (CTerm-F.Div a k) (Div a k) (rolls-Div a k)

pub quotient-Mod : (a : CTerm) (k : ℤ) → Q (Mod a k) ≡ true
quotient-Mod a k = term_fold no_mark quotient_step (CTerm-F.Mod a k) (Mod a k) (rolls-Mod a k)

module _ (vs : List Variable) (values : List ℤ) where
  abbrev T : CTerm → ℤ
  T = term_at vs values

  abbrev F : CForm → Bool
  F = form_at vs values

  pub value-Const : (c : ℤ) → T (Const c) ≡ c
  value-Const c = term_fold form_step (term_at_step vs values) (CTerm-F.Const c) (Const c) (rolls-Const c)

  pub value-Slot : (n : ℕ) → T (Slot n) ≡ number_at values (place_of vs false n)
  value-Slot n = term_fold form_step (term_at_step vs values) (CTerm-F.Slot n) (Slot n) (rolls-Slot n)

  pub value-Param : (n : ℕ) → T (Param n) ≡ number_at values (place_of vs true n)
  value-Param n = term_fold form_step (term_at_step vs values) (CTerm-F.Param n) (Param n) (rolls-Param n)

  pub value-Add : (a b : CTerm) → T (Add a b) ≡ T a +ℤ T b
  value-Add a b = term_fold form_step (term_at_step vs values) (CTerm-F.Add a b) (Add a b) (rolls-Add a b)

  pub value-Sub : (a b : CTerm) → T (Sub a b) ≡ T a -ℤ T b
  value-Sub a b = term_fold form_step (term_at_step vs values) (CTerm-F.Sub a b) (Sub a b) (rolls-Sub a b)

  pub value-Scale : (k : ℤ) (a : CTerm) → T (Scale k a) ≡ k *ℤ T a
  value-Scale k a = term_fold form_step (term_at_step vs values) (CTerm-F.Scale k a) (Scale k a) (rolls-Scale k a)

  pub value-Ite : (c : CForm) (a b : CTerm) → T (Ite c a b) ≡ cond (F c) (T a) (T b)
  value-Ite c a b = term_fold form_step (term_at_step vs values) (CTerm-F.Ite c a b) (Ite c a b) (rolls-Ite c a b)

  pub value-Div : (a : CTerm) (k : ℤ) → T (Div a k) ≡ floored (T a) k
  value-Div a k = term_fold form_step (term_at_step vs values) (CTerm-F.Div a k) (Div a k) (rolls-Div a k)

  pub value-Mod : (a : CTerm) (k : ℤ) → T (Mod a k) ≡ rest_of (T a) k
  value-Mod a k = term_fold form_step (term_at_step vs values) (CTerm-F.Mod a k) (Mod a k) (rolls-Mod a k)

  value-Top : F Top ≡ true
  value-Top = form_fold form_step (term_at_step vs values) CForm-F.Top Top rolls-Top

  value-Bottom : F Bottom ≡ false
  value-Bottom = form_fold form_step (term_at_step vs values) CForm-F.Bottom Bottom rolls-Bottom

  pub value-AtLeast : (t : CTerm) → F (AtLeast t) ≡ int_le (pos 0) (T t)
  value-AtLeast t = form_fold form_step (term_at_step vs values) (CForm-F.AtLeast t) (AtLeast t) (rolls-AtLeast t)

  pub value-Zero : (t : CTerm) → F (Zero t) ≡ int_eq (T t) (pos 0)
  value-Zero t = form_fold form_step (term_at_step vs values) (CForm-F.Zero t) (Zero t) (rolls-Zero t)

  value-Not : (f : CForm) → F (Not f) ≡ not (F f)
  value-Not f = form_fold form_step (term_at_step vs values) (CForm-F.Not f) (Not f) (rolls-Not f)

  value-And : (f g : CForm) → F (And f g) ≡ (F f && F g)
  value-And f g = form_fold form_step (term_at_step vs values) (CForm-F.And f g) (And f g) (rolls-And f g)

  value-Or : (f g : CForm) → F (Or f g) ≡ (F f || F g)
  value-Or f g = form_fold form_step (term_at_step vs values) (CForm-F.Or f g) (Or f g) (rolls-Or f g)

  -- Branches.
  abbrev B : Branch → Bool
  B = branch_holds vs values

  pub holds-joined : (a b : Branch) → B (joined a b) ≡ (B a && B b)
  holds-joined a b =
      ap (λ z. z && list_all F (a.waiting ++ b.waiting)) (list_all-append (fact_holds values) a.facts b.facts)
      ∙ ap (λ z. (list_all (fact_holds values) a.facts && list_all (fact_holds values) b.facts) && z)
      (list_all-append F a.waiting b.waiting)
      ∙ pairs (list_all (fact_holds values) a.facts) (list_all (fact_holds values) b.facts) (list_all F a.waiting)
      (list_all F b.waiting)

  holds-fact : (l : Line) → B (one_fact l) ≡ int_le (pos 0) (line_value values l)
  holds-fact l = and_right _ ∙ and_right _ ∙ ap (λ z. int_le (pos 0) z) (fact_of-value values l)

  holds-waiting : (f : CForm) → B (one_waiting f) ≡ F f
  holds-waiting f = and_right _

  -- what a term's value is, by its linear form where it has no quotient, or by its first choice
  abbrev Worth : Bool → ℤ → Line → Option Choice → Type 0
  Worth b v l None = b ≡ false → line_value values l ≡ v
  Worth b v l (Some c) = cond (F c.when) (T c.yes) (T c.no) ≡ v

  worth-as : (b d : Bool) (v w : ℤ) (l k : Line) (m n : Option Choice) → b ≡ d → v ≡ w → l ≡ k → m ≡ n →
      Worth d w k n → Worth b v l m
  worth-as b d v w l k m n o p q r h =
      subst (λ x. Worth x v l m) (sym o) (subst (λ x. Worth d x l m) (sym p) (subst (λ x. Worth d w x m) (sym q)
      (subst (λ x. Worth d w k x) (sym r) h)))

  chosen-holds : (f : CTerm → CForm) (p : ℤ → Bool) → ((t : CTerm) → F (f t) ≡ p (T t)) → (c : Choice) (v : ℤ) →
      cond (F c.when) (T c.yes) (T c.no) ≡ v → B (one_waiting (choice_form f c)) ≡ p v
  chosen-holds f p is c v e =
      holds-waiting _ ∙ value-Or _ _ ∙ ap (λ z. z || F (And (Not c.when) (f c.no))) (value-And _ _)
      ∙ ap (λ z. (F c.when && F (f c.yes)) || z) (value-And _ _ ∙ ap (λ z. z && F (f c.no)) (value-Not _))
      ∙ either_way (F c.when) (F (f c.yes)) (F (f c.no))
      ∙ ap (λ z. cond (F c.when) z (F (f c.no))) (is c.yes) ∙ ap (λ z. cond (F c.when) (p (T c.yes)) z) (is c.no)
      ∙ cond_of p (F c.when) (T c.yes) (T c.no) ∙ ap p e

  least-plain : (t : CTerm) (v : ℤ) (b : Bool) → T t ≡ v → (b ≡ false → line_value values (linear vs t) ≡ v) →
      B (cond b (one_waiting (AtLeast t)) (one_fact (linear vs t))) ≡ int_le (pos 0) v
  least-plain t v true e w = holds-waiting _ ∙ value-AtLeast t ∙ ap (λ z. int_le (pos 0) z) e
  least-plain t v false e w = holds-fact (linear vs t) ∙ ap (λ z. int_le (pos 0) z) (w refl)

  least-holds : (t : CTerm) (v : ℤ) (m : Option Choice) → T t ≡ v → Worth (Q t) v (linear vs t) m →
      B (least_adds vs t m) ≡ int_le (pos 0) v
  least-holds t v None e w = least-plain t v (Q t) e w
  least-holds t v (Some c) e w = chosen-holds AtLeast (λ z. int_le (pos 0) z) value-AtLeast c v w

  zero-facts : (t : CTerm) (v : ℤ) → length (linear vs t).factors ≡ length vs → line_value values (linear vs t) ≡ v →
      B (two_facts (linear vs t) (negated vs (linear vs t))) ≡ int_eq v (pos 0)
  zero-facts t v n w =
      and_right _
      ∙ ap (λ z. int_le (pos 0) z && (fact_holds values (fact_of (negated vs (linear vs t))) && true))
      (fact_of-value values (linear vs t) ∙ w)
      ∙ ap (λ z. int_le (pos 0) v && (int_le (pos 0) z && true))
      (fact_of-value values (negated vs (linear vs t))
      ∙ line_plus-value (negsuc 0) (line_of_const vs (pos 0)) (linear vs t) values (n ∙ sym (length-zeros vs))
      ∙ (let d = dot-zeros vs values in ap (λ z. z +ℤ negsuc 0 *ℤ line_value values (linear vs t))
      (ap (λ z. z +ℤ pos 0) d)) ∙ ap (λ z. pos 0 +ℤ negsuc 0 *ℤ z) w)
      ∙ zero_test v

  zero-plain : (t : CTerm) (v : ℤ) (b : Bool) → T t ≡ v → length (linear vs t).factors ≡ length vs →
      (b ≡ false → line_value values (linear vs t) ≡ v) →
      B (cond b (one_waiting (Zero t)) (two_facts (linear vs t) (negated vs (linear vs t)))) ≡ int_eq v (pos 0)
  zero-plain t v true e n w = holds-waiting _ ∙ value-Zero t ∙ ap (λ z. int_eq z (pos 0)) e
  zero-plain t v false e n w = zero-facts t v n (w refl)

  zero-holds : (t : CTerm) (v : ℤ) (m : Option Choice) → T t ≡ v → length (linear vs t).factors ≡ length vs →
      Worth (Q t) v (linear vs t) m → B (zero_adds vs t m) ≡ int_eq v (pos 0)
  zero-holds t v None e n w = zero-plain t v (Q t) e n w
  zero-holds t v (Some c) e n w = chosen-holds Zero (λ z. int_eq z (pos 0)) value-Zero c v w

  unequal-holds : (t : CTerm) (v : ℤ) (m : Option Choice) → T t ≡ v → Worth (Q t) v (linear vs t) m →
      B (unequal_adds t m) ≡ not (int_eq v (pos 0))
  unequal-holds t v None e w =
      holds-waiting _ ∙ value-Or _ _
      ∙ ap (λ z. z || F (AtLeast (Sub (Const (negsuc 0)) t)))
      (value-AtLeast _ ∙ ap (λ z. int_le (pos 0) z)
      (value-Sub _ _ ∙ ap (λ z. z -ℤ T (Const (pos 1))) e ∙ ap (λ z. v -ℤ z) (value-Const (pos 1))))
      ∙ ap (λ z. int_le (pos 0) (v -ℤ pos 1) || z) (value-AtLeast _
      ∙ ap (λ z. int_le (pos 0) z) (value-Sub _ _ ∙ ap (λ z. z -ℤ T t) (value-Const (negsuc 0))
      ∙ ap (λ z. negsuc 0 -ℤ z) e))
      ∙ unequal_test v
  unequal-holds t v (Some c) e w =
      chosen-holds (λ x. Not (Zero x)) (λ z. not (int_eq z (pos 0))) (λ x. value-Not (Zero x) ∙ ap not (value-Zero x))
      c
      v w

  module _ (long : length values ≡ length vs) where
    const-line : (c : ℤ) → line_value values (line_of_const vs c) ≡ c
    const-line c = ap (λ z. z +ℤ c) (dot-zeros vs values) ∙ omega (arith, ints)

    place-line : (n : ℕ) → line_value values (line_of_place vs n) ≡ number_at values n
    unfolding lib.IntN.one
    place-line n =
        let d = dot-add_at (zeros vs) values n (pos 1) (long ∙ sym (length-zeros vs)) in
        let z = dot-zeros vs values in
        let o : pos 1 *ℤ number_at values n ≡ number_at values n = *ℤ_comm (pos 1) (number_at values n)
        ∙ *ℤ-one (number_at values n) in
        omega (arith, ints, d, z, o)

    -- two terms under an operation that a choice passes through
    both-worth : (op : ℤ → ℤ → ℤ) (node : CTerm → CTerm → CTerm) → ((a b : CTerm) → T (node a b) ≡ op (T a) (T b)) →
        (a b : CTerm) (k j l : Line) (m n : Option Choice) (c d : Bool) →
        Worth c (T a) k m → Worth d (T b) j n → (line_value values k ≡ T a → line_value values j ≡ T b →
        line_value values l ≡ op (T a) (T b)) →
        Worth (c || d) (op (T a) (T b)) l (first_choice (λ x. node x b) (λ y. node a y) m n)
    both-worth op node is a b k j l None None u v p q e = λ h. let o = or_none u v h in e (p o.0) (q o.1)
    both-worth op node is a b k j l None (Some c) u v p q e =
        ap (λ z. cond (F c.when) z (T (node a c.no))) (is a c.yes)
        ∙ ap (λ z. cond (F c.when) (op (T a) (T c.yes)) z) (is a c.no)
        ∙ cond_of (op (T a)) (F c.when) (T c.yes) (T c.no) ∙ ap (op (T a)) q
    both-worth op node is a b k j l (Some c) n u v p q e =
        ap (λ z. cond (F c.when) z (T (node c.no b))) (is c.yes b)
        ∙ ap (λ z. cond (F c.when) (op (T c.yes) (T b)) z) (is c.no b)
        ∙ cond_of (λ z. op z (T b)) (F c.when) (T c.yes) (T c.no) ∙ ap (λ z. op z (T b)) p

    alone-worth : (op : ℤ → ℤ) (node : CTerm → CTerm) → ((a : CTerm) → T (node a) ≡ op (T a)) →
        (a : CTerm) (k l : Line) (m : Option Choice) (b : Bool) →
        Worth b (T a) k m → (line_value values k ≡ T a → line_value values l ≡ op (T a)) →
        Worth b (op (T a)) l (first_choice node node m None)
    alone-worth op node is a k l None b p e = λ h. e (p h)
    alone-worth op node is a k l (Some c) b p e =
        ap (λ z. cond (F c.when) z (T (node c.no))) (is c.yes) ∙ ap (λ z. cond (F c.when) (op (T c.yes)) z) (is c.no)
        ∙ cond_of op (F c.when) (T c.yes) (T c.no) ∙ ap op p

    -- a quotient has no linear form
    divided-worth : (op : ℤ → ℤ) (node : CTerm → CTerm) → ((a : CTerm) → T (node a) ≡ op (T a)) →
        (a : CTerm) (k l : Line) (m : Option Choice) (b : Bool) → Worth b (T a) k m →
        Worth true (op (T a)) l (first_choice node node m None)
    divided-worth op node is a k l None b p = λ h. absurd (cc)
    divided-worth op node is a k l (Some c) b p =
        ap (λ z. cond (F c.when) z (T (node c.no))) (is c.yes) ∙ ap (λ z. cond (F c.when) (op (T c.yes)) z) (is c.no)
        ∙ cond_of op (F c.when) (T c.yes) (T c.no) ∙ ap op p

    minus-is : (x y : ℤ) → x +ℤ negsuc 0 *ℤ y ≡ x -ℤ y
    minus-is x y = omega (arith, ints)

    one-is : (x y : ℤ) → x +ℤ pos 1 *ℤ y ≡ x +ℤ y
    one-is x y = omega (arith, ints)

    -- a term's value is that of its linear form, or of what its first choice chooses
    abbrev Worthy : CTerm → Option Choice → Type 0
    Worthy t m = Worth (Q t) (T t) (linear vs t) m

    add-worth : (a b : CTerm) (m n : Option Choice) → Worthy a m → Worthy b n →
        Worthy (Add a b) (first_choice (λ x. Add x b) (λ y. Add a y) m n)
    add-worth a b m n p q =
        worth-as _ (Q a || Q b) _ (T a +ℤ T b) _ (line_plus (pos 1) (linear vs a) (linear vs b)) _
        (first_choice (λ x. Add x b) (λ y. Add a y) m n) (quotient-Add a b) (value-Add a b) (linear-Add vs a b) refl
        (both-worth (λ x y. x +ℤ y) Add value-Add a b (linear vs a) (linear vs b)
        (line_plus (pos 1) (linear vs a) (linear vs b)) m n (Q a) (Q b) p q
        (λ d e. line_plus-value (pos 1) (linear vs a) (linear vs b) values (linear-long vs b ∙ sym (linear-long vs a))
        ∙ one-is (line_value values (linear vs a)) (line_value values (linear vs b))
        ∙ ap (λ z. z +ℤ line_value values (linear vs b)) d ∙ ap (λ z. T a +ℤ z) e))

    sub-worth : (a b : CTerm) (m n : Option Choice) → Worthy a m → Worthy b n →
        Worthy (Sub a b) (first_choice (λ x. Sub x b) (λ y. Sub a y) m n)
    sub-worth a b m n p q =
        worth-as _ (Q a || Q b) _ (T a -ℤ T b) _ (line_plus (negsuc 0) (linear vs a) (linear vs b)) _
        (first_choice (λ x. Sub x b) (λ y. Sub a y) m n) (quotient-Sub a b) (value-Sub a b) (linear-Sub vs a b) refl
        (both-worth (λ x y. x -ℤ y) Sub value-Sub a b (linear vs a) (linear vs b)
        (line_plus (negsuc 0) (linear vs a) (linear vs b)) m n (Q a) (Q b) p q
        (λ d e. line_plus-value (negsuc 0) (linear vs a) (linear vs b) values
        (linear-long vs b ∙ sym (linear-long vs a))
        ∙ minus-is (line_value values (linear vs a)) (line_value values (linear vs b))
        ∙ ap (λ z. z -ℤ line_value values (linear vs b)) d ∙ ap (λ z. T a -ℤ z) e))

    scale-worth : (k : ℤ) (a : CTerm) (m : Option Choice) → Worthy a m →
        Worthy (Scale k a) (first_choice (λ x. Scale k x) (λ x. Scale k x) m None)
    scale-worth k a m p =
        worth-as _ (Q a) _ (k *ℤ T a) _ (line_plus k (line_of_const vs (pos 0)) (linear vs a)) _
        (first_choice (λ x. Scale k x) (λ x. Scale k x) m None) (quotient-Scale k a) (value-Scale k a)
        (linear-Scale vs k a) refl
        (alone-worth (λ x. k *ℤ x) (λ x. Scale k x) (value-Scale k) a (linear vs a)
        (line_plus k (line_of_const vs (pos 0)) (linear vs a)) m (Q a) p
        (λ d. line_plus-value k (line_of_const vs (pos 0)) (linear vs a) values
        (linear-long vs a ∙ sym (length-zeros vs))
        ∙ ap (λ z. z +ℤ k *ℤ line_value values (linear vs a)) (const-line (pos 0)) ∙ omega (arith, ints)
        ∙ ap (λ z. k *ℤ z) d))

    div-worth : (a : CTerm) (k : ℤ) (m : Option Choice) → Worthy a m →
        Worthy (Div a k) (first_choice (λ x. Div x k) (λ x. Div x k) m None)
    div-worth a k m p =
        worth-as _ true _ (floored (T a) k) _ (line_of_const vs (pos 0)) _
        (first_choice (λ x. Div x k) (λ x. Div x k) m None) (quotient-Div a k) (value-Div a k) (linear-Div vs a k) refl
        (divided-worth (λ x. floored x k) (λ x. Div x k) (λ x. value-Div x k) a (linear vs a)
        (line_of_const vs (pos 0)) m (Q a) p)

    mod-worth : (a : CTerm) (k : ℤ) (m : Option Choice) → Worthy a m →
        Worthy (Mod a k) (first_choice (λ x. Mod x k) (λ x. Mod x k) m None)
    mod-worth a k m p =
        worth-as _ true _ (rest_of (T a) k) _ (line_of_const vs (pos 0)) _
        (first_choice (λ x. Mod x k) (λ x. Mod x k) m None) (quotient-Mod a k) (value-Mod a k) (linear-Mod vs a k) refl
        (divided-worth (λ x. rest_of x k) (λ x. Mod x k) (λ x. value-Mod x k) a (linear vs a)
        (line_of_const vs (pos 0)) m (Q a) p)

    worth-of : (t : CTerm) → Worthy t (first_ite t)
    worth-of = choice_keeps Worthy (record {
      of_const = λ c. worth-as _ false _ c _ (line_of_const vs c) None None (quotient-Const c) (value-Const c)
          (linear-Const vs c) refl (λ h. const-line c);
      of_slot = λ n. worth-as _ false _ (number_at values (place_of vs false n)) _
          (line_of_place vs (place_of vs false n)) None None (quotient-Slot n) (value-Slot n) (linear-Slot vs n) refl
          (λ h. place-line (place_of vs false n));
      of_param = λ n. worth-as _ false _ (number_at values (place_of vs true n)) _
          (line_of_place vs (place_of vs true n)) None None (quotient-Param n) (value-Param n) (linear-Param vs n) refl
          (λ h. place-line (place_of vs true n));
      of_add = add-worth;
      of_sub = sub-worth;
      of_scale = scale-worth;
      of_div = div-worth;
      of_mod = mod-worth;
      of_ite = λ c a b. worth-as _ (Q (Ite c a b)) _ (cond (F c) (T a) (T b)) _ (line_of_const vs (pos 0)) _
          (Some (record { when = c; yes = a; no = b })) refl (value-Ite c a b) (linear-Ite vs c a b) refl refl;
    })

    -- what a formula adds holds where the formula does, and what its negation adds where it does not
    abbrev Holds : CForm → Branch → Branch → Type 0
    Holds f a b = (B a ≡ F f) × (B b ≡ not (F f))

    least-rows : (t : CTerm) →
        Holds (AtLeast t) (least_adds vs t (first_ite t)) (least_adds vs (below_zero t) (first_ite (below_zero t)))
    least-rows t = (
      least-holds t (T t) (first_ite t) refl (worth-of t) ∙ sym (value-AtLeast t),
      least-holds (below_zero t) (T (below_zero t)) (first_ite (below_zero t)) refl (worth-of (below_zero t))
          ∙ ap (λ z. int_le (pos 0) z) (value-Sub _ _ ∙ ap (λ z. z -ℤ T t) (value-Const (negsuc 0)))
          ∙ less_test (T t) ∙ ap not (sym (value-AtLeast t)),
    )

    and-rows : (f g : CForm) (a b c d : Branch) → Holds f a b → Holds g c d →
        Holds (And f g) (joined a c) (one_waiting (Or (Not f) (Not g)))
    and-rows f g a b c d p q = (
      holds-joined a c ∙ ap (λ z. z && B c) p.0 ∙ ap (λ z. F f && z) q.0 ∙ sym (value-And f g),
      holds-waiting _ ∙ value-Or _ _ ∙ ap (λ z. z || F (Not g)) (value-Not f)
          ∙ ap (λ z. not (F f) || z) (value-Not g) ∙ not_and (F f) (F g) ∙ ap not (sym (value-And f g)),
    )

    or-rows : (f g : CForm) (a b c d : Branch) → Holds f a b → Holds g c d →
        Holds (Or f g) (one_waiting (Or f g)) (joined b d)
    or-rows f g a b c d p q = (
      holds-waiting _,
      holds-joined b d ∙ ap (λ z. z && B d) p.1 ∙ ap (λ z. not (F f) && z) q.1 ∙ not_or (F f) (F g)
          ∙ ap not (sym (value-Or f g)),
    )

    adds-hold : (f : CForm) → Holds f (outcome vs f).yes (outcome vs f).no
    adds-hold = settled_keeps vs Holds (record {
      of_top = (sym value-Top, ap not (sym value-Top));
      of_bottom = (sym value-Bottom, ap not (sym value-Bottom));
      of_least = least-rows;
      of_zero = λ t. (
        zero-holds t (T t) (first_ite t) refl (linear-long vs t) (worth-of t) ∙ sym (value-Zero t),
        unequal-holds t (T t) (first_ite t) refl (worth-of t) ∙ ap not (sym (value-Zero t)),
      );
      of_not = λ f a b p. (
        p.1 ∙ sym (value-Not f),
        p.0 ∙ not_not (F f) ∙ ap not (sym (value-Not f)),
      );
      of_and = and-rows;
      of_or = or-rows;
    })

-- a term without an `Ite` and a quotient is worth its linear form
pub linear-value : (vs : List Variable) (values : List ℤ) → length values ≡ length vs → (t : CTerm) →
    first_ite t ≡ None → Q t ≡ false → line_value values (linear vs t) ≡ term_at vs values t
linear-value vs values long t e h =
    subst (λ m. Worth vs values (Q t) (term_at vs values t) (linear vs t) m) e (worth-of vs values long t) h

pub settled-holds : SettledHolds
settled-holds vs values f b long =
    holds-joined vs values b (outcome vs f).yes ∙ ap (λ z. branch_holds vs values b && z)
    (adds-hold vs values long f).0

pub refused-holds : RefusedHolds
refused-holds vs values f b long =
    holds-joined vs values b (outcome vs f).no ∙ ap (λ z. branch_holds vs values b && z)
    (adds-hold vs values long f).1

-- what `settle` gives
pub settles-with : (o : Obligation) (f : CForm) (b c : Branch) → c ≡ settled (scope_of o.variables b) f b →
    HoldsWith o b f c
settles-with o f b c e =
    subst (HoldsWith o b f) (sym e) (λ values long. settled-holds (scope_of o.variables b) values f b long)

pub ruleset settled_laws = settles-with
