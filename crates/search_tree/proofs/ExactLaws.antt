-- What settling adds has rising places, no factor 0, and only places of variables.
use Rattle.std.proofs.Common.{◌≡◌, ℕ, suc, ◌+◌, ◌≤◌, ◌<◌, nat_le, ℤ, pos, negsuc, Bool, true, false, cond, not, ◌&&◌}
use Rattle.std.proofs.Common.{Option, Some, None, List, [], ◌∷◌, length, arith, refl, ap, ◌∙◌}
use Rattle.std.proofs.lemmas.List.Folds.{list_all-append}
use Rattle.std.proofs.lemmas.Bool.{and_parts}
use Rattle.core_terms.specs.declared.trees.CTerm.{CTerm}
use Rattle.core_terms.specs.declared.trees.CForm.{CForm}
use Rattle.core_terms.specs.declared.trees.CForm.TheVariants.{AtLeast, Zero}
use Rattle.obligations.specs.declared.branches.Branch.{Branch}
use Rattle.obligations.specs.declared.branches.Fact.{Fact}
use Rattle.obligations.specs.declared.branches.Line.{Line}
use Rattle.obligations.specs.declared.branches.Variable.{Variable}
use Rattle.obligations.specs.declared.branches.Choice.{Choice}
use Rattle.meaning_states.specs.State.{int_eq}
use Rattle.obligations.specs.LinearForms.{zeros, sparse, fact_of, linear, negated}
use Rattle.obligations.specs.Opening.{at_most, range_facts}
use Rattle.obligations.specs.Settling.{joined, one_fact, two_facts, one_waiting, has_quotient, first_ite, least_adds}
use Rattle.obligations.specs.Settling.{zero_adds, unequal_adds, below_zero, outcome, settled, refused}
use Rattle.obligations.proofs.SettledKeeps.{Rows, settled_keeps}
use Rattle.obligations.proofs.LineLaws.{length-zeros, length-plus}
use Rattle.obligations.proofs.SettlingLaws.{linear-long}
use Rattle.obligations.specs.Reach.{is_exact, is_within, are_exact}

le-true : (a b : ℕ) → a ≤ b → nat_le a b ≡ true
le-true a b h = grind arith

le-is : (a b : ℕ) → nat_le a b ≡ true → a ≤ b
le-is a b h = grind arith

exact-weaker : (n m : ℕ) (fs : List (ℕ × ℤ)) → n ≤ m → is_exact m fs ≡ true → is_exact n fs ≡ true
exact-weaker n m [] h e = refl
exact-weaker n m (f ∷ fs) h e =
    let a = and_parts (nat_le m f.0 && not (int_eq f.1 (pos 0))) (is_exact (suc f.0) fs) e in
    let b = and_parts (nat_le m f.0) (not (int_eq f.1 (pos 0))) a.0 in
    let c = le-is m f.0 b.0 in
    ap (λ t. (t && not (int_eq f.1 (pos 0))) && is_exact (suc f.0) fs) (le-true n f.0 (omega (arith, c, h))) ∙ ap
    (λ t. t && is_exact (suc f.0) fs) b.1 ∙ a.1

pub sparse-exact : (n : ℕ) (zs : List ℤ) → is_exact n (sparse n zs) ≡ true
sparse-exact n [] = refl
sparse-exact n (z ∷ zs) = by_test (int_eq z (pos 0)) refl (sparse-exact (suc n) zs)
  where
    by_test : (t : Bool) → int_eq z (pos 0) ≡ t → is_exact (suc n) (sparse (suc n) zs) ≡ true → is_exact n
        (cond t (sparse (suc n) zs) ((n, z) ∷ sparse (suc n) zs)) ≡ true
    by_test true q ih = exact-weaker n (suc n) (sparse (suc n) zs) (omega arith) ih
    by_test false q ih = ap (λ t. (t && not (int_eq z (pos 0))) && is_exact (suc n) (sparse (suc n) zs))
        (le-true n n (omega arith)) ∙ ap (λ t. not t && is_exact (suc n) (sparse (suc n) zs)) q ∙ ih

pub sparse-within : (n count : ℕ) (zs : List ℤ) → n + length zs ≤ count → is_within count (sparse n zs) ≡ true
sparse-within n count [] h = refl
sparse-within n count (z ∷ zs) h = by_test (int_eq z (pos 0)) (sparse-within (suc n) count zs (omega (arith, h)))
  where
    by_test : (t : Bool) → is_within count (sparse (suc n) zs) ≡ true → is_within count
        (cond t (sparse (suc n) zs) ((n, z) ∷ sparse (suc n) zs)) ≡ true
    by_test true ih = ih
    by_test false ih = ap (λ t. t && is_within count (sparse (suc n) zs)) (le-true (suc n) count (omega (arith, h))) ∙
        ih

module _ (vs : List Variable) where
  abbrev E : List Fact → Type 0
  E facts = are_exact (length vs) facts ≡ true

  joined-exact : (b x : Branch) → E b.facts → E x.facts → E (joined b x).facts
  joined-exact b x p q = list_all-append _ b.facts x.facts ∙ ap (λ z. z && are_exact (length vs) x.facts) p ∙ q

  fact-exact : (l : Line) → length l.factors ≡ length vs → (is_exact 0 (fact_of l).factors && is_within (length vs)
      (fact_of l).factors) ≡ true
  fact-exact l e = ap (λ t. t && is_within (length vs) (sparse 0 l.factors)) (sparse-exact 0 l.factors) ∙
      sparse-within 0 (length vs) l.factors (omega (arith, e))

  one-exact : (l : Line) → length l.factors ≡ length vs → E (fact_of l ∷ [])
  one-exact l e = ap (λ t. t && true) (fact-exact l e)

  negated-long : (l : Line) → length (negated vs l).factors ≡ length vs
  negated-long l = length-plus (negsuc 0) (zeros vs) l.factors ∙ length-zeros vs

  waits-exact : (f : CForm) (a : Branch) (q : Bool) → E a.facts → E (cond q (one_waiting f) a).facts
  waits-exact f a true h = refl
  waits-exact f a false h = h

  least-exact : (t : CTerm) (m : Option Choice) → E (least_adds vs t m).facts
  least-exact t None =
      waits-exact (AtLeast t) (one_fact (linear vs t)) (has_quotient t) (one-exact (linear vs t) (linear-long vs t))
  least-exact t (Some c) = refl

  zero-exact : (t : CTerm) (m : Option Choice) → E (zero_adds vs t m).facts
  zero-exact t None =
      waits-exact (Zero t) (two_facts (linear vs t) (negated vs (linear vs t))) (has_quotient t)
      (ap (λ z. z && are_exact (length vs) (fact_of (negated vs (linear vs t)) ∷ []))
      (fact-exact (linear vs t) (linear-long vs t)) ∙ one-exact (negated vs (linear vs t))
      (negated-long (linear vs t)))
  zero-exact t (Some c) = refl

  unequal-exact : (t : CTerm) (m : Option Choice) → E (unequal_adds t m).facts
  unequal-exact t None = refl
  unequal-exact t (Some c) = refl

  -- what a formula and its negation add
  record Exact (f : CForm) (a b : Branch) : Type 0 where
    yes : E a.facts
    no : E b.facts

  rows : Rows vs Exact
  rows = record {
    of_top = record { yes = refl; no = refl };
    of_bottom = record { yes = refl; no = refl };
    of_least = λ t. record {
      yes = least-exact t (first_ite t);
      no = least-exact (below_zero t) (first_ite (below_zero t));
    };
    of_zero = λ t. record { yes = zero-exact t (first_ite t); no = unequal-exact t (first_ite t) };
    of_not = λ f a b p. record { yes = p.no; no = p.yes };
    of_and = λ f g a b c d p q. record { yes = joined-exact a c p.yes q.yes; no = refl };
    of_or = λ f g a b c d p q. record { yes = refl; no = joined-exact b d p.no q.no };
  }

  adds-exact : (f : CForm) → Exact f (outcome vs f).yes (outcome vs f).no
  adds-exact = settled_keeps vs Exact rows

pub settled-exact : (vs : List Variable) (f : CForm) (b : Branch) → are_exact (length vs) b.facts ≡ true → are_exact
    (length vs) (settled vs f b).facts ≡ true
settled-exact vs f b h = joined-exact vs b (outcome vs f).yes h (adds-exact vs f).yes

pub refused-exact : (vs : List Variable) (f : CForm) (b : Branch) → are_exact (length vs) b.facts ≡ true → are_exact
    (length vs) (refused vs f b).facts ≡ true
refused-exact vs f b h = joined-exact vs b (outcome vs f).no h (adds-exact vs f).no

range-one : (n count : ℕ) (s c : ℤ) → not (int_eq s (pos 0)) ≡ true → n < count →
    (is_exact 0 ((n, s) ∷ []) && is_within count ((n, s) ∷ [])) ≡ true
range-one n count s c e h =
    ap (λ t. ((t && not (int_eq s (pos 0))) && true) && (nat_le (suc n) count && true)) (le-true 0 n (omega arith)) ∙
    ap (λ t. (t && true) && (nat_le (suc n) count && true)) e ∙ ap (λ t. t && true)
    (le-true (suc n) count (omega (arith, h)))

ranges-exact_from : (n count : ℕ) (vs : List Variable) → n + length vs ≤ count → are_exact count (range_facts n vs) ≡
    true
ranges-exact_from n count [] h = refl
ranges-exact_from n count (v ∷ vs) h =
    ap (λ z. z && ((is_exact 0 (at_most n v.range.hi).factors && is_within count (at_most n v.range.hi).factors) &&
    are_exact count (range_facts (suc n) vs))) (range-one n count (pos 1) (pos 0) refl (omega (arith, h)))
    ∙ ap (λ z. z && are_exact count (range_facts (suc n) vs))
    (range-one n count (negsuc 0) (pos 0) refl (omega (arith, h))) ∙ ranges-exact_from (suc n) count vs
    (omega (arith, h))

pub ranges-exact : (vs : List Variable) → are_exact (length vs) (range_facts 0 vs) ≡ true
ranges-exact vs = ranges-exact_from 0 (length vs) vs (omega arith)
