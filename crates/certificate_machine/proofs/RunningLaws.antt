-- The line that a sum of few variables is.
use Rattle.std.proofs.Common.{◌≡◌, ℕ, ◌<◌, ℤ, pos, negsuc, neg_ℤ, ◌+ℤ◌, ◌*ℤ◌, Bool, true, false, ◌&&◌, cond, Some, None}
use Rattle.std.proofs.Common.{Result, Ok, Err, OnOk, MatchBool, List, [], ◌∷◌, length, map, refl, sym, ap, ◌∙◌}
use Rattle.std.proofs.Common.{subst, arith}
use Rattle.std.specs.List.{list_all}
use Rattle.std.proofs.lemmas.Int.{ints}
use Rattle.std.proofs.lemmas.Bool.{and_parts}
use Rattle.core_terms.specs.Values.{number_at}
use Rattle.obligations.specs.declared.branches.Line.{Line}
use Rattle.obligations.specs.declared.branches.Fact.{Fact}
use Rattle.obligations.specs.declared.branches.Variable.{Variable}
use Rattle.obligations.specs.LinearForms.{add_at, zeros, line_of_const, sparse, fact_of}
use Rattle.obligations.specs.Load.{in_limit}
use Rattle.obligations.proofs.LineLaws.{length-zeros}
use Rattle.certificate_rules.specs.Additions.{fits_added}
use Rattle.certificate_rules.specs.Sums.{add_factors, below_0}
use Rattle.certificate_machine.specs.declared.few.Few.{Few}
use Rattle.certificate_machine.specs.Spans.{are_zero}
use Rattle.certificate_machine.specs.Sums.{few_line}
use Rattle.certificate_machine.specs.Terms.{lie_within, rises, add_terms, number_in, with_term, made_terms, sign}
use Rattle.certificate_machine.proofs.SpanLaws.{zeros-are, zero-zeros, all-zeros}
use Rattle.certificate_machine.proofs.TermLaws.{term-added, term-inside, length-terms, number-terms, zeros-number}
use Rattle.certificate_machine.proofs.TermLaws.{all-terms, sparse-terms}

-- a sum that begins, over as many variables
pub few-begun : (l : Line) (f : Few) (vs : List Variable) (k : ℤ) → f.terms.items ≡ [] → f.constant ≡ k →
    length l.factors ≡ length vs → few_line l f ≡ line_of_const vs k
few-begun l f vs k none c e =
    ap (λ ts. record { factors = add_terms ts (zeros l.factors); constant = f.constant }) none
    ∙ ap (λ zs. record { factors = zs; constant = f.constant })
    (zeros-are vs (zeros l.factors) (length-zeros l.factors ∙ e) (zero-zeros l.factors))
    ∙ ap (λ z. record { factors = zeros vs; constant = z }) c

pub few-restarted : {A E : Type 0} (r : Result A E) (l : Line) (f : Few) (vs : List Variable) (k : ℤ) →
    f.terms.items ≡ [] → f.constant ≡ k → OnOk r (length l.factors ≡ length vs) →
    OnOk r (few_line l f ≡ line_of_const vs k)
few-restarted (Ok x) l f vs k none c e = few-begun l f vs k none c e
few-restarted (Err x) l f vs k none c e = tt

-- the line of zeros with the terms put into it
pub few-spread : (few : Bool) (n l : Line) (f : Few) → few ≡ true → are_zero l.factors ≡ true →
    n.factors ≡ add_terms f.terms.items l.factors → n.constant ≡ f.constant → n ≡ cond few (few_line l f) l
few-spread true n l f e z a c =
    ap (λ zs. record { factors = zs; constant = n.constant })
    (a ∙ ap (add_terms f.terms.items) (zeros-are l.factors l.factors refl z))
    ∙ ap (λ k. record { factors = add_terms f.terms.items (zeros l.factors); constant = k }) c
few-spread false n l f e z a c = absurd (cc)

pub few-places : (few : Bool) (l : Line) (f : Few) → length (cond few (few_line l f) l).factors ≡ length l.factors
few-places true l f = length-terms f.terms.items (zeros l.factors) ∙ length-zeros l.factors
few-places false l f = refl

-- a term more

module _ (f g : Few) (m n : ℤ) (p q : ℕ) (z y : ℤ) (b : Bool) (em : n ≡ m) (ep : q ≡ p) (ez : y ≡ z)
    (added : MatchBool b (g.terms.items ≡ with_term f.terms.items q (n *ℤ y)) (g ≡ f)) where
  with-plain : MatchBool b (g.terms.items ≡ with_term f.terms.items p (m *ℤ z)) (g ≡ f)
  with-plain =
      subst (λ m. MatchBool b (g.terms.items ≡ with_term f.terms.items p (m *ℤ z)) (g ≡ f)) em
      (subst (λ p. MatchBool b (g.terms.items ≡ with_term f.terms.items p (n *ℤ z)) (g ≡ f)) ep
      (subst (λ z. MatchBool b (g.terms.items ≡ with_term f.terms.items q (n *ℤ z)) (g ≡ f)) ez added))

  pub few-inside : (w : ℕ) → p < w → lie_within w f.terms.items ≡ true → lie_within w g.terms.items ≡ true
  few-inside w h i = by_answer b with-plain
    where
      by_answer : (b : Bool) → MatchBool b (g.terms.items ≡ with_term f.terms.items p (m *ℤ z)) (g ≡ f) →
          lie_within w g.terms.items ≡ true
      by_answer true a = ap (lie_within w) a ∙ term-inside w f.terms.items p (m *ℤ z) h i
      by_answer false a = ap (λ (x : Few). lie_within w x.terms.items) a ∙ i

  pub few-added : (few : Bool) (l : Line) → few ≡ true → p < length l.factors →
      (b ≡ true → fits_added n y (number_in f.terms.items q) ≡ true) →
      MatchBool b
      (add_factors m ((p, z) ∷ []) (cond few (few_line l f) l).factors ≡ Some (cond few (few_line l g) l).factors)
      (cond few (few_line l g) l ≡ cond few (few_line l f) l)
  few-added false l e h k = absurd (cc)
  few-added true l e h k = by_answer b with-plain (λ t. fits-plain (k t))
    where
      zs : List ℤ
      zs = zeros l.factors

      number : number_at (add_terms f.terms.items zs) p ≡ number_in f.terms.items p
      number =
          let size = length-zeros l.factors in
          number-terms f.terms.items zs p f.rising (omega (arith, h, size)) (zeros-number l.factors p)

      fits-plain : fits_added n y (number_in f.terms.items q) ≡ true →
          fits_added m z (number_at (add_terms f.terms.items zs) p) ≡ true
      fits-plain t =
          ap (fits_added m z) number
          ∙ sym (ap (λ m. fits_added m y (number_in f.terms.items q)) em
          ∙ ap (λ z. fits_added m z (number_in f.terms.items q)) ez
          ∙ ap (λ p. fits_added m z (number_in f.terms.items p)) ep) ∙ t

      by_answer : (b : Bool) → MatchBool b (g.terms.items ≡ with_term f.terms.items p (m *ℤ z)) (g ≡ f) →
          (b ≡ true → fits_added m z (number_at (add_terms f.terms.items zs) p) ≡ true) →
          MatchBool b
          (add_factors m ((p, z) ∷ []) (few_line l f).factors ≡ Some (few_line l g).factors)
          (few_line l g ≡ few_line l f)
      by_answer true a t =
          ap (λ c. cond c (Some (add_at (add_terms f.terms.items zs) p (m *ℤ z))) None) (t refl)
          ∙ ap Some (sym (term-added f.terms.items p (m *ℤ z) zs))
          ∙ ap (λ ts. Some (add_terms ts zs)) (sym a)
      by_answer false a t = ap (few_line l) a

-- what is so of the numbers of the terms

module _ (f : Few) (l : Line) (inside : lie_within (length l.factors) f.terms.items ≡ true) where
  within : lie_within (length (zeros l.factors)) f.terms.items ≡ true
  within = ap (λ n. lie_within n f.terms.items) (length-zeros l.factors) ∙ inside

  pub few-all : (test : ℤ → Bool) → test (pos 0) ≡ true → (few : Bool) → few ≡ true →
      list_all (λ t. test t.1) f.terms.items ≡ list_all test (cond few (few_line l f) l).factors
  few-all test z true e =
      sym (all-terms test z f.terms.items (zeros l.factors) f.rising within (zeros-number l.factors)
      (all-zeros test z (zeros l.factors) (zero-zeros l.factors)))
  few-all test z false e = absurd (cc)

  pub few-sparse : (g : ℤ → ℤ) → g (pos 0) ≡ pos 0 → (few : Bool) → few ≡ true →
      made_terms g f.terms.items ≡ sparse 0 (map g (cond few (few_line l f) l).factors)
  few-sparse g z true e =
      sym (sparse-terms g z f.terms.items (zeros l.factors) f.rising within (zero-zeros l.factors))
  few-sparse g z false e = absurd (cc)

  pub few-statement : (below few : Bool) → few ≡ true → (fs : List (ℕ × ℤ)) (k : ℤ) →
      fs ≡ made_terms (sign below) f.terms.items → k ≡ cond below (neg_ℤ f.constant +ℤ negsuc 0) f.constant →
      ◌≡◌ {A = Fact} (record { factors = fs; constant = k })
      (fact_of (cond below (below_0 (cond few (few_line l f) l)) (cond few (few_line l f) l)))
  few-statement below false e fs k a c = absurd (cc)
  few-statement true true e fs k a c =
      ap (λ us. record { factors = us; constant = k }) (a ∙ few-sparse (sign true) refl true refl)
      ∙ ap (λ j. record { factors = sparse 0 (map neg_ℤ (few_line l f).factors); constant = j }) c
  few-statement false true e fs k a c =
      ap (λ us. record { factors = us; constant = k })
      (a ∙ few-sparse (sign false) refl true refl ∙ ap (sparse 0) (same (few_line l f).factors))
      ∙ ap (λ j. record { factors = sparse 0 (few_line l f).factors; constant = j }) c
    where
      same : (zs : List ℤ) → map (sign false) zs ≡ zs
      same [] = refl
      same (x ∷ zs) = ap (λ ys. x ∷ ys) (same zs)
