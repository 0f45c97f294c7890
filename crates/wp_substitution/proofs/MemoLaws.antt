-- What is remembered of the nodes of a pool stays right while the pool grows, and when more is remembered.
use Rattle.std.proofs.Common.{◌≡◌, ℕ, zero, suc, ◌<◌, ◌≤◌, ◌^◌, List, [], ◌∷◌, ◌++◌, All, length, Option, Some}
use Rattle.std.proofs.Common.{None, Result, Ok, Err, ◌*◌, refl, sym, ap, ◌∙◌, subst, ◌⊎◌, inl, inr, arith}
use Rattle.std.specs.Prelude.{slice_get, slice_set, IfOk, MatchOption, unwrap_or, pos, ℤ}
use Rattle.std.specs.BTreeMap.{BTreeMap, get}
use Rattle.std.specs.Ordering.{nat_cmp}
use Rattle.std.specs.Int.RustNames.{unsigned_abs}
use Rattle.std.proofs.Math.Nat.{mul-le-mul_left}
use Rattle.std.proofs.lemmas.Bool.Decides.{eqb_tells}
use Rattle.std.proofs.lemmas.Grind.{get_or-set_at}
use Rattle.std.proofs.lemmas.List.{get_or-set_other, length-set}
use Rattle.std.proofs.lemmas.List.Elements.{All-head, All-tail, All-nil, All-pop, All-same, All-weaker}
use Rattle.std.proofs.lemmas.Option.{slice_get-get_or, get_or_from_slice_get, unwrap_or-slice_get}
use Rattle.core_terms.specs.declared.trees.CTerm.{CTerm}
use Rattle.core_terms.specs.declared.trees.CTerm.TheVariants.{Const, Slot, Param, rolls-Slot}
use Rattle.core_terms.specs.declared.trees.CForm.{CForm}
use Rattle.core_terms.specs.declared.trees.CForm.TheVariants.{Top}
use Rattle.core_terms.specs.declared.marks.Mark.{Mark}
use Rattle.core_terms.specs.Weights.{Weights, weighing, one_weight, plain_weights}
use Rattle.core_terms.specs.Folding.{number_of, truth_of}
use Rattle.core_terms.specs.Pools.{Pooled, form_or, term_or, Grows}
use Rattle.core_terms.specs.Marks.{Fits, KeepsMarks}
use Rattle.core_terms.proofs.HeavierLaws.{weight_steps}
use Rattle.core_terms.proofs.KnownLaws.{number_bound}
use Rattle.core_terms.proofs.LighterLaws.{term_lighter}
use Rattle.core_terms.proofs.TreeFolds.{fold_term_is}
use Rattle.core_terms.proofs.WeightLaws.{Lighter, own_within}
use Rattle.wp_substitution.specs.declared.chains.Chain.{Chain}
use Rattle.wp_substitution.specs.declared.memos.FormKnown.{FormKnown}
use Rattle.wp_substitution.specs.declared.memos.TermKnown.{TermKnown}
use Rattle.wp_substitution.specs.declared.memos.Memo.{Memo}
use Rattle.wp_substitution.specs.declared.memos.Part.{Part}
use Rattle.wp_substitution.proofs.LightLaws.{param_most}
use Rattle.wp_substitution.specs.Chains.{IsChain, chain_or, chain_at, AreChains, chain_weight, form_by, term_by}
use Rattle.wp_substitution.specs.Chains.{after_weights, after_weight}
use Rattle.wp_substitution.specs.Numbers.{IsBounded}
use Rattle.wp_substitution.specs.Memos.{known_at, IsFormKnown, IsTermKnown, Remembers, IsFormPart, IsTermPart, IsPart}

-- lists of what is known

same_known : {X : Type 0} (x y : X) → Some x ≡ Some y → x ≡ y
same_known x y e = cc

module _ {X : Type 0} where
  pub none_known : (xs : List (Option X)) → All (λ k. k ≡ None) xs → (i : ℕ) → known_at xs i ≡ None
  none_known [] h zero = refl
  none_known [] h (suc i) = refl
  none_known (x ∷ xs) h zero = All-head (λ k. k ≡ None) x xs h
  none_known (x ∷ xs) h (suc i) = none_known xs (All-tail (λ k. k ≡ None) x xs h) i

  pub known_read : (xs : List (Option X)) (i : ℕ) → known_at xs i ≡ unwrap_or (slice_get xs i) None
  known_read xs i = sym (unwrap_or-slice_get xs i None)

  pub known_within : (xs : List (Option X)) (i : ℕ) (k : X) → known_at xs i ≡ Some k → i < length xs
  known_within [] zero k e = cc
  known_within [] (suc i) k e = cc
  known_within (x ∷ xs) zero k e = omega arith
  known_within (x ∷ xs) (suc i) k e = let h = known_within xs i k e in omega (arith, h)

  -- what is known once one thing more is: that, or what was known
  pub known_more : (xs : List (Option X)) (i j : ℕ) (k l : X) → i < length xs →
      known_at (slice_set xs i (Some k)) j ≡ Some l → ((j ≡ i) × (k ≡ l)) ⊎ (known_at xs j ≡ Some l)
  known_more xs i j k l low h = elim (eqb_tells j i) [
    | inl w ↦ inl (w.1, same_known k l (sym (get_or-set_at xs i j (Some k) None w.1 low) ∙ h))
    | inr w ↦ inr (sym (get_or-set_other xs i j (Some k) None w.1) ∙ h)
  ]

-- the last item of a list, taken out

module _ {X : Type 0} (P : X → Type 0) where
  pub last_taken : (old new : List X) (x : X) → old ≡ new ++ x ∷ [] → All P old → All P new × P x
  last_taken old new x e h = All-pop P old new (Some x) e h

  pub none_taken : (new : List X) → new ≡ [] → All P new
  none_taken new e = All-same P new [] e (All-nil P)

-- what an answer is, from two things that are known of it
pub from_both : {X Y : Type 0} (r : Result X Y) (P Q R : X → Type 0) → ((x : X) → P x → Q x → R x) → IfOk r P →
    IfOk r Q → IfOk r R
from_both (Ok x) P Q R f p q = f x p q
from_both (Err y) P Q R f p q = tt

-- trees at their places in a pool that has grown

pub form_or_stays : (p q : Pooled) (i : ℕ) → Grows p q → i < length p.forms → form_or q.forms i ≡ form_or p.forms i
form_or_stays p q i g low =
    get_or_from_slice_get q.forms i (form_or p.forms i) Top (g.forms i (form_or p.forms i) (slice_get-get_or p.forms
    i Top low))

pub term_or_stays : (p q : Pooled) (i : ℕ) → Grows p q → i < length p.terms → term_or q.terms i ≡ term_or p.terms i
term_or_stays p q i g low =
    get_or_from_slice_get q.terms i (term_or p.terms i) (Const (pos 0))
    (g.terms i (term_or p.terms i) (slice_get-get_or p.terms i (Const (pos 0)) low))

pub form_part_stays : (p q : Pooled) (mark : Mark) (i : ℕ) → Fits p mark → Grows p q → IsFormPart p mark i →
    IsFormPart q mark i
form_part_stays p q mark i fits g h = record {
  place = h.place;
  weight = subst (λ f. after_weight f ≤ 2 ^ 124)
      (sym (form_or_stays p q i g (omega (arith, h.place, fits.forms)))) h.weight;
}

pub term_part_stays : (p q : Pooled) (mark : Mark) (i : ℕ) → Fits p mark → Grows p q → IsTermPart p mark i →
    IsTermPart q mark i
term_part_stays p q mark i fits g h = record {
  place = h.place;
  weight = subst (λ t. (after_weights t).most ≤ 2 ^ 124)
      (sym (term_or_stays p q i g (omega (arith, h.place, fits.terms)))) h.weight;
}

pub part_stays : (p q : Pooled) (mark : Mark) (part : Part) → Fits p mark → Grows p q → IsPart p mark part →
    IsPart q mark part
part_stays p q mark (Part.Form id) fits g h = form_part_stays p q mark id.place fits g h
part_stays p q mark (Part.Term id) fits g h = term_part_stays p q mark id.place fits g h

pub parts_stay : (p q : Pooled) (mark now : Mark) (todo : List Part) → Fits p mark → Grows p q → now ≡ mark →
    All (IsPart p mark) todo → All (IsPart q now) todo
parts_stay p q mark now todo fits g e h =
    All-weaker (IsPart p mark) (IsPart q now)
    (λ part k. subst (λ m. IsPart q m part) (sym e) (part_stays p q mark part fits g k)) todo h

-- what is remembered

module _ (chains : BTreeMap ℕ Chain) (p : Pooled) where
  -- of a new memo
  pub remembers_none : (m : Memo) → Fits p m.mark → length m.forms ≡ m.mark.forms → length m.terms ≡ m.mark.terms →
      All (λ k. k ≡ None) m.forms → All (λ k. k ≡ None) m.terms → Remembers chains p m
  remembers_none m fits forms terms no_form no_term = record {
    fits = fits;
    form_count = forms;
    term_count = terms;
    forms = λ i k e. absurd (some_none (sym e ∙ none_known m.forms no_form i));
    terms = λ i k e. absurd (some_none (sym e ∙ none_known m.terms no_term i));
  }
    where
      some_none : {X : Type 0} {x : X} → Some x ≡ None → ⊥
      some_none e = cc e

  -- of a pool that has grown
  pub remembers_grown : (q : Pooled) (m : Memo) → Remembers chains p m → Grows p q → KeepsMarks p q →
      Remembers chains q m
  remembers_grown q m r g kept = record {
    fits = kept m.mark r.fits;
    form_count = r.form_count;
    term_count = r.term_count;
    forms = λ i k e.
        let low : i < length p.forms = omega (arith, known_within m.forms i k e, r.form_count, r.fits.forms) in
        let same = form_or_stays p q i g low in
        let old = r.forms i k e in
        record {
          tree = g.forms k.id.place (form_by chains (form_or p.forms i)) old.tree
              ∙ ap (λ f. Some (form_by chains f)) (sym same);
          truth = old.truth ∙ ap (λ f. truth_of (form_by chains f)) (sym same);
        };
    terms = λ i k e.
        let low : i < length p.terms = omega (arith, known_within m.terms i k e, r.term_count, r.fits.terms) in
        let same = term_or_stays p q i g low in
        let old = r.terms i k e in
        record {
          tree = g.terms k.id.place (term_by chains (term_or p.terms i)) old.tree
              ∙ ap (λ t. Some (term_by chains t)) (sym same);
          number = old.number ∙ ap (λ t. number_of (term_by chains t)) (sym same);
        };
  }

  -- once a formula more is remembered
  pub remembers_form : (m n : Memo) (i : ℕ) (k : FormKnown) → Remembers chains p m → i < m.mark.forms →
      IsFormKnown p (form_by chains (form_or p.forms i)) k → n.mark ≡ m.mark →
      n.forms ≡ slice_set m.forms i (Some k) → n.terms ≡ m.terms → Remembers chains p n
  remembers_form m n i k r low is mark forms terms = record {
    fits = subst (Fits p) (sym mark) r.fits;
    form_count = ap length forms ∙ length-set m.forms i (Some k) ∙ r.form_count
        ∙ ap (λ (x : Mark). x.forms) (sym mark);
    term_count = ap length terms ∙ r.term_count ∙ ap (λ (x : Mark). x.terms) (sym mark);
    forms = λ j l e. by j l (known_more m.forms i j k l (omega (arith, low, r.form_count))
        (ap (λ xs. known_at xs j) (sym forms) ∙ e));
    terms = λ j l e. r.terms j l (ap (λ xs. known_at xs j) (sym terms) ∙ e);
  }
    where
      by : (j : ℕ) (l : FormKnown) → ((j ≡ i) × (k ≡ l)) ⊎ (known_at m.forms j ≡ Some l) →
          IsFormKnown p (form_by chains (form_or p.forms j)) l
      by j l (inl w) =
          subst (λ x. IsFormKnown p (form_by chains (form_or p.forms j)) x) w.1
          (subst (λ x. IsFormKnown p (form_by chains (form_or p.forms x)) k) (sym w.0) is)
      by j l (inr e) = r.forms j l e

  -- once a term more is remembered
  pub remembers_term : (m n : Memo) (i : ℕ) (k : TermKnown) → Remembers chains p m → i < m.mark.terms →
      IsTermKnown p (term_by chains (term_or p.terms i)) k → n.mark ≡ m.mark → n.forms ≡ m.forms →
      n.terms ≡ slice_set m.terms i (Some k) → Remembers chains p n
  remembers_term m n i k r low is mark forms terms = record {
    fits = subst (Fits p) (sym mark) r.fits;
    form_count = ap length forms ∙ r.form_count ∙ ap (λ (x : Mark). x.forms) (sym mark);
    term_count = ap length terms ∙ length-set m.terms i (Some k) ∙ r.term_count
        ∙ ap (λ (x : Mark). x.terms) (sym mark);
    forms = λ j l e. r.forms j l (ap (λ xs. known_at xs j) (sym forms) ∙ e);
    terms = λ j l e. by j l (known_more m.terms i j k l (omega (arith, low, r.term_count))
        (ap (λ xs. known_at xs j) (sym terms) ∙ e));
  }
    where
      by : (j : ℕ) (l : TermKnown) → ((j ≡ i) × (k ≡ l)) ⊎ (known_at m.terms j ≡ Some l) →
          IsTermKnown p (term_by chains (term_or p.terms j)) l
      by j l (inl w) =
          subst (λ x. IsTermKnown p (term_by chains (term_or p.terms j)) x) w.1
          (subst (λ x. IsTermKnown p (term_by chains (term_or p.terms x)) k) (sym w.0) is)
      by j l (inr e) = r.terms j l e

-- a replaced term weighs little

chain_most : (chains : BTreeMap ℕ Chain) → AreChains chains → (n : ℕ) →
    (plain_weights (chain_at chains n)).most ≤ chain_weight n
chain_most chains are n = by (get nat_cmp chains n) (are n)
  where
    by : (m : Option Chain) → MatchOption m (Unit {0}) IsChain → (plain_weights (chain_or n m)).most ≤ 2 ^ 62
    by None h =
        let e : plain_weights (Slot n) ≡ weighing 1 0 =
        fold_term_is (weight_steps one_weight one_weight) _ _ (rolls-Slot n) in
        omega (arith, ap (λ (w : Weights). w.most) e)
    by (Some c) h = h.most

pub replaced_lighter : (chains : BTreeMap ℕ Chain) → AreChains chains → (t : CTerm) →
    Lighter (plain_weights (term_by chains t)) (after_weights t)
replaced_lighter chains are t =
    term_lighter one_weight one_weight chain_weight one_weight (chain_at chains) (λ n. Param n)
    (chain_most chains are) param_most t

-- so its number is not far from 0
pub number_small : (chains : BTreeMap ℕ Chain) → AreChains chains → (t : CTerm) (m : Option ℤ) →
    m ≡ number_of (term_by chains t) → MatchOption m (Unit {0}) (λ z. unsigned_abs z ≤ (after_weights t).own)
number_small chains are t m e =
    by m (number_bound (term_by chains t) m e)
  where
    by : (m : Option ℤ) → MatchOption m (Unit {0}) (λ z. unsigned_abs z ≤ (plain_weights (term_by chains t)).own) →
        MatchOption m (Unit {0}) (λ z. unsigned_abs z ≤ (after_weights t).own)
    by None h = tt
    by (Some z) h = omega (arith, h, (replaced_lighter chains are t).0)

pub bounded : (t : CTerm) (m : Option ℤ) → MatchOption m (Unit {0}) (λ z. unsigned_abs z ≤ (after_weights t).own) →
    (after_weights t).most ≤ 2 ^ 124 → IsBounded m
bounded t None h w = tt
bounded t (Some z) h w = omega (arith, h, w, own_within chain_weight one_weight t)

pub multiple_bounded : (k : ℤ) (own : ℕ) (m : Option ℤ) → MatchOption m (Unit {0}) (λ z. unsigned_abs z ≤ own) →
    unsigned_abs k * own ≤ 2 ^ 124 → MatchOption m (Unit {0}) (λ z. unsigned_abs k * unsigned_abs z ≤ 2 ^ 126)
multiple_bounded k own None h w = tt
multiple_bounded k own (Some z) h w =
    let more : unsigned_abs k * unsigned_abs z ≤ unsigned_abs k * own = mul-le-mul_left (unsigned_abs k) h in
    omega (arith, more, w)

-- what is known of a tree, in a pool that has grown

pub form_known_stays : (chains : BTreeMap ℕ Chain) (p q : Pooled) (i : ℕ) (k : FormKnown) → Grows p q →
    i < length p.forms → IsFormKnown q (form_by chains (form_or p.forms i)) k →
    IsFormKnown q (form_by chains (form_or q.forms i)) k
form_known_stays chains p q i k g low is =
    subst (λ f. IsFormKnown q (form_by chains f) k) (sym (form_or_stays p q i g low)) is

pub form_known_was : (chains : BTreeMap ℕ Chain) (p q : Pooled) (i : ℕ) (k : FormKnown) → Grows p q →
    i < length p.forms → IsFormKnown q (form_by chains (form_or q.forms i)) k →
    IsFormKnown q (form_by chains (form_or p.forms i)) k
form_known_was chains p q i k g low is =
    subst (λ f. IsFormKnown q (form_by chains f) k) (form_or_stays p q i g low) is

pub term_known_stays : (chains : BTreeMap ℕ Chain) (p q : Pooled) (i : ℕ) (k : TermKnown) → Grows p q →
    i < length p.terms → IsTermKnown q (term_by chains (term_or p.terms i)) k →
    IsTermKnown q (term_by chains (term_or q.terms i)) k
term_known_stays chains p q i k g low is =
    subst (λ t. IsTermKnown q (term_by chains t) k) (sym (term_or_stays p q i g low)) is

-- what is known of a formula is known of the one at its number
pub known_itself : (p : Pooled) (f : CForm) (k : FormKnown) → IsFormKnown p f k →
    IsFormKnown p (form_or p.forms k.id.place) k
known_itself p f k is =
    subst (λ g. IsFormKnown p g k) (sym (get_or_from_slice_get p.forms k.id.place f Top is.tree)) is

pub known_kept : (p q : Pooled) (f : CForm) (k : FormKnown) → Grows p q → IsFormKnown p f k → IsFormKnown q f k
known_kept p q f k g is = record { tree = g.forms k.id.place f is.tree; truth = is.truth }
