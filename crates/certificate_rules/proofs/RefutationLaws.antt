-- A certificate that refutes a branch leaves it no values.
use Rattle.std.proofs.Common.{◌≡◌, ℕ, zero, suc, ◌+◌, ℤ, pos, negsuc, neg_ℤ, ◌+ℤ◌, ◌*ℤ◌, Bool, true, false, cond, not}
use Rattle.std.proofs.Common.{◌&&◌, ◌||◌, Option, Some, None, Result, Ok, Err, List, [], ◌∷◌, ◌++◌, map, length}
use Rattle.std.proofs.Common.{◌-◌, slice_get, remove, nat_lt, div-add-mod', arith, append_assoc, length-append, refl}
use Rattle.std.proofs.Common.{sym, ap, ◌∙◌}
use Rattle.std.specs.List.{list_all}
use Rattle.std.specs.Int.{int_div_euclid, int_rem_euclid}
use Rattle.std.specs.Int.RustNames.{int_le}
use Rattle.std.proofs.lemmas.Int.{ints}
use Rattle.std.proofs.lemmas.Bool.{true≢false, and_parts, false_from_ne_true, not-true}
use Rattle.std.proofs.lemmas.List.Folds.{list_all-append}
use lib.IntN.{*ℤ_comm, zero-*ℤ, *ℤ-zero}
use Rattle.obligations.specs.from_core_terms.declared.trees.CForm.{CForm, out-CForm, fold_out-CForm}
use Rattle.obligations.specs.from_core_terms.declared.trees.CForm.TheFolds.{map-CForm}
use Rattle.obligations.specs.from_core_terms.Values.{number_at, form_step}
use Rattle.obligations.specs.from_core_terms.declared.trees.CTerm.{CTerm}
use Rattle.obligations.specs.from_core_terms.declared.trees.CForm.TheOpen.{CForm-F}
use Rattle.meaning_states.specs.State.{int_eq}
use Rattle.obligations.specs.from_case_tables.declared.code_table.Code.{Code}
use Rattle.obligations.specs.declared.branches.Fact.{Fact}
use Rattle.obligations.specs.declared.branches.Branch.{Branch}
use Rattle.obligations.specs.declared.branches.Variable.{Variable}
use Rattle.obligations.specs.declared.branches.Line.{Line}
use Rattle.obligations.specs.declared.certificates.Node.{Node}
use Rattle.obligations.specs.LinearForms.{add_at, dot, line_value, sum_of, fact_value, fact_holds, fact_of}
use Rattle.obligations.specs.Settling.{term_at_step, term_at, settled, form_at, branch_holds, sides_in, sides, without}
use Rattle.obligations.specs.Settling.{added}
use Rattle.obligations.specs.Quotients.{is_either}
use Rattle.obligations.specs.Opening.{at_most, at_least}
use Rattle.obligations.proofs.RingLaws.{add-times, times-add, times-times}
use Rattle.obligations.proofs.LineLaws.{int_eq-true, fact_of-value, dot-zeros, length-zeros, length-add_at, dot-add_at}
use Rattle.obligations.proofs.SettlingLaws.{settled-holds}
use Rattle.certificate_rules.specs.Sums.{add_factors, with_constant, add_times, numbered, or_too_big, add_pair}
use Rattle.certificate_rules.specs.Sums.{sum_pairs, fact_step, no_sum, all_pairs, is_false, is_divisible, divided}
use Rattle.certificate_rules.specs.Sums.{stated, below_0}
use Rattle.certificate_rules.specs.Refutation.{NodeEffect, fails, opens, made_case, made_sum, made_round, made_by}
use Rattle.certificate_rules.specs.Refutation.{made_share}
use Rattle.certificate_rules.proofs.SumLaws.{pairs-keep}
use Rattle.certificate_rules.specs.Refutation.{OpenBranch}
use Rattle.certificate_rules.specs.Refutation.{made, pending, after, walk, allowing, go_on, WalkAppends}
use Rattle.certificate_rules.specs.Trees.{CertTree, leaf, one_below, two_below, nodes_of, Refutes}

abbrev is_at_least_0 : ℤ → Bool
is_at_least_0 z = int_le (pos 0) z

some_is : {A : Type 0} (b : Bool) (m : Option A) (x : A) → cond b m None ≡ Some x → m ≡ Some x
some_is true m x e = e
some_is false m x e = cc

-- The value of a running sum.
add_factors-value : (m : ℤ) (fs : List (ℕ × ℤ)) (sum out values : List ℤ) → length values ≡ length sum →
    add_factors m fs sum ≡ Some out →
    (dot out values ≡ dot sum values +ℤ m *ℤ sum_of values fs) × (length out ≡ length sum)
add_factors-value m [] sum out values n e =
    let o : sum ≡ out = cc in
    let z : m *ℤ pos 0 ≡ pos 0 = *ℤ-zero m in
    ((ap (λ x. dot x values) (sym o) ∙ omega (arith, ints, z)), ap length (sym o))
add_factors-value m (f ∷ fs) sum out values n e =
    let next = some_is _ (add_factors m fs (add_at sum f.0 (m *ℤ f.1))) out e in
    let ih = add_factors-value m fs (add_at sum f.0 (m *ℤ f.1)) out values (n ∙ sym (length-add_at sum f.0 (m *ℤ f.1)))
    next in
    let d = dot-add_at sum values f.0 (m *ℤ f.1) n in
    let t = times-times m f.1 (number_at values f.0) in
    let a = times-add m (f.1 *ℤ number_at values f.0) (sum_of values fs) in
    let i0 = ih.0 in
    (omega (arith, ints, i0, d, t, a), ih.1 ∙ length-add_at sum f.0 (m *ℤ f.1))

with_constant-is : (c : ℤ) (o : Option (List ℤ)) (l : Line) → with_constant c o ≡ Some l →
    (o ≡ Some l.factors) × (l.constant ≡ c)
with_constant-is c None l e = cc
with_constant-is c (Some fs) l e =
    let q : record { factors = fs; constant = c }
    ≡ l = cc in (ap (λ (x : Line). Some x.factors) q, sym (ap (λ (x : Line). x.constant) q))

add_times-value : (m : ℤ) (f : Fact) (sum l : Line) (values : List ℤ) → length values ≡ length sum.factors →
    add_times m f sum ≡ Some l →
    (line_value values l ≡ line_value values sum +ℤ m *ℤ fact_value values f) × (length l.factors ≡ length sum.factors)
add_times-value m f sum l values n e =
    let w = with_constant-is (sum.constant +ℤ m *ℤ f.constant) (add_factors m f.factors sum.factors) l
    (some_is _ _ l e) in
    let r = add_factors-value m f.factors sum.factors l.factors values n w.0 in
    let t = times-add m (sum_of values f.factors) f.constant in
    let r0 = r.0 in let w1 = w.1 in
    (omega (arith, ints, r0, w1, t), r.1)

times-at_least_0 : (m z : ℤ) → is_at_least_0 m ≡ true → is_at_least_0 z ≡ true → is_at_least_0 (m *ℤ z) ≡ true
times-at_least_0 (pos a) (pos b) p q = grind (arith, ints)
times-at_least_0 (pos a) (negsuc b) p q = cc
times-at_least_0 (negsuc a) z p q = cc

sum-at_least_0 : (x y z : ℤ) → is_at_least_0 x ≡ true → is_at_least_0 y ≡ true → z ≡ x +ℤ y → is_at_least_0 z ≡ true
sum-at_least_0 x y z p q e = grind (arith, ints)

all-at : {A : Type 0} (t : A → Bool) (xs : List A) (n : ℕ) (x : A) → list_all t xs ≡ true → slice_get xs n ≡ Some x →
    t x ≡ true
all-at t [] n x a e = cc
all-at t (y ∷ ys) zero x a e = let s : y ≡ x = cc in ap t (sym s) ∙ (and_parts (t y) (list_all t ys) a).0
all-at t (y ∷ ys) (suc n) x a e = all-at t ys n x (and_parts (t y) (list_all t ys) a).1 e

-- a sum that the facts make at least 0
pub record Sums (vs : List Variable) (values : List ℤ) (l : Line) : Type 0 where
  size : length l.factors ≡ length vs
  least : is_at_least_0 (line_value values l) ≡ true

module _ (vs : List Variable) (values : List ℤ) (long : length values ≡ length vs) (facts : List Fact)
    (hold : list_all (fact_holds values) facts ≡ true) where
  add_pair-sums : (p : ℤ × ℕ) (f : Option Fact) (sum l : Line) → numbered facts p.1 ≡ f → Sums vs values sum →
      add_pair p.0 f sum ≡ Ok l → Sums vs values l
  add_pair-sums p None sum l n s e = cc
  add_pair-sums p (Some f) sum l n s e = positive (int_le (pos 0) p.0) refl (add_times p.0 f sum) refl e
    where
      fact_at : (k : ℕ) → numbered facts k ≡ Some f → fact_holds values f ≡ true
      fact_at zero q = cc
      fact_at (suc k) q = all-at (fact_holds values) facts k f hold q

      positive : (b : Bool) → int_le (pos 0) p.0 ≡ b → (o : Option Line) → add_times p.0 f sum ≡ o →
          cond b (or_too_big o) (Err Code.BadSum) ≡ Ok l → Sums vs values l
      positive false q o r d = cc
      positive true q None r d = cc
      positive true q (Some m) r d =
          let same : m ≡ l = cc in
          let v = add_times-value p.0 f sum l values (long ∙ sym s.size) (r ∙ ap Some same) in
          record {
            size = v.1 ∙ s.size;
            least = sum-at_least_0 (line_value values sum) (p.0 *ℤ fact_value values f)
                (line_value values l) s.least (times-at_least_0 p.0 (fact_value values f) q (fact_at p.1 n)) v.0;
          }

  sum_pairs-sums : (ps : List (ℤ × ℕ)) (sum l : Line) → Sums vs values sum → sum_pairs facts (Ok sum) ps ≡ Ok l →
      Sums vs values l
  sum_pairs-sums =
      pairs-keep (fact_step facts) (Sums vs values) (λ p l m s e. add_pair-sums p (numbered facts p.1) l m refl s e)

  no_sum-sums : Sums vs values (no_sum vs)
  no_sum-sums = record { size = length-zeros vs; least = ap (λ z. int_le (pos 0) (z +ℤ pos 0)) (dot-zeros vs values) }

  pub all_pairs-sums : (ps : List (ℤ × ℕ)) (l : Line) → all_pairs vs facts ps ≡ Ok l → Sums vs values l
  all_pairs-sums ps l e = sum_pairs-sums ps (no_sum vs) l no_sum-sums e

-- Rounding.
euclid : (z : ℤ) (k : ℕ) → z ≡ int_div_euclid z (pos (suc k)) *ℤ pos (suc k) +ℤ int_rem_euclid z (pos (suc k))
euclid (pos a) k = omega (arith, ints, div-add-mod' a (suc k))
euclid (negsuc a) k = omega (arith, ints, div-add-mod' a (suc k))

rem-least : (z : ℤ) (k : ℕ) → int_le (int_rem_euclid z (pos (suc k))) (pos k) ≡ true
rem-least (pos a) k = grind (arith, ints)
rem-least (negsuc a) k = grind (arith, ints)

-- whether a number divides another
abbrev divides : ℕ → ℤ → Bool
divides k z = int_eq (int_rem_euclid z (pos (suc k))) (pos 0)

abbrev quotient : ℕ → ℤ → ℤ
quotient k z = int_div_euclid z (pos (suc k))

dot-divided : (k : ℕ) (fs values : List ℤ) → list_all (divides k) fs ≡ true →
    dot fs values ≡ dot (map (quotient k) fs) values *ℤ pos (suc k)
dot-divided k [] values e = sym (zero-*ℤ (pos (suc k)))
dot-divided k (z ∷ fs) [] e = sym (zero-*ℤ (pos (suc k)))
dot-divided k (z ∷ fs) (v ∷ values) e =
    let parts = and_parts (divides k z) (list_all (divides k) fs) e in
    let d = pos (suc k) in
    let q = quotient k z in
    let none = int_eq-true (int_rem_euclid z d) parts.0 in
    let whole : z ≡ q *ℤ d = euclid z k ∙ ap (λ x. q *ℤ d +ℤ x) none ∙ omega (arith, ints) in
    let ih = dot-divided k fs values parts.1 in
    let rest = dot (map (quotient k) fs) values in
    let swap : z *ℤ v ≡ (q *ℤ v) *ℤ d =
    ap (λ x. x *ℤ v) whole ∙ times-times q d v ∙ ap (λ x. q *ℤ x) (*ℤ_comm d v) ∙ sym (times-times q v d) in
    ap (λ x. x +ℤ dot fs values) swap ∙ ap (λ x. (q *ℤ v) *ℤ d +ℤ x) ih ∙ sym (add-times (q *ℤ v) rest d)

scaled-least : (s : ℤ) (k : ℕ) (r : ℤ) → int_le r (pos k) ≡ true → is_at_least_0 (s *ℤ pos (suc k) +ℤ r) ≡ true →
    is_at_least_0 s ≡ true
scaled-least (pos a) k r e p = grind (arith, ints)
scaled-least (negsuc a) k r e p = grind (arith, ints)

round-least : (d : ℤ) (l : Line) (values : List ℤ) → is_divisible d l ≡ true →
    is_at_least_0 (line_value values l) ≡ true → is_at_least_0 (line_value values (divided d l)) ≡ true
round-least (negsuc k) l values e p = cc
round-least (pos zero) l values e p = cc
round-least (pos (suc k)) l values e p =
    let all = (and_parts (int_le (pos 1) (pos (suc k))) (list_all (divides k) l.factors) e).1 in
    let whole = dot-divided k l.factors values all in
    let c = euclid l.constant k in
    let D = dot (map (quotient k) l.factors) values in
    let C = quotient k l.constant in
    let R = int_rem_euclid l.constant (pos (suc k)) in
    let a = add-times D C (pos (suc k)) in
    let same : line_value values l ≡ (D +ℤ C) *ℤ pos (suc k) +ℤ R = omega (arith, ints, whole, c, a) in
    scaled-least (D +ℤ C) k R (rem-least l.constant k) (ap is_at_least_0 (sym same) ∙ p)

or-cover : (l r : Bool) → (l ≡ false → r ≡ true) → (l || r) ≡ true
or-cover true r f = refl
or-cover false r f = f refl

other : (x k a b : ℤ) → a ≡ neg_ℤ x +ℤ k → b ≡ x +ℤ neg_ℤ (k +ℤ pos 1) → int_le (pos 0) a ≡ false →
    int_le (pos 0) b ≡ true
other x k a b p q e = grind (arith, ints)

one-or-other : (x k : ℤ) → (int_le (pos 0) ((negsuc 0 *ℤ x +ℤ pos 0) +ℤ k)
    || int_le (pos 0) ((pos 1 *ℤ x +ℤ pos 0) +ℤ neg_ℤ (k +ℤ pos 1))) ≡ true
one-or-other x k =
    let low = (negsuc 0 *ℤ x +ℤ pos 0) +ℤ k in
    let high = (pos 1 *ℤ x +ℤ pos 0) +ℤ neg_ℤ (k +ℤ pos 1) in
    or-cover (int_le (pos 0) low) (int_le (pos 0) high) (other x k low high (omega (arith, ints)) (omega (arith, ints)))

neg-times : (z v : ℤ) → neg_ℤ z *ℤ v ≡ neg_ℤ (z *ℤ v)
neg-times z v =
    let whole = add-times z (neg_ℤ z) v in
    let zero-sum : z +ℤ neg_ℤ z ≡ pos 0 = omega (arith, ints) in
    let none : (z +ℤ neg_ℤ z) *ℤ v ≡ pos 0 = ap (λ x. x *ℤ v) zero-sum ∙ zero-*ℤ v in
    omega (arith, ints, whole, none)

dot-negatives : (fs values : List ℤ) → dot (map neg_ℤ fs) values ≡ neg_ℤ (dot fs values)
dot-negatives [] values = refl
dot-negatives (z ∷ fs) [] = refl
dot-negatives (z ∷ fs) (v ∷ values) =
    let n = neg-times z v in let ih = dot-negatives fs values in omega (arith, ints, n, ih)

stated-or-not : (values : List ℤ) (l : Line) →
    (fact_holds values (fact_of (below_0 l)) || fact_holds values (fact_of l)) ≡ true
stated-or-not values l =
    let low = fact_value values (fact_of (below_0 l)) in
    let high = fact_value values (fact_of l) in
    let a = fact_of-value values (below_0 l) in
    let b = fact_of-value values l in
    let d = dot-negatives l.factors values in
    or-cover (int_le (pos 0) low) (int_le (pos 0) high) (one low high (omega (arith, ints, a, b, d)))
  where
    one : (low high : ℤ) → low ≡ neg_ℤ high +ℤ negsuc 0 → int_le (pos 0) low ≡ false → int_le (pos 0) high ≡ true
    one low high e f = grind (arith, ints)

and_comm : (a b : Bool) → (a && b) ≡ (b && a)
and_comm true true = refl
and_comm true false = refl
and_comm false true = refl
and_comm false false = refl

and_assoc : (a b c : Bool) → ((a && b) && c) ≡ (a && (b && c))
and_assoc true b c = refl
and_assoc false b c = refl

or_same : (a : Bool) → a ≡ (a || a)
or_same true = refl
or_same false = refl

opens_of : NodeEffect → List Branch
opens_of (fails c) = []
opens_of (opens bs) = bs

pub opens-same : {xs ys : List Branch} → opens xs ≡ opens ys → xs ≡ ys
unfolding opens_of
opens-same e = ap opens_of e

-- all nodes but `quot`
abbrev pub IsOld : Node → Type 0
IsOld (Node.Case k) = Unit {0}
IsOld (Node.Split v k) = Unit {0}
IsOld (Node.Sum ps) = Unit {0}
IsOld (Node.Round d ps) = Unit {0}
IsOld (Node.Quot k) = ⊥
IsOld (Node.Share c ps) = Unit {0}

module _ (vs : List Variable) (values : List ℤ) (long : length values ≡ length vs) where
  abbrev B : Branch → Bool
  B = branch_holds vs values

  abbrev F : CForm → Bool
  F = form_at vs values

  -- no branch of a list holds
  abbrev pub none_hold : List Branch → Bool
  none_hold bs = list_all (λ b. not (B b)) bs

  list_all-remove : (xs : List CForm) (k : ℕ) (f : CForm) → slice_get xs k ≡ Some f →
      list_all F xs ≡ (list_all F (remove xs k) && F f)
  list_all-remove [] k f e = cc
  list_all-remove (x ∷ xs) zero f e =
      let s : x ≡ f = cc in ap (λ y. F y && list_all F xs) s ∙ and_comm (F f) (list_all F xs)
  list_all-remove (x ∷ xs) (suc k) f e =
      ap (λ z. F x && z) (list_all-remove xs k f e) ∙ sym (and_assoc (F x) (list_all F (remove xs k)) (F f))

  pub side_in : (f : CForm) (x : CForm-F CForm CTerm) → out-CForm f ≡ x → F f ≡
      (F (sides_in f x).0 || F (sides_in f x).1)
  side_in f CForm-F.Top e = or_same (F f)
  side_in f CForm-F.Bottom e = or_same (F f)
  side_in f (CForm-F.AtLeast t) e = or_same (F f)
  side_in f (CForm-F.Zero t) e = or_same (F f)
  side_in f (CForm-F.Not g) e = or_same (F f)
  side_in f (CForm-F.And g h) e = or_same (F f)
  side_in f (CForm-F.Or g h) e =
      fold_out-CForm Bool ℤ form_step (term_at_step vs values) f
      ∙ ap (λ x. form_step (map-CForm CForm CTerm Bool ℤ F (term_at vs values) x)) e

  -- a branch with a form taken out, and the form's two sides
  case-cover : (w l r : Bool) → (not (w && l) && (not (w && r) && true)) ≡ true → (w && (l || r)) ≡ false
  case-cover true true r e = cc
  case-cover true false true e = cc
  case-cover true false false e = refl
  case-cover false l r e = refl

  pub holds-without : (b : Branch) (k : ℕ) (f : CForm) → slice_get b.waiting k ≡ Some f → B b ≡ (B (without b k) && F f)
  holds-without b k f e =
      ap (λ z. list_all (fact_holds values) b.facts && z) (list_all-remove b.waiting k f e)
      ∙ sym (and_assoc (list_all (fact_holds values) b.facts) (list_all F (remove b.waiting k)) (F f))

  case-sound : (b : Branch) (k : ℕ) (f : CForm) → slice_get b.waiting k ≡ Some f →
      none_hold (settled vs (sides f).0 (without b k) ∷ settled vs (sides f).1 (without b k) ∷ []) ≡ true → B b ≡ false
  case-sound b k f e h =
      holds-without b k f e ∙ ap (λ z. B (without b k) && z) (side_in f (out-CForm f) refl)
      ∙ case-cover (B (without b k)) (F (sides f).0) (F (sides f).1)
      (sym (ap (λ z. not z && (not (B (settled vs (sides f).1 (without b k))) && true))
      (settled-holds vs values (sides f).0 (without b k) long)
      ∙ ap (λ z. not (B (without b k) && F (sides f).0) && (not z && true))
      (settled-holds vs values (sides f).1 (without b k) long)) ∙ h)

  one_more : (p x w : Bool) → ((p && (x && true)) && (w && true)) ≡ ((p && w) && x)
  one_more true true true = refl
  one_more true true false = refl
  one_more true false true = refl
  one_more true false false = refl
  one_more false x w = refl

  pub holds-added : (b : Branch) (f : Fact) → B (added b f) ≡ (B b && fact_holds values f)
  holds-added b f =
      ap (λ z. z && list_all F (b.waiting ++ [])) (list_all-append (fact_holds values) b.facts (f ∷ []))
      ∙ ap (λ z. (list_all (fact_holds values) b.facts && (fact_holds values f && true)) && z)
      (list_all-append F b.waiting [])
      ∙ one_more (list_all (fact_holds values) b.facts) (fact_holds values f) (list_all F b.waiting)

  split-cover : (w l r : Bool) → (l || r) ≡ true → (not (w && l) && (not (w && r) && true)) ≡ true → w ≡ false
  split-cover true true r c e = cc
  split-cover true false true c e = cc
  split-cover true false false c e = cc
  split-cover false l r c e = refl

  split-sound : (b : Branch) (v : ℕ) (k : ℤ) →
      none_hold (added b (at_most v k) ∷ added b (at_least v (k +ℤ pos 1)) ∷ []) ≡ true → B b ≡ false
  split-sound b v k h =
      let low = at_most v k in
      let high = at_least v (k +ℤ pos 1) in
      split-cover (B b) (fact_holds values low) (fact_holds values high) (one-or-other (number_at values v) k)
      (sym (ap (λ z. not z && (not (B (added b high)) && true)) (holds-added b low)
      ∙ ap (λ z. not (B b && fact_holds values low) && (not z && true)) (holds-added b high)) ∙ h)

  holding : (b : Branch) → (B b ≡ true → ⊥) → B b ≡ false
  holding b f = false_from_ne_true (B b) f

  dot-none : (fs ys : List ℤ) → list_all (λ z. int_eq z (pos 0)) fs ≡ true → dot fs ys ≡ pos 0
  dot-none [] ys e = refl
  dot-none (z ∷ fs) [] e = refl
  dot-none (z ∷ fs) (y ∷ ys) e =
      let parts = and_parts (int_eq z (pos 0)) (list_all (λ z. int_eq z (pos 0)) fs) e in
      let n : z *ℤ y ≡ pos 0 = ap (λ x. x *ℤ y) (int_eq-true z parts.0) ∙ zero-*ℤ y in
      let ih = dot-none fs ys parts.1 in omega (arith, ints, n, ih)

  sum-sound : (b : Branch) (ps : List (ℤ × ℕ)) (r : Result Line Code) → all_pairs vs b.facts ps ≡ r →
      (bs : List Branch) → made_sum r ≡ opens bs → B b ≡ false
  sum-sound b ps (Err c) q bs e = absurd (cc)
  sum-sound b ps (Ok l) q bs e = closes (is_false l) refl e
    where
      closes : (t : Bool) → is_false l ≡ t → cond t (opens []) (fails Code.BadSum) ≡ opens bs → B b ≡ false
      closes false f d = absurd (cc)
      closes true f d = holding b (λ h.
          let s = all_pairs-sums vs values long b.facts
          (and_parts (list_all (fact_holds values) b.facts) (list_all F b.waiting) h).0 ps l q in
          let parts = and_parts (list_all (λ z. int_eq z (pos 0)) l.factors) (not (int_le (pos 0) l.constant)) f in
          let z : line_value values l ≡ l.constant = ap (λ x. x +ℤ l.constant) (dot-none l.factors values parts.0)
          ∙ omega (arith, ints) in
          true≢false (sym (ap is_at_least_0 (sym z) ∙ s.least) ∙ not-true (int_le (pos 0) l.constant) parts.1))

  round-sound : (b : Branch) (d : ℤ) (ps : List (ℤ × ℕ)) (r : Result Line Code) → all_pairs vs b.facts ps ≡ r →
      (bs : List Branch) → made_round b d r ≡ opens bs → none_hold bs ≡ true → B b ≡ false
  round-sound b d ps (Err c) q bs e h = absurd (cc)
  round-sound b d ps (Ok l) q bs e h = goes_on (is_divisible d l) refl e
    where
      goes_on : (t : Bool) → is_divisible d l ≡ t →
          cond t (opens (added b (fact_of (divided d l)) ∷ [])) (fails Code.NotDivisible) ≡ opens bs → B b ≡ false
      goes_on false f g = absurd (cc)
      goes_on true f g = holding b (λ k.
          let s = all_pairs-sums vs values long b.facts
          (and_parts (list_all (fact_holds values) b.facts) (list_all F b.waiting) k).0 ps l q in
          let new : fact_holds values (fact_of (divided d l)) ≡ true =
          ap is_at_least_0 (fact_of-value values (divided d l)) ∙ round-least d l values f s.least in
          let all : B (added b (fact_of (divided d l))) ≡ true = holds-added b (fact_of (divided d l))
          ∙ ap (λ z. z && fact_holds values (fact_of (divided d l))) k ∙ new in
          let same : added b (fact_of (divided d l)) ∷ [] ≡ bs = opens-same g in
          let no = ap none_hold same ∙ h in
          true≢false (sym no ∙ ap (λ z. not z && true) all))

  -- a line is at least 0, or it is below 0
  share-sound : (b : Branch) (r : Result Line Code) (bs : List Branch) → made_share b r ≡ opens bs →
      none_hold bs ≡ true → B b ≡ false
  share-sound b (Err c) bs e h = absurd (cc)
  share-sound b (Ok l) bs e h =
      let low = fact_of (below_0 l) in
      let high = fact_of l in
      let none = ap none_hold (opens-same e) ∙ h in
      split-cover (B b) (fact_holds values low) (fact_holds values high) (stated-or-not values l)
      (sym (ap (λ z. not z && (not (B (added b high)) && true)) (holds-added b low)
      ∙ ap (λ z. not (B b && fact_holds values low) && (not z && true)) (holds-added b high)) ∙ none)

  -- all nodes but `quot`
  pub made_by-sound : (b : Branch) (n : Node) (bs : List Branch) → IsOld n → made_by vs b n ≡ opens bs →
      none_hold bs ≡ true → B b ≡ false
  made_by-sound b (Node.Case zero) bs i e h = absurd (cc)
  made_by-sound b (Node.Case (suc k)) bs i e h = taken (slice_get b.waiting k) refl e
    where
      chosen : (f : CForm) (t : Bool) → slice_get b.waiting k ≡ Some f →
          cond t (opens (settled vs (sides f).0 (without b k) ∷ settled vs (sides f).1 (without b k) ∷ []))
          (fails Code.NothingToCase) ≡ opens bs → B b ≡ false
      chosen f false q d = absurd (cc)
      chosen f true q d = case-sound b k f q (ap none_hold (opens-same d) ∙ h)

      taken : (o : Option CForm) → slice_get b.waiting k ≡ o → made_case vs b k o ≡ opens bs → B b ≡ false
      taken None q d = absurd (cc)
      taken (Some f) q d = chosen f (is_either f) q d
  made_by-sound b (Node.Split zero k) bs i e h = absurd (cc)
  made_by-sound b (Node.Split (suc v) k) bs i e h = parted (nat_lt v (length vs)) e
    where
      parted : (t : Bool) → cond t (opens (added b (at_most v k) ∷ added b (at_least v (k +ℤ pos 1)) ∷ []))
          (fails Code.NoSuchVariable) ≡ opens bs → B b ≡ false
      parted false d = absurd (cc)
      parted true d = split-sound b v k (ap none_hold (opens-same d) ∙ h)
  made_by-sound b (Node.Sum ps) bs i e h = sum-sound b ps (all_pairs vs b.facts ps) refl bs e
  made_by-sound b (Node.Round d ps) bs i e h = round-sound b d ps (all_pairs vs b.facts ps) refl bs e h
  made_by-sound b (Node.Quot k) bs i e h = absurd i
  made_by-sound b (Node.Share c ps) bs i e h = share-sound b (stated vs c ps) bs e h

-- A walk along the nodes of a tree.
pub walk-tree : (vs : List Variable) (t : CertTree) (levels : ℕ) (b : Branch) (ns : List Node) (ps : List OpenBranch)
    (at : ℕ) →
    Refutes vs levels b t → walk vs (nodes_of t ++ ns) (allowing levels b ∷ ps) at ≡ walk vs ns ps
    (at + length (nodes_of t))
walk-tree vs (two_below n e t u) levels b ns ps at r =
    ap (after (λ qs. walk vs ((nodes_of t ++ nodes_of u) ++ ns) qs (suc at)) levels ps at) r.2
    ∙ ap (λ x. walk vs x (allowing (levels - 1) r.0 ∷ allowing (levels - 1) r.1 ∷ ps) (suc at))
    (append_assoc (nodes_of t) (nodes_of u) ns)
    ∙ walk-tree vs t (levels - 1) r.0 (nodes_of u ++ ns) (allowing (levels - 1) r.1 ∷ ps) (suc at) r.3
    ∙ walk-tree vs u (levels - 1) r.1 ns ps (suc at + length (nodes_of t)) r.4
    ∙ ap (walk vs ns ps) (let l = length-append (nodes_of t) (nodes_of u) in omega (arith, l))
walk-tree vs (leaf n e) levels b ns ps at r =
    ap (after (λ qs. walk vs ns qs (suc at)) levels ps at) r ∙ ap (walk vs ns ps) (omega arith)
walk-tree vs (one_below n e t) levels b ns ps at r =
    ap (after (λ qs. walk vs (nodes_of t ++ ns) qs (suc at)) levels ps at) r.1
    ∙ walk-tree vs t (levels - 1) r.0 ns ps (suc at) r.2
    ∙ ap (walk vs ns ps) (omega arith)

-- Where there is no branch, no node is looked at.
walk-none : (vs : List Variable) (ns : List Node) (at : ℕ) → walk vs ns [] at ≡ Ok []
walk-none vs [] at = refl
walk-none vs (n ∷ ns) at = refl

appends-after : (vs : List Variable) (ns ms : List Node) (levels at : ℕ) (ps : List OpenBranch) (m : NodeEffect) →
    ((qs : List OpenBranch) → walk vs (ns ++ ms) qs (suc at) ≡
    go_on (walk vs ns qs (suc at)) (λ rs. walk vs ms rs (suc at + length ns))) →
    after (λ qs. walk vs (ns ++ ms) qs (suc at)) levels ps at m ≡
    go_on (after (λ qs. walk vs ns qs (suc at)) levels ps at m) (λ rs. walk vs ms rs (suc at + length ns))
appends-after vs ns ms levels at ps (fails c) ih = refl
appends-after vs ns ms levels at ps (opens bs) ih = ih (pending (levels - 1) bs ++ ps)

-- a walk can be made in parts
pub walk-appends : WalkAppends
walk-appends vs [] ms ps at = ap (walk vs ms ps) (omega arith)
walk-appends vs (n ∷ ns) ms [] at = sym (walk-none vs ms (at + length (n ∷ ns)))
walk-appends vs (n ∷ ns) ms (p ∷ ps) at =
    let count : suc at + length ns ≡ at + length (n ∷ ns) = omega arith in
    appends-after vs ns ms p.levels at ps (made vs p n) (λ qs. walk-appends vs ns ms qs (suc at))
    ∙ ap (λ k. go_on (walk vs (n ∷ ns) (p ∷ ps) at) (λ rs. walk vs ms rs k)) count

-- A sum keeps its length.
times-size : (f : Fact) (m : ℤ) (a l : Line) (o : Option Line) → add_times m f a ≡ o → or_too_big o ≡ Ok l →
    length l.factors ≡ length a.factors
times-size f m a l None e d = cc
times-size f m a l (Some k) e d = let same : k ≡ l = cc in (add_times-value m f a l a.factors refl (e ∙ ap Some same)).1

signed-size : (b : Bool) (f : Fact) (m : ℤ) (a l : Line) →
    cond b (or_too_big (add_times m f a)) (Err Code.BadSum) ≡ Ok l → length l.factors ≡ length a.factors
signed-size true f m a l e = times-size f m a l (add_times m f a) refl e
signed-size false f m a l e = cc

add_pair-size : (m : ℤ) (o : Option Fact) (a l : Line) → add_pair m o a ≡ Ok l → length l.factors ≡ length a.factors
add_pair-size m None a l e = cc
add_pair-size m (Some f) a l e = signed-size (int_le (pos 0) m) f m a l e

err-stays : (facts : List Fact) (c : Code) (ps : List (ℤ × ℕ)) → sum_pairs facts (Err c) ps ≡ Err c
err-stays facts c [] = refl
err-stays facts c (p ∷ ps) = err-stays facts c ps

size-next : (facts : List Fact) (ps : List (ℤ × ℕ)) (p : ℤ × ℕ) (a l : Line) (r : Result Line Code) →
    ((a l : Line) → sum_pairs facts (Ok a) ps ≡ Ok l → length l.factors ≡ length a.factors) →
    add_pair p.0 (numbered facts p.1) a ≡ r → sum_pairs facts r ps ≡ Ok l → length l.factors ≡ length a.factors
size-next facts ps p a l (Err c) ih q e = let x = err-stays facts c ps in cc
size-next facts ps p a l (Ok m) ih q e = ih m l e ∙ add_pair-size p.0 (numbered facts p.1) a m q

pairs-size : (facts : List Fact) (ps : List (ℤ × ℕ)) (a l : Line) → sum_pairs facts (Ok a) ps ≡ Ok l →
    length l.factors ≡ length a.factors
pairs-size facts [] a l e = let same : a ≡ l = cc in ap (λ (x : Line). length x.factors) (sym same)
pairs-size facts (p ∷ ps) a l e =
    size-next facts ps p a l (add_pair p.0 (numbered facts p.1) a) (pairs-size facts ps) refl e

pub total-size : (vs : List Variable) (facts : List Fact) (ps : List (ℤ × ℕ)) (a l : Line) → a ≡ no_sum vs →
    sum_pairs facts (Ok a) ps ≡ Ok l → length l.factors ≡ length vs
total-size vs facts ps a l n e = pairs-size facts ps a l e ∙ ap (λ (x : Line). length x.factors) n ∙ length-zeros vs
