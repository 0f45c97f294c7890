-- Settling keeps the shapes: what it adds asks for as many cases and quotients, and opens as many leaves, as the
-- formula.
use Rattle.std.proofs.Common.{◌≡◌, ℕ, suc, ◌+◌, ◌*◌, ◌≤◌, max, ℤ, pos, negsuc, Bool, true, false, cond, ◌&&◌, ◌||◌}
use Rattle.std.proofs.Common.{Option, Some, None, List, [], ◌∷◌, ◌++◌, mul-le-mul, arith, refl, sym, ap, subst, ◌∙◌}
use Rattle.std.specs.List.{list_all}
use Rattle.std.proofs.lemmas.List.Folds.{list_all-append}
use Rattle.core_terms.specs.declared.trees.CTerm.{CTerm, roll-CTerm}
use Rattle.core_terms.specs.declared.trees.CTerm.TheVariants.{Const, Slot, Param, Add, Sub, Scale, Ite, Div, Mod}
use Rattle.core_terms.specs.declared.trees.CTerm.TheVariants.{rolls-Const, rolls-Slot, rolls-Param, rolls-Add}
use Rattle.core_terms.specs.declared.trees.CTerm.TheVariants.{rolls-Sub, rolls-Scale, rolls-Ite, rolls-Div, rolls-Mod}
use Rattle.core_terms.specs.declared.trees.CForm.{CForm, roll-CForm, out-CForm, ind-CForm, fold_out-CForm}
use Rattle.core_terms.specs.declared.trees.CForm.{out-roll-CForm}
use Rattle.core_terms.specs.declared.trees.CForm.TheVariants.{Top, Bottom, AtLeast, Zero, Not, And, Or, rolls-Top}
use Rattle.core_terms.specs.declared.trees.CForm.TheVariants.{rolls-Bottom, rolls-AtLeast, rolls-Zero, rolls-Not}
use Rattle.core_terms.specs.declared.trees.CForm.TheVariants.{rolls-And, rolls-Or}
use Rattle.core_terms.specs.declared.trees.CForm.TheOpen.{CTerm-F, CForm-F}
use Rattle.core_terms.specs.declared.trees.CForm.TheFolds.{map-CForm, map-CTerm}
use Rattle.obligations.specs.declared.branches.Branch.{Branch}
use Rattle.obligations.specs.declared.branches.Variable.{Variable}
use Rattle.obligations.specs.declared.branches.Choice.{Choice}
use Rattle.obligations.specs.LinearForms.{linear, negated}
use Rattle.obligations.specs.Settling.{joined, nothing, false_fact, one_fact, two_facts, one_waiting, first_ite}
use Rattle.obligations.specs.Settling.{first_choice, choice_form, least_adds, zero_adds, unequal_adds, below_zero}
use Rattle.obligations.specs.Settling.{has_quotient, quotient_step, no_mark, outcome, settled, refused, sides_in, sides}
use Rattle.obligations.specs.Quotients.{is_either_in, is_either}
use Rattle.obligations.specs.Shapes.{Shape, plain, both, either, apart, divided, Shapes, term_shape_step}
use Rattle.obligations.specs.Shapes.{form_shape_step, term_shape, shapes, cases_of, leaves_of, quotients_of}
use Rattle.obligations.proofs.SettledKeeps.{choice_keeps, Rows, settled_keeps}
use Rattle.obligations.proofs.SettlingLaws.{quotient-Const, quotient-Slot, quotient-Param, quotient-Add, quotient-Sub}
use Rattle.obligations.proofs.SettlingLaws.{quotient-Scale, quotient-Div, quotient-Mod, term_fold}
use Rattle.obligations.proofs.ShapeLaws.{shape-Const, shape-Slot, shape-Param, shape-Add, shape-Sub, shape-Scale}
use Rattle.obligations.proofs.ShapeLaws.{shape-Ite, shape-Div, shape-Mod, shape-Top, shape-Bottom, shape-AtLeast}
use Rattle.obligations.proofs.ShapeLaws.{shape-Zero, shape-Not, shape-And, shape-Or}
use Rattle.search_tree.specs.Choices.{can_wait_in, can_wait}

abbrev T : CTerm → Shape
T = term_shape

abbrev S : CForm → Shapes
S = shapes

abbrev Q : CTerm → Bool
Q = has_quotient

-- A term with a choice, and the two terms that it chooses between.
record ChoiceShape (t : CTerm) (c : Choice) : Type 0 where
  cases : (T t).cases ≡ 1 + max ((S c.when).yes.cases + (T c.yes).cases) ((S c.when).no.cases + (T c.no).cases)
  leaves : (T t).leaves ≡ (S c.when).yes.leaves * (T c.yes).leaves + (S c.when).no.leaves * (T c.no).leaves
  quotients : (T t).quotients ≡ max ((S c.when).yes.quotients + (T c.yes).quotients)
      ((S c.when).no.quotients + (T c.no).quotients)

-- A term without a choice.
record FlatShape (t : CTerm) : Type 0 where
  leaves : (T t).leaves ≡ 1
  simple : Q t ≡ false → T t ≡ plain

abbrev Shaped : CTerm → Option Choice → Type 0
Shaped t None = FlatShape t
Shaped t (Some c) = ChoiceShape t c

simple-shaped : (t : CTerm) → T t ≡ plain → FlatShape t
simple-shaped t e = record { leaves = ap (λ (x : Shape). x.leaves) e; simple = λ h. e }

first-false : (a b : Bool) → (a || b) ≡ false → a ≡ false
first-false true b e = cc
first-false false b e = refl

second-false : (a b : Bool) → (a || b) ≡ false → b ≡ false
second-false true b e = cc
second-false false b e = e

-- a sum or difference, whose shape is that of both
module _ (node : CTerm → CTerm → CTerm) (is : (a b : CTerm) → T (node a b) ≡ both (T a) (T b))
    (has : (a b : CTerm) → Q (node a b) ≡ (Q a || Q b)) where
  pair-cases : (a b : CTerm) → (T (node a b)).cases ≡ (T a).cases + (T b).cases
  pair-cases a b = ap (λ (x : Shape). x.cases) (is a b)

  pair-leaves : (a b : CTerm) → (T (node a b)).leaves ≡ (T a).leaves * (T b).leaves
  pair-leaves a b = ap (λ (x : Shape). x.leaves) (is a b)

  pair-quotients : (a b : CTerm) → (T (node a b)).quotients ≡ (T a).quotients + (T b).quotients
  pair-quotients a b = ap (λ (x : Shape). x.quotients) (is a b)

  pair-shaped : (a b : CTerm) (m n : Option Choice) → Shaped a m → Shaped b n →
      Shaped (node a b) (first_choice (λ x. node x b) (λ y. node a y) m n)
  pair-shaped a b None None p q = record {
    leaves = pair-leaves a b ∙ ap (λ n. n * (T b).leaves) p.leaves ∙ ap (λ n. 1 * n) q.leaves;
    simple = λ e.
        is a b ∙ ap (λ x. both x (T b)) (p.simple (first-false (Q a) (Q b) (sym (has a b) ∙ e)))
        ∙ ap (λ x. both plain x) (q.simple (second-false (Q a) (Q b) (sym (has a b) ∙ e)));
  }
  pair-shaped a b (Some d) n p q =
      let t0 = pair-cases a b in let y0 = pair-cases d.yes b in let z0 = pair-cases d.no b in
      let t1 = pair-leaves a b in
      let t2 = pair-quotients a b in let y2 = pair-quotients d.yes b in let z2 = pair-quotients d.no b in
      let r0 = p.cases in let r2 = p.quotients in
      let r1 : (T a).leaves * (T b).leaves ≡ ((S d.when).yes.leaves * (T d.yes).leaves + (S d.when).no.leaves *
      (T d.no).leaves) * (T b).leaves = ap (λ n. n * (T b).leaves) p.leaves in
      let y1 : (S d.when).yes.leaves * (T (node d.yes b)).leaves ≡ (S d.when).yes.leaves *
      ((T d.yes).leaves * (T b).leaves) = ap (λ n. (S d.when).yes.leaves * n) (pair-leaves d.yes b) in
      let z1 : (S d.when).no.leaves * (T (node d.no b)).leaves ≡ (S d.when).no.leaves *
      ((T d.no).leaves * (T b).leaves) = ap (λ n. (S d.when).no.leaves * n) (pair-leaves d.no b) in
      record {
        cases = omega (arith, t0, y0, z0, r0);
        leaves = omega (arith, t1, r1, y1, z1);
        quotients = omega (arith, t2, y2, z2, r2);
      }
  pair-shaped a b None (Some d) p q =
      let t0 = pair-cases a b in let y0 = pair-cases a d.yes in let z0 = pair-cases a d.no in
      let t2 = pair-quotients a b in let y2 = pair-quotients a d.yes in let z2 = pair-quotients a d.no in
      let r0 = q.cases in let r1 = q.leaves in let r2 = q.quotients in
      let one : (c : CTerm) → (T (node a c)).leaves ≡ 1 * (T c).leaves = λ c. pair-leaves a c ∙ ap
      (λ n. n * (T c).leaves) p.leaves in
      let t1 = one b in
      let y1 : (S d.when).yes.leaves * (T (node a d.yes)).leaves ≡ (S d.when).yes.leaves * (1 * (T d.yes).leaves) = ap
      (λ n. (S d.when).yes.leaves * n) (one d.yes) in
      let z1 : (S d.when).no.leaves * (T (node a d.no)).leaves ≡ (S d.when).no.leaves * (1 * (T d.no).leaves) = ap
      (λ n. (S d.when).no.leaves * n) (one d.no) in
      record {
        cases = omega (arith, t0, y0, z0, r0);
        leaves = omega (arith, t1, r1, y1, z1);
        quotients = omega (arith, t2, y2, z2, r2);
      }

-- a multiple, whose shape is the term's
scale-shaped : (k : ℤ) (a : CTerm) (m : Option Choice) → Shaped a m →
    Shaped (Scale k a) (first_choice (λ x. Scale k x) (λ x. Scale k x) m None)
scale-shaped k a None p = record {
  leaves = ap (λ (x : Shape). x.leaves) (shape-Scale k a) ∙ p.leaves;
  simple = λ e. shape-Scale k a ∙ p.simple (sym (quotient-Scale k a) ∙ e);
}
scale-shaped k a (Some d) p =
    let t = shape-Scale k a in let y = shape-Scale k d.yes in let z = shape-Scale k d.no in
    let t0 = ap (λ (x : Shape). x.cases) t in let y0 = ap (λ (x : Shape). x.cases) y in
    let z0 = ap (λ (x : Shape). x.cases) z in
    let t1 = ap (λ (x : Shape). x.leaves) t in
    let y1 = ap (λ (x : Shape). (S d.when).yes.leaves * x.leaves) y in
    let z1 = ap (λ (x : Shape). (S d.when).no.leaves * x.leaves) z in
    let t2 = ap (λ (x : Shape). x.quotients) t in let y2 = ap (λ (x : Shape). x.quotients) y in
    let z2 = ap (λ (x : Shape). x.quotients) z in
    let r0 = p.cases in let r1 = p.leaves in let r2 = p.quotients in
    record {
      cases = omega (arith, t0, y0, z0, r0);
      leaves = omega (arith, t1, y1, z1, r1);
      quotients = omega (arith, t2, y2, z2, r2);
    }

-- a quotient or a remainder
module _ (node : CTerm → CTerm) (is : (a : CTerm) → T (node a) ≡ divided (T a))
    (has : (a : CTerm) → Q (node a) ≡ true) where
  divided-shaped : (a : CTerm) (m : Option Choice) → Shaped a m → Shaped (node a) (first_choice node node m None)
  divided-shaped a None p = record {
    leaves = ap (λ (x : Shape). x.leaves) (is a) ∙ p.leaves;
    simple = λ e. let h = has a in cc;
  }
  divided-shaped a (Some d) p =
      let t0 = ap (λ (x : Shape). x.cases) (is a) in let y0 = ap (λ (x : Shape). x.cases) (is d.yes) in
      let z0 = ap (λ (x : Shape). x.cases) (is d.no) in
      let t1 = ap (λ (x : Shape). x.leaves) (is a) in
      let y1 = ap (λ (x : Shape). (S d.when).yes.leaves * x.leaves) (is d.yes) in
      let z1 = ap (λ (x : Shape). (S d.when).no.leaves * x.leaves) (is d.no) in
      let t2 = ap (λ (x : Shape). x.quotients) (is a) in let y2 = ap (λ (x : Shape). x.quotients) (is d.yes) in
      let z2 = ap (λ (x : Shape). x.quotients) (is d.no) in
      let r0 = p.cases in let r1 = p.leaves in let r2 = p.quotients in
      record {
        cases = omega (arith, t0, y0, z0, r0);
        leaves = omega (arith, t1, y1, z1, r1);
        quotients = omega (arith, t2, y2, z2, r2);
      }

ite-shaped : (f : CForm) (a b : CTerm) → ChoiceShape (Ite f a b) (record { when = f; yes = a; no = b })
ite-shaped f a b = record {
  cases = ap (λ (x : Shape). x.cases) (shape-Ite f a b);
  leaves = ap (λ (x : Shape). x.leaves) (shape-Ite f a b);
  quotients = ap (λ (x : Shape). x.quotients) (shape-Ite f a b);
}

term-shaped : (t : CTerm) → Shaped t (first_ite t)
term-shaped = choice_keeps Shaped (record {
  of_const = λ c. simple-shaped (Const c) (shape-Const c);
  of_slot = λ n. simple-shaped (Slot n) (shape-Slot n);
  of_param = λ n. simple-shaped (Param n) (shape-Param n);
  of_add = pair-shaped Add shape-Add quotient-Add;
  of_sub = pair-shaped Sub shape-Sub quotient-Sub;
  of_scale = scale-shaped;
  of_div = λ a k. divided-shaped (λ x. Div x k) (λ x. shape-Div x k) (λ x. quotient-Div x k) a;
  of_mod = λ a k. divided-shaped (λ x. Mod x k) (λ x. shape-Mod x k) (λ x. quotient-Mod x k) a;
  of_ite = ite-shaped;
})

-- A term with a quotient asks for one, and for its cases.
pub record AsksQuotient (t : CTerm) : Type 0 where
  pub cases : 3 ≤ (T t).cases
  pub quotients : 1 ≤ (T t).quotients

abbrev Asks : CTerm → Option Choice → Type 0
Asks t m = Q t ≡ true → AsksQuotient t

asks-none : (t : CTerm) → Q t ≡ false → Q t ≡ true → AsksQuotient t
asks-none t e h = absurd cc

asks-divided : (t a : CTerm) → T t ≡ divided (T a) → AsksQuotient t
asks-divided t a e = let c = ap (λ (x : Shape). x.cases) e in let q = ap (λ (x : Shape). x.quotients) e in record {
  cases = omega (arith, c);
  quotients = omega (arith, q);
}

asks-either : (t a b : CTerm) → T t ≡ both (T a) (T b) → Asks a None → Asks b None → (x : Bool) → Q a ≡ x →
    (x || Q b) ≡ true → AsksQuotient t
asks-either t a b e p q true h k =
    let c = ap (λ (x : Shape). x.cases) e in let d = ap (λ (x : Shape). x.quotients) e in
    let r = p h in let r0 = r.cases in let r1 = r.quotients in
    record { cases = omega (arith, c, r0); quotients = omega (arith, d, r1) }
asks-either t a b e p q false h k =
    let c = ap (λ (x : Shape). x.cases) e in let d = ap (λ (x : Shape). x.quotients) e in
    let r = q k in let r0 = r.cases in let r1 = r.quotients in
    record { cases = omega (arith, c, r0); quotients = omega (arith, d, r1) }

asks-scale : (k : ℤ) (a : CTerm) → Asks a None → Asks (Scale k a) None
asks-scale k a p h =
    let r = p (sym (quotient-Scale k a) ∙ h) in let r0 = r.cases in let r1 = r.quotients in
    let c = ap (λ (x : Shape). x.cases) (shape-Scale k a) in
    let d = ap (λ (x : Shape). x.quotients) (shape-Scale k a) in
    record { cases = omega (arith, c, r0); quotients = omega (arith, d, r1) }

quotient-Ite : (c : CForm) (a b : CTerm) → Q (Ite c a b) ≡ false
quotient-Ite c a b = term_fold no_mark quotient_step (CTerm-F.Ite c a b) (Ite c a b) (rolls-Ite c a b)

pub asks-quotient : (t : CTerm) → Q t ≡ true → AsksQuotient t
asks-quotient = choice_keeps Asks (record {
  of_const = λ c. asks-none (Const c) (quotient-Const c);
  of_slot = λ n. asks-none (Slot n) (quotient-Slot n);
  of_param = λ n. asks-none (Param n) (quotient-Param n);
  of_add = λ a b m n p q h. asks-either (Add a b) a b (shape-Add a b) p q (Q a) refl (sym (quotient-Add a b) ∙ h);
  of_sub = λ a b m n p q h. asks-either (Sub a b) a b (shape-Sub a b) p q (Q a) refl (sym (quotient-Sub a b) ∙ h);
  of_scale = λ k a m p. asks-scale k a p;
  of_div = λ a k m p h. asks-divided (Div a k) a (shape-Div a k);
  of_mod = λ a k m p h. asks-divided (Mod a k) a (shape-Mod a k);
  of_ite = λ c a b. asks-none (Ite c a b) (quotient-Ite c a b);
})

-- What waiting formulas ask for.
pub cases-append : (xs ys : List CForm) → cases_of (xs ++ ys) ≡ cases_of xs + cases_of ys
cases-append [] ys = omega arith
cases-append (x ∷ xs) ys = let ih = cases-append xs ys in omega (arith, ih)

pub quotients-append : (xs ys : List CForm) → quotients_of (xs ++ ys) ≡ quotients_of xs + quotients_of ys
quotients-append [] ys = omega arith
quotients-append (x ∷ xs) ys = let ih = quotients-append xs ys in omega (arith, ih)

pub leaves-append : (xs ys : List CForm) → leaves_of (xs ++ ys) ≡ leaves_of xs * leaves_of ys
leaves-append [] ys = omega arith
leaves-append (x ∷ xs) ys =
    let ih : (S x).yes.leaves * leaves_of (xs ++ ys) ≡ (S x).yes.leaves * (leaves_of xs * leaves_of ys) = ap
    (λ n. (S x).yes.leaves * n) (leaves-append xs ys) in
    omega (arith, ih)

-- an addition of this shape
record Adds (b : Branch) (s : Shape) : Type 0 where
  cases : cases_of b.waiting ≡ s.cases
  leaves : leaves_of b.waiting ≡ s.leaves
  quotients : quotients_of b.waiting ≡ s.quotients
  waits : list_all can_wait b.waiting ≡ true

-- a branch that asks for more by this shape
pub record More (c b : Branch) (s : Shape) : Type 0 where
  pub cases : cases_of c.waiting ≡ cases_of b.waiting + s.cases
  pub leaves : leaves_of c.waiting ≡ leaves_of b.waiting * s.leaves
  pub quotients : quotients_of c.waiting ≡ quotients_of b.waiting + s.quotients
  pub waits : list_all can_wait b.waiting ≡ true → list_all can_wait c.waiting ≡ true

joined-waits : (b x : Branch) → list_all can_wait b.waiting ≡ true → list_all can_wait x.waiting ≡ true →
    list_all can_wait (joined b x).waiting ≡ true
joined-waits b x h k =
    list_all-append can_wait b.waiting x.waiting ∙ ap (λ z. z && list_all can_wait x.waiting) h ∙ k

joined-more : (b x : Branch) (s : Shape) → Adds x s → More (joined b x) b s
joined-more b x s a = record {
  cases = cases-append b.waiting x.waiting ∙ ap (λ n. cases_of b.waiting + n) a.cases;
  leaves = leaves-append b.waiting x.waiting ∙ ap (λ n. leaves_of b.waiting * n) a.leaves;
  quotients = quotients-append b.waiting x.waiting ∙ ap (λ n. quotients_of b.waiting + n) a.quotients;
  waits = λ h. joined-waits b x h a.waits;
}

joined-adds : (a b : Branch) (s t : Shape) → Adds a s → Adds b t → Adds (joined a b) (both s t)
joined-adds a b s t p q = record {
  cases = cases-append a.waiting b.waiting ∙ ap (λ n. n + cases_of b.waiting) p.cases ∙ ap (λ n. s.cases + n) q.cases;
  leaves = leaves-append a.waiting b.waiting ∙ ap (λ n. n * leaves_of b.waiting) p.leaves ∙ ap (λ n. s.leaves * n)
      q.leaves;
  quotients = quotients-append a.waiting b.waiting ∙ ap (λ n. n + quotients_of b.waiting) p.quotients ∙ ap
      (λ n. s.quotients + n) q.quotients;
  waits = joined-waits a b p.waits q.waits;
}

shaped : (b : Branch) (s t : Shape) → s ≡ t → Adds b t → Adds b s
shaped b s t e a = subst (Adds b) (sym e) a

facts-add : (b : Branch) (s : Shape) → b.waiting ≡ [] → s ≡ plain → Adds b s
facts-add b s e p = record {
  cases = ap cases_of e ∙ sym (ap (λ (x : Shape). x.cases) p);
  leaves = ap leaves_of e ∙ sym (ap (λ (x : Shape). x.leaves) p);
  quotients = ap quotients_of e ∙ sym (ap (λ (x : Shape). x.quotients) p);
  waits = ap (list_all can_wait) e;
}

-- one formula that waits
one-adds : (f : CForm) (s : Shape) → can_wait f ≡ true → (S f).yes ≡ s → Adds (one_waiting f) s
one-adds f s w e =
    let c = ap (λ (x : Shape). x.cases) e in let l = ap (λ (x : Shape). x.leaves) e in
    let q = ap (λ (x : Shape). x.quotients) e in
    record {
      cases = omega (arith, c);
      leaves = omega (arith, l);
      quotients = omega (arith, q);
      waits = ap (λ z. z && true) w;
    }

or-waits : (f g : CForm) → can_wait (Or f g) ≡ true
or-waits f g =
    ap (λ z. can_wait_in (out-CForm z)) (sym (rolls-Or f g)) ∙ ap can_wait_in (out-roll-CForm (CForm-F.Or f g))

least-waits : (t : CTerm) → Q t ≡ true → can_wait (AtLeast t) ≡ true
least-waits t h =
    ap (λ z. can_wait_in (out-CForm z)) (sym (rolls-AtLeast t))
    ∙ ap can_wait_in (out-roll-CForm (CForm-F.AtLeast t)) ∙ h

zero-waits : (t : CTerm) → Q t ≡ true → can_wait (Zero t) ≡ true
zero-waits t h =
    ap (λ z. can_wait_in (out-CForm z)) (sym (rolls-Zero t)) ∙ ap can_wait_in (out-roll-CForm (CForm-F.Zero t)) ∙ h

shape-of : (s t : Shape) → s.cases ≡ t.cases → s.leaves ≡ t.leaves → s.quotients ≡ t.quotients → s ≡ t
shape-of s t c l q =
    ap (λ n. record { cases = n; leaves = s.leaves; quotients = s.quotients }) c
    ∙ ap (λ n. record { cases = t.cases; leaves = n; quotients = s.quotients }) l
    ∙ ap (λ n. record { cases = t.cases; leaves = t.leaves; quotients = n }) q

-- the waiting formula of a choice
choice-adds : (g : CTerm → CForm) (c : Choice) (u v s : Shape) → (S (g c.yes)).yes ≡ u → (S (g c.no)).yes ≡ v →
    s ≡ either (both (S c.when).yes u) (both (S c.when).no v) → Adds (one_waiting (choice_form g c)) s
choice-adds g c u v s p q m =
    let one : (S (And c.when (g c.yes))).yes ≡ both (S c.when).yes u = ap (λ (x : Shapes). x.yes)
    (shape-And c.when (g c.yes)) ∙ ap (λ x. both (S c.when).yes x) p in
    let two : (S (And (Not c.when) (g c.no))).yes ≡ both (S c.when).no v =
    ap (λ (x : Shapes). x.yes) (shape-And (Not c.when) (g c.no)) ∙ ap (λ x. both (S (Not c.when)).yes x) q ∙ ap
    (λ (x : Shapes). both x.yes v) (shape-Not c.when) in
    let whole : (S (choice_form g c)).yes ≡ either (both (S c.when).yes u) (both (S c.when).no v) =
    ap (λ (x : Shapes). x.yes) (shape-Or (And c.when (g c.yes)) (And (Not c.when) (g c.no))) ∙ ap
    (λ x. either x (S (And (Not c.when) (g c.no))).yes) one ∙ ap (λ x. either (both (S c.when).yes u) x) two in
    one-adds (choice_form g c) s (or-waits (And c.when (g c.yes)) (And (Not c.when) (g c.no))) (whole ∙ sym m)

choice-shape : (t : CTerm) (c : Choice) → ChoiceShape t c →
    T t ≡ either (both (S c.when).yes (T c.yes)) (both (S c.when).no (T c.no))
choice-shape t c r = shape-of _ _ r.cases r.leaves r.quotients

-- a term without a choice: its facts, or where it has a quotient, the formula that waits
flat-adds : (t : CTerm) (f : CForm) (a : Branch) (s : Shape) → a.waiting ≡ [] → s ≡ T t → (S f).yes ≡ s →
    FlatShape t → (Q t ≡ true → can_wait f ≡ true) → (q : Bool) → Q t ≡ q → Adds (cond q (one_waiting f) a) s
flat-adds t f a s none same is p waits true e = one-adds f s (waits e) is
flat-adds t f a s none same is p waits false e = facts-add a s none (same ∙ p.simple e)

least-adds : (vs : List Variable) (t : CTerm) (m : Option Choice) → Shaped t m → Adds (least_adds vs t m) (T t)
least-adds vs t None p =
    flat-adds t (AtLeast t) (one_fact (linear vs t)) (T t) refl refl (ap (λ (x : Shapes). x.yes) (shape-AtLeast t)) p
    (least-waits t) (Q t) refl
least-adds vs t (Some c) p =
    choice-adds AtLeast c (T c.yes) (T c.no) (T t) (ap (λ (x : Shapes). x.yes) (shape-AtLeast c.yes))
    (ap (λ (x : Shapes). x.yes) (shape-AtLeast c.no)) (choice-shape t c p)

zero-adds : (vs : List Variable) (t : CTerm) (m : Option Choice) → Shaped t m → Adds (zero_adds vs t m) (T t)
zero-adds vs t None p =
    flat-adds t (Zero t) (two_facts (linear vs t) (negated vs (linear vs t))) (T t) refl refl
    (ap (λ (x : Shapes). x.yes) (shape-Zero t)) p (zero-waits t) (Q t) refl
zero-adds vs t (Some c) p =
    choice-adds Zero c (T c.yes) (T c.no) (T t) (ap (λ (x : Shapes). x.yes) (shape-Zero c.yes))
    (ap (λ (x : Shapes). x.yes) (shape-Zero c.no)) (choice-shape t c p)

not-zero : (t : CTerm) → (S (Not (Zero t))).yes ≡ apart (T t)
not-zero t = ap (λ (x : Shapes). x.yes) (shape-Not (Zero t)) ∙ ap (λ (x : Shapes). x.no) (shape-Zero t)

both-plain : (s : Shape) → both s plain ≡ s
both-plain s = shape-of (both s plain) s (omega arith) (omega arith) (omega arith)

plain-both : (s : Shape) → both plain s ≡ s
plain-both s = shape-of (both plain s) s (omega arith) (omega arith) (omega arith)

apart-either : (s : Shape) → either s s ≡ apart s
apart-either s = shape-of (either s s) (apart s) (omega arith) (omega arith) (omega arith)

unequal-adds : (t : CTerm) (m : Option Choice) → Shaped t m → Adds (unequal_adds t m) (apart (T t))
unequal-adds t None p =
    let high : CForm = AtLeast (Sub t (Const (pos 1))) in
    let low : CForm = AtLeast (Sub (Const (negsuc 0)) t) in
    let one : (S high).yes ≡ T t =
    ap (λ (x : Shapes). x.yes) (shape-AtLeast (Sub t (Const (pos 1)))) ∙ shape-Sub t (Const (pos 1)) ∙ ap
    (λ x. both (T t) x) (shape-Const (pos 1)) ∙ both-plain (T t) in
    let two : (S low).yes ≡ T t =
    ap (λ (x : Shapes). x.yes) (shape-AtLeast (Sub (Const (negsuc 0)) t)) ∙ shape-Sub (Const (negsuc 0)) t ∙ ap
    (λ x. both x (T t)) (shape-Const (negsuc 0)) ∙ plain-both (T t) in
    one-adds (Or high low) (apart (T t)) (or-waits high low)
    (ap (λ (x : Shapes). x.yes) (shape-Or high low) ∙ ap (λ x. either x (S low).yes) one ∙ ap (λ x. either (T t) x) two
    ∙ apart-either (T t))
unequal-adds t (Some c) p =
    let r0 = p.cases in let r2 = p.quotients in
    let r1 : 2 * (T t).leaves ≡ 2 * ((S c.when).yes.leaves * (T c.yes).leaves + (S c.when).no.leaves *
    (T c.no).leaves) = ap (λ n. 2 * n) p.leaves in
    choice-adds (λ x. Not (Zero x)) c (apart (T c.yes)) (apart (T c.no)) (apart (T t)) (not-zero c.yes)
    (not-zero c.no) (shape-of _ _ (omega (arith, r0)) (omega (arith, r1)) (omega (arith, r2)))

below-shape : (t : CTerm) → T (below_zero t) ≡ T t
below-shape t =
    shape-Sub (Const (negsuc 0)) t ∙ ap (λ x. both x (T t)) (shape-Const (negsuc 0)) ∙ plain-both (T t)

module _ (vs : List Variable) where
  -- what a formula and its negation add
  record FormAdds (f : CForm) (a b : Branch) : Type 0 where
    yes : Adds a (S f).yes
    no : Adds b (S f).no

  or-adds : (f g : CForm) → Adds (one_waiting (Or f g)) (S (Or f g)).yes
  or-adds f g = one-adds (Or f g) (S (Or f g)).yes (or-waits f g) refl

  rows : Rows vs FormAdds
  rows = record {
    of_top = record {
      yes = facts-add nothing _ refl (ap (λ (x : Shapes). x.yes) shape-Top);
      no = facts-add false_fact _ refl (ap (λ (x : Shapes). x.no) shape-Top);
    };
    of_bottom = record {
      yes = facts-add false_fact _ refl (ap (λ (x : Shapes). x.yes) shape-Bottom);
      no = facts-add nothing _ refl (ap (λ (x : Shapes). x.no) shape-Bottom);
    };
    of_least = λ t. record {
      yes = shaped _ _ _ (ap (λ (x : Shapes). x.yes) (shape-AtLeast t))
          (least-adds vs t (first_ite t) (term-shaped t));
      no = shaped _ _ _ (ap (λ (x : Shapes). x.no) (shape-AtLeast t) ∙ sym (below-shape t))
          (least-adds vs (below_zero t) (first_ite (below_zero t)) (term-shaped (below_zero t)));
    };
    of_zero = λ t. record {
      yes = shaped _ _ _ (ap (λ (x : Shapes). x.yes) (shape-Zero t))
          (zero-adds vs t (first_ite t) (term-shaped t));
      no = shaped _ _ _ (ap (λ (x : Shapes). x.no) (shape-Zero t))
          (unequal-adds t (first_ite t) (term-shaped t));
    };
    of_not = λ f a b p. record {
      yes = shaped _ _ _ (ap (λ (x : Shapes). x.yes) (shape-Not f)) p.no;
      no = shaped _ _ _ (ap (λ (x : Shapes). x.no) (shape-Not f)) p.yes;
    };
    of_and = λ f g a b c d p q. record {
      yes = shaped _ _ _ (ap (λ (x : Shapes). x.yes) (shape-And f g)) (joined-adds a c _ _ p.yes q.yes);
      no = shaped _ _ _ (ap (λ (x : Shapes). x.no) (shape-And f g) ∙ sym (ap (λ (x : Shapes). x.yes)
          (shape-Or (Not f) (Not g)) ∙ ap (λ (x : Shapes). either x.yes (S (Not g)).yes) (shape-Not f) ∙ ap
          (λ (x : Shapes). either (S f).no x.yes) (shape-Not g))) (or-adds (Not f) (Not g));
    };
    of_or = λ f g a b c d p q. record {
      yes = or-adds f g;
      no = shaped _ _ _ (ap (λ (x : Shapes). x.no) (shape-Or f g)) (joined-adds b d _ _ p.no q.no);
    };
  }

  form-adds : (f : CForm) → FormAdds f (outcome vs f).yes (outcome vs f).no
  form-adds = settled_keeps vs FormAdds rows

pub settled-more : (vs : List Variable) (f : CForm) (b : Branch) → More (settled vs f b) b (shapes f).yes
settled-more vs f b = joined-more b (outcome vs f).yes (S f).yes (form-adds vs f).yes

pub refused-more : (vs : List Variable) (f : CForm) (b : Branch) → More (refused vs f b) b (shapes f).no
refused-more vs f b = joined-more b (outcome vs f).no (S f).no (form-adds vs f).no

-- the sides of an `Or`
pub record SideShapes (f a b : CForm) : Type 0 where
  pub first : suc (shapes a).yes.cases ≤ (shapes f).yes.cases
  pub second : suc (shapes b).yes.cases ≤ (shapes f).yes.cases
  pub leaves : (shapes f).yes.leaves ≡ (shapes a).yes.leaves + (shapes b).yes.leaves
  pub quotients : (shapes f).yes.quotients ≡ max (shapes a).yes.quotients (shapes b).yes.quotients

pub shapes-out : (f : CForm) (x : CForm-F CForm CTerm) → out-CForm f ≡ x →
    shapes f ≡ form_shape_step (map-CForm CForm CTerm Shapes Shape shapes term_shape x)
shapes-out f x e = fold_out-CForm Shapes Shape form_shape_step term_shape_step f ∙ ap
    (λ x. form_shape_step (map-CForm CForm CTerm Shapes Shape shapes term_shape x)) e

side-shapes_in : (f : CForm) (x : CForm-F CForm CTerm) → out-CForm f ≡ x → is_either_in x ≡ true →
    SideShapes f (sides_in f x).0 (sides_in f x).1
side-shapes_in f CForm-F.Top e h = absurd cc
side-shapes_in f CForm-F.Bottom e h = absurd cc
side-shapes_in f (CForm-F.AtLeast t) e h = absurd cc
side-shapes_in f (CForm-F.Zero t) e h = absurd cc
side-shapes_in f (CForm-F.Not g) e h = absurd cc
side-shapes_in f (CForm-F.And g k) e h = absurd cc
side-shapes_in f (CForm-F.Or g k) e h =
    let n = ap (λ (x : Shapes). x.yes) (shapes-out f (CForm-F.Or g k) e) in
    let c = ap (λ (x : Shape). x.cases) n in
    record {
      first = omega (arith, c);
      second = omega (arith, c);
      leaves = ap (λ (x : Shape). x.leaves) n;
      quotients = ap (λ (x : Shape). x.quotients) n;
    }

pub side-shapes : (f : CForm) → is_either f ≡ true → SideShapes f (sides f).0 (sides f).1
side-shapes f h = side-shapes_in f (out-CForm f) refl h

-- what waits asks for a case
some_in : (f : CForm) (x : CForm-F CForm CTerm) → out-CForm f ≡ x → can_wait_in x ≡ true → 1 ≤ (shapes f).yes.cases
some_in f CForm-F.Top e h = absurd cc
some_in f CForm-F.Bottom e h = absurd cc
some_in f (CForm-F.AtLeast t) e h =
    let q = ap (λ (x : Shapes). x.yes.cases) (shapes-out f (CForm-F.AtLeast t) e) in
    let a = (asks-quotient t h).cases in omega (arith, q, a)
some_in f (CForm-F.Zero t) e h =
    let q = ap (λ (x : Shapes). x.yes.cases) (shapes-out f (CForm-F.Zero t) e) in
    let a = (asks-quotient t h).cases in omega (arith, q, a)
some_in f (CForm-F.Not g) e h = absurd cc
some_in f (CForm-F.And g k) e h = absurd cc
some_in f (CForm-F.Or g k) e h =
    let q = ap (λ (x : Shapes). x.yes.cases) (shapes-out f (CForm-F.Or g k) e) in omega (arith, q)

pub waits-some : (f : CForm) → can_wait f ≡ true → 1 ≤ (shapes f).yes.cases
waits-some f h = some_in f (out-CForm f) refl h

-- Each formula has a leaf.
mul-some : (a b : ℕ) → 1 ≤ a → 1 ≤ b → 1 ≤ a * b
mul-some a b p q = mul-le-mul p q

some-of : (s t : Shape) → s ≡ t → 1 ≤ t.leaves → 1 ≤ s.leaves
some-of s t e h = subst (λ (x : Shape). 1 ≤ x.leaves) (sym e) h

record SomeForm (f : CForm) : Type 0 where
  yes : 1 ≤ (S f).yes.leaves
  no : 1 ≤ (S f).no.leaves

abbrev SomeTerm : CTerm → Type 0
SomeTerm t = 1 ≤ (T t).leaves

some-form : (f : CForm) (s : Shapes) → S f ≡ s → 1 ≤ s.yes.leaves → 1 ≤ s.no.leaves → SomeForm f
some-form f s e p q = record {
  yes = subst (λ (x : Shapes). 1 ≤ x.yes.leaves) (sym e) p;
  no = subst
      (λ (x : Shapes). 1 ≤ x.no.leaves) (sym e) q;
}

abbrev LeafyTerm : Type 0
LeafyTerm = (t : CTerm) × SomeTerm t

abbrev LeafyForm : Type 0
LeafyForm = (f : CForm) × SomeForm f

leafy_term : (y : CTerm-F LeafyForm LeafyTerm) → SomeTerm (roll-CTerm
    (map-CTerm LeafyForm LeafyTerm CForm CTerm (λ e. e.0) (λ e. e.0) y))
leafy_term (CTerm-F.Const c) = subst SomeTerm (sym (rolls-Const c))
    (some-of (T (Const c)) plain (shape-Const c) (omega arith))
leafy_term (CTerm-F.Slot n) = subst SomeTerm (sym (rolls-Slot n))
    (some-of (T (Slot n)) plain (shape-Slot n) (omega arith))
leafy_term (CTerm-F.Param n) = subst SomeTerm (sym (rolls-Param n))
    (some-of (T (Param n)) plain (shape-Param n) (omega arith))
leafy_term (CTerm-F.Add a b) = subst SomeTerm (sym (rolls-Add a.0 b.0))
    (some-of (T (Add a.0 b.0)) (both (T a.0) (T b.0)) (shape-Add a.0 b.0)
    (mul-some (T a.0).leaves (T b.0).leaves a.1 b.1))
leafy_term (CTerm-F.Sub a b) = subst SomeTerm (sym (rolls-Sub a.0 b.0))
    (some-of (T (Sub a.0 b.0)) (both (T a.0) (T b.0)) (shape-Sub a.0 b.0)
    (mul-some (T a.0).leaves (T b.0).leaves a.1 b.1))
leafy_term (CTerm-F.Scale k a) = subst SomeTerm (sym (rolls-Scale k a.0))
    (some-of (T (Scale k a.0)) (T a.0) (shape-Scale k a.0) a.1)
leafy_term (CTerm-F.Div a k) = subst SomeTerm (sym (rolls-Div a.0 k))
    (some-of (T (Div a.0 k)) (divided (T a.0)) (shape-Div a.0 k) a.1)
leafy_term (CTerm-F.Mod a k) = subst SomeTerm (sym (rolls-Mod a.0 k))
    (some-of (T (Mod a.0 k)) (divided (T a.0)) (shape-Mod a.0 k) a.1)
leafy_term (CTerm-F.Ite c a b) =
    let p = mul-some (S c.0).yes.leaves (T a.0).leaves c.1.yes a.1 in
    subst SomeTerm (sym (rolls-Ite c.0 a.0 b.0)) (some-of (T (Ite c.0 a.0 b.0))
    (either (both (S c.0).yes (T a.0)) (both (S c.0).no (T b.0))) (shape-Ite c.0 a.0 b.0) (omega (arith, p)))

leafy_form : (y : CForm-F LeafyForm LeafyTerm) → SomeForm (roll-CForm
    (map-CForm LeafyForm LeafyTerm CForm CTerm (λ e. e.0) (λ e. e.0) y))
leafy_form CForm-F.Top = subst SomeForm (sym rolls-Top) (some-form Top _ shape-Top (omega arith) (omega arith))
leafy_form CForm-F.Bottom = subst SomeForm (sym rolls-Bottom)
    (some-form Bottom _ shape-Bottom (omega arith) (omega arith))
leafy_form (CForm-F.AtLeast t) = subst SomeForm (sym (rolls-AtLeast t.0))
    (some-form (AtLeast t.0) _ (shape-AtLeast t.0) t.1 t.1)
leafy_form (CForm-F.Zero t) = let p = t.1 in subst SomeForm (sym (rolls-Zero t.0))
    (some-form (Zero t.0) _ (shape-Zero t.0) t.1 (omega (arith, p)))
leafy_form (CForm-F.Not f) = subst SomeForm (sym (rolls-Not f.0))
    (some-form (Not f.0) _ (shape-Not f.0) f.1.no f.1.yes)
leafy_form (CForm-F.And f g) = let p = f.1.no in subst SomeForm (sym (rolls-And f.0 g.0))
    (some-form (And f.0 g.0) _ (shape-And f.0 g.0) (mul-some (S f.0).yes.leaves (S g.0).yes.leaves f.1.yes g.1.yes)
    (omega (arith, p)))
leafy_form (CForm-F.Or f g) = let p = f.1.yes in subst SomeForm (sym (rolls-Or f.0 g.0))
    (some-form (Or f.0 g.0) _ (shape-Or f.0 g.0) (omega (arith, p))
    (mul-some (S f.0).no.leaves (S g.0).no.leaves f.1.no g.1.no))

some-shape : (f : CForm) → SomeForm f
some-shape f = ind-CForm SomeForm SomeTerm (λ x y e. subst (λ z. SomeForm (roll-CForm z)) e (leafy_form y))
    (λ x y e. subst (λ z. SomeTerm (roll-CTerm z)) e (leafy_term y)) f

pub leaves-of-some : (fs : List CForm) → 1 ≤ leaves_of fs
leaves-of-some [] = omega arith
leaves-of-some (f ∷ fs) = mul-some (S f).yes.leaves (leaves_of fs) (some-shape f).yes (leaves-of-some fs)

pub some-leaf : (t : CTerm) → 1 ≤ (T t).leaves
some-leaf t =
    let some = (some-shape (AtLeast t)).yes in let e = ap (λ (x : Shapes). x.yes.leaves) (shape-AtLeast t) in
    omega (arith, some, e)
