-- The shapes of terms and formulas, by their heads, and their leaves where these stop at a cap.
use Rattle.std.proofs.Common.{◌≡◌, ℕ, ◌+◌, ◌*◌, ◌^◌, ◌≤◌, min, max, ℤ, inl, inr, arith, refl, sym, ap, ◌∙◌}
use Rattle.std.proofs.Common.{mul-le-mul, Bool, true, false}
use Rattle.std.proofs.lemmas.Bool.{cases_lt}
use Rattle.core_terms.specs.declared.trees.CTerm.{CTerm}
use Rattle.core_terms.specs.declared.trees.CTerm.TheVariants.{Const, Slot, Param, Add, Sub, Scale, Ite, Div, Mod}
use Rattle.core_terms.specs.declared.trees.CTerm.TheVariants.{rolls-Const, rolls-Div, rolls-Mod}
use Rattle.core_terms.specs.declared.trees.CTerm.TheVariants.{rolls-Slot, rolls-Param, rolls-Add, rolls-Sub}
use Rattle.core_terms.specs.declared.trees.CTerm.TheVariants.{rolls-Scale, rolls-Ite}
use Rattle.core_terms.specs.declared.trees.CForm.{CForm}
use Rattle.core_terms.specs.declared.trees.CForm.TheVariants.{Top, Bottom, AtLeast, Zero, Not, And, Or, rolls-Top}
use Rattle.core_terms.specs.declared.trees.CForm.TheVariants.{rolls-Bottom, rolls-AtLeast, rolls-Zero, rolls-Not}
use Rattle.core_terms.specs.declared.trees.CForm.TheVariants.{rolls-And, rolls-Or}
use Rattle.core_terms.specs.declared.trees.CForm.TheOpen.{CTerm-F, CForm-F}
use Rattle.obligations.specs.Plain.{leaf_units}
use Rattle.obligations.specs.Shapes.{Shape, plain, both, either, apart, divided, Shapes, term_shape_step}
use Rattle.obligations.specs.Shapes.{form_shape_step}
use Rattle.obligations.specs.Shapes.{term_shape, shapes, count_of, count_of_case, count_of_quotient}
use Rattle.obligations.proofs.SettlingLaws.{term_fold, form_fold}
use Rattle.obligations.proofs.FoldLaws.{product-capped}

abbrev T : CTerm → Shape
T = term_shape

abbrev S : CForm → Shapes
S = shapes

pub shape-Const : (c : ℤ) → T (Const c) ≡ plain
shape-Const c = term_fold form_shape_step term_shape_step (CTerm-F.Const c) (Const c) (rolls-Const c)

pub shape-Slot : (n : ℕ) → T (Slot n) ≡ plain
shape-Slot n = term_fold form_shape_step term_shape_step (CTerm-F.Slot n) (Slot n) (rolls-Slot n)

pub shape-Param : (n : ℕ) → T (Param n) ≡ plain
shape-Param n = term_fold form_shape_step term_shape_step (CTerm-F.Param n) (Param n) (rolls-Param n)

pub shape-Add : (a b : CTerm) → T (Add a b) ≡ both (T a) (T b)
shape-Add a b = term_fold form_shape_step term_shape_step (CTerm-F.Add a b) (Add a b) (rolls-Add a b)

pub shape-Sub : (a b : CTerm) → T (Sub a b) ≡ both (T a) (T b)
shape-Sub a b = term_fold form_shape_step term_shape_step (CTerm-F.Sub a b) (Sub a b) (rolls-Sub a b)

pub shape-Scale : (k : ℤ) (a : CTerm) → T (Scale k a) ≡ T a
shape-Scale k a = term_fold form_shape_step term_shape_step (CTerm-F.Scale k a) (Scale k a) (rolls-Scale k a)

pub shape-Ite : (c : CForm) (a b : CTerm) → T (Ite c a b) ≡ either (both (S c).yes (T a)) (both (S c).no (T b))
shape-Ite c a b = term_fold form_shape_step term_shape_step (CTerm-F.Ite c a b) (Ite c a b) (rolls-Ite c a b)

pub shape-Div : (a : CTerm) (k : ℤ) → T (Div a k) ≡ divided (T a)
shape-Div a k = term_fold form_shape_step term_shape_step (CTerm-F.Div a k) (Div a k) (rolls-Div a k)

pub shape-Mod : (a : CTerm) (k : ℤ) → T (Mod a k) ≡ divided (T a)
shape-Mod a k = term_fold form_shape_step term_shape_step (CTerm-F.Mod a k) (Mod a k) (rolls-Mod a k)

pub shape-Top : S Top ≡ record { yes = plain; no = plain }
shape-Top = form_fold form_shape_step term_shape_step CForm-F.Top Top rolls-Top

pub shape-Bottom : S Bottom ≡ record { yes = plain; no = plain }
shape-Bottom = form_fold form_shape_step term_shape_step CForm-F.Bottom Bottom rolls-Bottom

pub shape-AtLeast : (t : CTerm) → S (AtLeast t) ≡ record { yes = T t; no = T t }
shape-AtLeast t = form_fold form_shape_step term_shape_step (CForm-F.AtLeast t) (AtLeast t) (rolls-AtLeast t)

pub shape-Zero : (t : CTerm) → S (Zero t) ≡ record { yes = T t; no = apart (T t) }
shape-Zero t = form_fold form_shape_step term_shape_step (CForm-F.Zero t) (Zero t) (rolls-Zero t)

pub shape-Not : (f : CForm) → S (Not f) ≡ record { yes = (S f).no; no = (S f).yes }
shape-Not f = form_fold form_shape_step term_shape_step (CForm-F.Not f) (Not f) (rolls-Not f)

pub shape-And : (f g : CForm) → S (And f g) ≡ record { yes = both (S f).yes (S g).yes; no = either (S f).no (S g).no }
shape-And f g = form_fold form_shape_step term_shape_step (CForm-F.And f g) (And f g) (rolls-And f g)

pub shape-Or : (f g : CForm) → S (Or f g) ≡ record { yes = either (S f).yes (S g).yes; no = both (S f).no (S g).no }
shape-Or f g = form_fold form_shape_step term_shape_step (CForm-F.Or f g) (Or f g) (rolls-Or f g)

-- What is counted of a shape, from what is counted of its parts.
pub count-plain : (w : Bool) → count_of w plain ≡ 0
count-plain true = refl
count-plain false = refl

pub count-both : (w : Bool) (a b : Shape) → count_of w (both a b) ≡ count_of w a + count_of w b
count-both true a b = refl
count-both false a b = refl

pub count-either : (w : Bool) (a b : Shape) →
    count_of w (either a b) ≡ count_of_case w + max (count_of w a) (count_of w b)
count-either true a b = refl
count-either false a b = omega arith

pub count-apart : (w : Bool) (a : Shape) → count_of w (apart a) ≡ count_of_case w + count_of w a
count-apart true a = refl
count-apart false a = omega arith

pub count-divided : (w : Bool) (a : Shape) → count_of w (divided a) ≡ count_of_quotient w + count_of w a
count-divided true a = refl
count-divided false a = refl

pub ruleset count_laws = (count-plain, count-both, count-either, count-apart, count-divided)

-- Leaves that stop at a cap, as the code meets them.
pub and-leaves : (stop : ℕ) (f g h p q : CForm) (x y z : ℕ) → f ≡ And g h → p ≡ g → q ≡ h →
    x ≡ min (S p).yes.leaves stop → y ≡ min (S q).yes.leaves stop → z ≡ min (x * y) stop →
    z ≡ min (S f).yes.leaves stop
and-leaves stop f g h p q x y z e b d m n o =
    product-capped stop (S g).yes.leaves (S h).yes.leaves x y z
    (m ∙ ap (λ k. min (S k).yes.leaves stop) b) (n ∙ ap (λ k. min (S k).yes.leaves stop) d) o
    ∙ sym (ap (λ k. min (S k).yes.leaves stop) e ∙ ap (λ (k : Shapes). min k.yes.leaves stop) (shape-And g h))

pub or-leaves : (stop : ℕ) (f g h p q : CForm) (x y z : ℕ) → f ≡ Or g h → p ≡ g → q ≡ h →
    x ≡ min (S p).no.leaves stop → y ≡ min (S q).no.leaves stop → z ≡ min (x * y) stop →
    z ≡ min (S f).no.leaves stop
or-leaves stop f g h p q x y z e b d m n o =
    product-capped stop (S g).no.leaves (S h).no.leaves x y z
    (m ∙ ap (λ k. min (S k).no.leaves stop) b) (n ∙ ap (λ k. min (S k).no.leaves stop) d) o
    ∙ sym (ap (λ k. min (S k).no.leaves stop) e ∙ ap (λ (k : Shapes). min k.no.leaves stop) (shape-Or g h))

module _ (stop : ℕ) (node : CTerm → CTerm → CTerm) (is : (a b : CTerm) → T (node a b) ≡ both (T a) (T b)) where
  pair-leaves : (t a b p q : CTerm) (x y z : ℕ) → t ≡ node a b → p ≡ a → q ≡ b →
      x ≡ min (T p).leaves stop → y ≡ min (T q).leaves stop → z ≡ min (x * y) stop → z ≡ min (T t).leaves stop
  pair-leaves t a b p q x y z e c d m n o =
      product-capped stop (T a).leaves (T b).leaves x y z
      (m ∙ ap (λ k. min (T k).leaves stop) c) (n ∙ ap (λ k. min (T k).leaves stop) d) o
      ∙ sym (ap (λ k. min (T k).leaves stop) e ∙ ap (λ (k : Shape). min k.leaves stop) (is a b))

pub sum-leaves : (stop : ℕ) (t a b p q : CTerm) (x y z : ℕ) → t ≡ Add a b → p ≡ a → q ≡ b →
    x ≡ min (T p).leaves stop → y ≡ min (T q).leaves stop → z ≡ min (x * y) stop → z ≡ min (T t).leaves stop
sum-leaves stop = pair-leaves stop Add shape-Add

pub difference-leaves : (stop : ℕ) (t a b p q : CTerm) (x y z : ℕ) → t ≡ Sub a b → p ≡ a → q ≡ b →
    x ≡ min (T p).leaves stop → y ≡ min (T q).leaves stop → z ≡ min (x * y) stop → z ≡ min (T t).leaves stop
difference-leaves stop = pair-leaves stop Sub shape-Sub

-- the leaves of either part of a choice
pub choice-leaves : (stop : ℕ) (t a b p q : CTerm) (c d : CForm) (u v x y m n z : ℕ) → t ≡ Ite c a b → d ≡ c → p ≡ a →
    q ≡ b → u ≡ min (S d).yes.leaves stop → v ≡ min (S d).no.leaves stop →
    x ≡ min (T p).leaves stop → y ≡ min (T q).leaves stop → m ≡ min (u * x) stop → n ≡ min (v * y) stop →
    z ≡ min (m + n) stop → z ≡ min (T t).leaves stop
choice-leaves stop t a b p q c d u v x y m n z e f g h i j k l r s all =
    let first = product-capped stop (S c).yes.leaves (T a).leaves u x m
    (i ∙ ap (λ r. min (S r).yes.leaves stop) f) (k ∙ ap (λ r. min (T r).leaves stop) g) r in
    let second = product-capped stop (S c).no.leaves (T b).leaves v y n
    (j ∙ ap (λ r. min (S r).no.leaves stop) f) (l ∙ ap (λ r. min (T r).leaves stop) h) s in
    let whole = ap (λ r. (T r).leaves) e ∙ ap (λ (r : Shape). r.leaves) (shape-Ite c a b) in
    omega (arith, first, second, all, whole)

-- the units of a leaf, by a number of quotients that stops at 2^63
pub units-capped : (n q p r : ℕ) → p ≡ min q (2 ^ 63) → r ≡ min ((2 * p + 1) * (n + p + 256)) (2 ^ 127) →
    r ≡ min (leaf_units n q) (2 ^ 127)
units-capped n q p r e h = elim (cases_lt q (2 ^ 63)) [
  | inl under ↦ let s : p ≡ q = omega (arith, e, under) in
      h ∙ ap (λ x. min ((2 * x + 1) * (n + x + 256)) (2 ^ 127)) s
  | inr over ↦
      let s : p ≡ 2 ^ 63 = omega (arith, e, over) in
      let one : 2 ^ 64 ≤ 2 * p + 1 = omega (arith, s) in
      let two : 2 ^ 63 ≤ n + p + 256 = omega (arith, s) in
      let low = mul-le-mul one two in
      let three : 2 ^ 64 ≤ 2 * q + 1 = omega (arith, over) in
      let four : 2 ^ 63 ≤ n + q + 256 = omega (arith, over) in
      let high = mul-le-mul three four in
      omega (arith, low, high, h)
]

pub ruleset unit_laws = units-capped
