-- Folding and replacing bring in no quotient.
use Rattle.std.proofs.Common.{◌≡◌, ℕ, zero, suc, ◌+◌, max, ℤ, pos, negsuc, Bool, true, false, cond, Option, Some, None}
use Rattle.std.proofs.Common.{List, refl, sym, ap, ◌∙◌, subst, arith, slice_get}
use Rattle.core_terms.specs.declared.trees.CTerm.{CTerm, roll-CTerm, fold-roll-CTerm}
use Rattle.core_terms.specs.declared.trees.CTerm.TheVariants.{Const, Slot, Param, Add, Sub, Scale, Ite}
use Rattle.core_terms.specs.declared.trees.CForm.{CForm, roll-CForm, ind-CForm, fold-roll-CForm}
use Rattle.core_terms.specs.declared.trees.CForm.TheVariants.{Top, Bottom, AtLeast, Zero, Not, And, Or, rolls-Or}
use Rattle.core_terms.specs.declared.trees.CForm.TheOpen.{CTerm-F, CForm-F}
use Rattle.core_terms.specs.declared.trees.CForm.TheFolds.{map-CForm, map-CTerm}
use Rattle.core_terms.specs.declared.documents.Arg.{Arg}
use Rattle.core_terms.specs.Folding.{number_of, truth_of, is_small, constant_or, truth_or, branch_or, sum_term}
use Rattle.core_terms.specs.Folding.{difference_term, scaled_term, choice_term, at_least_form, zero_form, not_form}
use Rattle.core_terms.specs.Folding.{and_form, or_form}
use Rattle.core_terms.specs.Replacing.{replace_term, replace_form, term_with, form_with, shifted, arg_term, arg_at}
use Rattle.core_terms.specs.Replacing.{form_at}
use Rattle.obligations.specs.Shapes.{Shape, Shapes, both, shapes, term_shape, form_shape_step, term_shape_step}
use Rattle.obligations.proofs.ShapeLaws.{shape-Const, shape-Slot, shape-Param, shape-Add, shape-Sub, shape-Scale}
use Rattle.obligations.proofs.ShapeLaws.{shape-Ite, shape-Top, shape-Bottom, shape-AtLeast, shape-Zero, shape-Not}
use Rattle.obligations.proofs.ShapeLaws.{shape-And, shape-Or}
use Rattle.rules_table.specs.Further.{first_side}
use Rattle.plain_quotients.specs.Plain.{HaveNoQuotients, FormIsPlain, TermIsPlain}

abbrev S : CForm → Shapes
S = shapes

abbrev T : CTerm → Shape
T = term_shape

-- numbers

no_sum : (m n : ℕ) → m ≡ 0 → n ≡ 0 → m + n ≡ 0
no_sum m n h k = omega (arith, h, k)

no_greatest : (m n : ℕ) → m ≡ 0 → n ≡ 0 → max m n ≡ 0
no_greatest m n h k = omega (arith, h, k)

sum_parts : (m n : ℕ) → m + n ≡ 0 → (m ≡ 0) × (n ≡ 0)
sum_parts m n h = (omega (arith, h), omega (arith, h))

greatest_parts : (m n : ℕ) → max m n ≡ 0 → (m ≡ 0) × (n ≡ 0)
greatest_parts m n h = (omega (arith, h), omega (arith, h))

-- trees of plain parts

pub const_plain : (c : ℤ) → TermIsPlain (Const c)
const_plain c = ap (λ (x : Shape). x.quotients) (shape-Const c)

pub slot_plain : (n : ℕ) → TermIsPlain (Slot n)
slot_plain n = ap (λ (x : Shape). x.quotients) (shape-Slot n)

pub param_plain : (n : ℕ) → TermIsPlain (Param n)
param_plain n = ap (λ (x : Shape). x.quotients) (shape-Param n)

pair_plain : (t a b : CTerm) → T t ≡ both (T a) (T b) → TermIsPlain a → TermIsPlain b → TermIsPlain t
pair_plain t a b is h k =
    subst (λ (x : Shape). x.quotients ≡ 0) (sym is) (no_sum (T a).quotients (T b).quotients h k)

scale_plain : (k : ℤ) (a : CTerm) → TermIsPlain a → TermIsPlain (Scale k a)
scale_plain k a h = subst (λ (x : Shape). x.quotients ≡ 0) (sym (shape-Scale k a)) h

ite_plain : (c : CForm) (a b : CTerm) → FormIsPlain c → TermIsPlain a → TermIsPlain b → TermIsPlain (Ite c a b)
ite_plain c a b g h k =
    subst (λ (x : Shape). x.quotients ≡ 0) (sym (shape-Ite c a b))
    (no_greatest ((S c).yes.quotients + (T a).quotients) ((S c).no.quotients + (T b).quotients)
    (no_sum (S c).yes.quotients (T a).quotients g.yes h) (no_sum (S c).no.quotients (T b).quotients g.no k))

pub top_plain : FormIsPlain Top
top_plain = subst HaveNoQuotients (sym shape-Top) (record { yes = refl; no = refl })

pub bottom_plain : FormIsPlain Bottom
bottom_plain = subst HaveNoQuotients (sym shape-Bottom) (record { yes = refl; no = refl })

least_plain : (t : CTerm) → TermIsPlain t → FormIsPlain (AtLeast t)
least_plain t h = subst HaveNoQuotients (sym (shape-AtLeast t)) (record { yes = h; no = h })

zero_plain : (t : CTerm) → TermIsPlain t → FormIsPlain (Zero t)
zero_plain t h = subst HaveNoQuotients (sym (shape-Zero t)) (record { yes = h; no = h })

negated_plain : (f : CForm) → FormIsPlain f → FormIsPlain (Not f)
negated_plain f h = subst HaveNoQuotients (sym (shape-Not f)) (record { yes = h.no; no = h.yes })

both_plain : (f g : CForm) → FormIsPlain f → FormIsPlain g → FormIsPlain (And f g)
both_plain f g h k = subst HaveNoQuotients (sym (shape-And f g)) (record {
  yes = no_sum (S f).yes.quotients (S g).yes.quotients h.yes k.yes;
  no = no_greatest (S f).no.quotients (S g).no.quotients h.no k.no;
})

either_plain : (f g : CForm) → FormIsPlain f → FormIsPlain g → FormIsPlain (Or f g)
either_plain f g h k = subst HaveNoQuotients (sym (shape-Or f g)) (record {
  yes = no_greatest (S f).yes.quotients (S g).yes.quotients h.yes k.yes;
  no = no_sum (S f).no.quotients (S g).no.quotients h.no k.no;
})

-- folded

constant_kept : (t : CTerm) (m : Option ℤ) → TermIsPlain t → TermIsPlain (constant_or m t)
constant_kept t None h = h
constant_kept t (Some z) h = elim (is_small z) as (λ b. TermIsPlain (cond b (Const z) t)) [
  | true ↦ const_plain z
  | false ↦ h
]

truth_kept : (f : CForm) (m : Option Bool) → FormIsPlain f → FormIsPlain (truth_or m f)
truth_kept f None h = h
truth_kept f (Some true) h = top_plain
truth_kept f (Some false) h = bottom_plain

branch_kept : (c : CForm) (a b : CTerm) (m : Option Bool) → FormIsPlain c → TermIsPlain a → TermIsPlain b →
    TermIsPlain (branch_or m a b (Ite c a b))
branch_kept c a b None g h k = ite_plain c a b g h k
branch_kept c a b (Some true) g h k = h
branch_kept c a b (Some false) g h k = k

pub sum_kept : (a b : CTerm) → TermIsPlain a → TermIsPlain b → TermIsPlain (sum_term a b)
sum_kept a b h k = constant_kept (Add a b) (number_of (Add a b)) (pair_plain (Add a b) a b (shape-Add a b) h k)

pub difference_kept : (a b : CTerm) → TermIsPlain a → TermIsPlain b → TermIsPlain (difference_term a b)
difference_kept a b h k =
    constant_kept (Sub a b) (number_of (Sub a b)) (pair_plain (Sub a b) a b (shape-Sub a b) h k)

pub scaled_kept : (k : ℤ) (a : CTerm) → TermIsPlain a → TermIsPlain (scaled_term k a)
scaled_kept k a h = constant_kept (Scale k a) (number_of (Scale k a)) (scale_plain k a h)

pub choice_kept : (c : CForm) (a b : CTerm) → FormIsPlain c → TermIsPlain a → TermIsPlain b →
    TermIsPlain (choice_term c a b)
choice_kept c a b g h k = branch_kept c a b (truth_of c) g h k

pub at_least_kept : (t : CTerm) → TermIsPlain t → FormIsPlain (at_least_form t)
at_least_kept t h = truth_kept (AtLeast t) (truth_of (AtLeast t)) (least_plain t h)

pub zero_kept : (t : CTerm) → TermIsPlain t → FormIsPlain (zero_form t)
zero_kept t h = truth_kept (Zero t) (truth_of (Zero t)) (zero_plain t h)

pub not_kept : (f : CForm) → FormIsPlain f → FormIsPlain (not_form f)
not_kept f h = truth_kept (Not f) (truth_of (Not f)) (negated_plain f h)

pub and_kept : (f g : CForm) → FormIsPlain f → FormIsPlain g → FormIsPlain (and_form f g)
and_kept f g h k = truth_kept (And f g) (truth_of (And f g)) (both_plain f g h k)

pub or_kept : (f g : CForm) → FormIsPlain f → FormIsPlain g → FormIsPlain (or_form f g)
or_kept f g h k = truth_kept (Or f g) (truth_of (Or f g)) (either_plain f g h k)

-- replaced

module _ (slots names : ℕ → CTerm) (slot_is : (n : ℕ) → TermIsPlain (slots n))
    (name_is : (n : ℕ) → TermIsPlain (names n)) where
  abbrev FormKept : CForm → Type 0
  FormKept f = FormIsPlain f → FormIsPlain (form_with slots names f)

  abbrev TermKept : CTerm → Type 0
  TermKept t = TermIsPlain t → TermIsPlain (term_with slots names t)

  abbrev KeptForm : Type 0
  KeptForm = (f : CForm) × FormKept f

  abbrev KeptTerm : Type 0
  KeptTerm = (t : CTerm) × TermKept t

  rolled_form : (x : CForm-F CForm CTerm) →
      (HaveNoQuotients (form_shape_step (map-CForm CForm CTerm Shapes Shape shapes term_shape x)) →
      FormIsPlain (replace_form (map-CForm CForm CTerm CForm CTerm (form_with slots names)
      (term_with slots names) x))) → FormKept (roll-CForm x)
  rolled_form x h k =
      subst FormIsPlain (sym (fold-roll-CForm CForm CTerm replace_form (replace_term slots names) x))
      (h (subst HaveNoQuotients (fold-roll-CForm Shapes Shape form_shape_step term_shape_step x) k))

  rolled_term : (x : CTerm-F CForm CTerm) →
      ((term_shape_step (map-CTerm CForm CTerm Shapes Shape shapes term_shape x)).quotients ≡ 0 →
      TermIsPlain (replace_term slots names (map-CTerm CForm CTerm CForm CTerm (form_with slots names)
      (term_with slots names) x))) → TermKept (roll-CTerm x)
  rolled_term x h k =
      subst TermIsPlain (sym (fold-roll-CTerm CForm CTerm replace_form (replace_term slots names) x))
      (h (subst (λ (s : Shape). s.quotients ≡ 0) (fold-roll-CTerm Shapes Shape form_shape_step term_shape_step x) k))

  form_layer : (y : CForm-F KeptForm KeptTerm) →
      FormKept (roll-CForm (map-CForm KeptForm KeptTerm CForm CTerm (λ e. e.0) (λ e. e.0) y))
  form_layer CForm-F.Top = rolled_form CForm-F.Top (λ h. top_plain)
  form_layer CForm-F.Bottom = rolled_form CForm-F.Bottom (λ h. bottom_plain)
  form_layer (CForm-F.AtLeast t) = rolled_form (CForm-F.AtLeast t.0) (λ h. at_least_kept _ (t.1 h.yes))
  form_layer (CForm-F.Zero t) = rolled_form (CForm-F.Zero t.0) (λ h. zero_kept _ (t.1 h.yes))
  form_layer (CForm-F.Not f) =
      rolled_form (CForm-F.Not f.0) (λ h. not_kept _ (f.1 (record { yes = h.no; no = h.yes })))
  form_layer (CForm-F.And f g) =
      rolled_form (CForm-F.And f.0 g.0) (λ h.
      let yes = sum_parts (S f.0).yes.quotients (S g.0).yes.quotients h.yes in
      let no = greatest_parts (S f.0).no.quotients (S g.0).no.quotients h.no in
      and_kept _ _ (f.1 (record { yes = yes.0; no = no.0 })) (g.1 (record { yes = yes.1; no = no.1 })))
  form_layer (CForm-F.Or f g) =
      rolled_form (CForm-F.Or f.0 g.0) (λ h.
      let yes = greatest_parts (S f.0).yes.quotients (S g.0).yes.quotients h.yes in
      let no = sum_parts (S f.0).no.quotients (S g.0).no.quotients h.no in
      or_kept _ _ (f.1 (record { yes = yes.0; no = no.0 })) (g.1 (record { yes = yes.1; no = no.1 })))

  term_layer : (y : CTerm-F KeptForm KeptTerm) →
      TermKept (roll-CTerm (map-CTerm KeptForm KeptTerm CForm CTerm (λ e. e.0) (λ e. e.0) y))
  term_layer (CTerm-F.Const c) = rolled_term (CTerm-F.Const c) (λ h. const_plain c)
  term_layer (CTerm-F.Slot n) = rolled_term (CTerm-F.Slot n) (λ h. slot_is n)
  term_layer (CTerm-F.Param n) = rolled_term (CTerm-F.Param n) (λ h. name_is n)
  term_layer (CTerm-F.Add a b) =
      rolled_term (CTerm-F.Add a.0 b.0) (λ h.
      let parts = sum_parts (T a.0).quotients (T b.0).quotients h in sum_kept _ _ (a.1 parts.0) (b.1 parts.1))
  term_layer (CTerm-F.Sub a b) =
      rolled_term (CTerm-F.Sub a.0 b.0) (λ h.
      let parts = sum_parts (T a.0).quotients (T b.0).quotients h in difference_kept _ _ (a.1 parts.0) (b.1 parts.1))
  term_layer (CTerm-F.Scale k a) = rolled_term (CTerm-F.Scale k a.0) (λ h. scaled_kept k _ (a.1 h))
  term_layer (CTerm-F.Div a k) = rolled_term (CTerm-F.Div a.0 k) (λ h. absurd (omega (arith, h)))
  term_layer (CTerm-F.Mod a k) = rolled_term (CTerm-F.Mod a.0 k) (λ h. absurd (omega (arith, h)))
  term_layer (CTerm-F.Ite c a b) =
      rolled_term (CTerm-F.Ite c.0 a.0 b.0) (λ h.
      let sides = greatest_parts ((S c.0).yes.quotients + (T a.0).quotients)
      ((S c.0).no.quotients + (T b.0).quotients) h in
      let yes = sum_parts (S c.0).yes.quotients (T a.0).quotients sides.0 in
      let no = sum_parts (S c.0).no.quotients (T b.0).quotients sides.1 in
      choice_kept _ _ _ (c.1 (record { yes = yes.0; no = no.0 })) (a.1 yes.1) (b.1 no.1))

  pub form_kept : (f : CForm) → FormKept f
  form_kept f =
      ind-CForm FormKept TermKept (λ x y e. subst (λ z. FormKept (roll-CForm z)) e (form_layer y))
      (λ x y e. subst (λ z. TermKept (roll-CTerm z)) e (term_layer y)) f

-- arguments

shifted_plain : (n : ℕ) (add : ℤ) → TermIsPlain (shifted n add)
shifted_plain n (pos zero) = param_plain n
shifted_plain n (pos (suc k)) =
    pair_plain (Add (Param n) (Const (pos (suc k)))) (Param n) (Const (pos (suc k)))
    (shape-Add (Param n) (Const (pos (suc k)))) (param_plain n) (const_plain (pos (suc k)))
shifted_plain n (negsuc k) =
    pair_plain (Sub (Param n) (Const (pos (suc k)))) (Param n) (Const (pos (suc k)))
    (shape-Sub (Param n) (Const (pos (suc k)))) (param_plain n) (const_plain (pos (suc k)))

pub arg_plain : (o : Option Arg) → TermIsPlain (arg_term o)
arg_plain None = const_plain (pos 0)
arg_plain (Some (Arg.Number k)) = const_plain k
arg_plain (Some (Arg.Param n add)) = shifted_plain n add
arg_plain (Some Arg.Slot) = const_plain (pos 0)

pub at_plain : (args : List Arg) (f : CForm) → FormIsPlain f → FormIsPlain (form_at args f)
at_plain args f h = form_kept (λ n. Slot n) (arg_at args) slot_plain (λ n. arg_plain (slice_get args n)) f h

-- a side of an alternative without quotients
pub first_side_plain : (y : CForm-F CForm CTerm) → FormIsPlain (roll-CForm y) → FormIsPlain (first_side y)
first_side_plain (CForm-F.Or f g) h =
    let at = subst HaveNoQuotients (ap shapes (rolls-Or f g) ∙ shape-Or f g) h in
    record {
      yes = (greatest_parts (S f).yes.quotients (S g).yes.quotients at.yes).0;
      no = (sum_parts (S f).no.quotients (S g).no.quotients at.no).0;
    }
first_side_plain _ h = bottom_plain
