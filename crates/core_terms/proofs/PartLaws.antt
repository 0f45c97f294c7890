-- The value of each kind of term and formula.
use Rattle.std.proofs.Common.{◌≡◌, ℕ, ℤ, pos, ◌+ℤ◌, ◌-ℤ◌, ◌*ℤ◌, List, Bool, true, false, cond, not, ◌&&◌, ◌||◌}
use Rattle.std.specs.Int.RustNames.{int_le}
use Rattle.meaning_states.specs.State.{int_eq}
use Rattle.meaning_states.specs.Division.{floored, rest_of}
use Rattle.core_terms.specs.declared.trees.CTerm.{CTerm}
use Rattle.core_terms.specs.declared.trees.CTerm.TheVariants.{Const, Slot, Param, Add, Sub, Scale, Div, Mod, Ite}
use Rattle.core_terms.specs.declared.trees.CTerm.TheVariants.{rolls-Const, rolls-Slot, rolls-Param, rolls-Add}
use Rattle.core_terms.specs.declared.trees.CTerm.TheVariants.{rolls-Sub, rolls-Scale, rolls-Div, rolls-Mod, rolls-Ite}
use Rattle.core_terms.specs.declared.trees.CForm.{CForm}
use Rattle.core_terms.specs.declared.trees.CForm.TheVariants.{Top, Bottom, AtLeast, Zero, Not, And, Or, rolls-Top}
use Rattle.core_terms.specs.declared.trees.CForm.TheVariants.{rolls-Bottom, rolls-AtLeast, rolls-Zero, rolls-Not}
use Rattle.core_terms.specs.declared.trees.CForm.TheVariants.{rolls-And, rolls-Or}
use Rattle.core_terms.specs.Values.{number_at, term_step, form_step, term_value, form_value}
use Rattle.core_terms.proofs.TreeFolds.{Steps, fold_form_is, fold_term_is}

-- the steps of the values
abbrev pub value_steps : List ℤ → List ℤ → Steps Bool ℤ
value_steps s p = record { form = form_step; term = term_step s p }

pub value-Const : (s p : List ℤ) (c : ℤ) → term_value s p (Const c) ≡ c
value-Const s p c = fold_term_is (value_steps s p) _ _ (rolls-Const c)

pub value-Slot : (s p : List ℤ) (n : ℕ) → term_value s p (Slot n) ≡ number_at s n
value-Slot s p n = fold_term_is (value_steps s p) _ _ (rolls-Slot n)

pub value-Param : (s p : List ℤ) (n : ℕ) → term_value s p (Param n) ≡ number_at p n
value-Param s p n = fold_term_is (value_steps s p) _ _ (rolls-Param n)

pub value-Add : (s p : List ℤ) (a b : CTerm) → term_value s p (Add a b) ≡ term_value s p a +ℤ term_value s p b
value-Add s p a b = fold_term_is (value_steps s p) _ _ (rolls-Add a b)

pub value-Sub : (s p : List ℤ) (a b : CTerm) → term_value s p (Sub a b) ≡ term_value s p a -ℤ term_value s p b
value-Sub s p a b = fold_term_is (value_steps s p) _ _ (rolls-Sub a b)

pub value-Scale : (s p : List ℤ) (k : ℤ) (a : CTerm) → term_value s p (Scale k a) ≡ k *ℤ term_value s p a
value-Scale s p k a = fold_term_is (value_steps s p) _ _ (rolls-Scale k a)

pub value-Div : (s p : List ℤ) (a : CTerm) (k : ℤ) → term_value s p (Div a k) ≡ floored (term_value s p a) k
value-Div s p a k = fold_term_is (value_steps s p) _ _ (rolls-Div a k)

pub value-Mod : (s p : List ℤ) (a : CTerm) (k : ℤ) → term_value s p (Mod a k) ≡ rest_of (term_value s p a) k
value-Mod s p a k = fold_term_is (value_steps s p) _ _ (rolls-Mod a k)

pub value-Ite : (s p : List ℤ) (c : CForm) (a b : CTerm) → term_value s p (Ite c a b) ≡ cond (form_value s p c)
    (term_value s p a) (term_value s p b)
value-Ite s p c a b = fold_term_is (value_steps s p) _ _ (rolls-Ite c a b)

pub value-Top : (s p : List ℤ) → form_value s p Top ≡ true
value-Top s p = fold_form_is (value_steps s p) _ _ rolls-Top

pub value-Bottom : (s p : List ℤ) → form_value s p Bottom ≡ false
value-Bottom s p = fold_form_is (value_steps s p) _ _ rolls-Bottom

pub value-AtLeast : (s p : List ℤ) (t : CTerm) → form_value s p (AtLeast t) ≡ int_le (pos 0) (term_value s p t)
value-AtLeast s p t = fold_form_is (value_steps s p) _ _ (rolls-AtLeast t)

pub value-Zero : (s p : List ℤ) (t : CTerm) → form_value s p (Zero t) ≡ int_eq (term_value s p t) (pos 0)
value-Zero s p t = fold_form_is (value_steps s p) _ _ (rolls-Zero t)

pub value-Not : (s p : List ℤ) (f : CForm) → form_value s p (Not f) ≡ not (form_value s p f)
value-Not s p f = fold_form_is (value_steps s p) _ _ (rolls-Not f)

pub value-And : (s p : List ℤ) (f g : CForm) → form_value s p (And f g) ≡ (form_value s p f && form_value s p g)
value-And s p f g = fold_form_is (value_steps s p) _ _ (rolls-And f g)

pub value-Or : (s p : List ℤ) (f g : CForm) → form_value s p (Or f g) ≡ (form_value s p f || form_value s p g)
value-Or s p f g = fold_form_is (value_steps s p) _ _ (rolls-Or f g)
