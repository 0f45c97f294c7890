-- What a script means.
use Rattle.std.proofs.Common.{◌≡◌, ℕ, zero, suc, nat_eq, ◌<◌, ℤ, pos, negsuc, ◌+ℤ◌, ◌-ℤ◌, ◌*ℤ◌, Bool, true, false}
use Rattle.std.proofs.Common.{cond, not, ◌&&◌, ◌||◌, List, [], ◌∷◌, map, length, refl, sym, ap, ◌∙◌, arith}
use Rattle.std.specs.List.{list_all, flat_map}
use Rattle.std.specs.Int.{int_div_euclid, int_rem_euclid}
use Rattle.std.specs.Int.RustNames.{int_le}
use Rattle.std.proofs.lemmas.Bool.{eqb-true, eq-eqb}
use Rattle.meaning_states.specs.State.{int_eq}
use Rattle.meaning_states.specs.Division.{divisor, floored, rest_of}
use Rattle.core_terms.specs.declared.trees.CForm.{CForm}
use Rattle.core_terms.specs.declared.trees.CForm.TheOpen.{CTerm-F, CForm-F}
use Rattle.core_terms.specs.Values.{number_at, form_step}
use Rattle.core_terms.proofs.TreeFolds.{Steps, fold_form, forms_related}
use Rattle.core_terms.proofs.TreeFolds.{FormsKeep, TermsKeep}
use Rattle.obligations.specs.declared.branches.Variable.{Variable}
use Rattle.obligations.specs.declared.branches.Obligation.{Obligation}
use Rattle.obligations.specs.LinearForms.{is_named, place_of}
use Rattle.obligations.specs.Settling.{term_at_step, form_at}
use Rattle.obligations.specs.Opening.{in_ranges, Valid}
use Rattle.obligations.specs.Variables.{form_has}
use Rattle.obligations.specs.Obligations.{IsObligation}
use Rattle.obligations.proofs.FrameLaws.{is_here, value_steps_at, form_same}
use Rattle.obligations.proofs.OpeningLaws.{ranges-long}
use Rattle.solver_scripts.specs.Naming.{Naming}
use Rattle.solver_scripts.specs.Terms.{IntTerm, BoolTerm, Assignment, int_worth, bool_worth}
use Rattle.solver_scripts.specs.Forms.{constant, bool_term}
use Rattle.solver_scripts.specs.Scripts.{variable_symbol, range_terms}
use Rattle.solver_scripts.specs.Laws.{values_of, ScriptMeans, AreNamedApart, IsUnsat, UnsatIsValid}
use Rattle.solver_scripts.proofs.TreeTexts.{steps}
use Rattle.solver_scripts.proofs.AssignmentLaws.{assigned, assigned_is}

module _ (name : Naming) (a : Assignment) where
  constant_worth : (z : ℤ) → int_worth a (constant z) ≡ z
  constant_worth (pos n) = refl
  constant_worth (negsuc n) = refl

  -- a term's value, where slots and parameters are worth what their symbols are
  abbrev direct : CTerm-F Bool ℤ → ℤ
  direct (CTerm-F.Const c) = c
  direct (CTerm-F.Slot n) = a (name false n)
  direct (CTerm-F.Param n) = a (name true n)
  direct (CTerm-F.Add x y) = x +ℤ y
  direct (CTerm-F.Sub x y) = x -ℤ y
  direct (CTerm-F.Scale k x) = k *ℤ x
  direct (CTerm-F.Ite c x y) = cond c x y
  direct (CTerm-F.Div x k) = floored x k
  direct (CTerm-F.Mod x k) = rest_of x k

  abbrev direct_steps : Steps Bool ℤ
  direct_steps = record { form = form_step; term = direct }

  abbrev IsTruth : BoolTerm → Bool → Type 0
  IsTruth f b = bool_worth a f ≡ b

  abbrev IsNumber : IntTerm → ℤ → Type 0
  IsNumber t z = int_worth a t ≡ z

  forms_keep : FormsKeep (steps name) direct_steps IsTruth IsNumber
  forms_keep CForm-F.Top = refl
  forms_keep CForm-F.Bottom = refl
  forms_keep (CForm-F.AtLeast t) = ap (int_le (pos 0)) t.1
  forms_keep (CForm-F.Zero t) = ap (λ z. int_eq z (pos 0)) t.1
  forms_keep (CForm-F.Not f) = ap not f.1
  forms_keep (CForm-F.And f g) = λ i. f.1 i && g.1 i
  forms_keep (CForm-F.Or f g) = λ i. f.1 i || g.1 i

  terms_keep : TermsKeep (steps name) direct_steps IsTruth IsNumber
  terms_keep (CTerm-F.Const c) = constant_worth c
  terms_keep (CTerm-F.Slot n) = refl
  terms_keep (CTerm-F.Param n) = refl
  terms_keep (CTerm-F.Add s t) = λ i. s.1 i +ℤ t.1 i
  terms_keep (CTerm-F.Sub s t) = λ i. s.1 i -ℤ t.1 i
  terms_keep (CTerm-F.Scale k t) = λ i. constant_worth k i *ℤ t.1 i
  terms_keep (CTerm-F.Ite c s t) = λ i. cond (c.1 i) (s.1 i) (t.1 i)
  terms_keep (CTerm-F.Div t k) = λ i. int_div_euclid (t.1 i) (constant_worth (divisor k) i)
  terms_keep (CTerm-F.Mod t k) = λ i. int_rem_euclid (t.1 i) (constant_worth (divisor k) i)

  direct_worth : (f : CForm) → bool_worth a (bool_term name f) ≡ fold_form direct_steps f
  direct_worth f = forms_related (steps name) direct_steps IsTruth IsNumber forms_keep terms_keep f

  -- a variable is found where it stands
  same_symbol : (p q : Bool) (m n : ℕ) → (cond p q (not q) && nat_eq m n) ≡ true → a (name p m) ≡ a (name q n)
  same_symbol true true m n e = ap (λ k. a (name true k)) (eqb-true m n e)
  same_symbol true false m n e = cc
  same_symbol false true m n e = cc
  same_symbol false false m n e = ap (λ k. a (name false k)) (eqb-true m n e)

  head_found : (v : Variable) (vs : List Variable) (param : Bool) (n : ℕ) (b : Bool) → is_named v param n ≡ b →
      cond b zero (suc (place_of vs param n)) < suc (length vs) →
      (place_of vs param n < length vs →
      a (name param n) ≡ number_at (values_of name vs a) (place_of vs param n)) →
      a (name param n) ≡
      number_at (a (variable_symbol name v) ∷ values_of name vs a) (cond b zero (suc (place_of vs param n)))
  head_found v vs param n true e h rest = sym (same_symbol v.param param v.number n e)
  head_found v vs param n false e h rest = rest (omega (arith, h))

  found : (vs : List Variable) (param : Bool) (n : ℕ) → place_of vs param n < length vs →
      a (name param n) ≡ number_at (values_of name vs a) (place_of vs param n)
  found [] param n h = absurd (omega (arith, h))
  found (v ∷ vs) param n h = head_found v vs param n (is_named v param n) refl h (found vs param n)

  -- so a formula's term is worth what the formula is, at the values of its variables
  module _ (vs : List Variable) where
    abbrev Found : Bool → ℕ → Type 0
    Found param n = a (name param n) ≡ number_at (values_of name vs a) (place_of vs param n)

    agree : (x : CTerm-F Bool ℤ) → ((param : Bool) (n : ℕ) → is_here param n x ≡ true → Found param n) →
        direct x ≡ term_at_step vs (values_of name vs a) x
    agree (CTerm-F.Const c) all = refl
    agree (CTerm-F.Slot n) all = all false n (eq-eqb n n refl)
    agree (CTerm-F.Param n) all = all true n (eq-eqb n n refl)
    agree (CTerm-F.Add x y) all = refl
    agree (CTerm-F.Sub x y) all = refl
    agree (CTerm-F.Scale k x) all = refl
    agree (CTerm-F.Ite c x y) all = refl
    agree (CTerm-F.Div x k) all = refl
    agree (CTerm-F.Mod x k) all = refl

    form_worth : (f : CForm) →
        ((param : Bool) (n : ℕ) → form_has param n f ≡ true → place_of vs param n < length vs) →
        bool_worth a (bool_term name f) ≡ form_at vs (values_of name vs a) f
    form_worth f complete =
        direct_worth f
        ∙ form_same direct_steps (value_steps_at vs (values_of name vs a)) Found (λ x. refl) agree f
        (λ param n e. found vs param n (complete param n e))

  -- the ranges
  three : (x y z : Bool) → (x && (y && z)) ≡ ((x && y) && z)
  three true y z = refl
  three false y z = refl

  ranges_worth : (vs : List Variable) →
      list_all (bool_worth a) (flat_map (range_terms name) vs) ≡ in_ranges vs (values_of name vs a)
  ranges_worth [] = refl
  ranges_worth (v ∷ vs) =
      let z = a (variable_symbol name v) in
      let rest : Bool = list_all (bool_worth a) (flat_map (range_terms name) vs) in
      (λ i. int_le (constant_worth v.range.lo i) z && (int_le z (constant_worth v.range.hi i) && rest))
      ∙ three (int_le v.range.lo z) (int_le z v.range.hi) rest
      ∙ ap (λ b. (int_le v.range.lo z && int_le z v.range.hi) && b) (ranges_worth vs)

pub script_means : ScriptMeans
script_means name o a is =
    λ i. ranges_worth name a o.variables i && not (form_worth name a o.variables o.form is.complete i)

-- `unsat` is said exactly of what is valid
shown : (b : Bool) → (true && not b) ≡ false → b ≡ true
shown true e = refl
shown false e = cc

unmet : (ranges form : Bool) → (ranges ≡ true → form ≡ true) → (ranges && not form) ≡ false
unmet true form h = ap not (h refl)
unmet false form h = refl

symbols_long : (name : Naming) (vs : List Variable) → length (map (variable_symbol name) vs) ≡ length vs
symbols_long name [] = refl
symbols_long name (v ∷ vs) = ap suc (symbols_long name vs)

values_are : (name : Naming) (vs : List Variable) (a : Assignment) →
    values_of name vs a ≡ map a (map (variable_symbol name) vs)
values_are name [] a = refl
values_are name (v ∷ vs) a = ap (λ zs. a (variable_symbol name v) ∷ zs) (values_are name vs a)

module _ (name : Naming) (o : Obligation) (is : IsObligation o) (apart : AreNamedApart name o.variables) where
  abbrev with : List ℤ → Assignment
  with zs = assigned (map (variable_symbol name) o.variables) zs

  gives : (zs : List ℤ) → in_ranges o.variables zs ≡ true → values_of name o.variables (with zs) ≡ zs
  gives zs h =
      values_are name o.variables (with zs)
      ∙ assigned_is (map (variable_symbol name) o.variables) zs
      (ranges-long o.variables zs h ∙ sym (symbols_long name o.variables)) apart

  valid : IsUnsat name o → Valid o
  valid unsat zs h =
      shown (form_at o.variables zs o.form)
      (ap (λ b. b && not (form_at o.variables zs o.form)) (sym h)
      ∙ ap (λ ys. in_ranges o.variables ys && not (form_at o.variables ys o.form)) (sym (gives zs h))
      ∙ sym (script_means name o (with zs) is) ∙ unsat (with zs))

  unsat : Valid o → IsUnsat name o
  unsat h a =
      script_means name o a is
      ∙ unmet (in_ranges o.variables (values_of name o.variables a))
      (form_at o.variables (values_of name o.variables a) o.form) (h (values_of name o.variables a))

pub unsat_is_valid : UnsatIsValid
unsat_is_valid name o is apart = (valid name o is apart, unsat name o is apart)
