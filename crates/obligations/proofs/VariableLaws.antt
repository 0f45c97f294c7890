-- The variables of an obligation, as the code makes them, and what its validity says.
use Rattle.std.proofs.Common.{◌≡◌, ℕ, zero, suc, nat_eq, ◌+◌, ◌<◌, ◌≤◌, ℤ, pos, List, [], ◌∷◌, ◌++◌}
use Rattle.std.proofs.Common.{Bool, true, false, cond, not, ◌&&◌, ◌||◌, ◌⊎◌, inl, inr, refl, sym, ap, ◌∙◌, subst}
use Rattle.std.proofs.Common.{length, map, eq-eqb, arith}
use Rattle.std.proofs.lemmas.List.{length-append}
use Rattle.std.specs.List.{list_any}
use Rattle.std.specs.Int.RustNames.{int_le}
use Rattle.std.proofs.lemmas.Bool.{eqb-true}
use Rattle.std.proofs.lemmas.List.Folds.{list_any-append}
use Rattle.core_terms.specs.declared.trees.CForm.{CForm}
use Rattle.core_terms.specs.declared.trees.CForm.TheOpen.{CTerm-F}
use Rattle.core_terms.specs.declared.trees.Range.{Range}
use Rattle.obligations.specs.declared.branches.Variable.{Variable}
use Rattle.obligations.specs.declared.branches.Obligation.{Obligation}
use Rattle.core_terms.specs.Values.{number_at, term_step, form_value}
use Rattle.core_terms.proofs.PartLaws.{value_steps}
use Rattle.obligations.specs.LinearForms.{is_named, place_of}
use Rattle.obligations.specs.Settling.{term_at_step, form_at}
use Rattle.obligations.specs.Opening.{in_ranges, Valid}
use Rattle.obligations.specs.Variables.{form_has, numbered, occurring, variables_of}
use Rattle.obligations.specs.Variables.{obligation_of, lie_in_ranges, IsTrueInRanges, ObligationMeans}
use Rattle.obligations.proofs.FrameLaws.{or_right, is_here, form_same, value_steps_at}

abbrev pub variable : Bool → ℕ → Range → Variable
variable param n r = record { param = param; number = n; range = r }

-- the slots that occur, and then the parameters, as the code adds them
pub made-variables : (f : CForm) (slots params : List Range) (none some all : List Variable) → none ≡ [] →
    some ≡ none ++ occurring f (numbered false 0 slots) → all ≡ some ++ occurring f (numbered true 0 params) →
    all ≡ variables_of f slots params
made-variables f slots params none some all p q r =
    r ∙ ap (λ vs. vs ++ occurring f (numbered true 0 params))
    (q ∙ ap (λ vs. vs ++ occurring f (numbered false 0 slots)) p)

-- How many variables there are.
kept-length : (b : Bool) (v : Variable) (vs : List Variable) → length (cond b (v ∷ vs) vs) ≤ length vs + 1
kept-length true v vs = omega arith
kept-length false v vs = omega arith

occurring-length : (f : CForm) (param : Bool) (n : ℕ) (rs : List Range) →
    length (occurring f (numbered param n rs)) ≤ length rs
occurring-length f param n [] = omega arith
occurring-length f param n (r ∷ rs) =
    omega (
      arith,
      occurring-length f param (suc n) rs,
      kept-length (form_has param n f) (variable param n r)
          (occurring f (numbered param (suc n) rs)),
    )

pub variables-length : (f : CForm) (slots params : List Range) →
    length (variables_of f slots params) ≤ length slots + length params
variables-length f slots params =
    omega (
      arith,
      occurring-length f false 0 slots,
      occurring-length f true 0 params,
      length-append
          (occurring f (numbered false 0 slots)) (occurring f (numbered true 0 params)),
    )

-- Laws of truth values, by cases.
and_first : (a b : Bool) → (a && b) ≡ true → a ≡ true
and_first true b e = refl
and_first false b e = e

and_second : (a b : Bool) → (a && b) ≡ true → b ≡ true
and_second true b e = e
and_second false b e = cc

named-self : (param : Bool) (m n : ℕ) → m ≡ n → (cond param param (not param) && nat_eq m n) ≡ true
named-self true m n e = eq-eqb m n e
named-self false m n e = eq-eqb m n e

-- Values of variables, from a state and the numbers of the parameters.
module _ (state numbers : List ℤ) where
  abbrev worth : Bool → ℕ → ℤ
  worth param n = number_at (cond param numbers state) n

  abbrev value_of : Variable → ℤ
  value_of v = worth v.param v.number

  abbrev values_of : List Variable → List ℤ
  values_of vs = map value_of vs

  worth-same : (p q : Bool) (m n : ℕ) → (cond p q (not q) && nat_eq m n) ≡ true → worth p m ≡ worth q n
  worth-same true true m n e = ap (worth true) (eqb-true m n e)
  worth-same true false m n e = cc
  worth-same false true m n e = cc
  worth-same false false m n e = ap (worth false) (eqb-true m n e)

  head-found : (v : Variable) (vs : List Variable) (param : Bool) (n : ℕ) (b : Bool) → is_named v param n ≡ b →
      (b ≡ false → number_at (values_of vs) (place_of vs param n) ≡ worth param n) →
      number_at (value_of v ∷ values_of vs) (cond b zero (suc (place_of vs param n))) ≡ worth param n
  head-found v vs param n true e h = worth-same v.param param v.number n e
  head-found v vs param n false e h = h refl

  -- what is a variable is worth its value, and so is what is no variable, where that is worth 0
  found : (vs : List Variable) (param : Bool) (n : ℕ) →
      (list_any (λ v. is_named v param n) vs ≡ false → pos 0 ≡ worth param n) →
      number_at (values_of vs) (place_of vs param n) ≡ worth param n
  found [] param n h = h refl
  found (v ∷ vs) param n h =
      head-found v vs param n (is_named v param n) refl
      (λ e. found vs param n (λ q. h (ap (λ z. z || list_any (λ w. is_named w param n) vs) e ∙ q)))

  -- values lie in the ranges of the variables that occur
  kept-in-range : (b : Bool) (v : Variable) (vs : List Variable) →
      (int_le v.range.lo (value_of v) && int_le (value_of v) v.range.hi) ≡ true →
      in_ranges vs (values_of vs) ≡ true → in_ranges (cond b (v ∷ vs) vs) (values_of (cond b (v ∷ vs) vs)) ≡ true
  kept-in-range true v vs e h = ap (λ z. z && in_ranges vs (values_of vs)) e ∙ h
  kept-in-range false v vs e h = h

  occurring-in-ranges : (f : CForm) (param : Bool) (rs : List Range) (zs : List ℤ) (k : ℕ) →
      lie_in_ranges rs zs ≡ true →
      ((i : ℕ) → worth param (k + i) ≡ number_at zs i) →
      in_ranges (occurring f (numbered param k rs)) (values_of (occurring f (numbered param k rs))) ≡ true
  occurring-in-ranges f param [] zs k h e = refl
  occurring-in-ranges f param (r ∷ rs) [] k h e = cc
  occurring-in-ranges f param (r ∷ rs) (z ∷ zs) k h e =
      let first : k ≡ k + 0 = omega arith in
      let next : (i : ℕ) → suc k + i ≡ k + suc i = λ i. omega arith in
      let here : worth param k ≡ z = ap (worth param) first ∙ e 0 in
      kept-in-range (form_has param k f) (variable param k r) (occurring f (numbered param (suc k) rs))
      (ap (λ y. int_le r.lo y && int_le y r.hi) here ∙ and_first _ _ h)
      (occurring-in-ranges f param rs zs (suc k) (and_second (int_le r.lo z && int_le z r.hi) (lie_in_ranges rs zs) h)
      (λ i. ap (worth param) (next i) ∙ e (suc i)))

  in_ranges-append : (vs ws : List Variable) → in_ranges vs (values_of vs) ≡ true → in_ranges ws (values_of ws) ≡ true →
      in_ranges (vs ++ ws) (values_of (vs ++ ws)) ≡ true
  in_ranges-append [] ws h k = k
  in_ranges-append (v ∷ vs) ws h k =
      let test : Bool = int_le v.range.lo (value_of v) && int_le (value_of v) v.range.hi in
      ap (λ z. z && in_ranges (vs ++ ws) (values_of (vs ++ ws))) (and_first test (in_ranges vs (values_of vs)) h)
      ∙ in_ranges-append vs ws (and_second test (in_ranges vs (values_of vs)) h) k

-- What occurs and has a range is a variable.
module _ (f : CForm) (param : Bool) (n : ℕ) (occurs : form_has param n f ≡ true) where
  abbrev pub is : Variable → Bool
  is v = is_named v param n

  head-is : (b : Bool) (v : Variable) (vs : List Variable) → b ≡ true → is v ≡ true →
      list_any is (cond b (v ∷ vs) vs) ≡ true
  head-is true v vs e h = ap (λ z. z || list_any is vs) h
  head-is false v vs e h = cc

  tail-is : (b : Bool) (v : Variable) (vs : List Variable) → list_any is vs ≡ true →
      list_any is (cond b (v ∷ vs) vs) ≡ true
  tail-is true v vs h = or_right (is v) (list_any is vs) h
  tail-is false v vs h = h

  pub is-variable : (rs : List Range) (k i : ℕ) → k + i ≡ n → i < length rs →
      list_any is (occurring f (numbered param k rs)) ≡ true
  is-variable [] k i e h = absurd (omega arith)
  is-variable (r ∷ rs) k zero e h =
      let same : k ≡ n = omega arith in
      head-is (form_has param k f) (variable param k r) (occurring f (numbered param (suc k) rs))
      (ap (λ m. form_has param m f) same ∙ occurs) (named-self param k n same)
  is-variable (r ∷ rs) k (suc i) e h =
      tail-is (form_has param k f) (variable param k r) (occurring f (numbered param (suc k) rs))
      (is-variable rs (suc k) i (omega arith) (omega arith))

-- a place has a range, or there is no number there
has-range : (rs : List Range) (zs : List ℤ) (n : ℕ) → lie_in_ranges rs zs ≡ true →
    (n < length rs) ⊎ (pos 0 ≡ number_at zs n)
has-range [] [] n h = inr refl
has-range [] (z ∷ zs) n h = cc
has-range (r ∷ rs) [] n h = cc
has-range (r ∷ rs) (z ∷ zs) zero h = inl (omega arith)
has-range (r ∷ rs) (z ∷ zs) (suc n) h =
    elim (has-range rs zs n (and_second (int_le r.lo z && int_le z r.hi) (lie_in_ranges rs zs) h))
    [ inl l ↦ inl (omega arith) | inr e ↦ inr e ]

-- A formula's truth, where each slot and parameter that occurs has its value.
module _ (vs : List Variable) (values state numbers : List ℤ) where
  abbrev Found : Bool → ℕ → Type 0
  Found param n = number_at values (place_of vs param n) ≡ number_at (cond param numbers state) n

  values_agree : (x : CTerm-F Bool ℤ) → ((param : Bool) (n : ℕ) → is_here param n x ≡ true → Found param n) →
      term_at_step vs values x ≡ term_step state numbers x
  values_agree (CTerm-F.Const c) all = refl
  values_agree (CTerm-F.Slot n) all = all false n (eq-eqb n n refl)
  values_agree (CTerm-F.Param n) all = all true n (eq-eqb n n refl)
  values_agree (CTerm-F.Add a b) all = refl
  values_agree (CTerm-F.Sub a b) all = refl
  values_agree (CTerm-F.Scale k a) all = refl
  values_agree (CTerm-F.Div a k) all = refl
  values_agree (CTerm-F.Mod a k) all = refl
  values_agree (CTerm-F.Ite c a b) all = refl

  truth_same : (f : CForm) → ((param : Bool) (n : ℕ) → form_has param n f ≡ true → Found param n) →
      form_at vs values f ≡ form_value state numbers f
  truth_same f all =
      form_same (value_steps_at vs values) (value_steps state numbers) Found (λ x. refl) values_agree f all

-- The law.
module _ (f : CForm) (slots params : List Range) (state numbers : List ℤ) (in_slots : lie_in_ranges slots state ≡ true)
    (in_params : lie_in_ranges params numbers ≡ true) where
  abbrev first : List Variable
  first = occurring f (numbered false 0 slots)

  abbrev second : List Variable
  second = occurring f (numbered true 0 params)

  absent : (param : Bool) (n : ℕ) → list_any (λ v. is_named v param n) (first ++ second) ≡ true ⊎
      (pos 0 ≡ worth state numbers param n) →
      list_any (λ v. is_named v param n) (first ++ second) ≡ false → pos 0 ≡ worth state numbers param n
  absent param n (inl e) h = cc
  absent param n (inr e) h = e

  any-variable : (param : Bool) (n : ℕ) → form_has param n f ≡ true →
      (list_any (λ v. is_named v param n) (first ++ second) ≡ true) ⊎ (pos 0 ≡ worth state numbers param n)
  any-variable false n e = elim (has-range slots state n in_slots) [
    | inl l ↦ inl (list_any-append (λ v. is_named v false n) first second
        ∙ ap (λ z. z || list_any (λ v. is_named v false n) second) (is-variable f false n e slots 0 n (omega arith) l))
    | inr z ↦ inr z
  ]
  any-variable true n e = elim (has-range params numbers n in_params) [
    | inl l ↦ inl (list_any-append (λ v. is_named v true n) first second
        ∙ or_right (list_any (λ v. is_named v true n) first) _ (is-variable f true n e params 0 n (omega arith) l))
    | inr z ↦ inr z
  ]

  true-in-ranges : Valid (obligation_of f slots params) → form_value state numbers f ≡ true
  true-in-ranges valid =
      let start : (zs : List ℤ) (i : ℕ) → number_at zs (0 + i) ≡ number_at zs i = λ zs i. let e : 0 + i ≡ i = omega
      arith in ap (λ m. number_at zs m) e in
      let within : in_ranges (first ++ second) (values_of state numbers (first ++ second)) ≡ true =
      in_ranges-append state numbers first second (occurring-in-ranges state numbers f false slots state 0 in_slots
      (start state)) (occurring-in-ranges state numbers f true params numbers 0 in_params (start numbers)) in
      sym (truth_same (first ++ second) (values_of state numbers (first ++ second)) state numbers f
      (λ param n e. found state numbers (first ++ second) param n (absent param n (any-variable param n e))))
      ∙ valid (values_of state numbers (first ++ second)) within

pub obligation-means : ObligationMeans
obligation-means f slots params valid state numbers in_slots in_params =
    true-in-ranges f slots params state numbers in_slots in_params valid

-- the same, as the code meets it
pub made-means : (o : Obligation) (f : CForm) (slots params : List Range) → o.form ≡ f →
    o.variables ≡ variables_of f slots params → Valid o → IsTrueInRanges f slots params
made-means o f slots params p q valid =
    obligation-means f slots params (λ values h. subst (λ g. form_at (variables_of f slots params) values g ≡ true) p
    (subst (λ vs. form_at vs values o.form ≡ true) q
    (valid values (subst (λ vs. in_ranges vs values ≡ true) (sym q) h))))
