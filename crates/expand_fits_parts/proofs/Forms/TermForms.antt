-- The formulas and the terms in a proof term fit, where its bound names have their ranges.
use Rattle.std.proofs.Common.{◌≡◌, ℕ, suc, ◌+◌, ◌≤◌, max, List, [], ◌∷◌, ◌++◌, length, Bool, true, false}
use Rattle.std.proofs.Common.{◌||◌, Some, inl, inr, refl, sym, ap, ◌∙◌, subst, arith, All, nat_eq}
use Rattle.std.specs.Prelude.{slice_get, IsTrue}
use Rattle.std.specs.Map.{lookup}
use Rattle.std.specs.Str.{bytes_eq}
use Rattle.std.proofs.lemmas.Bool.{lt-ltb, eq-eqb}
use Rattle.std.proofs.lemmas.Option.{slice_get_within}
use Rattle.std.proofs.lemmas.List.{length-append, append_assoc}
use Rattle.std.proofs.lemmas.List.Elements.{All-nil, All-cons, All-append}
use Rattle.unity_syntax.specs.declared.expression.Expr.{Expr}
use Rattle.unity_syntax.specs.declared.name.Range.{Range as TextRange}
use Rattle.unity_syntax.specs.declared.term.Term.{Term}
use Rattle.unity_syntax.specs.declared.term.Term.TheOpen.{Term-F}
use Rattle.unity_syntax.specs.declared.term.Term.TheFolds.{map-Term}
use Rattle.unity_syntax.specs.TwoFolds.{Related}
use Rattle.unity_syntax.proofs.TermFolds.{two_terms}
use Rattle.names_laws.proofs.Inserts.{chosen}
use Rattle.core_terms.specs.declared.trees.Range.{Range}
use Rattle.core_terms.specs.declared.trees.CTerm.{CTerm}
use Rattle.core_terms.specs.declared.trees.CForm.{CForm}
use Rattle.core_terms.specs.declared.programs.CSlot.{CSlot}
use Rattle.core_terms.specs.declared.documents.Arg.{Arg}
use Rattle.core_terms.specs.Places.{form_names_only, term_names_only}
use Rattle.core_terms.specs.Weights.{range_weight, place_weight}
use Rattle.core_terms.specs.Conditions.{is_below, any_place, FormFits, TermFits, Parts, no_parts, both_parts, also}
use Rattle.core_terms.specs.Conditions.{parts_of, bound_ranges}
use Rattle.expand_declarations.specs.Numbers.{core_range}
use Rattle.expand_rules.specs.declared.cores.Core.{Core}
use Rattle.expand_rules.specs.declared.cores.Bound.{Bound}
use Rattle.expand_rules.specs.declared.cores.Formed.{Formed}
use Rattle.expand_rules.specs.Measures.{ends_weight}
use Rattle.expand_rules.specs.Forming.{Scope, formed}
use Rattle.expand_correct.specs.from_expand_steps.Elements.{truth_in, number_in, form_in, term_in}
use Rattle.expand_correct.specs.from_expand_steps.ProofTerms.{Place, Termed, Terming, fixed_ends, param_bound}
use Rattle.expand_correct.specs.from_expand_steps.ProofTerms.{with_bound_name, ref_in}
use Rattle.expand_correct.specs.from_expand_steps.ProofTerms.{term_layer, termed}
use Rattle.expand_fits_parts.specs.Forms.Naming.{core_names_only}
use Rattle.expand_fits_parts.specs.Forms.Fitting.{ScopeNames, ScopeFits}
use Rattle.expand_fits_parts.specs.Forms.StepLaws.{ProofPartsFit}
use Rattle.expand_fits_parts.proofs.Forms.NamedForms.{fine_truth, fine_number}
use Rattle.expand_fits_parts.proofs.Forms.Scopes.{formed_fine, formulas_fit, numbers_fit}
use Rattle.expand_fits_parts.proofs.Forms.Wider.{form_wider, term_wider}
use Rattle.expand_fits_parts.proofs.Forms.Placed.{get_right}
use Rattle.expand_fits_parts.proofs.Forms.Bodies.{Smalls}
use Rattle.expand_fits_parts.proofs.Forms.Claims.{same_param, smalls_left}
use Rattle.expand_fits_parts.proofs.Forms.TermParts.{parts-Imply, parts-From, parts-Exists, parts-Induct, parts-Psp}
use Rattle.expand_fits_parts.proofs.Forms.TermParts.{parts-Weaken, ranges-Imply, ranges-From, ranges-Exists}
use Rattle.expand_fits_parts.proofs.Forms.TermParts.{ranges-Induct}
use Rattle.expand_fits_parts.proofs.Forms.TermParts.{ranges-Psp, ranges-Weaken, pair_parts}

-- ranges that stand among others, from a place on

abbrev pub At : List Range → ℕ → List Range → Type 0
At all n [] = Unit {0}
At all n (r ∷ rs) = (slice_get all n ≡ Some r) × At all (n + 1) rs

at_left : (all xs ys : List Range) (n : ℕ) → At all n (xs ++ ys) → At all n xs
at_left all [] ys n h = tt
at_left all (x ∷ xs) ys n h = (h.0, at_left all xs ys (n + 1) h.1)

at_right : (all xs ys : List Range) (n m : ℕ) → m ≡ n + length xs → At all n (xs ++ ys) → At all m ys
at_right all [] ys n m e h = let same : n ≡ m = omega (arith, e) in subst (λ k. At all k ys) same h
at_right all (x ∷ xs) ys n m e h = at_right all xs ys (n + 1) m (omega (arith, e)) h.1

pub at_start : (before rs : List Range) (n : ℕ) → n ≡ length before → At (before ++ rs) n rs
at_start before [] n e = tt
at_start before (r ∷ rs) n e =
    let same : length before + 0 ≡ n = omega (arith, e) in
    let l = length-append before (r ∷ []) in (
      ap (slice_get (before ++ r ∷ rs)) (sym same) ∙ get_right before (r ∷ rs) 0,
      subst (λ all. At all (n + 1) rs) (append_assoc before (r ∷ []) rs)
          (at_start (before ++ r ∷ []) rs (n + 1) (omega (arith, l, e))),
    )

-- the number after those of bound names

next_same : (n k : ℕ) (rs all : List Range) → k ≡ n + length rs → all ≡ rs → k ≡ n + length all
next_same n k rs all h e = let l : length all ≡ length rs = ap length e in omega (arith, h, l)

next_more : (n k : ℕ) (r : Range) (rs all : List Range) → k ≡ (n + 1) + length rs → all ≡ r ∷ rs →
    k ≡ n + length all
next_more n k r rs all h e = let l : length all ≡ suc (length rs) = ap length e in omega (arith, h, l)

next_both : (n m k : ℕ) (xs ys all : List Range) → m ≡ n + length xs → k ≡ m + length ys → all ≡ xs ++ ys →
    k ≡ n + length all
next_both n m k xs ys all h i e =
    let l : length all ≡ length (xs ++ ys) = ap length e in
    let s = length-append xs ys in
    omega (arith, h, i, l, s)

pub smalls_right : (xs ys : List Formed) → Smalls (xs ++ ys) → Smalls ys
smalls_right [] ys h = h
smalls_right (x ∷ xs) ys h = smalls_right xs ys h.1

-- bound names

bound_cases : (P : ℕ → ℕ → Type 0) (bs : List (List ℕ × Bound)) (name : List ℕ) (next w : ℕ) → P next w →
    ((word : List ℕ) (n weight : ℕ) → lookup (bytes_eq word) bs ≡ Some (Bound.Param n weight) → P n weight) →
    (word : List ℕ) (n weight : ℕ) →
    lookup (bytes_eq word) ((name, Bound.Param next w) ∷ bs) ≡ Some (Bound.Param n weight) → P n weight
bound_cases P bs name next w h rest word n weight e =
    elim (chosen (bytes_eq word name) (Bound.Param next w) (Bound.Param n weight) (lookup (bytes_eq word) bs) e)
    as (λ x. P n weight) [
      | inl new ↦
          let k = same_param new.1 in
          subst (λ j. P j weight) (sym k.0) (subst (λ j. P next j) (sym k.1) h)
      | inr old ↦ rest word n weight old.1
    ]

same_number : (n : ℕ) → nat_eq n n ≡ true
same_number n = eq-eqb n n refl

or_right : (a b : Bool) → b ≡ true → (a || b) ≡ true
or_right true b h = refl
or_right false b h = h

or_left : (a b : Bool) → a ≡ true → (a || b) ≡ true
or_left true b h = refl
or_left false b h = cc h

module _ (slots : List CSlot) (ranges : List Range) where
  abbrev S : ℕ → Bool
  S = is_below (length slots)

  abbrev Fit : Parts → Type 0
  Fit = ProofPartsFit slots ranges

  bound_fits : (s : Scope) (name : List ℕ) (next : ℕ) (range : TextRange) → ScopeFits slots ranges s →
      slice_get ranges next ≡ Some (core_range (fixed_ends range)) →
      ScopeFits slots ranges (record s { bound = (name, param_bound next range) ∷ s.bound })
  bound_fits s name next range g e =
      let w = ends_weight (fixed_ends range) in
      let got : place_weight ranges next ≡ w = ap (λ o. range_weight o) e in
      record {
        names = record {
          variables = g.names.variables;
          bound = bound_cases (λ n weight. is_below (length ranges) n ≡ true) s.bound name next w
              (lt-ltb next (length ranges) (slice_get_within ranges next (core_range (fixed_ends range)) e))
              g.names.bound;
          always = g.names.always;
        };
        weighs = record {
          variables = g.weighs.variables;
          bound = bound_cases (λ n weight. place_weight ranges n ≤ max 1 weight) s.bound name next w
              (omega (arith, got)) g.weighs.bound;
          always = g.weighs.always;
        };
      }

  core_wider : (v w : ℕ → Bool) → ((n : ℕ) → v n ≡ true → w n ≡ true) → (c : Core) →
      core_names_only S v c ≡ true → core_names_only S w c ≡ true
  core_wider v w h (Core.Number t known) k = term_wider S v S w (λ n x. x) h t k
  core_wider v w h (Core.Truth f known) k = form_wider S v S w (λ n x. x) h f k

  bound_seen : (s : Scope) (name : List ℕ) (next : ℕ) (range : TextRange) (v : ℕ → Bool) → ScopeNames S v s →
      ScopeNames S (also next v) (record s { bound = (name, param_bound next range) ∷ s.bound })
  bound_seen s name next range v g = record {
    variables = g.variables;
    bound = bound_cases (λ n weight. also next v n ≡ true) s.bound name next (ends_weight (fixed_ends range))
        (or_left (nat_eq next next) (v next) (same_number next))
        (λ word n weight e. or_right (nat_eq next n) (v n) (g.bound word n weight e));
    always = λ word a e. core_wider v (also next v) (λ n h. or_right (nat_eq next n) (v n) h) a.core
        (g.always word a e);
  }

  -- parts

  abbrev Forms : (ℕ → Bool) × CForm → Type 0
  Forms e = FormFits slots ranges e.1

  abbrev FormNames : (ℕ → Bool) × CForm → Type 0
  FormNames e = IsTrue (form_names_only any_place e.0 e.1)

  abbrev Terms : (ℕ → Bool) × CTerm → Type 0
  Terms e = TermFits slots ranges e.1

  abbrev TermNames : (ℕ → Bool) × CTerm → Type 0
  TermNames e = IsTrue (term_names_only any_place e.0 e.1)

  both_fit : (a b : Parts) → Fit a → Fit b → Fit (both_parts a b)
  both_fit a b h k = record {
    forms = All-append Forms a.forms b.forms h.forms k.forms;
    form_names = All-append FormNames a.forms b.forms h.form_names k.form_names;
    terms = All-append Terms a.terms b.terms h.terms k.terms;
    term_names = All-append TermNames a.terms b.terms h.term_names k.term_names;
  }

  none_fit : (args : List ((ℕ → Bool) × List Arg)) (rs : List Range) →
      Fit (record { forms = []; terms = []; args = args; ranges = rs })
  none_fit args rs = record {
    forms = All-nil Forms;
    form_names = All-nil FormNames;
    terms = All-nil Terms;
    term_names = All-nil TermNames;
  }

  pair_all : {X : Type 0} (P : X → Type 0) (x y : X) → P x → P y → All P (x ∷ y ∷ [])
  pair_all P x y h k = All-cons P x (y ∷ []) h (All-cons P y [] k (All-nil P))

  form_seen : (s : Scope) (v : ℕ → Bool) (e : Expr) → ScopeNames S v s →
      form_names_only any_place v (form_in s e) ≡ true
  form_seen s v e g = form_wider S v any_place v (λ n h. refl) (λ n h. h) (form_in s e)
      (fine_truth S v (formed e s) (formed_fine S v e s g))

  term_seen : (s : Scope) (v : ℕ → Bool) (e : Expr) → ScopeNames S v s →
      term_names_only any_place v (term_in s e) ≡ true
  term_seen s v e g = term_wider S v any_place v (λ n h. refl) (λ n h. h) (term_in s e)
      (fine_number S v (formed e s) (formed_fine S v e s g))

  pair_fit : (s : Scope) (v : ℕ → Bool) (p q : Expr) → ScopeFits slots ranges s → ScopeNames S v s →
      Smalls (truth_in s p ∷ truth_in s q ∷ []) →
      Fit (record { forms = (v, form_in s p) ∷ (v, form_in s q) ∷ []; terms = []; args = []; ranges = [] })
  pair_fit s v p q g names small = record {
    forms = pair_all Forms (v, form_in s p) (v, form_in s q) (formulas_fit slots ranges s p g small.0)
        (formulas_fit slots ranges s q g small.1.0);
    form_names = pair_all FormNames (v, form_in s p) (v, form_in s q) (form_seen s v p names)
        (form_seen s v q names);
    terms = All-nil Terms;
    term_names = All-nil TermNames;
  }

  induct_fit : (s : Scope) (v : ℕ → Bool) (range : Range) (measure p q : Expr) → ScopeFits slots ranges s →
      ScopeNames S v s → Smalls (number_in s measure ∷ truth_in s p ∷ truth_in s q ∷ []) →
      Fit (record {
        forms = (v, form_in s p) ∷ (v, form_in s q) ∷ [];
        terms = (v, term_in s measure) ∷ [];
        args = [];
        ranges = range ∷ [];
      })
  induct_fit s v range measure p q g names small = record {
    forms = pair_all Forms (v, form_in s p) (v, form_in s q) (formulas_fit slots ranges s p g small.1.0)
        (formulas_fit slots ranges s q g small.1.1.0);
    form_names = pair_all FormNames (v, form_in s p) (v, form_in s q) (form_seen s v p names)
        (form_seen s v q names);
    terms = All-cons Terms (v, term_in s measure) [] (numbers_fit slots ranges s measure g small.0) (All-nil Terms);
    term_names = All-cons TermNames (v, term_in s measure) [] (term_seen s v measure names) (All-nil TermNames);
  }

  -- terms

  pub record Fine (from : ℕ) (v : ℕ → Bool) (t : Termed) : Type 0 where
    pub parts : ProofPartsFit slots ranges (parts_of t.core v)
    pub after : t.next ≡ from + length (bound_ranges t.core)

  abbrev pub AllFine : Terming → Type 0
  AllFine m = (c : Place) (next : ℕ) (v : ℕ → Bool) → ScopeFits slots ranges c.scope → ScopeNames S v c.scope →
      At ranges next (bound_ranges (m c next).core) → Smalls (m c next).formulas → Fine next v (m c next)

  abbrev R : Terming → Unit {0} → Type 0
  R m u = AllFine m

  layer : (y : Term-F (Related R)) → AllFine (term_layer (map-Term (Related R) Terming (λ r. r.0) y))
  layer (Term-F.Imply at p q) c next v g names there small = record {
    parts = subst (λ ps. Fit ps) (sym (parts-Imply (form_in c.scope p) (form_in c.scope q) v))
        (pair_fit c.scope v p q g names small);
    after = next_same next next [] _ (omega arith) (ranges-Imply (form_in c.scope p) (form_in c.scope q));
  }
  layer (Term-F.From at of) c next v g names there small = record {
    parts = subst (λ ps. Fit ps) (sym (parts-From (ref_in c of) v)) (none_fit _ []);
    after = next_same next next [] _ (omega arith) (ranges-From (ref_in c of));
  }
  layer (Term-F.Pair at which x y) c next v g names there small =
      let t = x.0 c next in
      let u = y.0 c t.next in
      let k = pair_parts which t.core u.core in
      let both = subst (λ rs. At ranges next rs) k.ranges there in
      let one = x.2 c next v g names (at_left ranges (bound_ranges t.core) (bound_ranges u.core) next both)
      (smalls_left t.formulas u.formulas small) in
      let two = y.2 c t.next v g names
      (at_right ranges (bound_ranges t.core) (bound_ranges u.core) next t.next one.after both)
      (smalls_right t.formulas u.formulas small) in
      record {
        parts = subst (λ ps. Fit ps) (sym (k.parts v))
            (both_fit (parts_of t.core v) (parts_of u.core v) one.parts two.parts);
        after = next_both next t.next u.next (bound_ranges t.core) (bound_ranges u.core) _ one.after two.after
            k.ranges;
      }
  layer (Term-F.Exists at name range x) c next v g names there small =
      let r = core_range (fixed_ends range) in
      let t = x.0 (with_bound_name c name.text next range) (next + 1) in
      let e = ranges-Exists next r t.core in
      let inner = subst (λ rs. At ranges next rs) e there in
      let one = x.2 (with_bound_name c name.text next range) (next + 1) (also next v)
      (bound_fits c.scope name.text next range g inner.0) (bound_seen c.scope name.text next range v names) inner.1
      small in
      record {
        parts = subst (λ ps. Fit ps) (sym (parts-Exists next r t.core v))
            (both_fit (record no_parts { ranges = r ∷ [] }) (parts_of t.core (also next v))
            (none_fit [] (r ∷ [])) one.parts);
        after = next_more next t.next r (bound_ranges t.core) _ one.after e;
      }
  layer (Term-F.Induct at name range measure p q x) c next v g names there small =
      let r = core_range (fixed_ends range) in
      let s = c.scope in
      let t = x.0 (with_bound_name c name.text next range) (next + 1) in
      let e = ranges-Induct next r (term_in s measure) (form_in s p) (form_in s q) t.core in
      let inner = subst (λ rs. At ranges next rs) e there in
      let own = number_in s measure ∷ truth_in s p ∷ truth_in s q ∷ [] in
      let one = x.2 (with_bound_name c name.text next range) (next + 1) (also next v)
      (bound_fits s name.text next range g inner.0) (bound_seen s name.text next range v names) inner.1
      (smalls_right own t.formulas small) in
      record {
        parts = subst (λ ps. Fit ps)
            (sym (parts-Induct next r (term_in s measure) (form_in s p) (form_in s q) t.core v))
            (both_fit _ (parts_of t.core (also next v))
            (induct_fit s v r measure p q g names (smalls_left own t.formulas small)) one.parts);
        after = next_more next t.next r (bound_ranges t.core) _ one.after e;
      }
  layer (Term-F.Psp at x by) c next v g names there small =
      let t = x.0 c next in
      let e = ranges-Psp t.core (ref_in c by) in
      let one = x.2 c next v g names (subst (λ rs. At ranges next rs) e there) small in
      record {
        parts = subst (λ ps. Fit ps) (sym (parts-Psp t.core (ref_in c by) v))
            (both_fit (parts_of t.core v) _ one.parts (none_fit _ []));
        after = next_same next t.next (bound_ranges t.core) _ one.after e;
      }
  layer (Term-F.Weaken at p q x) c next v g names there small =
      let s = c.scope in
      let t = x.0 c next in
      let e = ranges-Weaken (form_in s p) (form_in s q) t.core in
      let own = truth_in s p ∷ truth_in s q ∷ [] in
      let one = x.2 c next v g names (subst (λ rs. At ranges next rs) e there)
      (smalls_right own t.formulas small) in
      record {
        parts = subst (λ ps. Fit ps) (sym (parts-Weaken (form_in s p) (form_in s q) t.core v))
            (both_fit _ (parts_of t.core v) (pair_fit s v p q g names (smalls_left own t.formulas small)) one.parts);
        after = next_same next t.next (bound_ranges t.core) _ one.after e;
      }

  pub terms_fine : (t : Term) → AllFine (termed t)
  terms_fine t = two_terms R term_layer (λ y. tt) layer t
