-- What the core of assignments weighs, held against what is counted before folding.
use Rattle.std.proofs.Common.{◌≡◌, ℕ, zero, suc, ◌+◌, ◌<◌, ◌≤◌, max, ℤ, pos, ◌+ℤ◌, List, [], ◌∷◌, ◌++◌, map, Bool}
use Rattle.std.proofs.Common.{true, false, ◌&&◌, cond, Option, Some, None, subst, arith, All}
use Rattle.std.proofs.lemmas.Int.{ints}
use Rattle.std.proofs.lemmas.List.Elements.{All-cons, All-nil}
use Rattle.std.specs.Prelude.{fold}
use Rattle.std.specs.Int.RustNames.{unsigned_abs}
use Rattle.unity_syntax.specs.declared.expression.Expr.{Expr}
use Rattle.unity_syntax.specs.declared.statement.Target.{Target}
use Rattle.unity_syntax.specs.declared.statement.Assign.{Assign}
use Rattle.unity_syntax.specs.declared.statement.Component.TheOpen.{Component-F}
use Rattle.unity_syntax.specs.TwoFolds.{Related, ComponentLayers, AssignLayers}
use Rattle.unity_syntax.proofs.AssignmentFolds.{two_assignments}
use Rattle.meaning_documents.specs.Names.{Variable}
use Rattle.meaning_executions.specs.Counting.{range_size}
use Rattle.meaning_documents.specs.Writes.{Alternative, alternatives}
use Rattle.meaning_documents.specs.Names.{variable_named}
use Rattle.core_terms.specs.declared.trees.CTerm.{CTerm}
use Rattle.core_terms.specs.declared.trees.CTerm.TheVariants.{Const}
use Rattle.core_terms.specs.declared.trees.CForm.{CForm}
use Rattle.core_terms.specs.declared.programs.CWrite.{CWrite}
use Rattle.core_terms.specs.Weights.{term_weights, form_weight}
use Rattle.core_terms.specs.Folding.{difference_term, zero_form, not_form, or_form}
use Rattle.core_terms.proofs.WeightLaws.{weight-Top, weight-Bottom}
use Rattle.expand_rules.specs.declared.cores.Formed.{Formed}
use Rattle.expand_rules.specs.declared.effects.Count.{Count}
use Rattle.expand_rules.specs.declared.effects.Effect.{Effect}
use Rattle.expand_rules.specs.Forming.{Scope, with_number, term_of, form_of, as_number, numbers, fit_values, formed}
use Rattle.expand_rules.specs.Forming.{unwritten_count}
use Rattle.expand_rules.specs.Counts.{both_counts, index_count, stray_count}
use Rattle.expand_rules.specs.Assigning.{write_count, spread_count, nothing}
use Rattle.expand_rules.specs.Assigning.{beside, write_to, equations, any_of, spread, open_effect, stray_effect}
use Rattle.expand_rules.specs.Assigning.{element_effect, indexed_effect, plain_slot, target_effect, index_formed}
use Rattle.expand_rules.specs.Assigning.{paired_effect, condition, alternative_effect, all_beside, Effecting}
use Rattle.expand_rules.specs.Assigning.{component_layer, assign_layer, effect_of, exactly, is_outside}
use Rattle.expand_rules.specs.Assigning.{outside_effect}
use Rattle.expand_correct.specs.Values.WeightLaws.{ScopeWithin, WriteWithin, AssignmentsWithin}
use Rattle.expand_correct.proofs.Values.Lightness.{difference_light, zero_light, not_light, and_light, or_light}
use Rattle.expand_correct.proofs.Values.Lightness.{const_light}
use Rattle.expand_correct.proofs.Values.Lightness.{as_term, as_form, fits_law, inside_fits, within_ends, abs_next}

module _ (slots params : ℕ → ℕ) where
  abbrev F : CForm → ℕ
  F f = form_weight slots params f

  -- all formulas, and all writes, weigh at most this
  abbrev Forms : ℕ → List CForm → Type 0
  Forms most [] = Unit {0}
  Forms most (f ∷ fs) = (F f ≤ most) × Forms most fs

  abbrev Writes : ℕ → List CWrite → Type 0
  Writes most [] = Unit {0}
  Writes most (w ∷ ws) = WriteWithin slots params most w × Writes most ws

  forms_more : (m n : ℕ) → m ≤ n → (fs : List CForm) → Forms m fs → Forms n fs
  forms_more m n l [] h = tt
  forms_more m n l (f ∷ fs) h = (let a = h.0 in omega (arith, a, l), forms_more m n l fs h.1)

  writes_more : (m n : ℕ) → m ≤ n → (ws : List CWrite) → Writes m ws → Writes n ws
  writes_more m n l [] h = tt
  writes_more m n l (w ∷ ws) h = let a = h.0 in (
    (omega (arith, a.0, l), omega (arith, a.1, l)),
    writes_more m n l ws
        h.1,
  )

  forms_joined : (m : ℕ) (fs gs : List CForm) → Forms m fs → Forms m gs → Forms m (fs ++ gs)
  forms_joined m [] gs h i = i
  forms_joined m (f ∷ fs) gs h i = (h.0, forms_joined m fs gs h.1 i)

  writes_joined : (m : ℕ) (us ws : List CWrite) → Writes m us → Writes m ws → Writes m (us ++ ws)
  writes_joined m [] ws h i = i
  writes_joined m (u ∷ us) ws h i = (h.0, writes_joined m us ws h.1 i)

  abbrev Light : Effect → Type 0
  Light e = Forms e.count.most e.outside × Writes e.count.most e.writes

  light_beside : (e f : Effect) → Light e → Light f → Light (beside e f)
  light_beside e f h i = (
    forms_joined (max e.count.most f.count.most) e.outside f.outside
        (forms_more e.count.most _ (omega arith) e.outside
        h.0) (forms_more f.count.most _ (omega arith) f.outside i.0),
    writes_joined (max e.count.most f.count.most) e.writes f.writes (writes_more e.count.most _ (omega arith) e.writes
        h.1) (writes_more f.count.most _ (omega arith) f.writes i.1),
  )

  light_each : {X : Type 0} (g : X → Effect) → ((x : X) → Light (g x)) → (e : Effect) → Light e → (xs : List X) →
      Light (all_beside e (map g xs))
  light_each g h e i [] = i
  light_each g h e i (x ∷ xs) = light_each g h (beside e (g x)) (light_beside e (g x) i (h x)) xs

  light_write : (slot : Option ℕ) (c : CForm) (v : CTerm) (n : Count) → F c ≤ n.most →
      (term_weights slots params v).most ≤ n.most → Light (write_to slot c v n)
  light_write None c v n h i = ((h, tt), tt)
  light_write (Some m) c v n h i = (tt, ((h, i), tt))

  -- equations of an index with each of its numbers
  abbrev Near : ℕ → ℤ → ℕ → Type 0
  Near far low n = (k : ℕ) → k < n → unsigned_abs (low +ℤ pos k) ≤ far

  low_near : (far : ℕ) (low : ℤ) (n : ℕ) → Near far low (suc n) → unsigned_abs low ≤ far
  low_near far low n a = let at : low +ℤ pos 0 ≡ low = omega (arith, ints) in subst (λ z. unsigned_abs z ≤ far) at
      (a 0 (omega arith))

  equation_light : (e : CTerm) (own most far : ℕ) → (term_weights slots params e).own ≤ own →
      (term_weights slots params e).most ≤ most → (low : ℤ) → unsigned_abs low ≤ far →
      F (zero_form (difference_term e (Const low))) ≤ max (own + far) (max most far)
  equation_light e own most far o m low l =
      let z = zero_light slots params (difference_term e (Const low)) in let d = difference_light slots params e
      (Const low) in let c = const_light slots params low in
      omega (arith, z, d.1, c.0, c.1, o, m, l)

  equations_light : (e : CTerm) (own most far : ℕ) → (term_weights slots params e).own ≤ own →
      (term_weights slots params e).most ≤ most → (low : ℤ) (n : ℕ) → Near far low n →
      Forms (max (own + far) (max most far)) (equations e low n)
  equations_light e own most far o m low zero a = tt
  equations_light e own most far o m low (suc n) a = (
    equation_light e own most far o m low (low_near far low n a),
    equations_light e own most far o m (low +ℤ pos 1)
        n (abs_next slots params low n far a),
  )

  any_after : (m : ℕ) (f : CForm) (fs : List CForm) → F f ≤ m → Forms m fs → F (fold or_form f fs) ≤ m
  any_after m f [] h i = h
  any_after m f (g ∷ gs) h i = let l = or_light slots params f g in let a = i.0 in
      any_after m (or_form f g) gs (omega (arith, l, h, a)) i.1

  any_light : (m : ℕ) (fs : List CForm) → Forms m fs → F (any_of fs) ≤ m
  any_light m [] h = let e = weight-Bottom slots params in omega (arith, e)
  any_light m (f ∷ fs) h = any_after m f fs h.0 h.1

  spread_light : (e : CTerm) (own most far total : ℕ) (c : CForm) (v : CTerm) → (term_weights slots params e).own ≤
      own
      → (term_weights slots params e).most ≤ most →
      max (own + far) (max most far) ≤ total → F c ≤ total → (term_weights slots params v).most ≤ total →
      (low : ℤ) (first n : ℕ) → Near far low n →
      Writes total (spread e low first n c v)
  spread_light e own most far total c v o m t h i low first zero a = tt
  spread_light e own most far total c v o m t h i low first (suc n) a =
      let q = equation_light e own most far o m low (low_near far low n a) in let l = and_light slots params c
      (zero_form (difference_term e (Const low))) in (
        (omega (arith, l, q, t, h), i),
        spread_light e own most far total c v o m t h i (low +ℤ pos 1) (suc first) n
            (abs_next slots params low n far a),
      )

  -- a condition and a value
  module _ (c v : Formed) (hc : F (form_of c.core) ≤ c.measure.most) (hv : (term_weights slots params
      (term_of v.core)).most ≤ v.measure.most) where
    stray_light : (i : Formed) → Light (stray_effect i c v)
    stray_light i = light_write None (form_of c.core) (term_of v.core) (both_counts (stray_count i.measure)
        (write_count c.measure v.measure)) (omega (arith, hc)) (omega (arith, hv))

    module _ (i : Formed) (ho : (term_weights slots params (term_of i.core)).own ≤ i.measure.own)
        (hm : (term_weights slots params (term_of i.core)).most ≤ i.measure.most) where
      array_by : (first : ℕ) (r : ℤ × ℤ) (b : Bool) (slot : Option ℕ) →
          Light (cond b (write_to slot (form_of c.core) (term_of v.core) (both_counts (index_count i.measure)
          (write_count c.measure v.measure)))
          (open_effect (term_of i.core) r first (form_of c.core) (term_of v.core) (spread_count (range_size r) r
          i.measure c.measure v.measure)))
      array_by first r true slot =
          light_write slot (form_of c.core) (term_of v.core) (both_counts (index_count i.measure)
          (write_count c.measure v.measure)) (omega (arith, hc)) (omega (arith, hv))
      array_by first r false slot =
          let far = max (unsigned_abs r.0) (unsigned_abs r.1) in
          let total = max (i.measure.own + far) (max i.measure.most (max c.measure.most v.measure.most)) in
          let e = term_of i.core in
          let few : max (i.measure.own + far) (max i.measure.most far) ≤ total = omega arith in
          let fs = any_light (max (i.measure.own + far) (max i.measure.most far)) (equations e r.0 (range_size r))
          (equations_light e i.measure.own i.measure.most far ho hm r.0 (range_size r) (within_ends slots params
          r)) in
          let not = not_light slots params (any_of (equations e r.0 (range_size r))) in
          let and = and_light slots params (form_of c.core) (not_form (any_of (equations e r.0 (range_size r)))) in (
            (omega (arith, and, not, fs, few, hc), tt),
            spread_light e i.measure.own i.measure.most far total (form_of c.core) (term_of v.core) ho hm few
                (omega (arith, hc)) (omega (arith, hv)) r.0 first (range_size r) (within_ends slots params r),
          )

      element_light : (first : ℕ) (m : Option (ℤ × ℤ)) → Light (element_effect i first m c v)
      element_light first None = stray_light i
      element_light first (Some r) = array_by first r i.constant _

      indexed_light : (x : Option Variable) → Light (indexed_effect i x c v)
      indexed_light None = stray_light i
      indexed_light (Some x) = element_light x.first x.indices

    plain_light : (x : Option Variable) (left : Count) → Light (target_effect x None c v left)
    plain_light x left = light_write (plain_slot x) (form_of c.core) (term_of v.core) (write_count c.measure v.measure)
        (omega (arith, hc)) (omega (arith, hv))

  module _ (s : Scope) (g : ScopeWithin slots params s) where
    number_light : (e : Expr) → ((term_weights slots params (term_of (as_number (formed e s)).core)).own ≤
        (as_number (formed e s)).measure.own)
        × ((term_weights slots params (term_of (as_number (formed e s)).core)).most ≤
        (as_number (formed e s)).measure.most)
    number_light e = as_term slots params (formed e s).core (formed e s).measure (fits_law slots params e s g)

    condition_light : (o : Option Expr) → F (form_of (condition s o).core) ≤ (condition s o).measure.most
    condition_light None = let e = weight-Top slots params in omega (arith, e)
    condition_light (Some e) = as_form slots params (formed e s).core (formed e s).measure
        (fits_law slots params e s g)

    outside_or_light : (c : Formed) → F (form_of c.core) ≤ c.measure.most → (i : Formed) (left : Count) (b : Bool)
        (e : Effect) → Light e → Light (cond b (outside_effect i c left) e)
    outside_or_light c h i left true e l = ((omega (arith, h), tt), tt)
    outside_or_light c h i left false e l = l

    target_light : (c : Formed) → F (form_of c.core) ≤ c.measure.most → (x : Option Variable) (o : Option Expr)
        (e : Expr) (left : Count) →
        Light (target_effect x (index_formed s o) c (as_number (formed e s)) left)
    target_light c h x None e left = plain_light c (as_number (formed e s)) h (number_light e).1 x left
    target_light c h x (Some i) e left = outside_or_light c h (as_number (formed i s)) left
        (is_outside (as_number (formed i s)) x)
        (exactly ((as_number (formed e s)).exact && (as_number (formed i s)).exact)
        (indexed_effect (as_number (formed i s)) x c (as_number (formed e s))))
        (indexed_light c (as_number (formed e s)) h (number_light e).1 (as_number (formed i s)) (number_light i).0
        (number_light i).1 x)

    paired_light : (c : Formed) → F (form_of c.core) ≤ c.measure.most → (ts : List Target) (es : List Expr) →
        Light (paired_effect s ts es c)
    paired_light c h [] es = (tt, tt)
    paired_light c h (d ∷ ts) [] = (tt, tt)
    paired_light c h (d ∷ ts) (e ∷ es) = light_beside (target_effect (variable_named d.name.text s.variables)
        (index_formed s d.index) c (as_number (formed e s)) (unwritten_count e s)) (paired_effect s ts es c)
        (target_light c h (variable_named d.name.text s.variables) d.index e (unwritten_count e s))
        (paired_light c h ts es)

    alternative_light : (ts : List Target) (a : Alternative) → Light (alternative_effect s ts a)
    alternative_light ts a = paired_light (condition s a.1) (condition_light a.1) ts (a.0.first ∷ a.0.rest)

  abbrev LightIn : Effecting → Effecting → Type 0
  LightIn f g = (s : Scope) → ScopeWithin slots params s → Light (f s)

  abbrev Part : Type 0
  Part = Related LightIn

  light_nothing : Light nothing
  light_nothing = (tt, tt)

  component_light : ComponentLayers LightIn LightIn component_layer component_layer
  component_light (Component-F.Set at first rest alts) s g =
      light_each (alternative_effect s (first ∷ rest)) (alternative_light s g (first ∷ rest)) nothing light_nothing
      (alternatives alts.values alts.condition)
  component_light (Component-F.Quantified at name range of) s g =
      light_each (λ z. of.0 (with_number s name.text z)) (λ z. of.2 (with_number s name.text z)
      (inside_fits slots params s name.text z g)) nothing light_nothing (fit_values (numbers s.bound) range)

  rest_light : (s : Scope) → ScopeWithin slots params s → (e : Effect) → Light e → (xs : List Part) →
      Light (all_beside e (map (λ m. m s) (map (λ k. k.0) xs)))
  rest_light s g e h [] = h
  rest_light s g e h (x ∷ xs) = rest_light s g (beside e (x.0 s)) (light_beside e (x.0 s) h (x.2 s g)) xs

  assign_light : AssignLayers LightIn LightIn assign_layer assign_layer
  assign_light y s g = rest_light s g (y.first.0 s) (y.first.2 s g) y.rest

  effect_light : (a : Assign) (s : Scope) → ScopeWithin slots params s → Light (effect_of a s)
  effect_light a = (two_assignments LightIn LightIn component_layer assign_layer component_layer assign_layer
      component_light assign_light).1 a

  all_forms : (m : ℕ) (fs : List CForm) → Forms m fs → All (λ f. F f ≤ m) fs
  all_forms m [] h = All-nil (λ f. F f ≤ m)
  all_forms m (f ∷ fs) h = All-cons (λ f. F f ≤ m) f fs h.0 (all_forms m fs h.1)

  all_writes : (m : ℕ) (ws : List CWrite) → Writes m ws → All (WriteWithin slots params m) ws
  all_writes m [] h = All-nil (WriteWithin slots params m)
  all_writes m (w ∷ ws) h = All-cons (WriteWithin slots params m) w ws h.0 (all_writes m ws h.1)

pub assignments_within : AssignmentsWithin
assignments_within slots params a s g =
    let h = effect_light slots params a s g in
    record {
      outside = all_forms slots params (effect_of a s).count.most (effect_of a s).outside h.0;
      writes = all_writes slots params (effect_of a s).count.most (effect_of a s).writes h.1;
    }
