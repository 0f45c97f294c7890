-- What the core of an assignment names, by its parts.
use Rattle.std.proofs.Common.{◌≡◌, ℕ, zero, suc, ◌+◌, ◌<◌, ℤ, pos, ◌+ℤ◌, List, [], ◌∷◌, ◌++◌, map, Bool, true}
use Rattle.std.proofs.Common.{false, ◌&&◌, cond, Option, Some, None, refl, sym, ap, ◌∙◌, arith, All}
use Rattle.std.proofs.lemmas.List.Elements.{All-cons, All-nil}
use Rattle.std.specs.Prelude.{fold}
use Rattle.std.specs.List.{list_all}
use Rattle.unity_syntax.specs.declared.expression.Expr.{Expr}
use Rattle.unity_syntax.specs.declared.statement.Target.{Target}
use Rattle.unity_syntax.specs.declared.statement.Assign.{Assign}
use Rattle.unity_syntax.specs.declared.statement.Component.TheOpen.{Component-F}
use Rattle.unity_syntax.specs.TwoFolds.{Related, ComponentLayers, AssignLayers}
use Rattle.unity_syntax.proofs.AssignmentFolds.{two_assignments}
use Rattle.meaning_documents.specs.Names.{Variable, slot_at}
use Rattle.meaning_executions.specs.Counting.{range_size}
use Rattle.meaning_documents.specs.Writes.{Alternative, alternatives}
use Rattle.meaning_documents.specs.Names.{variable_named}
use Rattle.names_laws.proofs.AttributeTheorems.{and_first, and_second}
use Rattle.expand_fits_parts.proofs.Forms.SlotPlaces.{at_slot}
use Rattle.core_terms.specs.declared.trees.CTerm.{CTerm}
use Rattle.core_terms.specs.declared.trees.CTerm.TheVariants.{Const}
use Rattle.core_terms.specs.declared.trees.CForm.{CForm}
use Rattle.core_terms.specs.declared.programs.CWrite.{CWrite}
use Rattle.core_terms.specs.Places.{term_names_only, form_names_only}
use Rattle.core_terms.specs.Folding.{number_of, difference_term, zero_form, not_form, or_form}
use Rattle.std.specs.Option.{option_and_then}
use Rattle.expand_rules.specs.declared.cores.Formed.{Formed}
use Rattle.expand_rules.specs.declared.effects.Count.{Count}
use Rattle.expand_rules.specs.declared.effects.Effect.{Effect}
use Rattle.expand_rules.specs.Forming.{Scope, with_number, term_of, form_of, as_number, numbers, fit_values, formed}
use Rattle.expand_rules.specs.Forming.{unwritten_count}
use Rattle.expand_rules.specs.Assigning.{nothing, beside, write_to, equations, any_of, spread, open_effect}
use Rattle.expand_rules.specs.Assigning.{array_effect, stray_effect, element_effect, indexed_effect, plain_slot}
use Rattle.expand_rules.specs.Assigning.{target_effect, index_formed, paired_effect, condition, alternative_effect}
use Rattle.expand_rules.specs.Assigning.{all_beside, Effecting, component_layer, assign_layer, effect_of}
use Rattle.expand_rules.specs.Counts.{both_counts, index_count}
use Rattle.expand_rules.specs.Assigning.{write_count, spread_count, exactly, is_outside}
use Rattle.expand_rules.specs.Assigning.{outside_effect}
use Rattle.expand_fits_parts.specs.Forms.Naming.{WordTest, or_word, Wording, words_pass, words_pass_or_none}
use Rattle.expand_fits_parts.specs.Forms.Naming.{target_words}
use Rattle.expand_fits_parts.specs.Forms.Naming.{alternative_words, component_words, assign_words, SlotsPass, SeesOnly}
use Rattle.expand_fits_parts.specs.Forms.Naming.{WriteNames}
use Rattle.expand_fits_parts.specs.Forms.Naming.{assignment_passes}
use Rattle.expand_fits_parts.specs.Forms.NamingLaws.{AssignmentsName}
use Rattle.expand_fits_parts.proofs.Forms.NamedForms.{names-Const, names-Top, names-Bottom, difference_names}
use Rattle.expand_fits_parts.proofs.Forms.NamedForms.{zero_names}
use Rattle.expand_fits_parts.proofs.Forms.NamedForms.{not_names, and_names, or_names, as_term, as_form, names_law}
use Rattle.expand_fits_parts.proofs.Forms.NamedForms.{inside_sees}

module _ (slots params : ℕ → Bool) where
  abbrev F : CForm → Bool
  F f = form_names_only slots params f

  abbrev T : CTerm → Bool
  T t = term_names_only slots params t

  -- all formulas, and all writes, name only what passes
  abbrev Forms : List CForm → Type 0
  Forms [] = Unit {0}
  Forms (f ∷ fs) = (F f ≡ true) × Forms fs

  abbrev Writes : List CWrite → Type 0
  Writes [] = Unit {0}
  Writes (w ∷ ws) = WriteNames slots params w × Writes ws

  forms_joined : (fs gs : List CForm) → Forms fs → Forms gs → Forms (fs ++ gs)
  forms_joined [] gs h i = i
  forms_joined (f ∷ fs) gs h i = (h.0, forms_joined fs gs h.1 i)

  writes_joined : (us ws : List CWrite) → Writes us → Writes ws → Writes (us ++ ws)
  writes_joined [] ws h i = i
  writes_joined (u ∷ us) ws h i = (h.0, writes_joined us ws h.1 i)

  abbrev Fine : Effect → Type 0
  Fine e = Forms e.outside × Writes e.writes

  fine_beside : (e f : Effect) → Fine e → Fine f → Fine (beside e f)
  fine_beside e f h i = (forms_joined e.outside f.outside h.0 i.0, writes_joined e.writes f.writes h.1 i.1)

  abbrev Passes : Option ℕ → Type 0
  Passes None = Unit {0}
  Passes (Some n) = slots n ≡ true

  fine_write : (slot : Option ℕ) (c : CForm) (v : CTerm) (n : Count) → Passes slot → F c ≡ true → T v ≡ true →
      Fine (write_to slot c v n)
  fine_write None c v n s h i = ((h, tt), tt)
  fine_write (Some m) c v n s h i = (tt, (record { target = s; condition = h; value = i }, tt))

  equation_names : (e : CTerm) → T e ≡ true → (low : ℤ) → F (zero_form (difference_term e (Const low))) ≡ true
  equation_names e h low = zero_names slots params (difference_term e (Const low))
      (difference_names slots params e (Const low) h (names-Const slots params low))

  equations_name : (e : CTerm) → T e ≡ true → (low : ℤ) (n : ℕ) → Forms (equations e low n)
  equations_name e h low zero = tt
  equations_name e h low (suc n) = (equation_names e h low, equations_name e h (low +ℤ pos 1) n)

  any_after : (f : CForm) (fs : List CForm) → F f ≡ true → Forms fs → F (fold or_form f fs) ≡ true
  any_after f [] h i = h
  any_after f (g ∷ gs) h i = any_after (or_form f g) gs (or_names slots params f g h i.0) i.1

  any_names : (fs : List CForm) → Forms fs → F (any_of fs) ≡ true
  any_names [] h = names-Bottom slots params
  any_names (f ∷ fs) h = any_after f fs h.0 h.1

  spread_names : (e : CTerm) (c : CForm) (v : CTerm) → T e ≡ true → F c ≡ true → T v ≡ true →
      (low : ℤ) (first n : ℕ) → ((k : ℕ) → k < n → slots (first + k) ≡ true) → Writes (spread e low first n c v)
  spread_names e c v h i j low first zero s = tt
  spread_names e c v h i j low first (suc n) s =
      let here : first + 0 ≡ first = omega arith in (
        record {
          target = ap slots (sym here) ∙ s 0 (omega arith);
          condition = and_names slots params c (zero_form (difference_term e (Const low))) i (equation_names e h low);
          value = j;
        },
        spread_names e c v h i j (low +ℤ pos 1) (suc first) n
            (λ k l. let q : suc first + k ≡ first + suc k = omega arith in ap slots q ∙ s (suc k) (omega (arith, l))),
      )

  -- a condition and a value
  module _ (c v : Formed) (hc : F (form_of c.core) ≡ true) (hv : T (term_of v.core) ≡ true) where
    stray_fine : (i : Formed) → Fine (stray_effect i c v)
    stray_fine i = ((hc, tt), tt)

    -- the slot at an index is one of the array's
    slot_passes : (first : ℕ) (r : ℤ × ℤ) → ((k : ℕ) → k < range_size r → slots (first + k) ≡ true) →
        (m : Option ℤ) → Passes (option_and_then (λ k. slot_at first (Some r) (Some k)) m)
    slot_passes first r s None = tt
    slot_passes first r s (Some k) = by (slot_at first (Some r) (Some k)) refl
      where
        by : (o : Option ℕ) → slot_at first (Some r) (Some k) ≡ o → Passes o
        by None e = tt
        by (Some n) e = let a = at_slot first r k n e in ap slots a.1 ∙ s a.0 a.2

    module _ (i : Formed) (hi : T (term_of i.core) ≡ true) where
      open_fine : (first : ℕ) (r : ℤ × ℤ) (n : Count) → ((k : ℕ) → k < range_size r → slots (first + k) ≡ true) →
          Fine (open_effect (term_of i.core) r first (form_of c.core) (term_of v.core) n)
      open_fine first r n s =
          let e = term_of i.core in
          let fs = equations e r.0 (range_size r) in (
            (
              and_names slots params (form_of c.core) (not_form (any_of fs)) hc
                  (not_names slots params (any_of fs) (any_names fs (equations_name e hi r.0 (range_size r)))),
              tt,
            ),
            spread_names e (form_of c.core) (term_of v.core) hi hc hv r.0 first (range_size r) s,
          )

      array_fine : (first : ℕ) (r : ℤ × ℤ) → ((k : ℕ) → k < range_size r → slots (first + k) ≡ true) →
          Fine (array_effect i first r c v)
      array_fine first r s = by i.constant
        where
          by : (b : Bool) → Fine (cond b
              (write_to (option_and_then (λ k. slot_at first (Some r) (Some k)) (number_of (term_of i.core)))
              (form_of c.core) (term_of v.core) (both_counts (index_count i.measure) (write_count c.measure v.measure)))
              (open_effect (term_of i.core) r first (form_of c.core) (term_of v.core)
              (spread_count (range_size r) r i.measure c.measure v.measure)))
          by true = fine_write (option_and_then (λ k. slot_at first (Some r) (Some k)) (number_of (term_of i.core)))
              (form_of c.core) (term_of v.core) (both_counts (index_count i.measure) (write_count c.measure v.measure))
              (slot_passes first r s (number_of (term_of i.core))) hc hv
          by false = open_fine first r (spread_count (range_size r) r i.measure c.measure v.measure) s

      element_by : (x : Variable) (m : Option (ℤ × ℤ)) → SlotsPass slots x m → Fine (element_effect i x.first m c v)
      element_by x None s = stray_fine i
      element_by x (Some r) s = array_fine x.first r s

      indexed_fine : (x : Option Variable) → ((y : Variable) → x ≡ Some y → SlotsPass slots y y.indices) →
          Fine (indexed_effect i x c v)
      indexed_fine None s = stray_fine i
      indexed_fine (Some x) s = element_by x x.indices (s x refl)

    plain_by : (x : Variable) (m : Option (ℤ × ℤ)) → SlotsPass slots x m → Passes (slot_at x.first m None)
    plain_by x None s = s
    plain_by x (Some r) s = tt

    plain_passes : (x : Option Variable) → ((y : Variable) → x ≡ Some y → SlotsPass slots y y.indices) →
        Passes (plain_slot x)
    plain_passes None s = tt
    plain_passes (Some x) s = plain_by x x.indices (s x refl)

    plain_fine : (x : Option Variable) → ((y : Variable) → x ≡ Some y → SlotsPass slots y y.indices) →
        (left : Count) → Fine (target_effect x None c v left)
    plain_fine x s left = fine_write (plain_slot x) (form_of c.core) (term_of v.core) (write_count c.measure v.measure)
        (plain_passes x s) hc hv

  module _ (alone whole : WordTest) (s : Scope) (g : SeesOnly slots params alone whole s) where
    number_names : (e : Expr) → words_pass e alone whole ≡ true → T (term_of (as_number (formed e s)).core) ≡ true
    number_names e p = as_term slots params (formed e s).core (names_law slots params e alone whole s p g)

    condition_names : (o : Option Expr) → words_pass_or_none o alone whole ≡ true →
        F (form_of (condition s o).core) ≡ true
    condition_names None p = names-Top slots params
    condition_names (Some e) p = as_form slots params (formed e s).core (names_law slots params e alone whole s p g)

    outside_or_fine : (c : Formed) → F (form_of c.core) ≡ true → (i : Formed) (left : Count) (b : Bool)
        (e : Effect) → Fine e → Fine (cond b (outside_effect i c left) e)
    outside_or_fine c h i left true e l = ((h, tt), tt)
    outside_or_fine c h i left false e l = l

    target_fine : (c : Formed) → F (form_of c.core) ≡ true → (x : Option Variable) →
        ((y : Variable) → x ≡ Some y → SlotsPass slots y y.indices) → (o : Option Expr) →
        words_pass_or_none o alone whole ≡ true → (e : Expr) → words_pass e alone whole ≡ true → (left : Count) →
        Fine (target_effect x (index_formed s o) c (as_number (formed e s)) left)
    target_fine c h x y None p e q left = plain_fine c (as_number (formed e s)) h (number_names e q) x y left
    target_fine c h x y (Some i) p e q left = outside_or_fine c h (as_number (formed i s)) left
        (is_outside (as_number (formed i s)) x)
        (exactly ((as_number (formed e s)).exact && (as_number (formed i s)).exact)
        (indexed_effect (as_number (formed i s)) x c (as_number (formed e s))))
        (indexed_fine c (as_number (formed e s)) h (number_names e q) (as_number (formed i s)) (number_names i p) x y)

    paired_fine : (c : Formed) → F (form_of c.core) ≡ true → (ts : List Target) (es : List Expr) →
        list_all (target_words alone whole) ts ≡ true → list_all (λ e. words_pass e alone whole) es ≡ true →
        Fine (paired_effect s ts es c)
    paired_fine c h [] es p q = (tt, tt)
    paired_fine c h (d ∷ ts) [] p q = (tt, tt)
    paired_fine c h (d ∷ ts) (e ∷ es) p q =
        let here = and_first (target_words alone whole d) (list_all (target_words alone whole) ts) p in
        let more = and_second (target_words alone whole d) (list_all (target_words alone whole) ts) p in
        let words = words_pass e alone whole in
        let others = list_all (λ x. words_pass x alone whole) es in
        fine_beside (target_effect (variable_named d.name.text s.variables) (index_formed s d.index) c
        (as_number (formed e s)) (unwritten_count e s)) (paired_effect s ts es c)
        (target_fine c h (variable_named d.name.text s.variables)
        (λ y f. g.variables d.name.text y (and_first (whole d.name.text) (words_pass_or_none d.index alone whole) here)
        f) d.index (and_second (whole d.name.text) (words_pass_or_none d.index alone whole) here) e
        (and_first words others q) (unwritten_count e s))
        (paired_fine c h ts es more (and_second words others q))

    alternative_fine : (ts : List Target) → list_all (target_words alone whole) ts ≡ true → (x : Alternative) →
        alternative_words alone whole x ≡ true → Fine (alternative_effect s ts x)
    alternative_fine ts p x q =
        let es = x.0.first ∷ x.0.rest in
        let values = list_all (λ e. words_pass e alone whole) es in
        paired_fine (condition s x.1)
        (condition_names x.1 (and_second values (words_pass_or_none x.1 alone whole) q)) ts
        es p (and_first values (words_pass_or_none x.1 alone whole) q)

    alternatives_fine : (ts : List Target) → list_all (target_words alone whole) ts ≡ true → (e : Effect) → Fine e →
        (xs : List Alternative) → list_all (alternative_words alone whole) xs ≡ true →
        Fine (all_beside e (map (alternative_effect s ts) xs))
    alternatives_fine ts p e h [] q = h
    alternatives_fine ts p e h (x ∷ xs) q =
        let one = alternative_words alone whole x in
        let more = list_all (alternative_words alone whole) xs in
        alternatives_fine ts p (beside e (alternative_effect s ts x))
        (fine_beside e (alternative_effect s ts x) h (alternative_fine ts p x (and_first one more q))) xs
        (and_second one more q)

  abbrev Names : Wording → Effecting → Type 0
  Names p f = (alone whole : WordTest) (s : Scope) → p alone whole ≡ true → SeesOnly slots params alone whole s →
      Fine (f s)

  fine_each : (g : ℤ → Effect) → ((z : ℤ) → Fine (g z)) → (e : Effect) → Fine e → (zs : List ℤ) →
      Fine (all_beside e (map g zs))
  fine_each g h e i [] = i
  fine_each g h e i (z ∷ zs) = fine_each g h (beside e (g z)) (fine_beside e (g z) i (h z)) zs

  component_fine : ComponentLayers Names Names component_words component_layer
  component_fine (Component-F.Set at first rest alts) a w s p g =
      let ts = list_all (target_words a w) (first ∷ rest) in
      let xs = alternatives alts.values alts.condition in
      alternatives_fine a w s g (first ∷ rest) (and_first ts (list_all (alternative_words a w) xs) p) nothing
      (tt, tt) xs
      (and_second ts (list_all (alternative_words a w) xs) p)
  component_fine (Component-F.Quantified at name range of) a w s p g =
      fine_each (λ z. of.1 (with_number s name.text z))
      (λ z. of.2 (or_word a name.text) w (with_number s name.text z) p
      (inside_sees slots params a w s name.text z g)) nothing (tt, tt) (fit_values (numbers s.bound) range)

  rest_fine : (a w : WordTest) (s : Scope) → SeesOnly slots params a w s → (e : Effect) → Fine e →
      (xs : List (Related Names)) → list_all (λ m. m a w) (map (λ k. k.0) xs) ≡ true →
      Fine (all_beside e (map (λ m. m s) (map (λ k. k.1) xs)))
  rest_fine a w s g e h [] p = h
  rest_fine a w s g e h (x ∷ xs) p =
      let more = list_all (λ m. m a w) (map (λ k. k.0) xs) in
      rest_fine a w s g (beside e (x.1 s)) (fine_beside e (x.1 s) h (x.2 a w s (and_first (x.0 a w) more p) g)) xs
      (and_second (x.0 a w) more p)

  assign_fine : AssignLayers Names Names assign_words assign_layer
  assign_fine y a w s p g =
      let more = list_all (λ m. m a w) (map (λ k. k.0) y.rest) in
      rest_fine a w s g (y.first.1 s) (y.first.2 a w s (and_first (y.first.0 a w) more p) g) y.rest
      (and_second (y.first.0 a w) more p)

  effect_fine : (x : Assign) → Names (assignment_passes x) (effect_of x)
  effect_fine x = (two_assignments Names Names component_words assign_words component_layer assign_layer component_fine
      assign_fine).1 x

  all_forms : (fs : List CForm) → Forms fs → All (λ f. F f ≡ true) fs
  all_forms [] h = All-nil (λ f. F f ≡ true)
  all_forms (f ∷ fs) h = All-cons (λ f. F f ≡ true) f fs h.0 (all_forms fs h.1)

  all_writes : (ws : List CWrite) → Writes ws → All (WriteNames slots params) ws
  all_writes [] h = All-nil (WriteNames slots params)
  all_writes (w ∷ ws) h = All-cons (WriteNames slots params) w ws h.0 (all_writes ws h.1)

pub assignments_name : AssignmentsName
assignments_name slots params alone whole x s p g =
    let h = effect_fine slots params x alone whole s p g in
    record {
      outside = all_forms slots params (effect_of x s).outside h.0;
      writes = all_writes slots params (effect_of x s).writes h.1;
    }
