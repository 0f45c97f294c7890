-- The core of an assignment makes its writes, at every state: in one order inside, and outside where it does.
use Rattle.std.proofs.Common.{◌≡◌, ℕ, ◌+◌, ℤ, pos, ◌-ℤ◌, List, [], ◌∷◌, ◌++◌, map, Bool, true, false, cond, not, ◌&&◌}
use Rattle.std.proofs.Common.{◌||◌, Option, Some, None, refl, sym, ap, ◌∙◌, subst, append_assoc}
use Rattle.std.specs.List.{flat_map, list_any}
use Rattle.std.specs.Option.{is_some, option_and_then}
use Rattle.unity_syntax.specs.declared.expression.Expr.{Expr}
use Rattle.unity_syntax.specs.declared.statement.Target.{Target}
use Rattle.unity_syntax.specs.declared.statement.Assign.{Assign}
use Rattle.unity_syntax.specs.declared.statement.Component.TheOpen.{Component-F}
use Rattle.unity_syntax.specs.TwoFolds.{Related, ComponentLayers, AssignLayers}
use Rattle.unity_syntax.proofs.AssignmentFolds.{two_assignments}
use Rattle.meaning_states.specs.State.{Ranges}
use Rattle.meaning_states.specs.Step.{Write, step}
use Rattle.meaning_documents.specs.Names.{Variable, Sight, with_name, slot_at, slot_named}
use Rattle.meaning_executions.specs.Counting.{natural}
use Rattle.meaning_documents.specs.Value.{value, holds, range_values}
use Rattle.meaning_executions.specs.Counting.{range_size}
use Rattle.meaning_documents.specs.Writes as source
use Rattle.meaning_documents.specs.Writes.{Alternative, alternatives, is_taken, index_value, target_slot, paired}
use Rattle.meaning_documents.specs.Writes.{alternative_writes, Writing, writes}
use Rattle.core_terms.specs.declared.trees.CTerm.{CTerm}
use Rattle.core_terms.specs.declared.trees.CForm.{CForm}
use Rattle.core_terms.specs.declared.programs.CWrite.{CWrite}
use Rattle.core_terms.specs.Values.{term_value, form_value}
use Rattle.core_terms.specs.Steps.{outside_writes, inside_writes}
use Rattle.core_terms.specs.Folding.{number_of, not_form, and_form}
use Rattle.core_terms.proofs.FoldingLaws.{value-and_form, value-not_form}
use Rattle.core_terms.proofs.PartLaws.{value-Top}
use Rattle.core_terms.proofs.KnownLaws.{number_is_value}
use Rattle.meaning_documents.specs.Names.{variable_named}
use Rattle.expand_rules.specs.declared.cores.Flaws.{Flaws}
use Rattle.expand_rules.specs.declared.cores.Formed.{Formed}
use Rattle.expand_rules.specs.declared.effects.Count.{Count}
use Rattle.expand_rules.specs.declared.effects.Effect.{Effect}
use Rattle.expand_rules.specs.Measures.{no_flaws, both_flaws, range_flaws, range_misfit}
use Rattle.expand_rules.specs.Forming.{Scope, with_number, term_of, form_of, as_number, as_truth, numbers}
use Rattle.expand_rules.specs.Forming.{is_fixed_range, fit_values, formed, unwritten_count}
use Rattle.expand_rules.specs.Counts.{both_counts, index_count, stray_count}
use Rattle.expand_rules.specs.Assigning.{write_count, spread_count, one_more}
use Rattle.expand_rules.specs.Assigning.{nothing, beside, exactly, write_to, equations, any_of, open_effect}
use Rattle.expand_rules.specs.Assigning.{stray_effect, element_effect, indexed_effect, plain_slot, target_effect}
use Rattle.expand_rules.specs.Assigning.{is_beyond, is_outside, outside_effect}
use Rattle.expand_rules.specs.Assigning.{constant_slot as beyond}
use Rattle.expand_rules.specs.Assigning.{index_formed, paired_effect, condition, alternative_effect, all_beside}
use Rattle.expand_rules.specs.Assigning.{Effecting, component_layer, assign_layer, effect_of}
use Rattle.expand_correct.proofs.Values.Operations.{known-term_of, value-term_of, value-form_of, holds_truth}
use Rattle.core_terms.proofs.BoolLaws.{and_left, and_right}
use Rattle.expand_rules.proofs.FlawLaws.{flaws_first, flaws_second}
use Rattle.expand_correct.proofs.Values.Bits.{slot_by, slot_of_variable}
use Rattle.expand_correct.proofs.Values.Values.{IsFormed, Sees, formed_as_number, formed_as_truth, formed_law}
use Rattle.expand_correct.proofs.Values.Values.{sees_inside}
use Rattle.expand_correct.proofs.Values.Values.{range_numbers}
use Rattle.expand_correct.proofs.Values.SameSteps.{inside, leaves, step_same, inside_joined, leaves_joined}
use Rattle.expand_correct.proofs.Values.Indices.{Lies, under, over, within, lies, taken, outsides, inside_taken}
use Rattle.expand_correct.proofs.Values.Indices.{outside_out}
use Rattle.expand_correct.proofs.Values.Indices.{any_value, equations_under, equations_over, equations_within}
use Rattle.expand_correct.proofs.Values.Indices.{spread_untaken, spread_under, spread_over, spread_within}

module _ (state : List ℤ) where
  -- at this state the core makes these writes
  pub record Does (e : Effect) (ws : List Write) : Type 0 where
    pub made : taken state [] e.writes ≡ inside ws
    pub left : leaves (outsides state [] e.outside) ≡ leaves ws

  -- where it is exact and no range and no divisor is bad
  abbrev pub Acts : Effect → List Write → Type 0
  Acts e ws = e.exact ≡ true → e.count.flaws ≡ no_flaws → Does e ws

  taken_joined : (us ws : List CWrite) → taken state [] (us ++ ws) ≡ taken state [] us ++ taken state [] ws
  taken_joined [] ws = refl
  taken_joined (u ∷ us) ws = elim (form_value state [] u.when) as
      (λ b. cond b ((Some u.slot, term_value state [] u.value) ∷ taken state [] (us ++ ws))
      (taken state [] (us ++ ws))
      ≡ cond b ((Some u.slot, term_value state [] u.value) ∷ taken state [] us) (taken state [] us) ++ taken state []
      ws) [
        | true ↦ ap (λ v. (Some u.slot, term_value state [] u.value) ∷ v) (taken_joined us ws)
        | false ↦ taken_joined us ws
      ]

  left_joined : (fs gs : List CForm) → leaves (outsides state [] (fs ++ gs)) ≡
      (leaves (outsides state [] fs) || leaves
      (outsides state [] gs))
  left_joined [] gs = refl
  left_joined (f ∷ fs) gs = elim (form_value state [] f) as (λ b. leaves (cond b ((None, pos 0) ∷ outsides state []
      (fs ++ gs)) (outsides state [] (fs ++ gs))) ≡ (leaves (cond b ((None, pos 0) ∷ outsides state [] fs)
      (outsides state [] fs)) || leaves (outsides state [] gs))) [
        | true ↦ refl
        | false ↦ left_joined fs gs
      ]

  does_beside : (e f : Effect) (us ws : List Write) → Does e us → Does f ws → Does (beside e f) (us ++ ws)
  does_beside e f us ws h k = record {
    made = taken_joined e.writes f.writes ∙ ap (λ v. v ++ taken state [] f.writes) h.made
        ∙ ap (λ v. inside us ++ v) k.made ∙ sym (inside_joined us ws);
    left = left_joined e.outside f.outside ∙ ap (λ v. v || leaves (outsides state [] f.outside)) h.left
        ∙ ap (λ v. leaves us || v) k.left ∙ sym (leaves_joined us ws);
  }

  acts_beside : (e f : Effect) (us ws : List Write) → Acts e us → Acts f ws → Acts (beside e f) (us ++ ws)
  acts_beside e f us ws h k x n = does_beside e f us ws
      (h (and_left e.exact f.exact x) (flaws_first e.count.flaws f.count.flaws n))
      (k (and_right e.exact f.exact x) (flaws_second e.count.flaws f.count.flaws n))

  does_nothing : Does nothing []
  does_nothing = record { made = refl; left = refl }

  does_same : (e : Effect) (us ws : List Write) → us ≡ ws → Does e us → Does e ws
  does_same e us ws q h = subst (λ v. Does e v) q h

  acts_same : (e : Effect) (us ws : List Write) → us ≡ ws → Acts e us → Acts e ws
  acts_same e us ws q h x n = does_same e us ws q (h x n)

  no_more : (ws : List Write) → ws ++ [] ≡ ws
  no_more [] = refl
  no_more (w ∷ ws) = ap (λ v. w ∷ v) (no_more ws)

  -- effects in turn
  acts_each : {X : Type 0} (g : X → Effect) (h : X → List Write) → ((x : X) → Acts (g x) (h x)) →
      (e : Effect) (us : List Write) →
      Acts e us → (xs : List X) → Acts (all_beside e (map g xs)) (us ++ flat_map h xs)
  acts_each g h each e us a [] = acts_same e us (us ++ []) (sym (no_more us)) a
  acts_each g h each e us a (x ∷ xs) = acts_same (all_beside (beside e (g x)) (map g xs)) ((us ++ h x) ++ flat_map h
      xs) (us ++ flat_map h (x ∷ xs))
      (append_assoc us (h x) (flat_map h xs))
      (acts_each g h each (beside e (g x)) (us ++ h x) (acts_beside e (g x) us (h x) a (each x)) xs)

  -- one write, where its condition holds
  write_does : (slot : Option ℕ) (c : CForm) (v : CTerm) (n : Count) (t : Bool) (z : ℤ) → form_value state [] c ≡ t →
      term_value state [] v ≡ z →
      Does (write_to slot c v n) (cond t ((slot, z) ∷ []) [])
  write_does None c v n true z h k = record {
    made = refl;
    left = ap (λ b. leaves (cond b ((None, pos 0) ∷ []) [])) h;
  }
  write_does None c v n false z h k = record {
    made = refl;
    left = ap (λ b. leaves (cond b ((None, pos 0) ∷ []) [])) h;
  }
  write_does (Some m) c v n true z h k = record {
    made = ap (λ b. cond b ((Some m, term_value state [] v) ∷ []) []) h
        ∙ ap (λ y. (Some m, y) ∷ []) k;
    left = refl;
  }
  write_does (Some m) c v n false z h k = record {
    made = ap (λ b. cond b ((Some m, term_value state [] v) ∷ []) []) h;
    left = refl;
  }

  -- what is left outside, by an index that is none of the range's
  none_left : (c : CForm) (e : CTerm) (low : ℤ) (n : ℕ) (t b : Bool) → form_value state [] c ≡ t →
      list_any (form_value state []) (equations e low n) ≡ b →
      leaves (outsides state [] (and_form c (not_form (any_of (equations e low n))) ∷ [])) ≡ (t && not b)
  none_left c e low n t b h k =
      ap (λ x. leaves (cond x ((None, pos 0) ∷ []) []))
      (value-and_form state [] c _ ∙ ap (λ x. x && form_value state [] (not_form (any_of (equations e low n)))) h
      ∙ ap (λ x. t && x) (value-not_form state [] (any_of (equations e low n))
      ∙ ap not (any_value state [] (equations e low n) ∙ k)))
      ∙ go (t && not b)
    where
      go : (x : Bool) → leaves (cond x ((None, pos 0) ∷ []) []) ≡ x
      go true = refl
      go false = refl

  open_does : (e : CTerm) (k : ℤ) → term_value state [] e ≡ k → (r : ℤ × ℤ) (first : ℕ) (c : CForm) (v : CTerm)
      (n : Count) (t : Bool) (z : ℤ) →
      form_value state [] c ≡ t → term_value state [] v ≡ z → Lies r k → Does (open_effect e r first c v n)
      (cond t ((slot_at first (Some r) (Some k), z) ∷ []) [])
  open_does e k w r first c v n true z h y (under f i) = subst (λ b. Does (open_effect e r first c v n)
      ((cond b (Some (first + natural (k -ℤ r.0))) None, z) ∷ [])) (sym f)
      (record {
        made = spread_under state [] e k w c v true h r.0 first (range_size r) i;
        left = none_left c e r.0
            (range_size r) true false h (equations_under state [] e k w r.0 (range_size r) i);
      })
  open_does e k w r first c v n false z h y (under f i) =
      record {
        made = spread_untaken state [] e k w c v h r.0 first (range_size r);
        left = none_left c e r.0
            (range_size r) false false h (equations_under state [] e k w r.0 (range_size r) i);
      }
  open_does e k w r first c v n true z h y (over f i) = subst (λ b. Does (open_effect e r first c v n)
      ((cond b (Some (first + natural (k -ℤ r.0))) None, z) ∷ [])) (sym f)
      (record {
        made = spread_over state [] e k w c v true h r.0 first (range_size r) i;
        left = none_left c e r.0
            (range_size r) true false h (equations_over state [] e k w r.0 (range_size r) i);
      })
  open_does e k w r first c v n false z h y (over f i) =
      record {
        made = spread_untaken state [] e k w c v h r.0 first (range_size r);
        left = none_left c e r.0
            (range_size r) false false h (equations_over state [] e k w r.0 (range_size r) i);
      }
  open_does e k w r first c v n true z h y (within f i j) = subst (λ b. Does (open_effect e r first c v n)
      ((cond b (Some (first + natural (k -ℤ r.0))) None, z) ∷ [])) (sym f)
      (record {
        made = spread_within state [] e k w c v h r.0 first (range_size r) (natural (k -ℤ r.0)) i j
            ∙ ap (λ x. (Some (first + natural (k -ℤ r.0)), x) ∷ []) y;
        left = none_left c e r.0 (range_size r) true true h (equations_within state [] e k w r.0 (range_size r)
            (natural (k -ℤ r.0)) i j);
      })
  open_does e k w r first c v n false z h y (within f i j) =
      record {
        made = spread_untaken state [] e k w c v h r.0 first (range_size r);
        left = none_left c e r.0
            (range_size r) false true h (equations_within state [] e k w r.0 (range_size r) (natural (k -ℤ r.0)) i j);
      }

  -- an index without variables has a number
  constant_slot : (first : ℕ) (r : ℤ × ℤ) (t : CTerm) (k : ℤ) (m : Option ℤ) → number_of t ≡ m → is_some m ≡ true →
      term_value state [] t ≡ k →
      option_and_then (λ y. slot_at first (Some r) (Some y)) m ≡ slot_at first (Some r) (Some k)
  constant_slot first r t k None e h w = cc
  constant_slot first r t k (Some n) e h w = ap (λ x. slot_at first (Some r) (Some x))
      (sym (number_is_value state [] t n e) ∙ w)

  -- a condition that holds where t says so, and a value
  module _ (c v : Formed) (t : Bool) (z : ℤ) where
    abbrev Told : Type 0
    Told = (c.measure.flaws ≡ no_flaws → form_value state [] (form_of c.core) ≡ t) × IsFormed state [] v z

    abbrev Wrote : Option ℕ → List Write
    Wrote slot = cond t ((slot, z) ∷ []) []

    valued : IsFormed state [] v z → v.exact ≡ true → v.measure.flaws ≡ no_flaws → term_value state []
        (term_of v.core)
        ≡ z
    valued h x n = value-term_of state [] v.core ∙ h.value x n

    stray_does : Told → v.exact ≡ true → (i : Formed) → (stray_effect i c v).count.flaws ≡ no_flaws →
        Does (stray_effect i c v) (Wrote None)
    stray_does h x i n =
        let two = flaws_second i.measure.flaws (both_flaws c.measure.flaws v.measure.flaws) n in
        write_does None (form_of c.core) (term_of v.core) (both_counts (stray_count i.measure) (write_count c.measure
        v.measure)) t z
        (h.0 (flaws_first c.measure.flaws v.measure.flaws two)) (valued h.1 x
        (flaws_second c.measure.flaws v.measure.flaws two))

    module _ (h : Told) (x : v.exact ≡ true) (i : Formed) (k : ℤ) (f : IsFormed state [] i k) (e : i.exact ≡ true)
      where
        array_by : (first : ℕ) (r : ℤ × ℤ) (b : Bool) → i.constant ≡ b →
            (cond b (write_to (option_and_then (λ y. slot_at first (Some r) (Some y)) (number_of (term_of i.core)))
            (form_of c.core) (term_of v.core)
            (both_counts (index_count i.measure) (write_count c.measure v.measure)))
            (open_effect (term_of i.core) r first (form_of c.core) (term_of v.core) (spread_count (range_size r) r
            i.measure c.measure v.measure))).count.flaws ≡ no_flaws →
            Does (cond b (write_to (option_and_then (λ y. slot_at first (Some r) (Some y)) (number_of (term_of i.core)))
            (form_of c.core) (term_of v.core)
            (both_counts (index_count i.measure) (write_count c.measure v.measure)))
            (open_effect (term_of i.core) r first (form_of c.core) (term_of v.core) (spread_count (range_size r) r
            i.measure c.measure v.measure)))
            (Wrote (slot_at first (Some r) (Some k)))
        array_by first r true q n0 =
            let n : both_flaws i.measure.flaws (both_flaws c.measure.flaws v.measure.flaws) ≡ no_flaws =
            write_range (option_and_then (λ y. slot_at first (Some r) (Some y)) (number_of (term_of i.core))) n0 in
            let one = flaws_first i.measure.flaws (both_flaws c.measure.flaws v.measure.flaws) n in
            let two = flaws_second i.measure.flaws (both_flaws c.measure.flaws v.measure.flaws) n in
            subst (λ s. Does (write_to (option_and_then (λ y. slot_at first (Some r) (Some y))
            (number_of (term_of i.core))) (form_of c.core) (term_of v.core)
            (both_counts (index_count i.measure) (write_count c.measure v.measure))) (Wrote s))
            (constant_slot first r (term_of i.core) k (number_of (term_of i.core)) refl (known-term_of i.core
            ∙ f.known q) (value-term_of state [] i.core ∙ f.value e one))
            (write_does (option_and_then (λ y. slot_at first (Some r) (Some y)) (number_of (term_of i.core)))
            (form_of c.core) (term_of v.core)
            (both_counts (index_count i.measure) (write_count c.measure v.measure)) t z
            (h.0 (flaws_first c.measure.flaws v.measure.flaws two)) (valued h.1 x
            (flaws_second c.measure.flaws v.measure.flaws two)))
          where
            write_range : (slot : Option ℕ) → (write_to slot (form_of c.core) (term_of v.core)
                (both_counts (index_count i.measure) (write_count c.measure v.measure))).count.flaws ≡ no_flaws →
                both_flaws i.measure.flaws (both_flaws c.measure.flaws v.measure.flaws) ≡ no_flaws
            write_range None y = y
            write_range (Some m) y = y
        array_by first r false q n =
            let one = flaws_first i.measure.flaws (both_flaws c.measure.flaws v.measure.flaws) n in
            let two = flaws_second i.measure.flaws (both_flaws c.measure.flaws v.measure.flaws) n in
            open_does (term_of i.core) k (value-term_of state [] i.core ∙ f.value e one) r first (form_of c.core)
            (term_of v.core)
            (spread_count (range_size r) r i.measure c.measure v.measure) t z
            (h.0 (flaws_first c.measure.flaws v.measure.flaws two)) (valued h.1 x
            (flaws_second c.measure.flaws v.measure.flaws two)) (lies r k)

        element_does : (first : ℕ) (m : Option (ℤ × ℤ)) → (element_effect i first m c v).count.flaws ≡ no_flaws →
            Does (element_effect i first m c v) (Wrote (slot_at first m (Some k)))
        element_does first None n = stray_does h x i n
        element_does first (Some r) n = array_by first r i.constant refl n

        indexed_does : (y : Option Variable) → (indexed_effect i y c v).count.flaws ≡ no_flaws →
            Does (indexed_effect i y c v) (Wrote (slot_by y (Some k)))
        indexed_does None n = stray_does h x i n
        indexed_does (Some y) n = element_does y.first y.indices n

    plain_is : (y : Option Variable) → plain_slot y ≡ slot_by y None
    plain_is None = refl
    plain_is (Some y) = refl

    plain_range : (slot : Option ℕ) → (write_to slot (form_of c.core) (term_of v.core) (write_count c.measure
        v.measure)).count.flaws ≡ no_flaws →
        both_flaws c.measure.flaws v.measure.flaws ≡ no_flaws
    plain_range None y = y
    plain_range (Some m) y = y

    does_exactly : (b : Bool) (e : Effect) (ws : List Write) → Does e ws → Does (exactly b e) ws
    does_exactly b e ws d = record { made = d.made; left = d.left }

    -- the index of a target, as what it is worth
    abbrev IndexIs : Option Formed → Option ℤ → Type 0
    IndexIs None None = Unit {0}
    IndexIs None (Some k) = ⊥
    IndexIs (Some i) None = ⊥
    IndexIs (Some i) (Some k) = IsFormed state [] i k

    -- nothing is written where a constant index lies outside its array
    no_slot : (i : Formed) (y : Option Variable) (k : ℤ) → IsFormed state [] i k → i.exact ≡ true →
        i.measure.flaws ≡ no_flaws → is_outside i y ≡ true → slot_by y (Some k) ≡ None
    no_slot i None k f e n o = cc
    no_slot i (Some y) k f e n o = by y.indices o
      where
        none : (m : Option ℕ) → not (is_some m) ≡ true → m ≡ None
        none None q = refl
        none (Some m) q = cc

        by : (r : Option (ℤ × ℤ)) → is_beyond i y.first r ≡ true → slot_at y.first r (Some k) ≡ None
        by None q = cc
        by (Some r) q =
            let number = number_of (term_of i.core) in
            sym (constant_slot y.first r (term_of i.core) k number refl
            (known-term_of i.core ∙ f.known (and_left i.constant _ q)) (value-term_of state [] i.core ∙ f.value e n))
            ∙ none (beyond i y.first r) (and_right i.constant _ q)

    none_made : (b : Bool) → [] ≡ inside (cond b ((None, z) ∷ []) [])
    none_made true = refl
    none_made false = refl

    out_left : (b : Bool) → form_value state [] (form_of c.core) ≡ b →
        leaves (outsides state [] (form_of c.core ∷ [])) ≡ leaves (cond b ((None, z) ∷ []) [])
    out_left true h = ap (λ b. leaves (cond b ((None, pos 0) ∷ []) [])) h
    out_left false h = ap (λ b. leaves (cond b ((None, pos 0) ∷ []) [])) h

    outside_does : Told → (y : Option Variable) (i : Formed) (k : ℤ) (left : Count) → IsFormed state [] i k →
        is_outside i y ≡ true → Acts (outside_effect i c left) (Wrote (slot_by y (Some k)))
    outside_does h y i k left f o x n =
        let two = flaws_first (both_flaws i.measure.flaws c.measure.flaws) left.flaws n in
        subst (λ s. Does (outside_effect i c left) (Wrote s))
        (sym (no_slot i y k f x (flaws_first i.measure.flaws c.measure.flaws two) o))
        (record {
          made = none_made t;
          left = out_left t (h.0 (flaws_second i.measure.flaws c.measure.flaws two));
        })

    pub target_acts : Told → (y : Option Variable) (i : Option Formed) (k : Option ℤ) → IndexIs i k → (left : Count) →
        Acts (target_effect y i c v left) (Wrote (slot_by y k))
    target_acts h y None (Some k) j left x n = absurd j
    target_acts h y (Some i) None j left x n = absurd j
    target_acts h y None None j left x n =
        let e = write_to (plain_slot y) (form_of c.core) (term_of v.core) (write_count c.measure v.measure) in
        let two = plain_range (plain_slot y) n in
        does_exactly v.exact e (Wrote (slot_by y None)) (subst (λ s. Does e (Wrote s)) (plain_is y)
        (write_does (plain_slot y) (form_of c.core) (term_of v.core) (write_count c.measure v.measure) t z
        (h.0 (flaws_first c.measure.flaws v.measure.flaws two))
        (valued h.1 (and_left v.exact e.exact x) (flaws_second c.measure.flaws v.measure.flaws two))))
    target_acts h y (Some i) (Some k) j left x n =
        elim (is_outside i y) as (λ b. is_outside i y ≡ b → Acts (cond b (outside_effect i c left)
        (exactly (v.exact && i.exact) (indexed_effect i y c v))) (Wrote (slot_by y (Some k)))) [
          | true ↦ λ o. outside_does h y i k left j o
          | false ↦ λ o x n.
              let both = and_left (v.exact && i.exact) (indexed_effect i y c v).exact x in
              does_exactly (v.exact && i.exact) (indexed_effect i y c v) (Wrote (slot_by y (Some k)))
              (indexed_does h (and_left v.exact i.exact both) i k j (and_right v.exact i.exact both) y n)
        ] refl x n

  untaken : (t : Bool) → cond {A = List Write} t [] [] ≡ []
  untaken true = refl
  untaken false = refl

  first_more : (t : Bool) (w : Write) (ws : List Write) → cond t (w ∷ []) [] ++ cond t ws [] ≡ cond t (w ∷ ws) []
  first_more true w ws = refl
  first_more false w ws = refl

  module _ (s : Scope) (u : Sight) (h : Sees state [] s u) where
    index_is : (c v : Formed) (t : Bool) (z : ℤ) (o : Option Expr) → IndexIs c v t z (index_formed s o)
        (index_value u o)
    index_is c v t z None = tt
    index_is c v t z (Some e) = formed_as_number state [] (formed e s) (value e u) (formed_law state [] e s u h)

    slot_is : (name : List ℕ) (k : Option ℤ) → slot_by (variable_named name s.variables) k ≡
        slot_named name k u.variables
    slot_is name k = sym (ap (slot_named name k) h.variables ∙ slot_of_variable name k s.variables)

    value_is : (e : Expr) → IsFormed state [] (as_number (formed e s)) (value e u)
    value_is e = formed_as_number state [] (formed e s) (value e u) (formed_law state [] e s u h)

    paired_acts : (ts : List Target) (es : List Expr) (c : Formed) (t : Bool) → (c.measure.flaws ≡ no_flaws →
        form_value state [] (form_of c.core) ≡ t) →
        Acts (paired_effect s ts es c) (cond t (paired u ts es) [])
    paired_acts [] es c t q = λ x n. does_same nothing [] _ (sym (untaken t)) does_nothing
    paired_acts (d ∷ ts) [] c t q = λ x n. does_same nothing [] _ (sym (untaken t)) does_nothing
    paired_acts (d ∷ ts) (e ∷ es) c t q =
        let y = variable_named d.name.text s.variables in
        let k = index_value u d.index in
        let v = as_number (formed e s) in
        let left = unwritten_count e s in
        let target = target_effect y (index_formed s d.index) c v left in
        acts_same (beside target (paired_effect s ts es c)) (cond t ((target_slot u d, value e u) ∷ []) [] ++ cond t
        (paired u ts es) []) (cond t (paired u (d ∷ ts) (e ∷ es)) [])
        (first_more t (target_slot u d, value e u) (paired u ts es))
        (acts_beside target (paired_effect s ts es c) (cond t ((target_slot u d, value e u) ∷ []) [])
        (cond t (paired u ts es) [])
        (acts_same target (cond t ((slot_by y k, value e u) ∷ []) []) (cond t ((target_slot u d, value e u) ∷ []) [])
        (ap (λ (m : Option ℕ). cond t ((m, value e u) ∷ []) []) (slot_is d.name.text k))
        (target_acts c v t (value e u) (q, value_is e) y (index_formed s d.index) k (index_is c v t (value e u)
        d.index) left))
        (paired_acts ts es c t q))

    condition_holds : (o : Option Expr) → (condition s o).exact ≡ true → (condition s o).measure.flaws ≡ no_flaws →
        form_value state [] (form_of (condition s o).core) ≡ is_taken u o
    condition_holds None x n = value-Top state []
    condition_holds (Some e) x n =
        value-form_of state [] (as_truth (formed e s)).core
        ∙ ap holds ((formed_as_truth state [] (formed e s) (value e u) (formed_law state [] e s u h)).value x n)
        ∙ holds_truth (holds (value e u))

    does_more : (e : Effect) (ws : List Write) → Does e ws → Does (one_more e) ws
    does_more e ws d = record { made = d.made; left = d.left }

    alternative_acts : (ts : List Target) (a : Alternative) → Acts (alternative_effect s ts a)
        (alternative_writes u ts
        a)
    alternative_acts ts a x n =
        let all = paired_effect s ts (a.0.first ∷ a.0.rest) (condition s a.1) in
        let exact = (condition s a.1).exact in
        let d = paired_acts ts (a.0.first ∷ a.0.rest) (condition s a.1) (is_taken u a.1) (condition_holds a.1
        (and_left exact all.exact x)) (and_right exact all.exact x) n in
        record { made = d.made; left = d.left }

  abbrev pub DoesAs : Effecting → Writing → Type 0
  DoesAs f w = (s : Scope) (u : Sight) → Sees state [] s u → Acts (f s) (w u)

  abbrev Part : Type 0
  Part = Related DoesAs

  acts_more : (e : Effect) (ws : List Write) → Acts e ws → Acts (one_more e) ws
  acts_more e ws a x n = let d = a x n in record { made = d.made; left = d.left }

  acts_nothing : Acts nothing []
  acts_nothing x n = does_nothing

  layer : ComponentLayers DoesAs DoesAs component_layer source.component_layer
  layer (Component-F.Set at first rest alts) s u h =
      acts_more (all_beside nothing (map (alternative_effect s (first ∷ rest)) (alternatives alts.values
      alts.condition)))
      (flat_map (alternative_writes u (first ∷ rest)) (alternatives alts.values alts.condition))
      (acts_each (alternative_effect s (first ∷ rest)) (alternative_writes u (first ∷ rest)) (alternative_acts s u h
      (first ∷ rest)) nothing [] acts_nothing
      (alternatives alts.values alts.condition))
  layer (Component-F.Quantified at name range of) s u h = λ x n.
      let fit = fit_values (numbers s.bound) range in
      let all = all_beside nothing (map (λ z. of.0 (with_number s name.text z)) fit) in
      let same : fit ≡ range_values u.bindings range =
      range_numbers state [] s.bound range (and_left (is_fixed_range s.bound range) all.exact x)
      (ap (λ (k : Flaws). k.range) (flaws_first (range_flaws (range_misfit (numbers s.bound) range)) all.count.flaws n))
      ∙ sym (ap (λ b. range_values b range) h.bound) in
      let d = acts_each (λ z. of.0 (with_number s name.text z)) (λ z. of.1 (with_name u name.text z))
      (λ z. of.2 (with_number s name.text z) (with_name u name.text z) (sees_inside state [] s u name.text z h))
      nothing [] acts_nothing fit
      (and_right (is_fixed_range s.bound range) all.exact x) (flaws_second
      (range_flaws (range_misfit (numbers s.bound) range)) all.count.flaws n) in
      let e = does_same all (flat_map (λ z. of.1 (with_name u name.text z)) fit)
      (flat_map (λ z. of.1 (with_name u name.text z)) (range_values u.bindings range))
      (ap (λ zs. flat_map (λ z. of.1 (with_name u name.text z)) zs) same) d in
      record { made = e.made; left = e.left }

  rest_acts : (s : Scope) (u : Sight) → Sees state [] s u → (e : Effect) (us : List Write) → Acts e us →
      (xs : List Part) →
      Acts (all_beside e (map (λ m. m s) (map (λ k. k.0) xs))) (us ++ flat_map (λ component. component u)
      (map (λ k. k.1) xs))
  rest_acts s u h e us a [] = acts_same e us (us ++ []) (sym (no_more us)) a
  rest_acts s u h e us a (k ∷ ks) = acts_same (all_beside (beside e (k.0 s)) (map (λ m. m s) (map (λ k. k.0) ks)))
      ((us ++ k.1 u) ++ flat_map (λ component. component u) (map (λ k. k.1) ks))
      (us ++ (k.1 u ++ flat_map (λ component. component u) (map (λ k. k.1) ks)))
      (append_assoc us (k.1 u) (flat_map (λ component. component u) (map (λ k. k.1) ks)))
      (rest_acts s u h (beside e (k.0 s)) (us ++ k.1 u) (acts_beside e (k.0 s) us (k.1 u) a (k.2 s u h)) ks)

  assign_acts : AssignLayers DoesAs DoesAs assign_layer source.assign_layer
  assign_acts y s u h = rest_acts s u h (y.first.0 s) (y.first.1 u) (y.first.2 s u h) y.rest

  pub effect_law : (a : Assign) → DoesAs (effect_of a) (writes a)
  effect_law a = (two_assignments DoesAs DoesAs component_layer assign_layer source.component_layer
      source.assign_layer
      layer assign_acts).1 a

  taken_inside : (ws : List CWrite) → inside (taken state [] ws) ≡ taken state [] ws
  taken_inside [] = refl
  taken_inside (w ∷ ws) = elim (form_value state [] w.when) as
      (λ b. inside (cond b ((Some w.slot, term_value state [] w.value) ∷ taken state [] ws) (taken state [] ws)) ≡
      cond b ((Some w.slot, term_value state [] w.value) ∷ taken state [] ws) (taken state [] ws)) [
        | true ↦ ap (λ v. (Some w.slot, term_value state [] w.value) ∷ v) (taken_inside ws)
        | false ↦ taken_inside ws
      ]

  taken_stays : (ws : List CWrite) → leaves (taken state [] ws) ≡ false
  taken_stays [] = refl
  taken_stays (w ∷ ws) = elim (form_value state [] w.when) as
      (λ b. leaves (cond b ((Some w.slot, term_value state [] w.value) ∷ taken state [] ws) (taken state [] ws)) ≡
      false) [
        | true ↦ taken_stays ws
        | false ↦ taken_stays ws
      ]

  outsides_out : (fs : List CForm) → inside (outsides state [] fs) ≡ []
  outsides_out [] = refl
  outsides_out (f ∷ fs) = elim (form_value state [] f) as (λ b. inside (cond b ((None, pos 0) ∷ outsides state [] fs)
      (outsides state [] fs)) ≡ []) [
        | true ↦ outsides_out fs
        | false ↦ outsides_out fs
      ]

  or_false : (b : Bool) → (b || false) ≡ b
  or_false true = refl
  or_false false = refl

  -- the core step of an assignment is its step
  pub step_law : (ranges : Ranges) (a : Assign) (s : Scope) (u : Sight) → Sees state [] s u → (effect_of a s).exact ≡
      true →
      (effect_of a s).count.flaws ≡ no_flaws →
      step ranges (outside_writes state (effect_of a s).outside ++ inside_writes state (effect_of a s).writes) state ≡
      step ranges (writes a u) state
  step_law ranges a s u h x n =
      let e = effect_of a s in
      let d = effect_law a s u h x n in
      let us = outsides state [] e.outside in
      let ws = taken state [] e.writes in
      ap (λ v. step ranges (v ++ inside_writes state e.writes) state) (outside_out state e.outside)
      ∙ ap (λ v. step ranges (us ++ v) state) (inside_taken state e.writes)
      ∙ step_same ranges (us ++ ws) (writes a u) state
      (inside_joined us ws ∙ ap (λ v. v ++ inside ws) (outsides_out e.outside) ∙ taken_inside e.writes ∙ d.made)
      (leaves_joined us ws ∙ ap (λ v. leaves us || v) (taken_stays e.writes) ∙ or_false (leaves us) ∙ d.left)
