-- A program that is a layer over another steps as it does where the layer's own slots are put back.
use Rattle.std.proofs.Common.{◌≡◌, ℕ, zero, suc, nat_eq, nat_le, ◌+◌, ◌≤◌, ℤ, pos, List, [], ◌∷◌, ◌++◌, map, filter}
use Rattle.std.proofs.Common.{Bool, true, false, not, ◌&&◌, cond, Some, None, IsTrue, refl, sym, ap, ◌∙◌, subst}
use Rattle.std.proofs.Common.{slice_get, length, take, drop, arith}
use Rattle.std.specs.Prelude.{zip, Option}
use Rattle.std.specs.List.{list_all, list_any}
use Rattle.std.proofs.lemmas.Bool.{eqb-true, leb-true}
use Rattle.std.proofs.lemmas.List.{length-map}
use Rattle.meaning_states.specs.State.{State, Ranges}
use Rattle.meaning_states.specs.Step.{Write, is_inside, all_agree, is_defined}
use Rattle.meaning_states.proofs.StepTheorems.{and_left, and_right, both_true}
use Rattle.meaning_executions.specs.Execution.{Act}
use Rattle.core_terms.specs.declared.trees.CForm.{CForm}
use Rattle.core_terms.specs.declared.trees.CTerm.{CTerm}
use Rattle.core_terms.specs.declared.programs.CSlot.{CSlot}
use Rattle.core_terms.specs.declared.programs.CWrite.{CWrite}
use Rattle.core_terms.specs.declared.programs.CStmt.{CStmt}
use Rattle.core_terms.specs.declared.programs.CProgram.{CProgram}
use Rattle.core_terms.specs.Values.{number_at, term_value, form_value}
use Rattle.core_terms.specs.Places.{form_names_only, term_names_only}
use Rattle.core_terms.specs.Steps.{slot_ranges, outside_writes, inside_writes, core_writes, core_step}
use Rattle.core_terms.specs.Conditions.{IsProgram, NamesShown, is_shown, any_place}
use Rattle.core_terms.specs.Trees.{same_form, same_term}
use Rattle.core_terms.proofs.FrameLaws.{named_form, named_term}
use Rattle.core_terms.proofs.SameLaws.{same_form_is}
use Rattle.layer_laws.specs.Layers.{IsOver}
use Rattle.layer_laws.specs.Resets.{reset, old_writes}
use Rattle.layer_laws.specs.Writing.{StateWrites, act_of, writing, Extends}
use Rattle.layer_laws.proofs.WritingTheorems.{writing_layer}
use Rattle.fair_rounds.specs.from_executor.CoreSystem.{core_system}
use Rattle.meaning_executions.specs.Counting.{ints_eq}
use Rattle.rules_table.specs.Layers.{all_two, same_write, is_prefix, writes_below, extends, standing, added, labels}
use Rattle.rules_table.specs.Layers.{same_pattern, is_beside, is_layer, is_new}
use Rattle.rules_table.specs.LayerLaws.{LayerIsOver}
use Rattle.rules_table.proofs.EachLaws.{Each, from_all, each_at}
use Rattle.rules_table.proofs.FormLaws.{all_join}
use Rattle.rules_table.proofs.SameTerms.{same_term_is}

-- items of lists

pub all_at : {X : Type 0} (test : X → Bool) (xs : List X) → IsTrue (list_all test xs) → (i : ℕ) (x : X) →
    slice_get xs i ≡ Some x → IsTrue (test x)
all_at test [] t i x e = cc
all_at test (y ∷ xs) t zero x e =
    let same : y ≡ x = cc in subst (λ z. IsTrue (test z)) same (and_left (test y) (list_all test xs) t)
all_at test (y ∷ xs) t (suc i) x e = all_at test xs (and_right (test y) (list_all test xs) t) i x e

later_at : {X : Type 0} (test : X → Bool) (k : ℕ) (xs : List X) → IsTrue (list_all test (drop k xs)) → (i : ℕ)
    (x : X) → k ≤ i → slice_get xs i ≡ Some x → IsTrue (test x)
later_at test zero xs t i x h e = all_at test xs t i x e
later_at test (suc k) [] t i x h e = cc
later_at test (suc k) (y ∷ xs) t zero x h e = absurd (omega (arith, h))
later_at test (suc k) (y ∷ xs) t (suc i) x h e = later_at test k xs t i x (omega (arith, h)) e

pub two_at : {A B : Type 0} (test : A → B → Bool) (xs : List A) (ys : List B) →
    IsTrue (all_two test xs (take (length xs) ys)) → (i : ℕ) (x : A) (y : B) → slice_get xs i ≡ Some x →
    slice_get ys i ≡ Some y → IsTrue (test x y)
two_at test [] ys t i x y a b = cc
two_at test (v ∷ xs) [] t i x y a b = cc
two_at test (v ∷ xs) (w ∷ ys) t zero x y a b =
    let one : v ≡ x = cc in
    let two : w ≡ y = cc in
    subst (λ z. IsTrue (test z y)) one
    (subst (λ z. IsTrue (test v z)) two (and_left (test v w) (all_two test xs (take (length xs) ys)) t))
two_at test (v ∷ xs) (w ∷ ys) t (suc i) x y a b =
    two_at test xs ys (and_right (test v w) (all_two test xs (take (length xs) ys)) t) i x y a b

mapped_at : {X Y : Type 0} (make : X → Y) (xs : List X) (i : ℕ) (y : Y) → slice_get (map make xs) i ≡ Some y →
    (x : X) × (slice_get xs i ≡ Some x) × (make x ≡ y)
mapped_at make [] i y e = cc
mapped_at make (x ∷ xs) zero y e = let same : make x ≡ y = cc in (x, refl, same)
mapped_at make (x ∷ xs) (suc i) y e = mapped_at make xs i y e

-- a slot that is not the layer's own keeps its number
back_at : (new : ℕ → Bool) (k : ℕ) (origin s : State) (n m : ℕ) → m ≡ k + n → new m ≡ false →
    number_at (reset new k origin s) n ≡ number_at s n
back_at new k origin [] n m e h = refl
back_at new k [] (y ∷ ys) zero m e h =
    let same : m ≡ k = omega (arith, e) in ap (λ b. cond b (pos 0) y) (subst (λ i. new i ≡ false) same h)
back_at new k (o ∷ os) (y ∷ ys) zero m e h =
    let same : m ≡ k = omega (arith, e) in ap (λ b. cond b o y) (subst (λ i. new i ≡ false) same h)
back_at new k [] (y ∷ ys) (suc n) m e h = back_at new (suc k) [] ys n m (omega (arith, e)) h
back_at new k (o ∷ os) (y ∷ ys) (suc n) m e h = back_at new (suc k) os ys n m (omega (arith, e)) h

-- so what names none of the layer's own slots is worth the same where these are put back
pub form_back : (new : ℕ → Bool) (origin s e : State) (g : CForm) →
    IsTrue (form_names_only (λ n. not (new n)) any_place g) → form_value (reset new 0 origin s) e g ≡ form_value s e g
form_back new origin s e g t =
    named_form (reset new 0 origin s) s e e (λ n. not (new n)) any_place
    (λ n old. back_at new 0 origin s n n (omega arith) (off (new n) old)) (λ n any. refl) g t
  where
    off : (b : Bool) → IsTrue (not b) → b ≡ false
    off true old = cc
    off false old = refl

write_is : (v w : CWrite) → IsTrue (same_write v w) → v ≡ w
write_is v w t =
    let rest = and_right (nat_eq v.slot w.slot) (same_form v.when w.when && same_term v.value w.value) t in
    let slot = eqb-true v.slot w.slot
    (and_left (nat_eq v.slot w.slot) (same_form v.when w.when && same_term v.value w.value) t) in
    let when = same_form_is v.when w.when (and_left (same_form v.when w.when) (same_term v.value w.value) rest) in
    let value = same_term_is v.value w.value (and_right (same_form v.when w.when) (same_term v.value w.value) rest) in
    λ i. record { slot = slot i; when = when i; value = value i }

-- what one write makes at a state
abbrev made : State → CWrite → List Write
made s w = cond (form_value s [] w.when) ((Some w.slot, term_value s [] w.value) ∷ []) []

module _ (h f : CProgram) where
  abbrev new : ℕ → Bool
  new = is_new h f

  shown_is_old : (n : ℕ) → IsTrue (is_shown f.shown n) → new n ≡ false
  shown_is_old n t = off (is_shown h.shown n) (is_shown f.shown n) t
    where
      off : (a b : Bool) → IsTrue b → (a && not b) ≡ false
      off true true u = refl
      off true false u = cc
      off false b u = refl

  own_is_new : (n : ℕ) → IsTrue (is_shown h.shown n) → is_shown f.shown n ≡ false → new n ≡ true
  own_is_new n t e = both_true (is_shown h.shown n) (not (is_shown f.shown n)) t (ap not e)

  abbrev Old : CForm → Type 0
  Old g = IsTrue (form_names_only (is_shown f.shown) any_place g)

  -- a write that names only slots of the program below
  abbrev OldWrite : CWrite → Type 0
  OldWrite w = Old w.when × IsTrue (term_names_only (is_shown f.shown) any_place w.value)

  abbrev Seen : CWrite → Type 0
  Seen w = IsTrue (is_shown h.shown w.slot)

  abbrev below : CWrite → Bool
  below w = is_shown f.shown w.slot

  module _ (origin s : State) where
    abbrev r : State
    r = reset new 0 origin s

    shown_at : (n : ℕ) → IsTrue (is_shown f.shown n) → number_at r n ≡ number_at s n
    shown_at n t = back_at new 0 origin s n n (omega arith) (shown_is_old n t)

    old_form : (g : CForm) → Old g → form_value r [] g ≡ form_value s [] g
    old_form g t = named_form r s [] [] (is_shown f.shown) any_place shown_at (λ n any. refl) g t

    old_term : (u : CTerm) → IsTrue (term_names_only (is_shown f.shown) any_place u) →
        term_value r [] u ≡ term_value s [] u
    old_term u t = named_term r s [] [] (is_shown f.shown) any_place shown_at (λ n any. refl) u t

    -- outside an array

    abbrev Off : CForm → Type 0
    Off g = form_value s [] g ≡ false

    one_off : (ranges : Ranges) (g : CForm) (os : List CForm) (ws : List Write) →
        (IsTrue (list_all (is_inside ranges) (outside_writes s os ++ ws)) → Each Off os) → (b : Bool) →
        form_value s [] g ≡ b →
        IsTrue (list_all (is_inside ranges) ((cond b ((None, pos 0) ∷ []) [] ++ outside_writes s os) ++ ws)) →
        Each Off (g ∷ os)
    one_off ranges g os ws rest true e t = cc
    one_off ranges g os ws rest false e t = (e, rest t)

    -- where a step is defined no formula of its outside holds
    all_off : (ranges : Ranges) (os : List CForm) (ws : List Write) →
        IsTrue (list_all (is_inside ranges) (outside_writes s os ++ ws)) → Each Off os
    all_off ranges [] ws t = tt
    all_off ranges (g ∷ os) ws t =
        one_off ranges g os ws (λ u. all_off ranges os ws u) (form_value s [] g) refl t

    none_outside : (os : List CForm) → Each Off os → outside_writes s os ≡ []
    none_outside [] off = refl
    none_outside (g ∷ os) off =
        ap (λ b. cond b ((None, pos 0) ∷ []) [] ++ outside_writes s os) off.0 ∙ none_outside os off.1

    prefix_off : (gs os : List CForm) → IsTrue (is_prefix gs os) → Each Old gs → Each Off os →
        outside_writes r gs ≡ []
    prefix_off [] os t old off = refl
    prefix_off (g ∷ gs) [] t old off = cc
    prefix_off (g ∷ gs) (o ∷ os) t old off =
        let same = same_form_is g o (and_left (same_form g o) (is_prefix gs os) t) in
        let value : form_value r [] g ≡ false = old_form g old.0 ∙ ap (λ x. form_value s [] x) same ∙ off.0 in
        ap (λ b. cond b ((None, pos 0) ∷ []) [] ++ outside_writes r gs) value
        ∙ prefix_off gs os (and_right (same_form g o) (is_prefix gs os) t) old.1 off.1

    -- inside

    made_back : (w : CWrite) → OldWrite w → made r w ≡ made s w
    made_back w old = λ i. cond (old_form w.when old.0 i) ((Some w.slot, old_term w.value old.1 i) ∷ []) []

    one_stays : (b : Bool) (n : ℕ) (z : ℤ) (ws : List Write) → new n ≡ false →
        cond b ((Some n, z) ∷ []) [] ++ old_writes new ws ≡ old_writes new (cond b ((Some n, z) ∷ []) [] ++ ws)
    one_stays true n z ws e = ap (λ c. cond c (old_writes new ws) ((Some n, z) ∷ old_writes new ws)) (sym e)
    one_stays false n z ws e = refl

    one_goes : (b : Bool) (n : ℕ) (z : ℤ) (ws : List Write) → new n ≡ true →
        old_writes new ws ≡ old_writes new (cond b ((Some n, z) ∷ []) [] ++ ws)
    one_goes true n z ws e = ap (λ c. cond c (old_writes new ws) ((Some n, z) ∷ old_writes new ws)) (sym e)
    one_goes false n z ws e = refl

    one_inside : (vs : List CWrite) (w : CWrite) (ws : List CWrite) →
        ((us : List CWrite) → IsTrue (all_two same_write us (filter below ws)) → Each OldWrite us →
        inside_writes r us ≡ old_writes new (inside_writes s ws)) → Seen w → Each OldWrite vs → (b : Bool) →
        below w ≡ b → IsTrue (all_two same_write vs (cond b (w ∷ filter below ws) (filter below ws))) →
        inside_writes r vs ≡ old_writes new (inside_writes s (w ∷ ws))
    one_inside [] w ws rest seen old true e t = cc
    one_inside (v ∷ vs) w ws rest seen old true e t =
        let more = and_right (same_write v w) (all_two same_write vs (filter below ws)) t in
        let same = write_is v w (and_left (same_write v w) (all_two same_write vs (filter below ws)) t) in
        ap (λ us. us ++ inside_writes r vs) (made_back v old.0 ∙ ap (made s) same)
        ∙ ap (λ us. made s w ++ us) (rest vs more old.1)
        ∙ one_stays (form_value s [] w.when) w.slot (term_value s [] w.value) (inside_writes s ws)
        (shown_is_old w.slot e)
    one_inside vs w ws rest seen old false e t =
        rest vs t old
        ∙ one_goes (form_value s [] w.when) w.slot (term_value s [] w.value) (inside_writes s ws)
        (own_is_new w.slot seen e)

    inside_back : (vs ws : List CWrite) → IsTrue (all_two same_write vs (filter below ws)) → Each OldWrite vs →
        Each Seen ws → inside_writes r vs ≡ old_writes new (inside_writes s ws)
    inside_back [] [] t old seen = refl
    inside_back (v ∷ vs) [] t old seen = cc
    inside_back vs (w ∷ ws) t old seen =
        one_inside vs w ws (λ us u olds. inside_back us ws u olds seen.1) seen.0 old (below w) refl t

    -- where the layer's instance is defined, that below makes its old writes
    made_below : (ranges : Ranges) (x t : CStmt) → IsTrue (extends f.shown x t) → Each Old x.outside →
        Each OldWrite x.writes → Each Seen t.writes → IsTrue (is_defined ranges (core_writes s t)) →
        core_writes r x ≡ old_writes new (core_writes s t)
    made_below ranges x t ext outside old seen defined =
        let lists = and_right (ints_eq x.indices t.indices)
        (all_two same_write x.writes (writes_below f.shown t) && is_prefix x.outside t.outside) ext in
        let writes = and_left (all_two same_write x.writes (writes_below f.shown t))
        (is_prefix x.outside t.outside) lists in
        let first = and_right (all_two same_write x.writes (writes_below f.shown t))
        (is_prefix x.outside t.outside) lists in
        let off = all_off ranges t.outside (inside_writes s t.writes)
        (and_left (list_all (is_inside ranges) (core_writes s t)) (all_agree (core_writes s t)) defined) in
        ap (λ os. os ++ inside_writes r x.writes) (prefix_off x.outside t.outside first outside off)
        ∙ inside_back x.writes t.writes writes old seen
        ∙ ap (λ os. old_writes new (os ++ inside_writes s t.writes)) (sym (none_outside t.outside off))

  -- an added instance writes new slots alone

  abbrev is_own : Write → Bool
  is_own (None, z) = true
  is_own (Some n, z) = new n

  outside_own : (s : State) (os : List CForm) → IsTrue (list_all is_own (outside_writes s os))
  outside_own s [] = refl
  outside_own s (g ∷ os) = one (form_value s [] g) (outside_own s os)
    where
      one : (b : Bool) → IsTrue (list_all is_own (outside_writes s os)) →
          IsTrue (list_all is_own (cond b ((None, pos 0) ∷ []) [] ++ outside_writes s os))
      one true rest = rest
      one false rest = rest

  one_own : (b : Bool) (n : ℕ) (z : ℤ) (ws : List Write) → new n ≡ true → IsTrue (list_all is_own ws) →
      IsTrue (list_all is_own (cond b ((Some n, z) ∷ []) [] ++ ws))
  one_own true n z ws e rest = both_true (new n) (list_all is_own ws) e rest
  one_own false n z ws e rest = rest

  inside_own : (s : State) (ws : List CWrite) → IsTrue (list_all (λ w. not (is_shown f.shown w.slot)) ws) →
      Each Seen ws → IsTrue (list_all is_own (inside_writes s ws))
  inside_own s [] t seen = refl
  inside_own s (w ∷ ws) t seen =
      one_own (form_value s [] w.when) w.slot (term_value s [] w.value) (inside_writes s ws)
      (both_true (is_shown h.shown w.slot) (not (is_shown f.shown w.slot)) seen.0
      (and_left (not (is_shown f.shown w.slot)) (list_all (λ v. not (is_shown f.shown v.slot)) ws) t))
      (inside_own s ws
      (and_right (not (is_shown f.shown w.slot)) (list_all (λ v. not (is_shown f.shown v.slot)) ws) t) seen.1)

  own_at : (s : State) (t : CStmt) → IsTrue (list_all (λ w. not (is_shown f.shown w.slot)) t.writes) →
      Each Seen t.writes → (place n : ℕ) (w : Write) → slice_get (core_writes s t) place ≡ Some w → w.0 ≡ Some n →
      IsTrue (new n)
  own_at s t beside seen place n w there named =
      go w.0 w.1 (all_at is_own (core_writes s t)
      (all_join is_own (outside_writes s t.outside) (inside_writes s t.writes) (outside_own s t.outside)
      (inside_own s t.writes beside seen)) place w there) named
    where
      go : (o : Option ℕ) (z : ℤ) → IsTrue (is_own (o, z)) → o ≡ Some n → IsTrue (new n)
      go None z own e = cc
      go (Some m) z own e = let same : m ≡ n = cc in subst (λ i. IsTrue (new i)) same own

-- a statement as the writes that it makes
abbrev writing_of : CStmt → StateWrites
writing_of t state = core_writes state t

acts_are : (slots : List CSlot) (ts : List CStmt) →
    map (act_of (slot_ranges slots)) (map writing_of ts) ≡ map (core_step slots) ts
acts_are slots [] = refl
acts_are slots (t ∷ ts) = ap (λ (acts : List Act). core_step slots t ∷ acts) (acts_are slots ts)

module _ (slots : List CSlot) (h f : CProgram) (layer : IsProgram slots h) (under : IsProgram slots f)
    (is : IsTrue (is_layer h f)) where
  abbrev k : ℕ
  k = length f.statements

  rest_one : IsTrue (all_two (extends f.shown) f.statements (standing h f)
      && (same_pattern (zip (labels f.statements) (labels (standing h f)))
      && list_all (is_beside f.shown (labels (standing h f))) (added h f)))
  rest_one = and_right (nat_le k (length h.statements)) _ is

  pub few_below : k ≤ length h.statements
  few_below = leb-true k (length h.statements) (and_left (nat_le k (length h.statements)) _ is)

  pub standing_extends : IsTrue (all_two (extends f.shown) f.statements (standing h f))
  standing_extends = and_left (all_two (extends f.shown) f.statements (standing h f)) _ rest_one

  rest_two : IsTrue (same_pattern (zip (labels f.statements) (labels (standing h f)))
      && list_all (is_beside f.shown (labels (standing h f))) (added h f))
  rest_two = and_right (all_two (extends f.shown) f.statements (standing h f)) _ rest_one

  pub pattern : IsTrue (same_pattern (zip (labels f.statements) (labels (standing h f))))
  pattern = and_left (same_pattern (zip (labels f.statements) (labels (standing h f)))) _ rest_two

  added_beside : IsTrue (list_all (is_beside f.shown (labels (standing h f))) (added h f))
  added_beside = and_right (same_pattern (zip (labels f.statements) (labels (standing h f)))) _ rest_two

  seen_at : (i : ℕ) (t : CStmt) → slice_get h.statements i ≡ Some t → Each (Seen h f) t.writes
  seen_at i t there =
      from_all (Seen h f) t.writes
      (each_at (NamesShown h.shown) h.statements (from_all (NamesShown h.shown) h.statements layer.shown_statements) i
      t there).targets

  names_at : (i : ℕ) (x : CStmt) → slice_get f.statements i ≡ Some x → NamesShown f.shown x
  names_at i x there =
      each_at (NamesShown f.shown) f.statements (from_all (NamesShown f.shown) f.statements under.shown_statements) i
      x there

  old_at : (x : CStmt) → NamesShown f.shown x → Each (OldWrite h f) x.writes
  old_at x names = each_both x.writes (from_all (λ w. Old h f w.when) x.writes names.conditions)
      (from_all (λ w. IsTrue (term_names_only (is_shown f.shown) any_place w.value)) x.writes names.values)
    where
      each_both : (ws : List CWrite) → Each (λ w. Old h f w.when) ws →
          Each (λ w. IsTrue (term_names_only (is_shown f.shown) any_place w.value)) ws → Each (OldWrite h f) ws
      each_both [] one two = tt
      each_both (w ∷ ws) one two = ((one.0, two.0), each_both ws one.1 two.1)

  below_at : (i : ℕ) (x t : CStmt) → slice_get f.statements i ≡ Some x → slice_get h.statements i ≡ Some t →
      (origin s : State) → IsTrue (is_defined (slot_ranges slots) (core_writes s t)) →
      core_writes (reset (is_new h f) 0 origin s) x ≡ old_writes (is_new h f) (core_writes s t)
  below_at i x t one other origin s defined =
      let names = names_at i x one in
      made_below h f origin s (slot_ranges slots) x t
      (two_at (extends f.shown) f.statements h.statements standing_extends i x t one other)
      (from_all (Old h f) x.outside names.outside) (old_at x names) (seen_at i t other) defined

  beside_at : (i : ℕ) (t : CStmt) → k ≤ i → slice_get h.statements i ≡ Some t → (s : State) (place n : ℕ)
      (w : Write) → slice_get (core_writes s t) place ≡ Some w → w.0 ≡ Some n → IsTrue (is_new h f n)
  beside_at i t far there s place n w at named =
      own_at h f s t
      (and_right (not (list_any (λ label. nat_eq label t.label) (labels (standing h f)))) _
      (later_at (is_beside f.shown (labels (standing h f))) k h.statements added_beside i t far there))
      (seen_at i t there) place n w at named

  statements_extend : Extends (is_new h f) (slot_ranges slots) (map writing_of f.statements)
      (map writing_of h.statements)
  statements_extend =
      let some = under.some in
      let more = few_below in
      let one = length-map f.statements writing_of in
      let other = length-map h.statements writing_of in
      record {
        some = omega (arith, some, one);
        few = omega (arith, more, one, other);
        below = λ i a b there above origin s defined.
            let x = mapped_at writing_of f.statements i a there in
            let t = mapped_at writing_of h.statements i b above in
            subst (λ (w : StateWrites). w (reset (is_new h f) 0 origin s) ≡ old_writes (is_new h f) (b s)) x.2
            (subst (λ (w : StateWrites). core_writes (reset (is_new h f) 0 origin s) x.0 ≡
            old_writes (is_new h f) (w s))
            t.2
            (below_at i x.0 t.0 x.1 t.1 origin s
            (subst (λ (w : StateWrites). IsTrue (is_defined (slot_ranges slots) (w s))) (sym t.2) defined)));
        beside = λ i b far above s place n w at named.
            let t = mapped_at writing_of h.statements i b above in
            beside_at i t.0 (omega (arith, far, one)) t.1 s place n w
            (subst (λ (v : StateWrites). slice_get (v s) place ≡ Some w) (sym t.2) at) named;
      }

  is_over : IsOver (core_system slots h) (core_system slots f) (reset (is_new h f) 0)
  is_over =
      let over = writing_layer (is_new h f) (slot_ranges slots) (core_system slots f).initial
      (core_system slots h).initial (map writing_of f.statements) (map writing_of h.statements) statements_extend in
      subst (λ (acts : List Act). IsOver (core_system slots h)
      (record { initial = (core_system slots f).initial; steps = acts }) (reset (is_new h f) 0))
      (acts_are slots f.statements)
      (subst (λ (acts : List Act). IsOver (record { initial = (core_system slots h).initial; steps = acts })
      (writing (core_system slots f).initial (slot_ranges slots) (map writing_of f.statements))
      (reset (is_new h f) 0)) (acts_are slots h.statements) over)

pub layer_is_over : LayerIsOver
layer_is_over slots h f layer under is = is_over slots h f layer under is
