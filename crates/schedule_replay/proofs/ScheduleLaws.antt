-- Where the instances stand that choices name.
use Rattle.std.proofs.Common.{◌≡◌, ℕ, zero, suc, ◌+◌, ◌<◌, nat_eq, length, List, [], ◌∷◌, map, take, Bool, true}
use Rattle.std.proofs.Common.{false, cond, Some, None, refl, sym, ap, ◌∙◌, slice_get, arith}
use Rattle.std.specs.Prelude.{All, is_none}
use Rattle.std.specs.List.{position_from}
use Rattle.std.specs.Ordering.{int_eq}
use Rattle.std.specs.Cmp.Lexicographic.{pointwise}
use Rattle.std.specs.Cmp.Rules.{signed_items}
use Rattle.std.proofs.lemmas.Bool.Decides.{Decides-eqb}
use Rattle.core_terms.specs.declared.programs.CStmt.{CStmt}
use Rattle.core_terms.specs.declared.documents.Choice.{Choice}
use Rattle.core_terms.specs.Conditions.{EachPair, AreApart}
use Rattle.meaning_states.proofs.StepTheorems.{and_left, and_right}
use Rattle.schedule_replay.specs.Schedules.{names_instance, place_of, first_unknown}

-- a place at which the test passes, where it passes at no place before, is the first
first_from : {X : Type 0} (t : X → Bool) (xs : List X) (k i : ℕ) (x : X) → slice_get xs i ≡ Some x → t x ≡ true →
    ((j : ℕ) (y : X) → j < i → slice_get xs j ≡ Some y → t y ≡ false) → position_from t k xs ≡ Some (k + i)
first_from t [] k i x e h none = cc
first_from t (y ∷ ys) k zero x e h none =
    let same : y ≡ x = cc in
    let here : k ≡ k + 0 = omega arith in
    ap (λ b. cond b (Some k) (position_from t (k + 1) ys)) (ap t same ∙ h) ∙ ap (λ n. Some n) here
first_from t (y ∷ ys) k (suc i) x e h none =
    let more : k + 1 + i ≡ k + suc i = omega arith in
    ap (λ b. cond b (Some k) (position_from t (k + 1) ys)) (none 0 y (omega arith) refl)
    ∙ first_from t ys (k + 1) i x e h (λ j z less there. none (suc j) z (omega arith) there) ∙ ap (λ n. Some n) more

same_label : (m n : ℕ) → nat_eq m n ≡ true → m ≡ n
same_label m n e = (Decides-eqb m n).0 e

-- the instance at a place that a choice names is the only one, so it is the first
pub named_at : (ss : List CStmt) (c : Choice) (place : ℕ) (s : CStmt) → EachPair AreApart ss →
    slice_get ss place ≡ Some s → names_instance c s ≡ true → place_of ss c ≡ Some place
named_at ss c place s apart e h =
    let here : 0 + place ≡ place = omega arith in
    first_from (names_instance c) ss 0 place s e h (λ j y less there. other j y less there (names_instance c y) refl)
    ∙ ap (λ n. Some n) here
  where
    other : (j : ℕ) (y : CStmt) → j < place → slice_get ss j ≡ Some y → (b : Bool) → names_instance c y ≡ b → b ≡ false
    other j y less there false test = refl
    other j y less there true test =
        let labels = same_label y.label c.label (and_left (nat_eq y.label c.label)
        (pointwise int_eq y.indices c.indices) test)
        ∙ sym (same_label s.label c.label (and_left (nat_eq s.label c.label)
        (pointwise int_eq s.indices c.indices) h)) in
        let indices = (signed_items y.indices c.indices).0
        (and_right (nat_eq y.label c.label) (pointwise int_eq y.indices c.indices) test)
        ∙ sym ((signed_items s.indices c.indices).0
        (and_right (nat_eq s.label c.label) (pointwise int_eq s.indices c.indices) h)) in
        absurd ((apart j place y s less there e).differ labels indices)

-- where all choices before a place name instances and the one there names none, it is the first
pub unknown_at : (ss : List CStmt) (choices : List Choice) (places : List ℕ) (i : ℕ) (c : Choice) →
    map (λ n. Some n) places ≡ map (place_of ss) (take i choices) → slice_get choices i ≡ Some c →
    place_of ss c ≡ None → first_unknown ss choices ≡ Some c
unknown_at ss [] places i c m e h = cc
unknown_at ss (d ∷ ds) places zero c m e h =
    let same : d ≡ c = cc in
    ap (λ b. cond b (Some d) (first_unknown ss ds)) (ap is_none (ap (place_of ss) same ∙ h)) ∙ ap (λ x. Some x) same
unknown_at ss (d ∷ ds) [] (suc i) c m e h = cc
unknown_at ss (d ∷ ds) (p ∷ ps) (suc i) c m e h =
    let known : Some p ≡ place_of ss d = cc in
    let rest : map (λ n. Some n) ps ≡ map (place_of ss) (take i ds) = cc in
    ap (λ b. cond b (Some d) (first_unknown ss ds)) (ap is_none (sym known)) ∙ unknown_at ss ds ps i c rest e h

-- a place that is found lies in the list
found_below : {X : Type 0} (t : X → Bool) (xs : List X) (k n : ℕ) → position_from t k xs ≡ Some n → n < k + length xs
found_below t [] k n e = cc
found_below {X} t (x ∷ xs) k n e = go (t x) e (λ f. found_below t xs (k + 1) n f)
  where
    go : (b : Bool) → cond b (Some k) (position_from t (k + 1) xs) ≡ Some n →
        (position_from t (k + 1) xs ≡ Some n → n < k + 1 + length xs) → n < k + suc (length xs)
    go true f rest = let same : k ≡ n = cc in omega arith
    go false f rest = let less = rest f in omega arith

-- the places of instances lie among them
pub places_below : (ss : List CStmt) (choices : List Choice) (places : List ℕ) →
    map (λ n. Some n) places ≡ map (place_of ss) choices → All (λ n. n < length ss) places
places_below ss choices [] m = λ k d less. absurd (omega arith)
places_below ss [] (p ∷ ps) m = cc
places_below ss (c ∷ cs) (p ∷ ps) m =
    let first : Some p ≡ place_of ss c = cc in
    let rest : map (λ n. Some n) ps ≡ map (place_of ss) cs = cc in
    let here : p < length ss = omega (arith, found_below (names_instance c) ss 0 p (sym first)) in
    all_more (λ n. n < length ss) p ps here (places_below ss cs ps rest)
  where
    all_more : (P : ℕ → Type 0) (x : ℕ) (xs : List ℕ) → P x → All P xs → All P (x ∷ xs)
    all_more P x xs h rest zero d less = h
    all_more P x xs h rest (suc k) d less = rest k d (omega arith)
