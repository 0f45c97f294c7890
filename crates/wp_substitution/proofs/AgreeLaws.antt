-- A conjunction of closed formulas with all pairs of closed writes: it stays where they agree, and fails where not.
use Rattle.std.proofs.Common.{◌≡◌, ℕ, zero, suc, ◌+◌, ◌<◌, ℤ, pos, ◌-ℤ◌, nat_eq, Bool, true, false, not, ◌&&◌, ◌||◌}
use Rattle.std.proofs.Common.{cond, List, [], ◌∷◌, map, drop, length, get_or, Option, Some, None, refl, sym, ap, ◌∙◌}
use Rattle.std.specs.List.{list_any}
use Rattle.std.specs.Option.{is_some, option_map}
use Rattle.std.proofs.lemmas.Bool.{eqb-true, eq-eqb}
use Rattle.meaning_states.specs.State.{int_eq}
use Rattle.core_terms.specs.declared.trees.CForm.{CForm}
use Rattle.core_terms.specs.declared.trees.CForm.TheVariants.{Top, Bottom, And}
use Rattle.core_terms.specs.declared.programs.CWrite.{CWrite}
use Rattle.core_terms.specs.Folding.{joined, number_of, truth_of, truth_or, and_form}
use Rattle.wp_substitution.specs.Preconditions.{pair_form, writes_to, pair_forms}
use Rattle.wp_substitution.specs.Joined.{joined_all, or_top, IsFolded, known_write, known_pair}
use Rattle.wp_substitution.specs.Oversized.{is_open}
use Rattle.wp_substitution.specs.Agreeing.{made_number, number_given, first_number, number_at, first_given, are_one}
use Rattle.wp_substitution.specs.Agreeing.{value_agrees, writes_agree}
use Rattle.meaning_states.proofs.StepTheorems.{same_number}
use Rattle.core_terms.proofs.IntTests.{zero_tests}
use Rattle.wp_substitution.proofs.JoinedLaws.{joined-append, rest_of}
use Rattle.wp_substitution.proofs.KnownLaws.{truth-Bottom, bottom_folded}
use Rattle.wp_substitution.proofs.PairLaws.{pair_truth, truth-And}

-- ---- what two closed writes need

-- whether two numbers are one, where both writes are made
abbrev pair_of : Bool → ℤ → Bool → ℤ → Bool
pair_of a x b y = not (a && b) || int_eq (x -ℤ y) (pos 0)

record Closed (w : CWrite) : Type 0 where
  made : Bool
  number : ℤ
  truth : truth_of w.when ≡ Some made
  value : number_of w.value ≡ Some number

closed_write : (w : CWrite) → is_open w ≡ false → Closed w
closed_write w e = go (truth_of w.when) (number_of w.value) refl refl
  where
    go : (m : Option Bool) (n : Option ℤ) → truth_of w.when ≡ m → number_of w.value ≡ n → Closed w
    go None n h k = cc
    go (Some b) None h k = cc
    go (Some b) (Some z) h k = record { made = b; number = z; truth = h; value = k }

pair_known : (w v : CWrite) (c : Closed w) (d : Closed v) →
    truth_of (pair_form w v) ≡ Some (pair_of c.made c.number d.made d.number)
pair_known w v c d =
    let one : known_pair (known_write w) (known_write v) ≡
    joined (λ x y. x || y) (option_map not (joined (λ x y. x && y) (Some c.made) (truth_of v.when)))
    (option_map (λ z. int_eq z (pos 0)) (joined (λ x y. x -ℤ y) (Some c.number) (number_of v.value))) =
    ap (λ m. joined (λ x y. x || y) (option_map not (joined (λ x y. x && y) m (truth_of v.when)))
    (option_map (λ z. int_eq z (pos 0)) (joined (λ x y. x -ℤ y) (number_of w.value) (number_of v.value)))) c.truth
    ∙ ap (λ n. joined (λ x y. x || y) (option_map not (joined (λ x y. x && y) (Some c.made) (truth_of v.when)))
    (option_map (λ z. int_eq z (pos 0)) (joined (λ x y. x -ℤ y) n (number_of v.value)))) c.value in
    pair_truth w v ∙ one
    ∙ ap (λ m. joined (λ x y. x || y) (option_map not (joined (λ x y. x && y) (Some c.made) m))
    (option_map (λ z. int_eq z (pos 0)) (joined (λ x y. x -ℤ y) (Some c.number) (number_of v.value)))) d.truth
    ∙ ap (λ n. joined (λ x y. x || y) (option_map not (Some (c.made && d.made)))
    (option_map (λ z. int_eq z (pos 0)) (joined (λ x y. x -ℤ y) (Some c.number) n))) d.value

one_number : (a b : Bool) (x y : ℤ) →
    pair_of a x b y ≡ are_one (made_number (Some a) (Some x)) (made_number (Some b) (Some y))
one_number true true x y = zero_tests x y
one_number true false x y = refl
one_number false b x y = refl

pair_agrees : (w v : CWrite) → Closed w → Closed v →
    truth_of (pair_form w v) ≡ Some (value_agrees w (number_given v))
pair_agrees w v c d =
    let first : number_given w ≡ made_number (Some c.made) (Some c.number) =
    ap (λ m. made_number m (number_of w.value)) c.truth ∙ ap (made_number (Some c.made)) c.value in
    let second : number_given v ≡ made_number (Some d.made) (Some d.number) =
    ap (λ m. made_number m (number_of v.value)) d.truth ∙ ap (made_number (Some d.made)) d.value in
    pair_known w v c d ∙ ap Some (one_number c.made d.made c.number d.number
    ∙ ap (λ m. are_one m (made_number (Some d.made) (Some d.number))) (sym first)
    ∙ ap (are_one (number_given w)) (sym second))

-- ---- a conjunction of closed formulas

record Settled (g : CForm) : Type 0 where
  truth : Bool
  known : truth_of g ≡ Some truth
  folded : IsFolded g

settled_is : (g : CForm) (s : Settled g) → g ≡ cond s.truth Top Bottom
settled_is g s = sym s.folded ∙ ap (λ m. truth_or m g) s.known

and_settled : (g f : CForm) (s : Settled g) (b : Bool) → truth_of f ≡ Some b →
    and_form g f ≡ cond b g Bottom
and_settled g f s b e =
    let known : truth_of (And g f) ≡ Some (s.truth && b) =
    truth-And g f ∙ ap (λ m. joined (λ x y. x && y) m (truth_of f)) s.known
    ∙ ap (joined (λ x y. x && y) (Some s.truth)) e in
    ap (λ m. truth_or m (And g f)) known ∙ go s.truth b (settled_is g s)
  where
    go : (a c : Bool) → g ≡ cond a Top Bottom → cond (a && c) Top Bottom ≡ cond c g Bottom
    go true true h = sym h
    go true false h = refl
    go false true h = sym h
    go false false h = refl

settled_bottom : Settled Bottom
settled_bottom = record { truth = false; known = truth-Bottom; folded = bottom_folded }

settled_or : (g : CForm) → Settled g → (b : Bool) → Settled (cond b g Bottom)
settled_or g s true = s
settled_or g s false = settled_bottom

both_stay : (b r : Bool) (g : CForm) → cond r (cond b g Bottom) Bottom ≡ cond (b && r) g Bottom
both_stay true r g = refl
both_stay false true g = refl
both_stay false false g = refl

-- ---- the pairs of one write, and those of all

abbrev AllClosed : List CWrite → Type 0
AllClosed ws = list_any is_open ws ≡ false

first_false : (a b : Bool) → (a || b) ≡ false → a ≡ false
first_false true b h = h
first_false false b h = refl

second_false : (a b : Bool) → (a || b) ≡ false → b ≡ false
second_false true b h = cc
second_false false b h = h

abbrev row : CWrite → ℕ → List CWrite → Bool
row w n [] = true
row w n (v ∷ vs) = cond (nat_eq n v.slot) (value_agrees w (number_given v) && row w n vs) (row w n vs)

row_joined : (w : CWrite) → Closed w → (n : ℕ) (vs : List CWrite) → AllClosed vs → (g : CForm) → Settled g →
    joined_all (Some g) (map (pair_form w) (writes_to n vs)) ≡ Some (cond (row w n vs) g Bottom)
row_joined w c n [] closed g s = refl
row_joined w c n (v ∷ vs) closed g s =
    go (nat_eq n v.slot) refl (closed_write v (first_false (is_open v) (list_any is_open vs) closed))
    (row_joined w c n vs (second_false (is_open v) (list_any is_open vs) closed))
  where
    go : (b : Bool) → nat_eq n v.slot ≡ b → Closed v → ((h : CForm) → Settled h →
        joined_all (Some h) (map (pair_form w) (writes_to n vs)) ≡ Some (cond (row w n vs) h Bottom)) →
        joined_all (Some g) (map (pair_form w) (writes_to n (v ∷ vs))) ≡ Some (cond (row w n (v ∷ vs)) g Bottom)
    go true e d later =
        let same = value_agrees w (number_given v) in
        ap (λ b. joined_all (Some g) (map (pair_form w) (cond b (v ∷ writes_to n vs) (writes_to n vs)))) e
        ∙ ap (λ h. joined_all (Some h) (map (pair_form w) (writes_to n vs)))
        (and_settled g (pair_form w v) s same (pair_agrees w v c d))
        ∙ later (cond same g Bottom) (settled_or g s same) ∙ ap Some (both_stay same (row w n vs) g)
        ∙ ap (λ b. Some (cond (cond b (same && row w n vs) (row w n vs)) g Bottom)) (sym e)
    go false e d later =
        ap (λ b. joined_all (Some g) (map (pair_form w) (cond b (v ∷ writes_to n vs) (writes_to n vs)))) e
        ∙ later g s
        ∙ ap (λ b. Some (cond (cond b (value_agrees w (number_given v) && row w n vs) (row w n vs)) g Bottom)) (sym e)

none_differs : (m : Option ℤ) → are_one m None ≡ true
none_differs None = refl
none_differs (Some z) = refl

with_none : (b : Bool) → (b && true) ≡ b
with_none true = refl
with_none false = refl

twice : (b : Bool) → (b && b) ≡ b
twice true = refl
twice false = refl

-- with two numbers that are one, where both are there, a number is one with both where it is with the first
first_decides : (m k l : Option ℤ) → are_one k l ≡ true →
    (are_one m k && are_one m l) ≡ are_one m (first_number k l)
first_decides m None l h = ap (λ b. b && are_one m l) (none_differs m)
first_decides m (Some y) None h = ap (λ b. are_one m (Some y) && b) (none_differs m) ∙ with_none (are_one m (Some y))
first_decides m (Some y) (Some t) h =
    ap (λ z. are_one m (Some y) && are_one m (Some z)) (sym (same_number y t h)) ∙ twice (are_one m (Some y))

turned : (m n : ℕ) (b : Bool) → nat_eq m n ≡ b → nat_eq n m ≡ b
turned m n true e = eq-eqb n m (sym (eqb-true m n e))
turned m n false e = go (nat_eq n m) refl
  where
    go : (b : Bool) → nat_eq n m ≡ b → b ≡ false
    go true k = sym (eq-eqb m n (sym (eqb-true n m k))) ∙ e
    go false k = refl

row_is : (w : CWrite) (n : ℕ) (vs : List CWrite) → writes_agree vs ≡ true →
    row w n vs ≡ value_agrees w (first_given n vs)
row_is w n [] same = sym (none_differs (number_given w))
row_is w n (v ∷ vs) same =
    go (nat_eq n v.slot) refl (row_is w n vs (both_first (writes_agree vs) _ same))
    (both_second (writes_agree vs) _ same)
  where
    both_first : (a b : Bool) → (a && b) ≡ true → a ≡ true
    both_first true b h = refl
    both_first false b h = h

    both_second : (a b : Bool) → (a && b) ≡ true → b ≡ true
    both_second true b h = h
    both_second false b h = cc

    go : (b : Bool) → nat_eq n v.slot ≡ b → row w n vs ≡ value_agrees w (first_given n vs) →
        value_agrees v (first_given v.slot vs) ≡ true → row w n (v ∷ vs) ≡ value_agrees w (first_given n (v ∷ vs))
    go true e later one =
        let given = number_given v in
        let slot : n ≡ v.slot = eqb-true n v.slot e in
        ap (λ b. cond b (value_agrees w given && row w n vs) (row w n vs)) e
        ∙ ap (λ b. value_agrees w given && b) later
        ∙ first_decides (number_given w) given (first_given n vs)
        (ap (λ k. value_agrees v (first_given k vs)) slot ∙ one)
        ∙ ap (λ b. value_agrees w (cond b (number_at v (first_given n vs)) (first_given n vs)))
        (sym (turned n v.slot true e))
    go false e later one =
        ap (λ b. cond b (value_agrees w (number_given v) && row w n vs) (row w n vs)) e ∙ later
        ∙ ap (λ b. value_agrees w (cond b (number_at v (first_given n vs)) (first_given n vs)))
        (sym (turned n v.slot false e))

all_joined : (ws : List CWrite) → AllClosed ws → (g : CForm) → Settled g →
    joined_all (Some g) (pair_forms ws) ≡ Some (cond (writes_agree ws) g Bottom)
all_joined [] closed g s = refl
all_joined (w ∷ ws) closed g s =
    let own = closed_write w (first_false (is_open w) (list_any is_open ws) closed) in
    let others = second_false (is_open w) (list_any is_open ws) closed in
    let r = row w w.slot ws in
    joined-append (Some g) (map (pair_form w) (writes_to w.slot ws)) (pair_forms ws)
    ∙ ap (λ o. joined_all o (pair_forms ws)) (row_joined w own w.slot ws others g s)
    ∙ all_joined ws others (cond r g Bottom) (settled_or g s r)
    ∙ ap Some (go (writes_agree ws) refl)
  where
    go : (b : Bool) → writes_agree ws ≡ b → cond b (cond (row w w.slot ws) g Bottom) Bottom
        ≡ cond (b && value_agrees w (first_given w.slot ws)) g Bottom
    go true e = ap (λ c. cond c g Bottom) (row_is w w.slot ws e)
    go false e = refl

-- so with all pairs of closed writes a settled conjunction stays, or fails
pub closed_joined : (o : Option CForm) (m : Option Bool) (ws : List CWrite) → (is_some o && is_some m) ≡ true →
    m ≡ truth_of (or_top o) → IsFolded (or_top o) → AllClosed ws →
    joined_all o (pair_forms ws) ≡ cond (writes_agree ws) o (Some Bottom)
closed_joined None m ws there truth folded closed = cc
closed_joined (Some g) None ws there truth folded closed = cc
closed_joined (Some g) (Some b) ws there truth folded closed =
    all_joined ws closed g (record { truth = b; known = sym truth; folded = folded }) ∙ go (writes_agree ws)
  where
    go : (c : Bool) → ◌≡◌ {A = Option CForm} (Some (cond c g Bottom)) (cond c (Some g) (Some Bottom))
    go true = refl
    go false = refl

-- ---- writes of which one doesn't agree with a later one

never_all : (ws : List CWrite) (i : ℕ) → writes_agree (drop i ws) ≡ false → writes_agree ws ≡ false
never_all ws zero h = h
never_all [] (suc i) h = h
never_all (w ∷ ws) (suc i) h = ap (λ b. b && value_agrees w (first_given w.slot ws)) (never_all ws i h)

with_false : (b : Bool) → (b && false) ≡ false
with_false true = refl
with_false false = refl

pub not_agreeing : (ws : List CWrite) (i : ℕ) (w : CWrite) (later : Option ℤ) → i < length ws → w ≡ get_or ws i w →
    later ≡ first_given w.slot (drop (i + 1) ws) → value_agrees w later ≡ false → false ≡ writes_agree ws
not_agreeing ws i w later less item is differs =
    let rest = drop (i + 1) ws in
    sym (never_all ws i (ap writes_agree (rest_of ws i w less item) ∙
    ap (λ k. writes_agree rest && value_agrees w k) (sym is)
    ∙ ap (λ b. writes_agree rest && b) differs ∙ with_false (writes_agree rest)))
