-- A conjunction is at least as large as the formulas are many that follow an open one, and what is made of one that
-- is too large is so too.
use Rattle.std.proofs.Common.{◌≡◌, ℕ, zero, suc, ◌+◌, ◌^◌, ◌<◌, ◌≤◌, min, nat_lt, ℤ, pos, ◌-ℤ◌, Bool, true, false, not}
use Rattle.std.proofs.Common.{◌&&◌, ◌||◌, cond, List, [], ◌∷◌, ◌++◌, map, length, slice_get, Option, Some, None, refl}
use Rattle.std.proofs.Common.{sym, ap, ◌∙◌, subst, arith, length-append}
use Rattle.std.specs.Prelude.{All, MatchOption}
use Rattle.std.specs.List.{list_any}
use Rattle.std.specs.Option.{is_none, is_some, option_map}
use Rattle.std.specs.Int.RustNames.{int_le}
use Rattle.std.proofs.lemmas.Bool.{ltb_from_iff, ltb-true, lt-ltb, le-ltb}
use Rattle.std.proofs.lemmas.List.{length-map}
use Rattle.std.proofs.lemmas.List.Elements.{All-head, All-tail}
use Rattle.core_terms.specs.declared.trees.CTerm.{CTerm}
use Rattle.core_terms.specs.declared.trees.CTerm.TheVariants.{Const, Sub}
use Rattle.core_terms.specs.declared.trees.CForm.{CForm, fold-roll-CForm}
use Rattle.core_terms.specs.declared.trees.CForm.TheOpen.{CForm-F}
use Rattle.core_terms.specs.declared.trees.CForm.TheVariants.{AtLeast, Not, And, Or, rolls-AtLeast, rolls-And, rolls-Or}
use Rattle.core_terms.specs.declared.programs.CSlot.{CSlot}
use Rattle.core_terms.specs.declared.programs.CWrite.{CWrite}
use Rattle.core_terms.specs.declared.programs.CStmt.{CStmt}
use Rattle.core_terms.specs.Conditions.{WriteFits}
use Rattle.core_terms.specs.Sizes.{form_size, term_size, form_nodes}
use Rattle.core_terms.specs.Folding.{joined, truth_step, number_step, number_of, truth_of, truth_or, difference_term}
use Rattle.core_terms.specs.Folding.{at_least_form, and_form, or_form, not_form}
use Rattle.core_terms.proofs.KnownLaws.{known_folded_form, known_folded_term}
use Rattle.wp_substitution.specs.Preconditions.{and_all, all_of, inside_form, write_form, pair_form, writes_to}
use Rattle.wp_substitution.specs.Preconditions.{pair_forms, needs, defined_form, form_after, wp_form}
use Rattle.wp_substitution.specs.Oversized.{IsOversized, is_open, pair_count, has_many_pairs}
use Rattle.wp_substitution.proofs.PairLaws.{number-Sub, truth-Not, truth-And, truth-Or}

nodes-And : (f g : CForm) → form_nodes (And f g) ≡ 1 + form_nodes f + form_nodes g
nodes-And f g = ap form_nodes (sym (rolls-And f g)) ∙ fold-roll-CForm ℕ ℕ form_size term_size (CForm-F.And f g)

nodes-Or : (f g : CForm) → form_nodes (Or f g) ≡ 1 + form_nodes f + form_nodes g
nodes-Or f g = ap form_nodes (sym (rolls-Or f g)) ∙ fold-roll-CForm ℕ ℕ form_size term_size (CForm-F.Or f g)

not_folded : (m : Option Bool) (f : CForm) → m ≡ None → truth_or m f ≡ f
not_folded None f e = refl
not_folded (Some b) f e = cc

none_first : (op : Bool → Bool → Bool) (m n : Option Bool) → m ≡ None → joined op m n ≡ None
none_first op None n e = refl
none_first op (Some b) n e = cc

none_second : (op : Bool → Bool → Bool) (m n : Option Bool) → n ≡ None → joined op m n ≡ None
none_second op None n e = refl
none_second op (Some b) None e = refl
none_second op (Some b) (Some c) e = cc

-- the nodes of a formula whose truth is not known
abbrev open_nodes : Option Bool → ℕ → ℕ
open_nodes None n = n
open_nodes (Some b) n = 0

abbrev size : CForm → ℕ
size f = open_nodes (truth_of f) (form_nodes f)

size_open : (f : CForm) → truth_of f ≡ None → size f ≡ form_nodes f
size_open f e = ap (λ m. open_nodes m (form_nodes f)) e

-- ---- the formulas from the first open one on

abbrev from_open : List CForm → ℕ
from_open [] = 0
from_open (f ∷ fs) = cond (is_none (truth_of f)) (1 + length fs) (from_open fs)

first_opens : (f g : CForm) → truth_of f ≡ None →
    (truth_of (and_form f g) ≡ None) × (suc (form_nodes f) ≤ form_nodes (and_form f g))
first_opens f g e =
    let none = truth-And f g ∙ none_first (λ x y. x && y) (truth_of f) (truth_of g) e in
    let same : and_form f g ≡ And f g = not_folded (truth_of (And f g)) (And f g) none in
    (ap truth_of same ∙ none, omega (arith, nodes-And f g, ap form_nodes same))

second_opens : (f g : CForm) → truth_of g ≡ None → truth_of (and_form f g) ≡ None
second_opens f g e =
    let none = truth-And f g ∙ none_second (λ x y. x && y) (truth_of f) (truth_of g) e in
    ap truth_of (not_folded (truth_of (And f g)) (And f g) none) ∙ none

pub open_larger : (f g : CForm) (limit : ℕ) → truth_of f ≡ None → limit < form_nodes f →
    limit < form_nodes (and_form f g)
open_larger f g limit e h = omega (arith, (first_opens f g e).1, h)

-- what a test of a formula's size tells

pub capped_larger : (limit size n : ℕ) → size ≡ min n (2 ^ 63) → limit < 2 ^ 63 → nat_lt limit size ≡ nat_lt limit n
capped_larger limit size n e h =
    ltb_from_iff (
      (λ k. omega (arith, ltb-true limit size k, e)),
      λ k. lt-ltb limit size (omega (arith, k, e, h)),
    )

pub looked_larger : (r : Option ℕ) (none : Bool) (limit n : ℕ) → is_some r ≡ not none →
    MatchOption r (limit < n) (λ m. (m ≡ n) × (m ≤ limit)) → none ≡ nat_lt limit n
looked_larger None true limit n e h = sym (lt-ltb limit n h)
looked_larger None false limit n e h = cc
looked_larger (Some m) true limit n e h = cc
looked_larger (Some m) false limit n e h = sym (le-ltb limit n (omega (arith, h.0, h.1)))

-- each further formula makes an open one larger
open_grows : (f : CForm) (gs : List CForm) → truth_of f ≡ None →
    (truth_of (and_all f gs) ≡ None) × (form_nodes f + length gs ≤ form_nodes (and_all f gs))
open_grows f [] e = (e, omega arith)
open_grows f (g ∷ gs) e =
    let opened = first_opens f g e in
    let rest = open_grows (and_form f g) gs opened.0 in
    (rest.0, omega (arith, opened.1, rest.1))

after_one : (f : CForm) (gs : List CForm) → from_open gs ≤ suc (size (and_all f gs))
after_one f [] = omega arith
after_one f (g ∷ gs) = go (truth_of g) refl (after_one (and_form f g) gs)
  where
    go : (m : Option Bool) → truth_of g ≡ m → from_open gs ≤ suc (size (and_all (and_form f g) gs)) →
        cond (is_none m) (1 + length gs) (from_open gs) ≤ suc (size (and_all (and_form f g) gs))
    go None e later =
        let rest = open_grows (and_form f g) gs (second_opens f g e) in
        omega (arith, rest.1, size_open (and_all (and_form f g) gs) rest.0)
    go (Some b) e later = later

of_all : (fs : List CForm) → from_open fs ≤ suc (size (all_of fs))
of_all [] = omega arith
of_all (f ∷ fs) = go (truth_of f) refl
  where
    go : (m : Option Bool) → truth_of f ≡ m →
        cond (is_none m) (1 + length fs) (from_open fs) ≤ suc (size (and_all f fs))
    go None e =
        let rest = open_grows f fs e in
        omega (arith, rest.1, size_open (and_all f fs) rest.0)
    go (Some b) e = after_one f fs

abbrev is_unknown : CForm → Bool
is_unknown f = is_none (truth_of f)

-- an open formula, and all those of a later list
found_open : (fs gs : List CForm) → list_any is_unknown fs ≡ true → suc (length gs) ≤ from_open (fs ++ gs)
found_open [] gs h = cc
found_open (f ∷ fs) gs h = go (truth_of f) refl (found_open fs gs)
  where
    go : (m : Option Bool) → truth_of f ≡ m →
        (list_any is_unknown fs ≡ true → suc (length gs) ≤ from_open (fs ++ gs)) →
        suc (length gs) ≤ cond (is_none m) (1 + length (fs ++ gs)) (from_open (fs ++ gs))
    go None e later = omega (arith, length-append fs gs)
    go (Some b) e later = later (sym (ap (λ m. is_none m || list_any is_unknown fs) e) ∙ h)

any_after : {X : Type 0} (test : X → Bool) (xs ys : List X) → list_any test ys ≡ true →
    list_any test (xs ++ ys) ≡ true
any_after test [] ys h = h
any_after test (x ∷ xs) ys h = go (test x) (any_after test xs ys h)
  where
    go : (b : Bool) → list_any test (xs ++ ys) ≡ true → (b || list_any test (xs ++ ys)) ≡ true
    go true h = refl
    go false h = h

item_at : {X : Type 0} (xs : List X) (n : ℕ) → n < length xs → (x : X) × (slice_get xs n ≡ Some x)
item_at [] n h = absurd (omega (arith, h))
item_at (x ∷ xs) zero h = (x, refl)
item_at (x ∷ xs) (suc n) h = item_at xs n (omega (arith, h))

-- ---- an open write makes an open formula

truth-AtLeast : (t : CTerm) → truth_of (AtLeast t) ≡ option_map (λ x. int_le (pos 0) x) (number_of t)
truth-AtLeast t = ap truth_of (sym (rolls-AtLeast t)) ∙ fold-roll-CForm (Option Bool) (Option ℤ) truth_step number_step
    (CForm-F.AtLeast t)

-- of a value that is not known it is not known whether it lies in a range
open_inside : (value : CTerm) (s : CSlot) → number_of value ≡ None → truth_of (inside_form value (Some s)) ≡ None
open_inside value s e =
    let low = difference_term value (Const s.range.lo) in
    let high = difference_term (Const s.range.hi) value in
    let none : number_of low ≡ None =
    known_folded_term (Sub value (Const s.range.lo)) ∙ number-Sub value (Const s.range.lo)
    ∙ ap (λ m. joined (λ x y. x -ℤ y) m (number_of (Const s.range.lo))) e in
    let first : truth_of (at_least_form low) ≡ None =
    known_folded_form (AtLeast low) ∙ truth-AtLeast low ∙ ap (option_map (λ x. int_le (pos 0) x)) none in
    known_folded_form (And (at_least_form low) (at_least_form high))
    ∙ truth-And (at_least_form low) (at_least_form high)
    ∙ none_first (λ x y. x && y) (truth_of (at_least_form low)) (truth_of (at_least_form high)) first

open_write : (slots : List CSlot) (w : CWrite) → w.slot < length slots → is_open w ≡ true →
    is_unknown (write_form slots w) ≡ true
open_write slots w less named = ap is_none (whole ∙ go (truth_of w.when) (number_of w.value) refl refl)
  where
    inside : CForm
    inside = inside_form w.value (slice_get slots w.slot)

    whole : truth_of (write_form slots w) ≡ joined (λ x y. x || y) (truth_of (not_form w.when)) (truth_of inside)
    whole = known_folded_form (Or (not_form w.when) inside) ∙ truth-Or (not_form w.when) inside

    denied : truth_of (not_form w.when) ≡ option_map not (truth_of w.when)
    denied = known_folded_form (Not w.when) ∙ truth-Not w.when

    there : (s : CSlot) × (slice_get slots w.slot ≡ Some s)
    there = item_at slots w.slot less

    go : (m : Option Bool) (n : Option ℤ) → truth_of w.when ≡ m → number_of w.value ≡ n →
        joined (λ x y. x || y) (truth_of (not_form w.when)) (truth_of inside) ≡ None
    go None n e k =
        none_first (λ x y. x || y) (truth_of (not_form w.when)) (truth_of inside) (denied ∙ ap (option_map not) e)
    go (Some b) None e k =
        none_second (λ x y. x || y) (truth_of (not_form w.when)) (truth_of inside)
        (ap (λ o. truth_of (inside_form w.value o)) there.1 ∙ open_inside w.value there.0 k)
    go (Some b) (Some z) e k = cc

open_any : (slots : List CSlot) (ws : List CWrite) → All (WriteFits slots) ws → list_any is_open ws ≡ true →
    list_any is_unknown (map (write_form slots) ws) ≡ true
open_any slots [] fits h = h
open_any slots (w ∷ ws) fits h = go (is_open w) refl (open_any slots ws (All-tail (WriteFits slots) w ws fits))
  where
    go : (b : Bool) → is_open w ≡ b →
        (list_any is_open ws ≡ true → list_any is_unknown (map (write_form slots) ws) ≡ true) →
        list_any is_unknown (map (write_form slots) (w ∷ ws)) ≡ true
    go true e later =
        ap (λ b. b || list_any is_unknown (map (write_form slots) ws))
        (open_write slots w (All-head (WriteFits slots) w ws fits).target e)
    go false e later =
        any_after is_unknown (write_form slots w ∷ []) (map (write_form slots) ws)
        (later (sym (ap (λ b. b || list_any is_open ws) e) ∙ h))

pairs_length : (ws : List CWrite) → length (pair_forms ws) ≡ pair_count ws
pairs_length [] = refl
pairs_length (w ∷ ws) =
    let others = writes_to w.slot ws in
    omega (
      arith,
      length-append (map (pair_form w) others) (pair_forms ws),
      length-map others (pair_form w),
      pairs_length ws,
    )

both_first : (a b : Bool) → (a && b) ≡ true → a ≡ true
both_first true b h = refl
both_first false b h = h

both_second : (a b : Bool) → (a && b) ≡ true → b ≡ true
both_second true b h = h
both_second false b h = cc

none_where_large : (m : Option Bool) (n : ℕ) → 65536 < open_nodes m n → m ≡ None
none_where_large None n h = refl
none_where_large (Some b) n h = absurd (omega (arith, h))

large_is : (f : CForm) → 65536 < size f → IsOversized f
large_is f h =
    let unknown : truth_of f ≡ None = none_where_large (truth_of f) (form_nodes f) h in
    record { unknown = unknown; nodes = omega (arith, size_open f unknown, h) }

-- with so many pairs after an open write, what must hold for a statement to be defined is too large
pub pairs_large : (slots : List CSlot) (s : CStmt) → All (WriteFits slots) s.writes → has_many_pairs s ≡ true →
    IsOversized (defined_form slots s)
pairs_large slots s fits many =
    let before = map not_form s.outside ++ map (write_form slots) s.writes in
    let named = any_after is_unknown (map not_form s.outside) (map (write_form slots) s.writes)
    (open_any slots s.writes fits (both_first (list_any is_open s.writes) _ many)) in
    let pairs = ltb-true 65536 (pair_count s.writes) (both_second (list_any is_open s.writes) _ many) in
    large_is (defined_form slots s) (omega (
      arith,
      found_open before (pair_forms s.writes) named,
      pairs_length s.writes,
      of_all (needs slots s),
      pairs,
    ))

-- a count that stops past 65,536 is past it where the whole count is
pub past_counted : (n : ℕ) → nat_lt 65536 (min n 65537) ≡ nat_lt 65536 n
past_counted n =
    ltb_from_iff (
      (λ h. omega (arith, ltb-true 65536 (min n 65537) h)),
      λ h. lt-ltb 65536 (min n 65537)
          (omega (arith, h)),
    )

pub or_second_large : (f g : CForm) → IsOversized g → IsOversized (or_form f g)
or_second_large f g large =
    let none = truth-Or f g ∙ none_second (λ x y. x || y) (truth_of f) (truth_of g) large.unknown in
    subst IsOversized (sym (not_folded (truth_of (Or f g)) (Or f g) none))
    (record { unknown = none; nodes = omega (arith, nodes-Or f g, large.nodes) })

and_first_large : (f g : CForm) → IsOversized f → IsOversized (and_form f g)
and_first_large f g large =
    let none = truth-And f g ∙ none_first (λ x y. x && y) (truth_of f) (truth_of g) large.unknown in
    subst IsOversized (sym (not_folded (truth_of (And f g)) (And f g) none))
    (record { unknown = none; nodes = omega (arith, nodes-And f g, large.nodes) })

-- so is the weakest precondition
pub wp_large : (slots : List CSlot) (s : CStmt) (q : CForm) → IsOversized (defined_form slots s) →
    IsOversized (wp_form slots s q)
wp_large slots s q large = and_first_large (defined_form slots s) (form_after s.writes q) large
