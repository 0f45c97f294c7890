-- The facts of ranges, as the code makes them, and where a first branch holds.
use Rattle.std.proofs.Common.{◌≡◌, ℕ, zero, suc, ◌+◌, ◌<◌, ℤ, pos, negsuc, neg_ℤ, ◌+ℤ◌, ◌*ℤ◌, Bool, true, false, not}
use Rattle.std.proofs.Common.{◌&&◌, List, [], ◌∷◌, ◌++◌, append_assoc, drop, length, slice_index_or, arith, refl, sym}
use Rattle.std.proofs.Common.{ap, subst, ◌∙◌}
use Rattle.std.specs.List.{list_all}
use Rattle.std.specs.Int.RustNames.{int_le}
use Rattle.std.proofs.lemmas.Bool.{and_parts}
use Rattle.std.proofs.lemmas.Int.{ints}
use Rattle.core_terms.specs.Values.{number_at}
use Rattle.obligations.specs.declared.branches.Variable.{Variable}
use Rattle.obligations.specs.declared.branches.Fact.{Fact}
use Rattle.obligations.specs.declared.branches.Branch.{Branch}
use Rattle.obligations.specs.declared.branches.Obligation.{Obligation}
use Rattle.obligations.specs.LinearForms.{fact_holds}
use Rattle.obligations.specs.Settling.{form_at}
use Rattle.obligations.specs.Opening.{range_facts, ranges_only, first_branch, in_ranges, FirstHolds, HoldsWhereFalse}
use Rattle.obligations.proofs.NeedLaws.{need-within}
use Rattle.obligations.proofs.SettlingLaws.{refused-holds}

pub two-more : (a b c : List Fact) (x y : Fact) → b ≡ a ++ x ∷ [] → c ≡ b ++ y ∷ [] → c ≡ a ++ (x ∷ y ∷ [])
two-more a b c x y p q = q ∙ ap (λ z. z ++ y ∷ []) p ∙ append_assoc a (x ∷ []) (y ∷ [])

pub ruleset two_laws = two-more

ranges-next : (vs : List Variable) (i n : ℕ) (d : Variable) → i < length vs →
    range_facts n (drop i vs) ≡ range_facts n (slice_index_or vs i d ∷ []) ++ range_facts (suc n) (drop (i + 1) vs)
ranges-next [] i n d h = absurd (omega arith)
ranges-next (v ∷ vs) zero n d h = refl
ranges-next (v ∷ vs) (suc i) n d h =
    let k : suc i + 1 ≡ suc (i + 1) = omega arith in
    ranges-next vs i n d (omega arith) ∙ ap (λ m. range_facts n (slice_index_or vs i d ∷ []) ++ range_facts (suc n)
    (drop m (v ∷ vs))) (sym k)

pub ranges-more : (vs : List Variable) (i : ℕ) (d : Variable) (old new all : List Fact) → i < length vs →
    new ≡ old ++ range_facts i (slice_index_or vs i d ∷ []) → old ++ range_facts i (drop i vs) ≡ all →
    new ++ range_facts (i + 1) (drop (i + 1) vs) ≡ all
ranges-more vs i d old new all h n k =
    let one : i + 1 ≡ suc i = omega arith in
    ap (λ x. x ++ range_facts (i + 1) (drop (i + 1) vs)) n
    ∙ append_assoc old (range_facts i (slice_index_or vs i d ∷ [])) (range_facts (i + 1) (drop (i + 1) vs))
    ∙ ap (λ m. old ++ (range_facts i (slice_index_or vs i d ∷ []) ++ range_facts m (drop (i + 1) vs))) one
    ∙ ap (λ x. old ++ x) (sym (ranges-next vs i i d h)) ∙ k

pub ruleset range_laws = ranges-more

and_true : (a : Bool) → (a && true) ≡ a
and_true true = refl
and_true false = refl

-- The first branch holds exactly where the form is false and the values lie in their ranges.
range-test : (lo hi x a b : ℤ) → a ≡ x +ℤ neg_ℤ lo → b ≡ neg_ℤ x +ℤ hi →
    (int_le lo x && int_le x hi) ≡ (int_le (pos 0) a && int_le (pos 0) b)
range-test lo hi x a b p q = grind (arith, ints)

four : (a b c : Bool) → (a && (b && c)) ≡ ((a && b) && c)
four true b c = refl
four false b c = refl

ranges-hold : (n : ℕ) (vs : List Variable) (values whole : List ℤ) → length values ≡ length vs →
    ((i : ℕ) → number_at whole (n + i) ≡ number_at values i) →
    list_all (fact_holds whole) (range_facts n vs) ≡ in_ranges vs values
ranges-hold n [] [] whole e h = refl
ranges-hold n [] (z ∷ zs) whole e h = absurd (omega arith)
ranges-hold n (v ∷ vs) [] whole e h = absurd (omega arith)
ranges-hold n (v ∷ vs) (z ∷ zs) whole e h =
    let x : number_at whole n ≡ z = ap (number_at whole) (omega arith) ∙ h 0 in
    let a : (pos 1 *ℤ number_at whole n +ℤ pos 0) +ℤ neg_ℤ v.range.lo ≡ z +ℤ neg_ℤ v.range.lo = omega
    (arith, ints, x) in
    let b : (negsuc 0 *ℤ number_at whole n +ℤ pos 0) +ℤ v.range.hi ≡ neg_ℤ z +ℤ v.range.hi = omega (arith, ints, x) in
    let ih = ranges-hold (suc n) vs zs whole (omega arith) (λ i. ap (number_at whole) (omega arith) ∙ h (suc i)) in
    four (int_le (pos 0) ((pos 1 *ℤ number_at whole n +ℤ pos 0) +ℤ neg_ℤ v.range.lo))
    (int_le (pos 0) ((negsuc 0 *ℤ number_at whole n +ℤ pos 0) +ℤ v.range.hi))
    (list_all (fact_holds whole) (range_facts (suc n) vs))
    ∙ ap (λ t. t && list_all (fact_holds whole) (range_facts (suc n) vs))
    (sym (range-test v.range.lo v.range.hi z ((pos 1 *ℤ number_at whole n +ℤ pos 0) +ℤ neg_ℤ v.range.lo)
    ((negsuc 0 *ℤ number_at whole n +ℤ pos 0) +ℤ v.range.hi) a b))
    ∙ ap (λ t. (int_le v.range.lo z && int_le z v.range.hi) && t) ih

pub ranges-long : (vs : List Variable) (values : List ℤ) → in_ranges vs values ≡ true → length values ≡ length vs
ranges-long [] [] e = refl
ranges-long [] (z ∷ zs) e = cc
ranges-long (v ∷ vs) [] e = cc
ranges-long (v ∷ vs) (z ∷ zs) e =
    ap suc (ranges-long vs zs (and_parts (int_le v.range.lo z && int_le z v.range.hi) (in_ranges vs zs) e).1)

pub first-holds : FirstHolds
first-holds o values long =
    refused-holds o.variables values o.form (ranges_only o.variables) long
    ∙ ap (λ t. t && not (form_at o.variables values o.form))
    (and_true (list_all (fact_holds values) (range_facts 0 o.variables))
    ∙ ranges-hold 0 o.variables values values long (λ i. ap (number_at values) (omega arith)))

first-where-false : (o : Obligation) → HoldsWhereFalse o (first_branch o)
first-where-false o values h =
    first-holds o values (ranges-long o.variables values h)
    ∙ ap (λ z. z && not (form_at o.variables values o.form)) h

-- what `open_branch` gives
pub opened-holds : (o : Obligation) (b : Branch) → b ≡ first_branch o → HoldsWhereFalse o b
opened-holds o b e = subst (HoldsWhereFalse o) (sym e) (first-where-false o)

pub ruleset open_laws = (need-within, opened-holds)
