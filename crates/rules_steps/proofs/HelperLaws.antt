-- The indices of helpers stay small.
use Rattle.std.proofs.Common.{◌≡◌, ℕ, zero, suc, ◌≤◌, ◌^◌, ℤ, ◌+ℤ◌, ◌≤ℤ◌, List, [], ◌∷◌, Option, Some, None, IsTrue}
use Rattle.std.proofs.Common.{refl, slice_get, arith, map, Bool}
use Rattle.std.specs.Prelude.{All}
use Rattle.std.specs.Int.RustNames.{unsigned_abs, int_le}
use Rattle.std.proofs.lemmas.Int.{ints}
use Rattle.std.proofs.lemmas.List.Elements.{All-nil, All-cons, All-head, All-tail}
use Rattle.meaning_states.proofs.StepTheorems.{and_left, and_right}
use Rattle.core_terms.specs.declared.trees.Range.{Range}
use Rattle.core_terms.specs.declared.documents.Arg.{Arg}
use Rattle.core_terms.specs.declared.documents.Helper.{Helper}
use Rattle.core_terms.specs.Conditions.{IsRange, ArgFits, IsIndex, HelperWellScoped}
use Rattle.safety_rules.specs.from_rules_table.Table.{lies_in, is_argument, are_arguments, moved_at, put_in}
use Rattle.safety_rules.specs.from_rules_table.Table.{helper_with}
use Rattle.safety_rules.proofs.lemmas_from_rules_table.EachLaws.{from_all, each_at}
use Rattle.safety_rules.specs.Instances.{IsSmallIndex, SumFits, IndexFits, HelperFits}

got_range : (ranges : List Range) (n : ℕ) (s : Range) → All IsRange ranges → slice_get ranges n ≡ Some s → IsRange s
got_range ranges n s all e = each_at IsRange ranges (from_all IsRange ranges all) n s e

below : (a b : ℤ) → IsTrue (int_le a b) → a ≤ℤ b
below a b t = grind (arith, ints)

-- with arguments put in

within_number : (lo hi k add : ℤ) → lo ≤ℤ k → k ≤ℤ hi → IsSmallIndex (lo +ℤ add) → IsSmallIndex (hi +ℤ add) →
    IsSmallIndex (k +ℤ add)
within_number lo hi k add a b l h = omega (arith, ints, a, b, l, h)

within_sum : (lo hi low high k more add : ℤ) → low ≤ℤ k → k ≤ℤ high → lo ≤ℤ (low +ℤ more) → (high +ℤ more) ≤ℤ hi →
    IsSmallIndex (lo +ℤ add) → IsSmallIndex (hi +ℤ add) → IsSmallIndex (k +ℤ (more +ℤ add))
within_sum lo hi low high k more add a b c d l h = omega (arith, ints, a, b, c, d, l, h)

same_end : (k : ℤ) → k ≤ℤ k
same_end k = omega (arith, ints)

lies_fits : (r : Range) (o : Option Range) (more add : ℤ) → ((s : Range) → o ≡ Some s → IsRange s) →
    IsTrue (lies_in r o more) → IsSmallIndex (r.lo +ℤ add) → IsSmallIndex (r.hi +ℤ add) → SumFits o (more +ℤ add)
lies_fits r None more add known t l h = cc
lies_fits r (Some s) more add known t l h =
    let some = (known s refl).some in
    let low = below r.lo (s.lo +ℤ more) (and_left (int_le r.lo (s.lo +ℤ more)) (int_le (s.hi +ℤ more) r.hi) t) in
    let high = below (s.hi +ℤ more) r.hi (and_right (int_le r.lo (s.lo +ℤ more)) (int_le (s.hi +ℤ more) r.hi) t) in (
      within_sum r.lo r.hi s.lo s.hi s.lo more add (same_end s.lo) some low high l h,
      within_sum r.lo r.hi s.lo s.hi s.hi more add some (same_end s.hi) low high l h,
    )

arg_fits : (ranges : List Range) (r : Range) (a : Arg) (add : ℤ) → All IsRange ranges →
    IsTrue (is_argument ranges r a) → SumFits (Some r) add → IndexFits ranges (moved_at add (Some a))
arg_fits ranges r (Arg.Number k) add all t fits =
    within_number r.lo r.hi k add (below r.lo k (and_left (int_le r.lo k) (int_le k r.hi) t))
    (below k r.hi (and_right (int_le r.lo k) (int_le k r.hi) t)) fits.0 fits.1
arg_fits ranges r (Arg.Param n more) add all t fits =
    lies_fits r (slice_get ranges n) more add (λ s e. got_range ranges n s all e) t fits.0 fits.1
arg_fits ranges r Arg.Slot add all t fits = cc

args_fit : (ranges params : List Range) (args : List Arg) (add : ℤ) → All IsRange ranges →
    IsTrue (are_arguments ranges params args) → (n : ℕ) → SumFits (slice_get params n) add →
    IndexFits ranges (moved_at add (slice_get args n))
args_fit ranges [] [] add all t n fits = fits
args_fit ranges [] (a ∷ args) add all t n fits = cc
args_fit ranges (r ∷ rs) [] add all t n fits = cc
args_fit ranges (r ∷ rs) (a ∷ args) add all t zero fits =
    arg_fits ranges r a add all (and_left (is_argument ranges r a) (are_arguments ranges rs args) t) fits
args_fit ranges (r ∷ rs) (a ∷ args) add all t (suc n) fits =
    args_fit ranges rs args add all (and_right (is_argument ranges r a) (are_arguments ranges rs args) t) n fits

index_fits : (ranges params : List Range) (args : List Arg) (a : Arg) → All IsRange ranges →
    IsTrue (are_arguments ranges params args) → IndexFits params a → IndexFits ranges (put_in args a)
index_fits ranges params args (Arg.Number k) all t fits = fits
index_fits ranges params args (Arg.Param n add) all t fits = args_fit ranges params args add all t n fits
index_fits ranges params args Arg.Slot all t fits = absurd fits

indices_fit : (ranges params : List Range) (args more : List Arg) → All IsRange ranges →
    IsTrue (are_arguments ranges params args) → All (IndexFits params) more →
    All (IndexFits ranges) (map (put_in args) more)
indices_fit ranges params args [] all t fits = All-nil (IndexFits ranges)
indices_fit ranges params args (a ∷ more) all t fits =
    All-cons (IndexFits ranges) (put_in args a) (map (put_in args) more)
    (index_fits ranges params args a all t (All-head (IndexFits params) a more fits))
    (indices_fit ranges params args more all t (All-tail (IndexFits params) a more fits))

pub helper_fits : (ranges params : List Range) (args : List Arg) (helper : Option Helper) → All IsRange ranges →
    IsTrue (are_arguments ranges params args) → HelperFits params helper → HelperFits ranges (helper_with args helper)
helper_fits ranges params args None all t fits = tt
helper_fits ranges params args (Some h) all t fits = indices_fit ranges params args h.args all t fits

-- as a step names it

near : (lo add : ℤ) → unsigned_abs lo ≤ 1000000000 → unsigned_abs add ≤ 2 ^ 62 → IsSmallIndex (lo +ℤ add)
near lo add a b = omega (arith, ints, a, b)

sum_seen : (o : Option Range) (add : ℤ) → ((s : Range) → o ≡ Some s → IsRange s) → unsigned_abs add ≤ 2 ^ 62 →
    SumFits o add
sum_seen None add known few = omega (arith, few)
sum_seen (Some r) add known few =
    let is = known r refl in (near r.lo add is.low few, near r.hi add is.high few)

index_seen : (params : List Range) (a : Arg) → All IsRange params → ArgFits a → IsIndex a → IndexFits params a
index_seen params (Arg.Number k) all few index = omega (arith, few)
index_seen params (Arg.Param n add) all few index =
    sum_seen (slice_get params n) add (λ s e. got_range params n s all e) few
index_seen params Arg.Slot all few index = absurd index

indices_seen : (params : List Range) (args : List Arg) → All IsRange params → All ArgFits args → All IsIndex args →
    All (IndexFits params) args
indices_seen params [] all few index = All-nil (IndexFits params)
indices_seen params (a ∷ args) all few index =
    All-cons (IndexFits params) a args
    (index_seen params a all (All-head ArgFits a args few) (All-head IsIndex a args index))
    (indices_seen params args all (All-tail ArgFits a args few) (All-tail IsIndex a args index))

pub helper_seen : (params : List Range) (visible : ℕ → Bool) (h : Helper) → All IsRange params →
    HelperWellScoped visible h → HelperFits params (Some h)
helper_seen params visible h all sees = indices_seen params h.args all sees.args.numbers sees.indices
