-- What the arguments of an instance allow, and that what an instance gives stands.
use Rattle.std.proofs.Common.{◌≡◌, ℕ, zero, suc, ◌+◌, ◌≤◌, ◌^◌, ℤ, pos, negsuc, ◌+ℤ◌, ◌≤ℤ◌, List, [], ◌∷◌}
use Rattle.std.proofs.Common.{Option, Some, None, IsTrue, Result, Ok, Err, refl, sym, ap, ◌∙◌}
use Rattle.std.proofs.Common.{subst, length, slice_get, arith}
use Rattle.std.specs.Prelude.{All, IfOk}
use Rattle.std.specs.Int.RustNames.{unsigned_abs, int_le}
use Rattle.std.proofs.lemmas.Int.{ints}
use Rattle.std.proofs.lemmas.List.Elements.{All-nil, All-cons, All-head, All-tail}
use borrow.Author.Differences.{le-true}
use Rattle.meaning_states.proofs.StepTheorems.{and_left, and_right}
use Rattle.case_tables.specs.declared.code_table.Code.{Code}
use Rattle.core_terms.specs.declared.trees.Range.{Range}
use Rattle.core_terms.specs.declared.trees.CTerm.{CTerm, fold-CTerm, fold-roll-CTerm}
use Rattle.core_terms.specs.declared.trees.CForm.{CForm}
use Rattle.core_terms.specs.declared.trees.CTerm.TheVariants.{Slot, Param, Const, Add, Sub, rolls-Add, rolls-Sub}
use Rattle.core_terms.specs.declared.trees.CForm.TheOpen.{CTerm-F}
use Rattle.core_terms.specs.declared.programs.CSlot.{CSlot}
use Rattle.core_terms.specs.declared.documents.Arg.{Arg}
use Rattle.core_terms.specs.declared.documents.Helper.{Helper}
use Rattle.core_terms.specs.Conditions.{FormFits, IsRange}
use Rattle.core_terms.specs.Places.{greatest_part, slots_step, params_step, term_slots, term_params, form_params}
use Rattle.core_terms.specs.Replacing.{shifted, arg_term, arg_at, IsSmallArg}
use Rattle.wp_substitution.proofs.LightLaws.{form_light}
use Rattle.wp_substitution.proofs.PlaceLaws.{Counts, count-Slot, count-Param, constant_within, form_within}
use Rattle.fair_rounds.specs.declared.records.Record.{Record}
use Rattle.rules_table.specs.Table.{is_argument, are_arguments, lies_in}
use Rattle.safety_rules.specs.declared.places.RuleError.{RuleError}
use Rattle.safety_rules.specs.Instances.{IsSmallIndex, SumFits, IndexFits, HelperFits, CanPut, CanMove}
use Rattle.safety_rules.specs.Instances.{MayPut, AllMayPut, AnswersRecord}
use Rattle.wp_substitution.proofs.NamedLaws.{slot_counts, param_counts}
use Rattle.safety_rules.proofs.ParamLaws.{params_kept}
use Rattle.safety_rules.proofs.ArgumentLaws.{same_count}

-- a parameter with a number added names no more than the parameter
module _ (step : CTerm-F ℕ ℕ → ℕ) (counts : Counts step) (limit : ℕ) where
  abbrev T : CTerm → ℕ
  T = fold-CTerm ℕ ℕ greatest_part step

  sum_counted : (a b : CTerm) → T a ≤ limit → T b ≤ limit → T (Add a b) ≤ limit
  sum_counted a b h k =
      let is = ap T (sym (rolls-Add a b)) ∙ fold-roll-CTerm ℕ ℕ greatest_part step (CTerm-F.Add a b)
      ∙ counts.sum (T a) (T b) in
      omega (arith, is, h, k)

  difference_counted : (a b : CTerm) → T a ≤ limit → T b ≤ limit → T (Sub a b) ≤ limit
  difference_counted a b h k =
      let is = ap T (sym (rolls-Sub a b)) ∙ fold-roll-CTerm ℕ ℕ greatest_part step (CTerm-F.Sub a b)
      ∙ counts.difference (T a) (T b) in
      omega (arith, is, h, k)

  pub shifted_within : (n : ℕ) (add : ℤ) → step (CTerm-F.Param n) ≤ limit → T (shifted n add) ≤ limit
  shifted_within n (pos zero) h = let is = count-Param step counts n in omega (arith, is, h)
  shifted_within n (pos (suc k)) h =
      let is = count-Param step counts n in
      let named : T (Param n) ≤ limit = omega (arith, is, h) in
      sum_counted (Param n) (Const (pos (suc k))) named (constant_within step counts limit (pos (suc k)))
  shifted_within n (negsuc k) h =
      let is = count-Param step counts n in
      let named : T (Param n) ≤ limit = omega (arith, is, h) in
      difference_counted (Param n) (Const (pos (suc k))) named (constant_within step counts limit (pos (suc k)))

  zero_counted : T (Const (pos 0)) ≤ limit
  zero_counted = constant_within step counts limit (pos 0)

-- an argument names no slot
arg_slots : (limit : ℕ) (o : Option Arg) → term_slots (arg_term o) ≤ limit
arg_slots limit None = constant_within slots_step slot_counts limit (pos 0)
arg_slots limit (Some (Arg.Number k)) = constant_within slots_step slot_counts limit k
arg_slots limit (Some (Arg.Param n add)) = shifted_within slots_step slot_counts limit n add (omega arith)
arg_slots limit (Some Arg.Slot) = constant_within slots_step slot_counts limit (pos 0)

-- and none but the parameters of these ranges
past_none : {X : Type 0} (xs : List X) (n : ℕ) (x : X) → slice_get xs n ≡ Some x → n + 1 ≤ length xs
past_none [] n x e = cc
past_none (y ∷ xs) zero x e = omega arith
past_none (y ∷ xs) (suc n) x e = let more = past_none xs n x e in omega (arith, more)

lies_known : (ranges : List Range) (r : Range) (n : ℕ) (add : ℤ) → IsTrue (lies_in r (slice_get ranges n) add) →
    n + 1 ≤ length ranges
lies_known ranges r n add t = go (slice_get ranges n) refl t
  where
    go : (o : Option Range) → slice_get ranges n ≡ o → IsTrue (lies_in r o add) → n + 1 ≤ length ranges
    go None e h = cc
    go (Some s) e h = past_none ranges n s e

arg_params : (ranges : List Range) (r : Range) (a : Arg) → IsTrue (is_argument ranges r a) →
    term_params (arg_term (Some a)) ≤ length ranges
arg_params ranges r (Arg.Number k) t = constant_within params_step param_counts (length ranges) k
arg_params ranges r (Arg.Param n add) t =
    shifted_within params_step param_counts (length ranges) n add (lies_known ranges r n add t)
arg_params ranges r Arg.Slot t = cc

args_params : (ranges params : List Range) (args : List Arg) → IsTrue (are_arguments ranges params args) → (n : ℕ) →
    term_params (arg_term (slice_get args n)) ≤ length ranges
args_params ranges params [] t n = constant_within params_step param_counts (length ranges) (pos 0)
args_params ranges [] (a ∷ args) t n = cc
args_params ranges (r ∷ rs) (a ∷ args) t zero =
    arg_params ranges r a (and_left (is_argument ranges r a) (are_arguments ranges rs args) t)
args_params ranges (r ∷ rs) (a ∷ args) t (suc n) =
    args_params ranges rs args (and_right (is_argument ranges r a) (are_arguments ranges rs args) t) n

pub below : (a b : ℤ) → IsTrue (int_le a b) → a ≤ℤ b
below a b t = let less = le-true a b t in omega (arith, ints, less)

-- the numbers of arguments are small
between : (lo hi k : ℤ) → unsigned_abs lo ≤ 1000000000 → unsigned_abs hi ≤ 1000000000 → lo ≤ℤ k → k ≤ℤ hi →
    unsigned_abs k ≤ 1000000000
between lo hi k l h a b = omega (arith, ints, l, h, a, b)

moved_between : (lo hi low high add : ℤ) → unsigned_abs lo ≤ 1000000000 → unsigned_abs hi ≤ 1000000000 →
    unsigned_abs low ≤ 1000000000 → unsigned_abs high ≤ 1000000000 → lo ≤ℤ (low +ℤ add) → (high +ℤ add) ≤ℤ hi →
    low ≤ℤ high → unsigned_abs add ≤ 2000000000
moved_between lo hi low high add a b c d e f g = omega (arith, ints, a, b, c, d, e, f, g)

few_bits : (n : ℕ) → n ≤ 2000000000 → n ≤ 2 ^ 62
few_bits n h = omega (arith, h)

got_range : (ranges : List Range) (n : ℕ) (r : Range) → All IsRange ranges → slice_get ranges n ≡ Some r → IsRange r
got_range [] n r all e = cc
got_range (s ∷ ranges) zero r all e = subst IsRange (some_same s r e) (All-head IsRange s ranges all)
  where
    some_same : (x y : Range) → Some x ≡ Some y → x ≡ y
    some_same x y e = cc
got_range (s ∷ ranges) (suc n) r all e = got_range ranges n r (All-tail IsRange s ranges all) e

-- that the sums lie within the range bounds what is added
lies_small : (r : Range) (o : Option Range) (add : ℤ) → IsRange r → ((s : Range) → o ≡ Some s → IsRange s) →
    IsTrue (lies_in r o add) → unsigned_abs add ≤ 2000000000
lies_small r None add is known t = cc
lies_small r (Some s) add is known t =
    let other = known s refl in
    moved_between r.lo r.hi s.lo s.hi add is.low is.high other.low other.high
    (below r.lo (s.lo +ℤ add) (and_left (int_le r.lo (s.lo +ℤ add)) (int_le (s.hi +ℤ add) r.hi) t))
    (below (s.hi +ℤ add) r.hi (and_right (int_le r.lo (s.lo +ℤ add)) (int_le (s.hi +ℤ add) r.hi) t)) other.some

arg_small : (ranges : List Range) (r : Range) (a : Arg) → All IsRange ranges → IsRange r →
    IsTrue (is_argument ranges r a) → IsSmallArg a
arg_small ranges r (Arg.Number k) all is t =
    let less = between r.lo r.hi k is.low is.high (below r.lo k (and_left (int_le r.lo k) (int_le k r.hi) t))
    (below k r.hi (and_right (int_le r.lo k) (int_le k r.hi) t)) in
    few_bits (unsigned_abs k) (omega (arith, less))
arg_small ranges r (Arg.Param n add) all is t =
    few_bits (unsigned_abs add)
    (lies_small r (slice_get ranges n) add is (λ s e. got_range ranges n s all e) t)
arg_small ranges r Arg.Slot all is t = cc

args_small : (ranges params : List Range) (args : List Arg) → All IsRange ranges → All IsRange params →
    IsTrue (are_arguments ranges params args) → All IsSmallArg args
args_small ranges params [] all are t = All-nil IsSmallArg
args_small ranges [] (a ∷ args) all are t = cc
args_small ranges (r ∷ rs) (a ∷ args) all are t =
    All-cons IsSmallArg a args
    (arg_small ranges r a all (All-head IsRange r rs are)
    (and_left (is_argument ranges r a) (are_arguments ranges rs args) t))
    (args_small ranges rs args all (All-tail IsRange r rs are)
    (and_right (is_argument ranges r a) (are_arguments ranges rs args) t))

pub can_put : (slots : List CSlot) (ranges params : List Range) (args : List Arg) (f : CForm) → All IsRange ranges →
    All IsRange params → FormFits slots params f → IsTrue (are_arguments ranges params args) →
    CanPut slots ranges args f
can_put slots ranges params args f all are fits t = record {
  params = few;
  small = args_small ranges params args all are t;
  light = form_light slots params f fits;
  names = record {
    slots_exist = form_within slots_step slot_counts (length slots) (λ n. Slot n) (arg_at args)
        (λ n h. let is = count-Slot slots_step slot_counts n in omega (arith, is, h))
        (λ n h. arg_slots (length slots) (slice_get args n)) f fits.slots_exist;
    params_exist = params_kept (length args) (length ranges) (λ n. Slot n) (arg_at args)
        (λ n. let is = count-Slot params_step param_counts n in omega (arith, is))
        (λ n h. args_params ranges params args t n) f few;
  };
}
  where
    few : form_params f ≤ length args
    few = let same = same_count ranges params args t in let less = fits.params_exist in omega (arith, same, less)

-- a helper's indices stay small
index_number : (lo hi k add : ℤ) → lo ≤ℤ k → k ≤ℤ hi → IsSmallIndex (lo +ℤ add) → IsSmallIndex (hi +ℤ add) →
    IsSmallIndex (k +ℤ add)
index_number lo hi k add a b l h = omega (arith, ints, a, b, l, h)

index_moved : (lo hi low high more add : ℤ) → unsigned_abs low ≤ 1000000000 → unsigned_abs high ≤ 1000000000 →
    low ≤ℤ high → lo ≤ℤ (low +ℤ more) → (high +ℤ more) ≤ℤ hi → IsSmallIndex (lo +ℤ add) → IsSmallIndex (hi +ℤ add) →
    unsigned_abs (more +ℤ add) ≤ 2 ^ 62 + 2000000000
index_moved lo hi low high more add a b c d e l h = omega (arith, ints, a, b, c, d, e, l, h)

lies_moved : (r : Range) (o : Option Range) (more add : ℤ) → ((s : Range) → o ≡ Some s → IsRange s) →
    IsTrue (lies_in r o more) → IsSmallIndex (r.lo +ℤ add) → IsSmallIndex (r.hi +ℤ add) →
    unsigned_abs (more +ℤ add) ≤ 2 ^ 62 + 2000000000
lies_moved r None more add known t l h = cc
lies_moved r (Some s) more add known t l h =
    let other = known s refl in
    index_moved r.lo r.hi s.lo s.hi more add other.low other.high other.some
    (below r.lo (s.lo +ℤ more) (and_left (int_le r.lo (s.lo +ℤ more)) (int_le (s.hi +ℤ more) r.hi) t))
    (below (s.hi +ℤ more) r.hi (and_right (int_le r.lo (s.lo +ℤ more)) (int_le (s.hi +ℤ more) r.hi) t)) l h

arg_moves : (ranges : List Range) (r : Range) (a : Arg) (add : ℤ) → All IsRange ranges →
    IsTrue (is_argument ranges r a) → SumFits (Some r) add → CanMove add (Some a)
arg_moves ranges r (Arg.Number k) add all t fits =
    index_number r.lo r.hi k add (below r.lo k (and_left (int_le r.lo k) (int_le k r.hi) t))
    (below k r.hi (and_right (int_le r.lo k) (int_le k r.hi) t)) fits.0 fits.1
arg_moves ranges r (Arg.Param n more) add all t fits =
    lies_moved r (slice_get ranges n) more add (λ s e. got_range ranges n s all e) t fits.0 fits.1
arg_moves ranges r Arg.Slot add all t fits = cc

args_move : (ranges params : List Range) (args : List Arg) (add : ℤ) → All IsRange ranges →
    IsTrue (are_arguments ranges params args) → (n : ℕ) → SumFits (slice_get params n) add →
    CanMove add (slice_get args n)
args_move ranges [] [] add all t n fits = fits
args_move ranges [] (a ∷ args) add all t n fits = cc
args_move ranges (r ∷ rs) [] add all t n fits = cc
args_move ranges (r ∷ rs) (a ∷ args) add all t zero fits =
    arg_moves ranges r a add all (and_left (is_argument ranges r a) (are_arguments ranges rs args) t) fits
args_move ranges (r ∷ rs) (a ∷ args) add all t (suc n) fits =
    args_move ranges rs args add all (and_right (is_argument ranges r a) (are_arguments ranges rs args) t) n fits

index_put : (ranges params : List Range) (args : List Arg) (a : Arg) → All IsRange ranges →
    IsTrue (are_arguments ranges params args) → IndexFits params a → MayPut args a
index_put ranges params args (Arg.Number k) all t fits = tt
index_put ranges params args (Arg.Param n add) all t fits = args_move ranges params args add all t n fits
index_put ranges params args Arg.Slot all t fits = tt

indices_put : (ranges params : List Range) (args more : List Arg) → All IsRange ranges →
    IsTrue (are_arguments ranges params args) → All (IndexFits params) more → All (MayPut args) more
indices_put ranges params args [] all t fits = All-nil (MayPut args)
indices_put ranges params args (a ∷ more) all t fits =
    All-cons (MayPut args) a more
    (index_put ranges params args a all t (All-head (IndexFits params) a more fits))
    (indices_put ranges params args more all t (All-tail (IndexFits params) a more fits))

pub may_put : (ranges params : List Range) (args : List Arg) (helper : Option Helper) → All IsRange ranges →
    IsTrue (are_arguments ranges params args) → HelperFits params helper → AllMayPut args helper
may_put ranges params args None all t fits = tt
may_put ranges params args (Some h) all t fits = indices_put ranges params args h.args all t fits

-- the answer of an instance

pub record_refused : (code : Code) (row : Result Record Code) → row ≡ Err code →
    AnswersRecord (Err (RuleError.Fault code)) row
record_refused code row is = subst (λ x. AnswersRecord (Err (RuleError.Fault code)) x) (sym is) refl

pub record_given : (answer : Result Record RuleError) (row rest : Result Record Code) → row ≡ rest →
    AnswersRecord answer rest → AnswersRecord answer row
record_given answer row rest is given = subst (λ x. AnswersRecord answer x) (sym is) given

pub record_stands : (P : Record → Type 0) (answer : Result Record RuleError) (row : Result Record Code) →
    ((r : Record) → row ≡ Ok r → P r) → AnswersRecord answer row → IfOk answer P
record_stands P (Ok r) row sound given = go row refl given
  where
    go : (x : Result Record Code) → row ≡ x → AnswersRecord (Ok r) x → P r
    go (Ok s) e same = subst P (sym same) (sound s e)
    go (Err code) e same = absurd same
record_stands P (Err error) row sound given = tt
