-- Arguments held against ranges, one after the other.
use Rattle.std.proofs.Common.{◌≡◌, ℕ, zero, suc, ◌+◌, ◌<◌, ◌≤◌, List, [], ◌∷◌, Bool, true, false, ◌&&◌, Some, None}
use Rattle.std.proofs.Common.{IsTrue, refl, sym, ap, ◌∙◌, length, drop, slice_get, slice_index_or, add-one, arith}
use Rattle.core_terms.specs.declared.trees.Range.{Range}
use Rattle.core_terms.specs.declared.documents.Arg.{Arg}
use Rattle.rules_table.specs.Table.{is_argument, are_arguments}

pub got_within : {X : Type 0} (xs : List X) (n : ℕ) (d : X) → n < length xs →
    slice_get xs n ≡ Some (slice_index_or xs n d)
got_within [] n d less = absurd (omega arith)
got_within (x ∷ xs) zero d less = refl
got_within (x ∷ xs) (suc n) d less = let inner : n < length xs = omega arith in got_within xs n d inner

pub got_past : {X : Type 0} (xs : List X) (n : ℕ) → length xs ≤ n → slice_get xs n ≡ None
got_past [] n past = refl
got_past (x ∷ xs) zero past = absurd (omega arith)
got_past (x ∷ xs) (suc n) past = let inner : length xs ≤ n = omega arith in got_past xs n inner

second_of : (a b : Bool) → IsTrue (a && b) → IsTrue b
second_of true b t = t
second_of false b t = cc

pub same_count : (ranges params : List Range) (args : List Arg) → IsTrue (are_arguments ranges params args) →
    length params ≡ length args
same_count ranges [] [] t = refl
same_count ranges [] (a ∷ args) t = cc
same_count ranges (r ∷ rs) [] t = cc
same_count ranges (r ∷ rs) (a ∷ args) t =
    let rest = same_count ranges rs args (second_of (is_argument ranges r a) (are_arguments ranges rs args) t) in
    omega (arith, rest)

pub other_count : (ranges params : List Range) (args : List Arg) → (length params ≡ length args → ⊥) →
    false ≡ are_arguments ranges params args
other_count ranges params args apart = go (are_arguments ranges params args) (same_count ranges params args)
  where
    go : (b : Bool) → (IsTrue b → length params ≡ length args) → false ≡ b
    go true f = absurd (apart (f refl))
    go false f = refl

-- the next argument and the others
next_one : (ranges params : List Range) (args : List Arg) (i : ℕ) (d : Range) (e : Arg) → i < length params →
    i < length args → are_arguments ranges (drop i params) (drop i args) ≡
    (is_argument ranges (slice_index_or params i d) (slice_index_or args i e)
    && are_arguments ranges (drop (suc i) params) (drop (suc i) args))
next_one ranges [] args i d e less fewer = absurd (omega arith)
next_one ranges (r ∷ rs) [] i d e less fewer = absurd (omega arith)
next_one ranges (r ∷ rs) (a ∷ args) zero d e less fewer = refl
next_one ranges (r ∷ rs) (a ∷ args) (suc i) d e less fewer =
    let one : i < length rs = omega arith in let two : i < length args = omega arith in
    next_one ranges rs args i d e one two

pub one_fails : (ranges params : List Range) (args : List Arg) (i : ℕ) (d : Range) (e : Arg) (b : Bool) →
    i < length params → i < length args →
    b ≡ is_argument ranges (slice_index_or params i d) (slice_index_or args i e) → b ≡ false →
    are_arguments ranges (drop i params) (drop i args) ≡ are_arguments ranges params args →
    false ≡ are_arguments ranges params args
one_fails ranges params args i d e b less fewer is fails whole =
    sym (ap (λ v. v && are_arguments ranges (drop (suc i) params) (drop (suc i) args)) (sym is ∙ fails))
    ∙ sym (next_one ranges params args i d e less fewer) ∙ whole

pub one_passes : (ranges params : List Range) (args : List Arg) (i : ℕ) (d : Range) (e : Arg) (b : Bool) →
    i < length params → i < length args →
    b ≡ is_argument ranges (slice_index_or params i d) (slice_index_or args i e) → b ≡ true →
    are_arguments ranges (drop i params) (drop i args) ≡ are_arguments ranges params args →
    are_arguments ranges (drop (i + 1) params) (drop (i + 1) args) ≡ are_arguments ranges params args
one_passes ranges params args i d e b less fewer is passes whole =
    ap (λ n. are_arguments ranges (drop n params) (drop n args)) (add-one i)
    ∙ sym (ap (λ v. v && are_arguments ranges (drop (suc i) params) (drop (suc i) args)) (sym is ∙ passes))
    ∙ sym (next_one ranges params args i d e less fewer) ∙ whole

none_left : {X : Type 0} (xs : List X) (i : ℕ) → length xs ≤ i → drop i xs ≡ []
none_left [] zero past = refl
none_left [] (suc i) past = refl
none_left (x ∷ xs) zero past = absurd (omega arith)
none_left (x ∷ xs) (suc i) past = let inner : length xs ≤ i = omega arith in none_left xs i inner

pub all_pass : (ranges params : List Range) (args : List Arg) (i : ℕ) → length params ≤ i → length args ≤ i →
    are_arguments ranges (drop i params) (drop i args) ≡ are_arguments ranges params args →
    true ≡ are_arguments ranges params args
all_pass ranges params args i past over whole =
    sym (ap (λ ps. are_arguments ranges ps (drop i args)) (none_left params i past)
    ∙ ap (are_arguments ranges []) (none_left args i over)) ∙ whole
