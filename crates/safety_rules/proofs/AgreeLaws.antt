-- Indices held against a statement's, one after the other.
use Rattle.std.proofs.Common.{◌≡◌, ℕ, zero, suc, ◌+◌, ◌<◌, ◌≤◌, ℤ, List, [], ◌∷◌, ◌++◌, Bool, true, false, ◌&&◌, IsTrue}
use Rattle.std.proofs.Common.{refl, sym, ap, ◌∙◌, length, drop, slice_index_or, add-one, append_assoc, arith}
use Rattle.core_terms.specs.declared.trees.CForm.{CForm}
use Rattle.core_terms.specs.declared.documents.Arg.{Arg}
use Rattle.rules_table.specs.Table.{args_agree, equations}
use Rattle.safety_rules.specs.Helpers.{arg_agrees, equation_of}

agree-cons : (a : Arg) (args : List Arg) (z : ℤ) (zs : List ℤ) → args_agree (a ∷ args) (z ∷ zs) ≡
    (arg_agrees a z && args_agree args zs)
agree-cons (Arg.Number k) args z zs = refl
agree-cons (Arg.Param n add) args z zs = refl
agree-cons Arg.Slot args z zs = refl

second_of : (a b : Bool) → IsTrue (a && b) → IsTrue b
second_of true b t = t
second_of false b t = cc

same_count : (args : List Arg) (zs : List ℤ) → IsTrue (args_agree args zs) → length args ≡ length zs
same_count [] [] t = refl
same_count [] (z ∷ zs) t = cc
same_count (a ∷ args) [] t = cc
same_count (a ∷ args) (z ∷ zs) t =
    let both : IsTrue (arg_agrees a z && args_agree args zs) = sym (agree-cons a args z zs) ∙ t in
    let rest = same_count args zs (second_of (arg_agrees a z) (args_agree args zs) both) in
    omega (arith, rest)

pub other_count : (args : List Arg) (zs : List ℤ) → (length args ≡ length zs → ⊥) → false ≡ args_agree args zs
other_count args zs apart = go (args_agree args zs) (same_count args zs)
  where
    go : (b : Bool) → (IsTrue b → length args ≡ length zs) → false ≡ b
    go true f = absurd (apart (f refl))
    go false f = refl

-- the next index and the others
next_one : (args : List Arg) (zs : List ℤ) (i : ℕ) (d : Arg) (e : ℤ) → i < length args → i < length zs →
    args_agree (drop i args) (drop i zs) ≡
    (arg_agrees (slice_index_or args i d) (slice_index_or zs i e) && args_agree (drop (suc i) args) (drop (suc i) zs))
next_one [] zs i d e less fewer = absurd (omega arith)
next_one (a ∷ args) [] i d e less fewer = absurd (omega arith)
next_one (a ∷ args) (z ∷ zs) zero d e less fewer = agree-cons a args z zs
next_one (a ∷ args) (z ∷ zs) (suc i) d e less fewer =
    let one : i < length args = omega arith in let two : i < length zs = omega arith in
    next_one args zs i d e one two

pub one_fails : (args : List Arg) (zs : List ℤ) (i : ℕ) (d : Arg) (e : ℤ) (b : Bool) → i < length args →
    i < length zs → b ≡ arg_agrees (slice_index_or args i d) (slice_index_or zs i e) → b ≡ false →
    args_agree (drop i args) (drop i zs) ≡ args_agree args zs → false ≡ args_agree args zs
one_fails args zs i d e b less fewer is fails whole =
    sym (ap (λ v. v && args_agree (drop (suc i) args) (drop (suc i) zs)) (sym is ∙ fails))
    ∙ sym (next_one args zs i d e less fewer) ∙ whole

pub one_passes : (args : List Arg) (zs : List ℤ) (i : ℕ) (d : Arg) (e : ℤ) (b : Bool) → i < length args →
    i < length zs → b ≡ arg_agrees (slice_index_or args i d) (slice_index_or zs i e) → b ≡ true →
    args_agree (drop i args) (drop i zs) ≡ args_agree args zs →
    args_agree (drop (i + 1) args) (drop (i + 1) zs) ≡ args_agree args zs
one_passes args zs i d e b less fewer is passes whole =
    ap (λ n. args_agree (drop n args) (drop n zs)) (add-one i)
    ∙ sym (ap (λ v. v && args_agree (drop (suc i) args) (drop (suc i) zs)) (sym is ∙ passes))
    ∙ sym (next_one args zs i d e less fewer) ∙ whole

none_left : {X : Type 0} (xs : List X) (i : ℕ) → length xs ≤ i → drop i xs ≡ []
none_left [] zero past = refl
none_left [] (suc i) past = refl
none_left (x ∷ xs) zero past = absurd (omega arith)
none_left (x ∷ xs) (suc i) past = let inner : length xs ≤ i = omega arith in none_left xs i inner

pub all_pass : (args : List Arg) (zs : List ℤ) (i : ℕ) → length args ≤ i → length zs ≤ i →
    args_agree (drop i args) (drop i zs) ≡ args_agree args zs → true ≡ args_agree args zs
all_pass args zs i past over whole =
    sym (ap (λ xs. args_agree xs (drop i zs)) (none_left args i past) ∙ ap (args_agree []) (none_left zs i over)) ∙
    whole

-- the equations of the next index and the others
equations-cons : (a : Arg) (args : List Arg) (z : ℤ) (zs : List ℤ) → equations (a ∷ args) (z ∷ zs) ≡
    equation_of a z ++ equations args zs
equations-cons (Arg.Number k) args z zs = refl
equations-cons (Arg.Param n add) args z zs = refl
equations-cons Arg.Slot args z zs = refl

next_equation : (args : List Arg) (zs : List ℤ) (i : ℕ) (d : Arg) (e : ℤ) → i < length args → i < length zs →
    equations (drop i args) (drop i zs) ≡
    equation_of (slice_index_or args i d) (slice_index_or zs i e) ++ equations (drop (suc i) args) (drop (suc i) zs)
next_equation [] zs i d e less fewer = absurd (omega arith)
next_equation (a ∷ args) [] i d e less fewer = absurd (omega arith)
next_equation (a ∷ args) (z ∷ zs) zero d e less fewer = equations-cons a args z zs
next_equation (a ∷ args) (z ∷ zs) (suc i) d e less fewer =
    let one : i < length args = omega arith in let two : i < length zs = omega arith in
    next_equation args zs i d e one two

no_equations : (args : List Arg) → equations args [] ≡ []
no_equations [] = refl
no_equations (a ∷ args) = refl

nil_after : (fs : List CForm) → fs ++ [] ≡ fs
nil_after [] = refl
nil_after (f ∷ fs) = ap (λ rest. f ∷ rest) (nil_after fs)

-- as far as a loop has come: what was added, and what is left to be added
abbrev pub AddsRest : List Arg → List ℤ → ℕ → List CForm → List CForm → Type 0
AddsRest args zs i old all = all ++ equations (drop i args) (drop i zs) ≡ old ++ equations args zs

pub rest_more : (args : List Arg) (zs : List ℤ) (i : ℕ) (d : Arg) (e : ℤ) (old all more : List CForm) →
    i < length args → i < length zs →
    more ≡ all ++ equation_of (slice_index_or args i d) (slice_index_or zs i e) → AddsRest args zs i old all →
    AddsRest args zs (i + 1) old more
rest_more args zs i d e old all more less fewer is rest =
    ap (λ n. more ++ equations (drop n args) (drop n zs)) (add-one i)
    ∙ ap (λ fs. fs ++ equations (drop (suc i) args) (drop (suc i) zs)) is
    ∙ append_assoc all (equation_of (slice_index_or args i d) (slice_index_or zs i e))
    (equations (drop (suc i) args) (drop (suc i) zs))
    ∙ ap (λ fs. all ++ fs) (sym (next_equation args zs i d e less fewer)) ∙ rest

pub rest_past : (args : List Arg) (zs : List ℤ) (i : ℕ) (old all : List CForm) → length zs ≤ i →
    AddsRest args zs i old all → AddsRest args zs (i + 1) old all
rest_past args zs i old all past rest =
    ap (λ fs. all ++ fs) (over (i + 1) (omega (arith, past)) ∙ sym (over i past)) ∙ rest
  where
    over : (n : ℕ) → length zs ≤ n → equations (drop n args) (drop n zs) ≡ []
    over n h = ap (equations (drop n args)) (none_left zs n h) ∙ no_equations (drop n args)

pub rest_done : (args : List Arg) (zs : List ℤ) (i : ℕ) (old all : List CForm) → length args ≤ i →
    AddsRest args zs i old all → all ≡ old ++ equations args zs
rest_done args zs i old all past rest =
    sym (ap (λ xs. all ++ equations xs (drop i zs)) (none_left args i past) ∙ nil_after all) ∙ rest
