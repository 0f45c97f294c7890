-- The reader: what a descent with one token of look-ahead answers.
use Rattle.std.specs.Prelude.{ℕ, zero, suc, ◌+◌, Bool, true, false, ◌&&◌, ◌||◌, ◌==◌, if◌then◌else◌, List, [], ◌∷◌, Ok}
use Rattle.std.specs.Prelude.{Err, Result}
use Rattle.grammar_theory.specs.Ebnf.{Terminal, place_of, Tree, unit, numeral, pair, left, right, none, some, nil, more}
use Rattle.grammar_theory.specs.Ebnf.{node}
use Rattle.grammar_theory.specs.Ebnf.{Ebnf, token, valued, version, both, either, maybe, many, numbered, prefix_trees}
use Rattle.grammar_theory.specs.Ebnf.{named}
use Rattle.grammar_theory.specs.Ebnf.{inside, Grammar, has}
use Rattle.grammar_theory.specs.LookAhead.{first}

-- Why tokens are refused, with those that are left from the fault on.
pub data Fault : Type 0 where
  -- no token that may stand there, or the end
  Unexpected : List Terminal → Fault
  -- a number that is no version
  OtherVersion : List Terminal → Fault
  -- an opening bracket for which no level is left
  TooDeep : List Terminal → Fault

-- what is read, and the tokens that are left
abbrev pub Read : Type 0 → Type 0
Read A = Result (A × List Terminal) Fault

infixl 10 ◌>>=◌
abbrev pub ◌>>=◌ : {A B : Type 0} → Result A Fault → (A → Result B Fault) → Result B Fault
(Ok x) >>= f = f x
(Err e) >>= f = Err e

abbrev pub begins : List ℕ → List Terminal → Bool
begins classes [] = false
begins classes (t ∷ ts) = has classes t.class

abbrev pub one_if : Bool → Terminal → List Terminal → Read Terminal
one_if b t ts = if b then Ok (t, ts) else Err (Unexpected (t ∷ ts))

-- a token that passes the test
abbrev pub take_if : (Terminal → Bool) → List Terminal → Read Terminal
take_if passes [] = Err (Unexpected [])
take_if passes (t ∷ ts) = one_if (passes t) t ts

-- a token of one of the classes
abbrev pub take_one : List ℕ → List Terminal → Read Terminal
take_one classes ts = take_if (λ t. has classes t.class) ts

abbrev pub version_if : Bool → Terminal → List Terminal → Read Terminal
version_if b t ts = if b then Ok (t, ts) else Err (OtherVersion (t ∷ ts))

abbrev pub check_version : Bool → List ℕ → Read Terminal → Read Terminal
check_version any values r = r >>= λ x. version_if (any || has values x.0.value) x.0 x.1

-- what is kept of a token
abbrev pub as_tree : (Terminal → Tree) → Read Terminal → Read Tree
as_tree keep r = r >>= λ x. Ok (keep x.0, x.1)

-- a token of the class, which is dropped
abbrev pub skip : ℕ → List Terminal → Read Tree
skip class ts = as_tree (λ t. unit) (take_one (class ∷ []) ts)

abbrev pub after : (Tree → Tree) → Read Tree → Read Tree
after f r = r >>= λ x. Ok (f x.0, x.1)

-- one reader's answer, and then that of a reader which the first tree decides
abbrev pub and_then_by : (Tree → List Terminal → Read Tree) → (Tree → Tree → Tree) → Read Tree → Read Tree
and_then_by g join r = r >>= λ x. after (join x.0) (g x.0 x.1)

abbrev pub and_then : (List Terminal → Read Tree) → (Tree → Tree → Tree) → Read Tree → Read Tree
and_then g join r = and_then_by (λ x. g) join r

-- Items as long as it goes on, in a state that each item changes, in so many turns at most.
abbrev pub repeat : (ℕ → List Terminal → Read Tree) → (ℕ → List Terminal → Bool) → (ℕ → Tree → ℕ) → ℕ → ℕ →
    List Terminal → Read Tree
repeat item goes_on next zero k ts = Ok (nil, ts)
repeat item goes_on next (suc turns) k ts = if goes_on k ts
    then and_then_by (λ x. repeat item goes_on next turns (next k x)) more (item k ts) else Ok (nil, ts)

abbrev pub count : List Terminal → ℕ
count [] = 0
count (t ∷ ts) = suc (count ts)

-- turns that are enough, since each item takes a token
abbrev pub repeat_all : (ℕ → List Terminal → Read Tree) → (ℕ → List Terminal → Bool) → (ℕ → Tree → ℕ) → ℕ →
    List Terminal → Read Tree
repeat_all item goes_on next k ts = repeat item goes_on next (suc (count ts)) k ts

-- a number of the class, and what stands after it
abbrev pub take_number : ℕ → ℕ → List Terminal → Read Tree
take_number class v ts = as_tree (λ t. unit) (take_if (λ t. (t.class == class) && (t.value == v)) ts)

abbrev pub after_number : ℕ → (List Terminal → Read Tree) → ℕ → List Terminal → Read Tree
after_number class f k ts = after (node k (place_of ts)) (and_then f pair (take_number class k ts))

-- how many trees are missing: whether any, and how many after one more node
abbrev pub some_missing : ℕ → List Terminal → Bool
some_missing zero ts = false
some_missing (suc n) ts = true

abbrev pub missing : (Tree → ℕ) → ℕ → Tree → ℕ
missing arity zero x = zero
missing arity (suc n) x = n + arity x

-- what stands in brackets, and the closing token
abbrev pub closed : (List Terminal → Read Tree) → ℕ → List Terminal → Read Tree
closed f class ts = f ts >>= λ x. skip class x.1 >>= λ z. Ok (x.0, z.1)

abbrev pub opened : ℕ → (List Terminal → Read Tree) → List Terminal → List Terminal → Read Tree
opened zero f at ts = Err (TooDeep at)
opened (suc n) f at ts = f ts

-- `levels` more brackets may be opened, and `within` reads what stands in them.
abbrev pub reading : Grammar → ℕ → (ℕ → List Terminal → Read Tree) → Ebnf → List Terminal → Read Tree
reading g levels within (token classes keep) ts = as_tree keep (take_one classes ts)
reading g levels within (valued c v) ts = take_number c v ts
reading g levels within (version c vs) ts =
    as_tree (λ t. numeral t.value) (check_version g.any_version vs (take_if (λ t. t.class == c) ts))
reading g levels within (both a b) ts = and_then (reading g levels within b) pair (reading g levels within a ts)
reading g levels within (either a b) ts = if begins (first a) ts then after left (reading g levels within a ts)
    else after right (reading g levels within b ts)
reading g levels within (maybe a) ts = if begins (first a) ts then after some (reading g levels within a ts)
    else Ok (none, ts)
reading g levels within (many a) ts =
    repeat_all (λ k. reading g levels within a) (λ k. begins (first a)) (λ k x. k) 0 ts
reading g levels within (numbered k c a) ts =
    repeat_all (after_number c (reading g levels within a)) (λ k. begins (c ∷ [])) (λ k x. suc k) k ts
reading g levels within (prefix_trees n arity a) ts =
    repeat_all (λ k. reading g levels within a) some_missing (missing arity) n ts
reading g levels within (named m a) ts = after (m (place_of ts)) (reading g levels within a ts)
reading g levels within (inside o k c) ts = skip o ts >>= λ x. opened levels (closed (within k) c) ts x.1

abbrev pub below : Grammar → ℕ → ℕ → List Terminal → Read Tree
below g zero k ts = Err (TooDeep ts)
below g (suc n) k ts = reading g n (below g n) (g.body k) ts

-- What the form is read as, and what is left, where so many brackets may be open at once.
abbrev pub read : Grammar → ℕ → Ebnf → List Terminal → Read Tree
read g levels e ts = reading g levels (below g levels) e ts

abbrev pub ended : Tree → List Terminal → Result Tree Fault
ended x [] = Ok x
ended x (t ∷ ts) = Err (Unexpected (t ∷ ts))

-- What all of the tokens are read as.
abbrev pub read_whole : Grammar → ℕ → Ebnf → List Terminal → Result Tree Fault
read_whole g levels e ts = read g levels e ts >>= λ x. ended x.0 x.1
