-- A loop of a parser's code that reads one item after another.
use Rattle.std.proofs.Common.{◌≡◌, ℕ, zero, suc, true, false, List, [], ◌∷◌, ◌++◌, refl, sym, ◌∙◌, ap, subst, arith}
use Rattle.std.proofs.Common.{◌+◌, ◌<◌, Ok, Err}
use Rattle.grammar_theory.specs.Ebnf.{Terminal, Tree, nil, more, Ebnf, many, numbered, prefix_trees, numbered_item}
use Rattle.grammar_theory.specs.Ebnf.{Grammar}
use Rattle.grammar_theory.specs.LookAhead.{first, good, IsGrammar}
use Rattle.grammar_theory.specs.Lists.{prepend, list}
use Rattle.grammar_theory.specs.Reader.{Read, Fault, begins, after, and_then, and_then_by, some_missing, missing, read}
use Rattle.grammar_theory.proofs.Steps.{many_more, many_stop, numbered_more, numbered_stop, trees_more, trees_stop}

prepend_nil : (xs : List Tree) → prepend xs nil ≡ list xs
prepend_nil [] = refl
prepend_nil (x ∷ xs) = ap (more x) (prepend_nil xs)

prepend_last : (xs : List Tree) (y z : Tree) → prepend (xs ++ y ∷ []) z ≡ prepend xs (more y z)
prepend_last [] y z = refl
prepend_last (x ∷ xs) y z = ap (more x) (prepend_last xs y z)

after_last : (xs : List Tree) (y : Tree) (r : Read Tree) → after (prepend (xs ++ y ∷ [])) r ≡ after (prepend xs)
    (after (more y) r)
after_last xs y (Ok p) = ap (λ t. Ok (t, p.1)) (prepend_last xs y p.0)
after_last xs y (Err d) = refl

-- Of the form `whole` at the tokens `ts` these items are read, and the form `part` at the rest is still to be read: a
-- loop's invariant.
abbrev pub Reading : Grammar → ℕ → Ebnf → List Terminal → List Tree → Ebnf → List Terminal → Type 0
Reading G n whole ts items part rest = after (prepend items) (read G n part rest) ≡ read G n whole ts

pub reading_start : (G : Grammar) (n : ℕ) (e : Ebnf) (ts : List Terminal) → Reading G n e ts [] e ts
reading_start G n e ts = same (read G n e ts)
  where
    same : (r : Read Tree) → after (λ z. z) r ≡ r
    same (Ok p) = refl
    same (Err d) = refl

module _ (G : Grammar) (n : ℕ) (whole : Ebnf) (ts : List Terminal) (items : List Tree) (part : Ebnf)
    (rest : List Terminal) (inv : Reading G n whole ts items part rest) where
  step : (y : Tree) (next : Ebnf) (later : List Terminal) → read G n part rest ≡ after (more y) (read G n next later) →
      Reading G n whole ts (items ++ y ∷ []) next later
  step y next later e = after_last items y (read G n next later) ∙ sym (ap (after (prepend items)) e) ∙ inv

  stop : read G n part rest ≡ Ok (nil, rest) → read G n whole ts ≡ Ok (list items, rest)
  stop e = sym inv ∙ ap (after (prepend items)) e ∙ ap (λ t. Ok (t, rest)) (prepend_nil items)

  fault : (d : Fault) → read G n part rest ≡ Err d → read G n whole ts ≡ Err d
  fault d e = sym inv ∙ ap (after (prepend items)) e

module _ (G : Grammar) (is : IsGrammar G) (n : ℕ) (whole : Ebnf) (ts : List Terminal) (items : List Tree)
    (rest : List Terminal) where
  -- { a }
  module _ (a : Ebnf) (h : good G (many a) ≡ true) (inv : Reading G n whole ts items (many a) rest) where
    pub many_step : begins (first a) rest ≡ true → (y : Tree) (later : List Terminal) → read G n a rest ≡ Ok (y, later)
        → Reading G n whole ts (items ++ y ∷ []) (many a) later
    many_step b y later e = step G n whole ts items (many a) rest inv y (many a) later
        (many_more G is n a h rest b ∙ ap (and_then (read G n (many a)) more) e)

    pub many_end : begins (first a) rest ≡ false → read G n whole ts ≡ Ok (list items, rest)
    many_end b = stop G n whole ts items (many a) rest inv (many_stop G is n a h rest b)

    pub many_fault : begins (first a) rest ≡ true → (d : Fault) → read G n a rest ≡ Err d → read G n whole ts ≡ Err d
    many_fault b d e = fault G n whole ts items (many a) rest inv d
        (many_more G is n a h rest b ∙ ap (and_then (read G n (many a)) more) e)

  -- { number a }, where the number k is next
  module _ (k c : ℕ) (a : Ebnf) (h : good G (numbered k c a) ≡ true)
      (inv : Reading G n whole ts items (numbered k c a) rest) where
    pub numbered_step : begins (c ∷ []) rest ≡ true → (y : Tree) (later : List Terminal) → read G n
        (numbered_item k c a) rest ≡ Ok (y, later) → (next : ℕ) → next ≡ k + 1 → Reading G n whole ts (items ++ y ∷ [])
        (numbered next c a) later
    numbered_step b y later e next q =
        let w : suc k ≡ next = omega arith in
        subst (λ m. Reading G n whole ts (items ++ y ∷ []) (numbered m c a) later) w
        (step G n whole ts items (numbered k c a) rest inv y (numbered (suc k) c a) later
        (numbered_more G is n k c a h rest b ∙ ap (and_then (read G n (numbered (suc k) c a)) more) e))

    pub numbered_end : begins (c ∷ []) rest ≡ false → read G n whole ts ≡ Ok (list items, rest)
    numbered_end b = stop G n whole ts items (numbered k c a) rest inv (numbered_stop G is n k c a h rest b)

    pub numbered_fault : begins (c ∷ []) rest ≡ true → (d : Fault) → read G n (numbered_item k c a) rest ≡ Err d → read
        G n whole ts ≡ Err d
    numbered_fault b d e = fault G n whole ts items (numbered k c a) rest inv d
        (numbered_more G is n k c a h rest b ∙ ap (and_then (read G n (numbered (suc k) c a)) more) e)

  -- the nodes of trees in prefix order, of which `need` are missing
  module _ (need : ℕ) (arity : Tree → ℕ) (a : Ebnf) (h : good G (prefix_trees need arity a) ≡ true)
      (inv : Reading G n whole ts items (prefix_trees need arity a) rest) where
    some_need : 0 < need → some_missing need rest ≡ true
    some_need l = go need l
      where
        go : (m : ℕ) → 0 < m → some_missing m rest ≡ true
        go zero l = absurd (omega arith)
        go (suc m) l = refl

    no_need : need ≡ 0 → some_missing need rest ≡ false
    no_need e = ap (λ m. some_missing m rest) e

    still_missing : (left : ℕ) (y : Tree) → 0 < need → left + 1 ≡ need + arity y → missing arity need y ≡ left
    still_missing left y l e = go need l e
      where
        go : (m : ℕ) → 0 < m → left + 1 ≡ m + arity y → missing arity m y ≡ left
        go zero l e = absurd (omega arith)
        go (suc m) l e = omega arith

    pub trees_step : 0 < need → (y : Tree) (later : List Terminal) → read G n a rest ≡ Ok (y, later) → (left : ℕ) → left
        + 1 ≡ need + arity y → Reading G n whole ts (items ++ y ∷ []) (prefix_trees left arity a) later
    trees_step l y later e left q = subst (λ m. Reading G n whole ts (items ++ y ∷ []) (prefix_trees m arity a) later)
        (still_missing left y l q)
        (step G n whole ts items (prefix_trees need arity a) rest inv y (prefix_trees (missing arity need y) arity a)
        later (trees_more G is n need arity a h rest (some_need l) ∙ ap
        (and_then_by (λ x. read G n (prefix_trees (missing arity need x) arity a)) more) e))

    pub trees_end : need ≡ 0 → read G n whole ts ≡ Ok (list items, rest)
    trees_end e = stop G n whole ts items (prefix_trees need arity a) rest inv
        (trees_stop G is n need arity a h rest (no_need e))

    pub trees_fault : 0 < need → (d : Fault) → read G n a rest ≡ Err d → read G n whole ts ≡ Err d
    trees_fault l d e = fault G n whole ts items (prefix_trees need arity a) rest inv d
        (trees_more G is n need arity a h rest (some_need l) ∙ ap
        (and_then_by (λ x. read G n (prefix_trees (missing arity need x) arity a)) more) e)
