-- What one token of look-ahead tells: LL(1) grammars.
use Rattle.std.specs.Prelude.{ℕ, zero, suc, Bool, true, false, not, ◌&&◌, ◌||◌, ◌==◌, if◌then◌else◌, IsTrue, List, []}
use Rattle.std.specs.Prelude.{◌∷◌, ◌++◌, Option, Some, None, is_some, option_map}
use Rattle.grammar_theory.specs.Ebnf.{Terminal, Tree, unit, numeral, pair, left, right, none, nil, more, Ebnf, token}
use Rattle.grammar_theory.specs.Ebnf.{valued}
use Rattle.grammar_theory.specs.Ebnf.{version, both, either, maybe, many, numbered, prefix_trees, named, inside}
use Rattle.grammar_theory.specs.Ebnf.{Grammar, has}

-- no class is in both lists
abbrev pub apart : List ℕ → List ℕ → Bool
apart [] ns = true
apart (m ∷ ms) ns = not (has ns m) && apart ms ns

-- Whether the form may be empty.
abbrev pub empties : Ebnf → Bool
empties (token classes keep) = false
empties (valued c v) = false
empties (version c vs) = false
empties (both a b) = empties a && empties b
empties (either a b) = empties a || empties b
empties (maybe a) = true
empties (many a) = true
empties (numbered k c a) = true
empties (prefix_trees n arity a) = (n == 0) || empties a
empties (named m a) = empties a
empties (inside o k c) = false

-- The FIRST set: the classes with which the form begins.
abbrev pub first : Ebnf → List ℕ
first (token classes keep) = classes
first (valued c v) = c ∷ []
first (version c vs) = c ∷ []
first (both a b) = if empties a then first a ++ first b else first a
first (either a b) = first a ++ first b
first (maybe a) = first a
first (many a) = first a
first (numbered k c a) = c ∷ []
first (prefix_trees n arity a) = first a
first (named m a) = first a
first (inside o k c) = o ∷ []

-- The classes with which the form goes on where it might end.
abbrev pub last : Ebnf → List ℕ
last (token classes keep) = []
last (valued c v) = []
last (version c vs) = []
last (both a b) = if empties b then last a ++ last b else last b
last (either a b) = if empties b then first a ++ (last a ++ last b) else last a ++ last b
last (maybe a) = first a ++ last a
last (many a) = first a ++ last a
last (numbered k c a) = c ∷ last a
last (prefix_trees n arity a) = last a
last (named m a) = last a
last (inside o k c) = []

-- a token of the class and value, at place 0
abbrev pub sample_token : ℕ → ℕ → Terminal
sample_token c v = record { class = c; place = 0; value = v; text = [] }

abbrev pub token_of : List ℕ → (Terminal → Tree) → Option Tree
token_of [] keep = None
token_of (c ∷ cs) keep = Some (keep (sample_token c 0))

-- the first of the values, as a tree
abbrev pub numeral_of : List ℕ → Option Tree
numeral_of [] = None
numeral_of (v ∷ vs) = Some (numeral v)

abbrev pub pair_of : Option Tree → Option Tree → Option Tree
pair_of None y = None
pair_of (Some x) None = None
pair_of (Some x) (Some y) = Some (pair x y)

abbrev pub either_of : Option Tree → Option Tree → Option Tree
either_of (Some x) y = Some (left x)
either_of None None = None
either_of None (Some y) = Some (right y)

abbrev pub copies : ℕ → Tree → Tree
copies zero x = nil
copies (suc n) x = more x (copies n x)

-- the tree, if it passes the test
abbrev pub if_passes : (Tree → Bool) → Option Tree → Option Tree
if_passes test None = None
if_passes test (Some x) = if test x then Some x else None

-- A tree of the form that passes the test and needs no brackets, if one is found. Of alternatives it is the first
-- that has one.
abbrev pub sample : Ebnf → (Tree → Bool) → Option Tree
sample (token classes keep) test = if_passes test (token_of classes keep)
sample (valued c v) test = if_passes test (Some unit)
sample (version c vs) test = if_passes test (numeral_of vs)
sample (both a b) test = if_passes test (pair_of (sample a (λ x. true)) (sample b (λ x. true)))
sample (either a b) test = either_of (sample a (λ x. test (left x))) (sample b (λ x. test (right x)))
sample (maybe a) test = if_passes test (Some none)
sample (many a) test = if_passes test (Some nil)
sample (numbered k c a) test = if_passes test (Some nil)
sample (prefix_trees n arity a) test = if_passes test (option_map (copies n) (sample a (λ x. arity x == 0)))
sample (named m a) test = option_map (m 0) (sample a (λ x. test (m 0 x)))
sample (inside o k c) test = None

-- Whether the form has tokens without brackets. Trees in prefix order have some where a node without brackets has no
-- subtree.
abbrev pub plain : Ebnf → Bool
plain e = is_some (sample e (λ x. true))

-- One token of look-ahead tells what to do, and each form has some tokens. Two alternatives begin otherwise, and only
-- the last may be empty. What follows a part begins otherwise than the part might go on, and what is optional, repeated
-- or named is not empty.
abbrev pub good : Grammar → Ebnf → Bool
good g (token classes keep) = plain (token classes keep)
good g (valued c v) = true
good g (version c vs) = plain (version c vs)
good g (both a b) = good g a && (good g b && apart (first b) (last a))
good g (either a b) = good g a && (good g b && (not (empties a) && apart (first b) (first a)))
good g (maybe a) = good g a && not (empties a)
good g (many a) = good g a && (not (empties a) && apart (first a) (last a))
good g (numbered k c a) = good g a && not (has (last a) c)
good g (prefix_trees n arity a) =
    good g a && (not (empties a) && (apart (first a) (last a) && plain (prefix_trees n arity a)))
good g (named m a) = good g a && not (empties a)
good g (inside o k c) = not (has (last (g.body k)) c)

-- no class opens or closes brackets
abbrev pub neutral : Grammar → List ℕ → Bool
neutral g classes = apart classes g.opening && apart classes g.closing

-- Brackets stand only where they open and close.
abbrev pub paired : Grammar → Ebnf → Bool
paired g (token classes keep) = neutral g classes
paired g (valued c v) = neutral g (c ∷ [])
paired g (version c vs) = neutral g (c ∷ [])
paired g (both a b) = paired g a && paired g b
paired g (either a b) = paired g a && paired g b
paired g (maybe a) = paired g a
paired g (many a) = paired g a
paired g (numbered k c a) = neutral g (c ∷ []) && paired g a
paired g (prefix_trees n arity a) = paired g a
paired g (named m a) = paired g a
paired g (inside o k c) = has g.opening o && (has g.closing c && not (has g.opening c))

-- What must hold of all that stands in a grammar's brackets.
pub record IsGrammar (g : Grammar) : Type 0 where
  pub bodies_good : (k : ℕ) → IsTrue (good g (g.body k))
  pub bodies_plain : (k : ℕ) → IsTrue (plain (g.body k))
  pub bodies_paired : (k : ℕ) → IsTrue (paired g (g.body k))

-- What must hold of a form that is read in the grammar.
pub record IsForm (g : Grammar) (e : Ebnf) : Type 0 where
  pub is_good : IsTrue (good g e)
  pub is_paired : IsTrue (paired g e)
