-- The words of a tree are words of its tokens, in their order, where the actions keep them so.
use Rattle.std.specs.Prelude.{ℕ, List, [], ◌∷◌, ◌++◌, map}
use Rattle.grammar_theory.specs.Ebnf.{Terminal, Tree, unit, leaf, numeral, choice, pair, left, right, none, some, nil}
use Rattle.grammar_theory.specs.Ebnf.{more, node}
use Rattle.grammar_theory.specs.Ebnf.{Ebnf, token, valued, version, both, either, maybe, many, numbered, prefix_trees}
use Rattle.grammar_theory.specs.Ebnf.{named}
use Rattle.grammar_theory.specs.Ebnf.{inside}

-- A word: its place and its text.
abbrev pub Word : Type 0
Word = ℕ × List ℕ

-- The words of a tree, in reading order.
abbrev pub words : Tree → List Word
words unit = []
words (leaf place text) = (place, text) ∷ []
words (numeral n) = []
words (choice c) = []
words (pair x y) = words x ++ words y
words (left x) = words x
words (right x) = words x
words none = []
words (some x) = words x
words nil = []
words (more x xs) = words x ++ words xs
words (node k place x) = words x

-- What tokens would be as words.
abbrev pub spelled : List Terminal → List Word
spelled ts = map (λ t. (t.place, t.text)) ts

-- The first list is the second with some of its words left out.
pub data IsSublist : List Word → List Word → Type 0 where
  is_done : IsSublist [] []
  is_left_out : {w : Word} {ws vs : List Word} → IsSublist ws vs → IsSublist ws (w ∷ vs)
  is_kept : {w : Word} {ws vs : List Word} → IsSublist ws vs → IsSublist (w ∷ ws) (w ∷ vs)

-- The form's tokens and actions make no words, and put none elsewhere.
abbrev pub KeepsWords : Ebnf → Type 0
KeepsWords (token classes keep) = (t : Terminal) → IsSublist (words (keep t)) (spelled (t ∷ []))
KeepsWords (valued c v) = Unit {0}
KeepsWords (version c vs) = Unit {0}
KeepsWords (both a b) = KeepsWords a × KeepsWords b
KeepsWords (either a b) = KeepsWords a × KeepsWords b
KeepsWords (maybe a) = KeepsWords a
KeepsWords (many a) = KeepsWords a
KeepsWords (numbered k c a) = KeepsWords a
KeepsWords (prefix_trees n arity a) = KeepsWords a
KeepsWords (named action a) = KeepsWords a × ((place : ℕ) (x : Tree) → IsSublist (words (action place x)) (words x))
KeepsWords (inside o k c) = Unit {0}
