-- A small language that uses each form once, and some of its texts.
--
--   document = "doc" number [ sum ] { number ":" node { node } ";" }
--   sum      = atom { ( "+" | "-" ) atom }
--   atom     = word | "(" sum ")"
--   node     = "fork" number | "leaf"
--
-- The first number is 1, the version. The items of the last braces are numbered from 1, and the nodes of each are one
-- tree:
-- a fork has two subtrees and a leaf has none.
use Rattle.std.proofs.Common.{◌≡◌, ℕ, false, List, [], ◌∷◌, refl, subst, Ok, Err, Result}
use Rattle.grammar_theory.specs.Ebnf.{Terminal, Tree, unit, leaf, numeral, choice, pair, left, right, some, nil, more}
use Rattle.grammar_theory.specs.Ebnf.{node, Ebnf}
use Rattle.grammar_theory.specs.Ebnf.{fixed, word, number, one_of, version, both, either, maybe, many, numbered}
use Rattle.grammar_theory.specs.Ebnf.{prefix_tree}
use Rattle.grammar_theory.specs.Ebnf.{named, inside, Grammar}
use Rattle.grammar_theory.specs.LookAhead.{IsGrammar, IsForm}
use Rattle.grammar_theory.specs.Reader.{Fault, Unexpected, OtherVersion, TooDeep, read_whole}
use Rattle.grammar_theory.specs.Answers.{IsReadAnswer}
use Rattle.grammar_theory.specs.Words.{words, spelled, IsSublist, KeepsWords}
use Rattle.grammar_theory.proofs.Theorems.{exact}
use Rattle.grammar_theory.proofs.WordOrder.{none_kept, all_kept, kept_first, keeps_fixed, keeps_word, keeps_number}
use Rattle.grammar_theory.proofs.WordOrder.{keeps_one_of}
use Rattle.grammar_theory.proofs.WordOrder.{words_kept}

-- The classes of tokens.
abbrev word_class : ℕ
word_class = 1

abbrev number_class : ℕ
number_class = 2

abbrev doc_class : ℕ
doc_class = 3

abbrev plus_class : ℕ
plus_class = 4

abbrev minus_class : ℕ
minus_class = 5

abbrev open_class : ℕ
open_class = 6

abbrev close_class : ℕ
close_class = 7

abbrev colon_class : ℕ
colon_class = 8

abbrev end_class : ℕ
end_class = 9

abbrev leaf_class : ℕ
leaf_class = 10

abbrev fork_class : ℕ
fork_class = 11

-- One of several.
abbrev chosen : ℕ → Tree → Tree
chosen place (left x) = x
chosen place (right x) = x
chosen place _ = unit

-- A single operand is that operand.
abbrev make_sum : ℕ → Tree → Tree
make_sum place (pair x nil) = x
make_sum place x = node 1 place x

-- atom = word | "(" sum ")"
unfoldable atom_ : Ebnf
atom_ = named chosen (either (word word_class) (inside open_class 0 close_class))

-- sum = atom { ( "+" | "-" ) atom }
unfoldable sum_ : Ebnf
sum_ = named make_sum (both atom_ (many (both (one_of (plus_class ∷ minus_class ∷ [])) atom_)))

-- node = "fork" number | "leaf"
unfoldable node_ : Ebnf
node_ = either (both (fixed fork_class) (number number_class)) (fixed leaf_class)

abbrev subtrees : Tree → ℕ
subtrees (left x) = 2
subtrees _ = 0

-- document = "doc" number [ sum ] { number ":" node { node } ";" }
unfoldable document_ : Ebnf
document_ = both (fixed doc_class) (both (version number_class (1 ∷ []))
    (both (maybe sum_) (numbered 1 number_class (both (fixed colon_class)
    (both (prefix_tree subtrees node_) (fixed end_class))))))

abbrev grammar : Grammar
grammar = record { body = λ k. sum_; opening = open_class ∷ []; closing = close_class ∷ []; any_version = false }

is_grammar : IsGrammar grammar
unfolding atom_ sum_ node_ document_
is_grammar = record { bodies_good = λ k. refl; bodies_plain = λ k. refl; bodies_paired = λ k. refl }

is_form : IsForm grammar document_
unfolding atom_ sum_ node_ document_
is_form = record { is_good = refl; is_paired = refl }

-- An answer that is computed is exact.
exact_at : (levels : ℕ) (ts : List Terminal) (answer : Result Tree Fault) → read_whole grammar levels document_ ts ≡
    answer → IsReadAnswer grammar levels document_ ts answer
exact_at levels ts answer e = let P : Result Tree Fault → Type 0 = λ r. IsReadAnswer grammar levels document_ ts r in
    subst
    P e (exact grammar is_grammar document_ is_form levels ts)

-- Tokens at a place.
abbrev mark : ℕ → ℕ → Terminal
mark class place = record { class = class; place = place; value = 0; text = [] }

abbrev name : ℕ → List ℕ → Terminal
name place text = record { class = word_class; place = place; value = 0; text = text }

abbrev num : ℕ → ℕ → Terminal
num place value = record { class = number_class; place = place; value = value; text = [] }

-- doc 1 a - (b) 1: fork 7 leaf leaf;
abbrev forked : List Terminal
forked = mark doc_class 0 ∷ num 4 1 ∷ name 6 (97 ∷ []) ∷ mark minus_class 8 ∷ mark open_class 10 ∷ name 11 (98 ∷ []) ∷
    mark close_class 12
    ∷ num 14 1 ∷ mark colon_class 15 ∷ mark fork_class 17 ∷ num 22 7 ∷ mark leaf_class 24 ∷ mark leaf_class 29 ∷ mark
    end_class 33 ∷ []

abbrev forked_tree : Tree
forked_tree =
    pair unit (pair (numeral 1) (pair
    (some (node 1 6 (pair (leaf 6 (97 ∷ [])) (more (pair (choice minus_class) (leaf 11 (98 ∷ []))) nil))))
    (more (node 1 14 (pair unit (pair unit (pair (more (left (pair unit (numeral 7)))
    (more (right unit) (more (right unit) nil))) unit)))) nil)))

forked_answer : IsReadAnswer grammar 1 document_ forked (Ok forked_tree)
unfolding atom_ sum_ node_ document_
forked_answer = exact_at 1 forked (Ok forked_tree) refl

-- With no level left, the bracket is too deep.
abbrev from_bracket : List Terminal
from_bracket = mark open_class 10 ∷ name 11 (98 ∷ []) ∷ mark close_class 12 ∷ []

deep_answer : IsReadAnswer grammar 0 document_ (mark doc_class 0 ∷ num 4 1 ∷ name 6 (97 ∷ []) ∷ mark minus_class 8 ∷
    from_bracket) (Err (TooDeep from_bracket))
unfolding atom_ sum_ node_ document_
deep_answer = exact_at 0 (mark doc_class 0 ∷ num 4 1 ∷ name 6 (97 ∷ []) ∷ mark minus_class 8 ∷ from_bracket)
    (Err (TooDeep from_bracket)) refl

-- doc 2: another version
version_answer : IsReadAnswer grammar 9 document_ (mark doc_class 0 ∷ num 4 2 ∷ []) (Err (OtherVersion (num 4 2 ∷ [])))
unfolding atom_ sum_ node_ document_
version_answer = exact_at 9 (mark doc_class 0 ∷ num 4 2 ∷ []) (Err (OtherVersion (num 4 2 ∷ []))) refl

-- doc 1 2: the first number is not 1
abbrev from_number : List Terminal
from_number = num 6 2 ∷ mark colon_class 7 ∷ mark leaf_class 9 ∷ mark end_class 13 ∷ []

number_answer : IsReadAnswer grammar 9 document_ (mark doc_class 0 ∷ num 4 1 ∷ from_number)
    (Err (Unexpected from_number))
unfolding atom_ sum_ node_ document_
number_answer = exact_at 9 (mark doc_class 0 ∷ num 4 1 ∷ from_number) (Err (Unexpected from_number)) refl

-- doc 1 1: leaf leaf: the tree was whole
abbrev from_leaf : List Terminal
from_leaf = mark leaf_class 14 ∷ mark end_class 18 ∷ []

whole_answer : IsReadAnswer grammar 9 document_ (mark doc_class 0 ∷ num 4 1 ∷ num 6 1 ∷ mark colon_class 7 ∷ mark
    leaf_class
    9 ∷ from_leaf) (Err (Unexpected from_leaf))
unfolding atom_ sum_ node_ document_
whole_answer = exact_at 9 (mark doc_class 0 ∷ num 4 1 ∷ num 6 1 ∷ mark colon_class 7 ∷ mark leaf_class 9 ∷ from_leaf)
    (Err (Unexpected from_leaf)) refl

-- doc 1 1: fork 7 leaf;: a subtree is missing
missing_answer : IsReadAnswer grammar 9 document_ (mark doc_class 0 ∷ num 4 1 ∷ num 6 1 ∷ mark colon_class 7 ∷ mark
    fork_class 9 ∷ num 14 7 ∷ mark leaf_class 16 ∷ mark end_class 20 ∷ []) (Err (Unexpected (mark end_class 20 ∷ [])))
unfolding atom_ sum_ node_ document_
missing_answer = exact_at 9 (mark doc_class 0 ∷ num 4 1 ∷ num 6 1 ∷ mark colon_class 7 ∷ mark fork_class 9 ∷ num 14 7 ∷
    mark leaf_class 16 ∷ mark end_class 20 ∷ []) (Err (Unexpected (mark end_class 20 ∷ []))) refl

-- doc 1 1: the text ends too early
early_answer : IsReadAnswer grammar 9 document_ (mark doc_class 0 ∷ num 4 1 ∷ num 6 1 ∷ mark colon_class 7 ∷ [])
    (Err (Unexpected []))
unfolding atom_ sum_ node_ document_
early_answer = exact_at 9 (mark doc_class 0 ∷ num 4 1 ∷ num 6 1 ∷ mark colon_class 7 ∷ []) (Err (Unexpected [])) refl

-- The actions keep words, so the words of a tree stand in the order of its tokens.
chosen_kept : (p : ℕ) (x : Tree) → IsSublist (words (chosen p x)) (words x)
chosen_kept p (left x) = all_kept (words x)
chosen_kept p (right x) = all_kept (words x)
chosen_kept p x = none_kept (words x)

make_sum_kept : (p : ℕ) (x : Tree) → IsSublist (words (make_sum p x)) (words x)
make_sum_kept p (pair x nil) = kept_first (words x) []
make_sum_kept p x = all_kept (words x)

keeps_atom : KeepsWords atom_
unfolding atom_ sum_ node_ document_
keeps_atom = ((keeps_word word_class, tt), chosen_kept)

keeps_sum : KeepsWords sum_
unfolding atom_ sum_ node_ document_
keeps_sum = ((keeps_atom, (keeps_one_of (plus_class ∷ minus_class ∷ []), keeps_atom)), make_sum_kept)

keeps_document : KeepsWords document_
unfolding atom_ sum_ node_ document_
keeps_document = (
  keeps_fixed doc_class,
  (
    tt,
    (
      keeps_sum,
      (
        keeps_fixed colon_class,
        (((keeps_fixed fork_class, keeps_number number_class), keeps_fixed leaf_class), keeps_fixed end_class),
      ),
    ),
  ),
)

forked_words : IsSublist ((6, 97 ∷ []) ∷ (11, 98 ∷ []) ∷ []) (spelled forked)
forked_words = words_kept grammar (λ k. keeps_sum) forked_answer.0 keeps_document
