-- The laws of reading a form of a grammar.
use Rattle.std.specs.Prelude.{◌≡◌, ℕ, ◌⊎◌, List, ◌++◌, Ok, Err, Result, IsTrue, IsFalse}
use Rattle.grammar_theory.specs.Ebnf.{Terminal, Tree, Ebnf, Grammar, Derives}
use Rattle.grammar_theory.specs.LookAhead.{last, good, IsGrammar, IsForm}
use Rattle.grammar_theory.specs.Reader.{Fault, TooDeep, Read, begins, read, read_whole}
use Rattle.grammar_theory.specs.Answers.{IsReadAnswer}
use Rattle.grammar_theory.specs.Outcomes.{Lawful}
use Rattle.grammar_theory.specs.Words.{words, spelled, IsSublist, KeepsWords}

-- Tokens have at most one tree.
abbrev pub OneTree : Type 0
OneTree = (g : Grammar) (e : Ebnf) → IsGrammar g → IsForm g e
    → (x y : Tree) (ts : List Terminal) → Derives g e x ts → Derives g e y ts → x ≡ y

-- The reader's answer is exact.
abbrev pub ExactAnswer : Type 0
ExactAnswer = (g : Grammar) (e : Ebnf) → IsGrammar g → IsForm g e
    → (levels : ℕ) (ts : List Terminal) → IsReadAnswer g levels e ts (read_whole g levels e ts)

-- Tokens have at most one exact answer.
abbrev pub OneReadAnswer : Type 0
OneReadAnswer = (g : Grammar) (e : Ebnf) → IsGrammar g → IsForm g e
    → (levels : ℕ) (ts : List Terminal) (one other : Result Tree Fault) → IsReadAnswer g levels e ts one →
    IsReadAnswer g levels e ts other → one ≡ other

-- It was read so, unless too many brackets were open.
abbrev pub IsReadAs : Read Tree → Tree → List Terminal → Type 0
IsReadAs r x rest = (r ≡ Ok (x, rest)) ⊎ ((at : List Terminal) × (r ≡ Err (TooDeep at)))

-- Tokens of a form are read as their tree, whatever follows that does not go on with the form.
abbrev pub Complete : Type 0
Complete = (g : Grammar) (e : Ebnf) → IsGrammar g → IsTrue (good g e)
    → (x : Tree) (ts : List Terminal) → Derives g e x ts
    → (levels : ℕ) (rest : List Terminal) → IsFalse (begins (last e) rest) → IsReadAs (read g levels e (ts ++ rest)) x
    rest

-- The reader of each form takes tokens of the form or stops at the first bad one, whatever follows.
abbrev pub LawfulReader : Type 0
LawfulReader = (g : Grammar) (e : Ebnf) → IsGrammar g → IsTrue (good g e) → (levels : ℕ) → Lawful g e (read g levels e)

-- The words of a tree are words of its tokens, in their order.
abbrev pub WordsInOrder : Type 0
WordsInOrder = (g : Grammar) (e : Ebnf) → ((k : ℕ) → KeepsWords (g.body k)) → KeepsWords e
    → (x : Tree) (ts : List Terminal) → Derives g e x ts → IsSublist (words x) (spelled ts)
