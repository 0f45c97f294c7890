-- Grammars as data, and what they derive.
--
-- A production is a form, written as on paper: of `sum = atom { ( "+" | "-" ) atom }` the right side is `both atom
-- (many (both (one_of (plus ∷ minus ∷ [])) atom))`, where `plus` and `minus` are classes of tokens, and an action
-- around it (`named`) makes the tree that is wanted. A production that another one names stands in it as it is, and
-- only what stands in brackets is named by a number (`inside`), so that forms are finite and a grammar may still be
-- recursive.
use Rattle.std.specs.Prelude.{◌≡◌, ℕ, zero, suc, ◌+◌, Bool, true, false, ◌||◌, ◌==◌, IsTrue, List, [], ◌∷◌, ◌++◌}

-- A token, as a grammar sees it: its class, the byte at which it begins, the value of a number, and the text of a word.
pub record Terminal : Type 0 where
  pub class : ℕ
  pub place : ℕ
  pub value : ℕ
  pub text : List ℕ

-- where a list of tokens begins
abbrev pub place_of : List Terminal → ℕ
place_of [] = 0
place_of (t ∷ ts) = t.place

-- What a form is read as.
pub data Tree : Type 0 where
  -- a token that says no more than that it stands there
  unit : Tree
  -- a word: its place and its text
  leaf : (place : ℕ) → (text : List ℕ) → Tree
  -- a number
  numeral : (value : ℕ) → Tree
  -- the class of a token of one of several classes
  choice : (class : ℕ) → Tree
  -- one after the other
  pair : Tree → Tree → Tree
  -- one or the other
  left : Tree → Tree
  right : Tree → Tree
  -- nothing or something
  none : Tree
  some : Tree → Tree
  -- the items of a repetition
  nil : Tree
  more : Tree → Tree → Tree
  -- a kind or a number, a place, and the parts
  node : (kind place : ℕ) → Tree → Tree

-- A form of a grammar, as in Extended Backus-Naur Form.
pub data Ebnf : Type 0 where
  -- a token of one of the classes, and what is kept of it
  token : (classes : List ℕ) → (keep : Terminal → Tree) → Ebnf
  -- a token of the class with the value
  valued : (class value : ℕ) → Ebnf
  -- a token of the class with one of the values: another value says that the text is of another version of the
  -- language
  version : (class : ℕ) → (values : List ℕ) → Ebnf
  -- one after the other
  both : Ebnf → Ebnf → Ebnf
  -- one or the other
  either : Ebnf → Ebnf → Ebnf
  -- in square brackets: at most once
  maybe : Ebnf → Ebnf
  -- in braces: any number of times
  many : Ebnf → Ebnf
  -- in braces, where each item stands after its number, a token of the class: the numbers count up from the first
  numbered : (first class : ℕ) → Ebnf → Ebnf
  -- the nodes of so many trees, each node before its subtrees, and `arity` says how many subtrees a node has
  prefix_trees : (how_many : ℕ) → (arity : Tree → ℕ) → Ebnf → Ebnf
  -- what the action makes of the place where the form begins and of what the form is read as
  named : (action : ℕ → Tree → Tree) → Ebnf → Ebnf
  -- a token of the opening class, what the grammar has in brackets of this number, and a token of the closing class
  inside : (opening body closing : ℕ) → Ebnf

-- A token of the class that is dropped, as a reserved word.
abbrev pub fixed : ℕ → Ebnf
fixed class = token (class ∷ []) (λ t. unit)

-- A token of the class that is kept with its place and text.
abbrev pub word : ℕ → Ebnf
word class = token (class ∷ []) (λ t. leaf t.place t.text)

-- A token of the class that is kept with its value.
abbrev pub number : ℕ → Ebnf
number class = token (class ∷ []) (λ t. numeral t.value)

-- A token of one of the classes that is kept with its class.
abbrev pub one_of : List ℕ → Ebnf
one_of classes = token classes (λ t. choice t.class)

-- the items of a repetition, where there is one at least
abbrev pub to_items : ℕ → Tree → Tree
to_items place (pair x xs) = more x xs
to_items place _ = nil

-- Once or more often.
abbrev pub repeated : Ebnf → Ebnf
repeated a = named to_items (both a (many a))

-- An item after its number: a node of that number.
abbrev pub numbered_item : ℕ → ℕ → Ebnf → Ebnf
numbered_item k class a = named (node k) (both (valued class k) a)

-- The nodes of one tree, each before its subtrees.
abbrev pub prefix_tree : (Tree → ℕ) → Ebnf → Ebnf
prefix_tree arity a = prefix_trees 1 arity a

-- A grammar.
pub record Grammar : Type 0 where
  -- what stands in the brackets of each number
  pub body : ℕ → Ebnf
  -- the classes that open brackets, and those that close them
  pub opening : List ℕ
  pub closing : List ℕ
  -- whether a `version` may have any value
  pub any_version : Bool

-- The grammar, where a `version` may have any value.
abbrev pub of_any_version : Grammar → Grammar
of_any_version g = record { body = g.body; opening = g.opening; closing = g.closing; any_version = true }

-- whether a class is one of these
abbrev pub has : List ℕ → ℕ → Bool
has [] n = false
has (m ∷ ms) n = (m == n) || has ms n

-- The form is these tokens, and is read as the tree: one case for each way to make a form.
pub data Derives (g : Grammar) : Ebnf → Tree → List Terminal → Type 0 where
  is_token : {classes : List ℕ} {keep : Terminal → Tree} {t : Terminal}
      → IsTrue (has classes t.class) → Derives g (token classes keep) (keep t) (t ∷ [])
  is_valued : {c v : ℕ} {t : Terminal}
      → t.class ≡ c → t.value ≡ v → Derives g (valued c v) unit (t ∷ [])
  is_version : {c : ℕ} {vs : List ℕ} {t : Terminal}
      → t.class ≡ c → IsTrue (g.any_version || has vs t.value) → Derives g (version c vs) (numeral t.value) (t ∷ [])
  is_both : {a b : Ebnf} {x y : Tree} {us vs ts : List Terminal}
      → Derives g a x us → Derives g b y vs → ts ≡ us ++ vs → Derives g (both a b) (pair x y) ts
  is_left : {a b : Ebnf} {x : Tree} {ts : List Terminal}
      → Derives g a x ts → Derives g (either a b) (left x) ts
  is_right : {a b : Ebnf} {x : Tree} {ts : List Terminal}
      → Derives g b x ts → Derives g (either a b) (right x) ts
  is_none : {a : Ebnf}
      → Derives g (maybe a) none []
  is_some : {a : Ebnf} {x : Tree} {ts : List Terminal}
      → Derives g a x ts → Derives g (maybe a) (some x) ts
  is_nil : {a : Ebnf}
      → Derives g (many a) nil []
  is_more : {a : Ebnf} {x xs : Tree} {us vs ts : List Terminal}
      → Derives g a x us → Derives g (many a) xs vs → ts ≡ us ++ vs → Derives g (many a) (more x xs) ts
  is_no_number : {k c : ℕ} {a : Ebnf}
      → Derives g (numbered k c a) nil []
  is_next_number : {k c : ℕ} {a : Ebnf} {x xs : Tree} {us vs ts : List Terminal}
      → Derives g (numbered_item k c a) x us → Derives g (numbered (suc k) c a) xs vs → ts ≡ us ++ vs →
      Derives g (numbered k c a) (more x xs) ts
  is_no_tree : {arity : Tree → ℕ} {a : Ebnf}
      → Derives g (prefix_trees zero arity a) nil []
  is_next_node : {n : ℕ} {arity : Tree → ℕ} {a : Ebnf} {x xs : Tree} {us vs ts : List Terminal}
      → Derives g a x us → Derives g (prefix_trees (n + arity x) arity a) xs vs → ts ≡ us ++ vs →
      Derives g (prefix_trees (suc n) arity a) (more x xs) ts
  is_named : {action : ℕ → Tree → Tree} {place : ℕ} {a : Ebnf} {x : Tree} {ts : List Terminal}
      → Derives g a x ts → place ≡ place_of ts → Derives g (named action a) (action place x) ts
  is_inside : {opening k closing : ℕ} (s t : Terminal) {x : Tree} {us ts : List Terminal}
      → s.class ≡ opening → Derives g (g.body k) x us → t.class ≡ closing → ts ≡ s ∷ (us ++ t ∷ []) →
      Derives g (inside opening k closing) x ts
