-- Reading the parts of a tree back: tokens, options and repetitions, and the nodes of a type that holds itself.
use Rattle.std.proofs.Common.{◌≡◌, ℕ, zero, suc, ◌-◌, Bool, true, false, ◌==◌, if◌then◌else◌, List, [], ◌∷◌, Option}
use Rattle.std.proofs.Common.{None, Some, refl, ap, ◌∙◌}
use Rattle.case_tables.specs.declared.word_table.Word.{Word}
use Rattle.case_tables.specs.declared.word_table.Word.TheVariants.{Unity}
use Rattle.case_tables.specs.declared.symbol_table.Symbol.{Symbol}
use Rattle.case_tables.specs.declared.symbol_table.Symbol.TheVariants.{Assign}
use Rattle.case_tables.specs.TableRows.{word_rows, symbol_rows}
use Rattle.grammar_theory.specs.Ebnf.{Tree, unit, leaf, numeral, choice, pair, some, more, node}
use Rattle.unity_syntax.specs.Classes.{reserved, symbol, operator}
use Rattle.unity_syntax.specs.Kinds.{Kind, kind}
use Rattle.unity_syntax.specs.View.{view_flag, view_option, view_list, view_some, view_signed}
use Rattle.unity_syntax.specs.declared.expression.Operator.{Operator}
use Rattle.unity_syntax.specs.declared.name.Name.{Name}

pub both_same : {A B C : Type 0} (f : A → B → C) {a a' : A} {b b' : B} → a ≡ a' → b ≡ b' → f a b ≡ f a' b'
both_same f {a = a} {b' = b'} p q = ap (λ y. f a y) q ∙ ap (λ x. f x b') p

pub three_same : {A B C D : Type 0} (f : A → B → C → D) {a a' : A} {b b' : B} {c c' : C} → a ≡ a' → b ≡ b' → c ≡ c' →
    f a b c ≡ f a' b' c'
three_same f {a' = a'} {b = b} {c = c} p q r = ap (λ x. f x b c) p ∙ both_same (f a') q r

-- Words, symbols and operators.

abbrev row_at : {X : Type 0} → X → List (List ℕ × X) → ℕ → X
row_at other [] n = other
row_at other (row ∷ rows) zero = row.1
row_at other (row ∷ rows) (suc n) = row_at other rows n

abbrev pub word_of_class : ℕ → Word
word_of_class c = row_at Unity word_rows (c - 2)

abbrev pub symbol_of_class : ℕ → Symbol
symbol_of_class c = row_at Assign symbol_rows (c - 62)

pub word_back : (w : Word) → word_of_class (reserved w) ≡ w
word_back Unity = refl
word_back w = refl

pub symbol_back : (s : Symbol) → symbol_of_class (symbol s) ≡ s
symbol_back Assign = refl
symbol_back s = refl

abbrev pub operator_of_class : ℕ → Operator
operator_of_class c = if c == operator Operator.Div then Operator.Div
    else (if c == operator Operator.Mod then Operator.Mod else Operator.Times)

pub operator_back : (o : Operator) → operator_of_class (operator o) ≡ o
operator_back Operator.Times = refl
operator_back Operator.Div = refl
operator_back Operator.Mod = refl

-- The parts of a tree.

abbrev pub place_in : Tree → ℕ
place_in (node k p x) = p
place_in _ = 0

abbrev pub kind_in : Tree → ℕ
kind_in (node k p x) = k
kind_in _ = 0

abbrev pub parts_in : Tree → Tree
parts_in (node k p x) = x
parts_in _ = unit

abbrev pub first_in : Tree → Tree
first_in (pair x y) = x
first_in _ = unit

abbrev pub second_in : Tree → Tree
second_in (pair x y) = y
second_in _ = unit

abbrev pub class_in : Tree → ℕ
class_in (choice c) = c
class_in _ = 0

abbrev pub name_of : Tree → Name
name_of (leaf p text) = record { at = p; text = text }
name_of _ = record { at = 0; text = [] }

abbrev pub number_of : Tree → ℕ
number_of (numeral n) = n
number_of _ = 0

abbrev pub flag_of : Tree → Bool
flag_of (some x) = true
flag_of _ = false

abbrev pub option_of : {A : Type 0} → (Tree → A) → Tree → Option A
option_of part_of (some x) = Some (part_of x)
option_of part_of _ = None

abbrev pub list_of : {A : Type 0} → (Tree → A) → Tree → List A
list_of part_of (more x xs) = part_of x ∷ list_of part_of xs
list_of part_of _ = []

abbrev pub some_of : {A : Type 0} → (Tree → A) → Tree → A × List A
some_of part_of t = (part_of (first_in t), list_of part_of (second_in t))

abbrev pub signed_of : {A : Type 0} → (Tree → A) → Tree → Symbol × A
signed_of part_of t = (symbol_of_class (class_in (first_in t)), part_of (second_in t))

-- a tree is read back
abbrev pub IsBack : {A : Type 0} → (A → Tree) → (Tree → A) → Type 0
IsBack {A} view_part part_of = (x : A) → part_of (view_part x) ≡ x

pub flag_back : IsBack view_flag flag_of
flag_back true = refl
flag_back false = refl

pub option_back : {A : Type 0} (view_part : A → Tree) (part_of : Tree → A) → IsBack view_part part_of →
    IsBack (view_option view_part) (option_of part_of)
option_back view_part part_of back None = refl
option_back view_part part_of back (Some x) = ap Some (back x)

pub list_back : {A : Type 0} (view_part : A → Tree) (part_of : Tree → A) → IsBack view_part part_of →
    IsBack (view_list view_part) (list_of part_of)
list_back view_part part_of back [] = refl
list_back view_part part_of back (x ∷ xs) = both_same (λ y ys. y ∷ ys) (back x) (list_back view_part part_of back xs)

pub some_back : {A : Type 0} (view_part : A → Tree) (part_of : Tree → A) → IsBack view_part part_of →
    IsBack (view_some view_part) (some_of part_of)
some_back view_part part_of back x = both_same (λ y ys. (y, ys)) (back x.0) (list_back view_part part_of back x.1)

pub signed_back : {A : Type 0} (view_part : A → Tree) (part_of : Tree → A) → IsBack view_part part_of →
    IsBack (view_signed view_part) (signed_of part_of)
signed_back view_part part_of back x = both_same (λ s y. (s, y)) (symbol_back x.0) (back x.1)

-- what stands under the kind
abbrev pub by_kind : {A : Type 0} → List (Kind × A) → A → ℕ → A
by_kind [] other k = other
by_kind (row ∷ rows) other k = if k == kind row.0 then row.1 else by_kind rows other k

-- A tree whose nodes have been read.
pub data Known (A : Type 0) : Type 0 where
  known_node : A → Known A
  known_pair : Known A → Known A → Known A
  known_some : Known A → Known A
  known_more : Known A → Known A → Known A
  known_token : Tree → Known A

-- Reads the nodes of a tree: `step` reads one, by its kind, its place, and its parts as they were and as they have been
-- read.
abbrev pub known : {A : Type 0} → (ℕ → ℕ → Tree → Known A → A) → Tree → Known A
known step (node k p x) = known_node (step k p x (known step x))
known step (pair x y) = known_pair (known step x) (known step y)
known step (some x) = known_some (known step x)
known step (more x xs) = known_more (known step x) (known step xs)
known step t = known_token t

abbrev pub known_value : {A : Type 0} → A → Known A → A
known_value other (known_node x) = x
known_value other _ = other

abbrev pub known_first : {A : Type 0} → A → Known A → A
known_first other (known_pair x y) = known_value other x
known_first other _ = other

abbrev pub known_second : {A : Type 0} → Known A → Known A
known_second (known_pair x y) = y
known_second k = k

abbrev pub known_option : {A : Type 0} → A → Known A → Option A
known_option other (known_some x) = Some (known_value other x)
known_option other _ = None

abbrev pub known_list : {A : Type 0} → A → Known A → List A
known_list other (known_more x xs) = known_value other x ∷ known_list other xs
known_list other _ = []

abbrev known_class : {A : Type 0} → Known A → ℕ
known_class (known_pair (known_token t) y) = class_in t
known_class _ = 0

abbrev pub known_signed : {A S : Type 0} → (ℕ → S) → A → Known A → List (S × A)
known_signed sign_of other (known_more x xs) =
    (sign_of (known_class x), known_value other (known_second x)) ∷ known_signed sign_of other xs
known_signed sign_of other _ = []
