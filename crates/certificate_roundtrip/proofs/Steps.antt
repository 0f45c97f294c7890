-- Derivations of the small forms of which the certificates section is made.
use Rattle.std.proofs.Common.{◌≡◌, ℕ, List, [], ◌∷◌, ◌++◌, refl}
use Rattle.case_tables.specs.declared.symbol_table.Symbol.{Symbol}
use Rattle.grammar_theory.specs.Ebnf.{Terminal, Tree, unit, numeral, pair, none, some, node, Ebnf, Grammar, place_of}
use Rattle.grammar_theory.specs.Ebnf.{both, Derives, is_token, is_both, is_left, is_right, is_none, is_some, is_named}
use Rattle.grammar_theory.specs.Ebnf.{fixed}
use Rattle.grammar_theory.proofs.Classes.{has_itself}
use Rattle.unity_syntax.specs.Classes.{number_class, symbol}
use Rattle.unity_syntax.specs.Kinds.{Kind, kind}
use Rattle.unity_syntax.specs.Grammar.{past, up_to, ◌or◌, made, minus_, number_}

-- a token of the class
abbrev pub of_class : ℕ → ℕ → ℕ → List ℕ → Terminal
of_class c p v w = record { class = c; place = p; value = v; text = w }

pub number_is : {g : Grammar} {p v : ℕ} {w : List ℕ} →
    Derives g number_ (numeral v) (of_class number_class p v w ∷ [])
number_is {p = p} {v = v} {w = w} =
    is_token {t = of_class number_class p v w} (has_itself number_class number_class refl)

pub number_then : {g : Grammar} {a : Ebnf} {y : Tree} {vs : List Terminal} {p v : ℕ} {w : List ℕ} → Derives g a y vs →
    Derives g (both number_ a) (pair (numeral v) y) (of_class number_class p v w ∷ vs)
number_then d = is_both number_is d refl

pub fixed_is : {g : Grammar} {c p v : ℕ} {w : List ℕ} → Derives g (fixed c) unit (of_class c p v w ∷ [])
fixed_is {c = c} {p = p} {v = v} {w = w} = is_token {t = of_class c p v w} (has_itself c c refl)

pub fixed_then : {g : Grammar} {c : ℕ} {a : Ebnf} {y : Tree} {vs : List Terminal} {p v : ℕ} {w : List ℕ} →
    Derives g a y vs → Derives g (past c a) y (of_class c p v w ∷ vs)
fixed_then d = is_named (is_both fixed_is d refl) refl

pub then_fixed : {g : Grammar} {c : ℕ} {a : Ebnf} {x : Tree} {us ts : List Terminal} (p v : ℕ) (w : List ℕ) →
    Derives g a x us → ts ≡ us ++ of_class c p v w ∷ [] → Derives g (up_to a c) x ts
then_fixed p v w d q = is_named (is_both d fixed_is q) refl

pub no_minus_then : {g : Grammar} {a : Ebnf} {y : Tree} {vs : List Terminal} → Derives g a y vs →
    Derives g (both minus_ a) (pair none y) vs
no_minus_then d = is_both is_none d refl

pub minus_then : {g : Grammar} {a : Ebnf} {y : Tree} {vs : List Terminal} {p v : ℕ} {w : List ℕ} → Derives g a y vs →
    Derives g (both minus_ a) (pair (some unit) y) (of_class (symbol Symbol.Minus) p v w ∷ vs)
minus_then d = is_both (is_some fixed_is) d refl

pub chose_left : {g : Grammar} {a b : Ebnf} {x : Tree} {ts : List Terminal} → Derives g a x ts → Derives g (a or b) x ts
chose_left d = is_named (is_left d) refl

pub chose_right : {g : Grammar} {a b : Ebnf} {x : Tree} {ts : List Terminal} → Derives g b x ts →
    Derives g (a or b) x ts
chose_right d = is_named (is_right d) refl

pub made_of : {g : Grammar} (k : Kind) {place : ℕ} {a : Ebnf} {x : Tree} {ts : List Terminal} → Derives g a x ts →
    place ≡ place_of ts → Derives g (made k a) (node (kind k) place x) ts
made_of k d q = is_named d q
