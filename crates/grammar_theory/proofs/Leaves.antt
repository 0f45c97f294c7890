-- The numbers and the choices of a tree are those of its tokens: what is so of each token's is so of the tree's.
use Rattle.std.proofs.Common.{◌≡◌, ℕ, List, [], ◌∷◌, ◌++◌, subst}
use Rattle.grammar_theory.specs.Ebnf.{Terminal, Tree, unit, leaf, numeral, choice, pair, left, right, none, some, nil}
use Rattle.grammar_theory.specs.Ebnf.{more, node}
use Rattle.grammar_theory.specs.Ebnf.{Ebnf, token, valued, version, both, either, maybe, many, numbered, prefix_trees}
use Rattle.grammar_theory.specs.Ebnf.{named}
use Rattle.grammar_theory.specs.Ebnf.{inside, to_items, repeated, Grammar, Derives, is_token, is_valued, is_version}
use Rattle.grammar_theory.specs.Ebnf.{is_both}
use Rattle.grammar_theory.specs.Ebnf.{is_left, is_right, is_none, is_some, is_nil, is_more, is_no_number}
use Rattle.grammar_theory.specs.Ebnf.{is_next_number}
use Rattle.grammar_theory.specs.Ebnf.{is_no_tree, is_next_node, is_named, is_inside}

-- this is so of each number in the tree, and that of each choice
abbrev pub LeavesAre : (ℕ → Type 0) → (ℕ → Type 0) → Tree → Type 0
LeavesAre N C unit = Unit {0}
LeavesAre N C (leaf place text) = Unit {0}
LeavesAre N C (numeral n) = N n
LeavesAre N C (choice c) = C c
LeavesAre N C (pair x y) = LeavesAre N C x × LeavesAre N C y
LeavesAre N C (left x) = LeavesAre N C x
LeavesAre N C (right x) = LeavesAre N C x
LeavesAre N C none = Unit {0}
LeavesAre N C (some x) = LeavesAre N C x
LeavesAre N C nil = Unit {0}
LeavesAre N C (more x xs) = LeavesAre N C x × LeavesAre N C xs
LeavesAre N C (node k place x) = LeavesAre N C x

-- this is so of each token
abbrev pub TokensAre : (Terminal → Type 0) → List Terminal → Type 0
TokensAre T [] = Unit {0}
TokensAre T (t ∷ ts) = T t × TokensAre T ts

-- what the form's tokens and actions keep is so, where the tokens are
abbrev pub KeepsLeaves : (Terminal → Type 0) → (ℕ → Type 0) → (ℕ → Type 0) → Ebnf → Type 0
KeepsLeaves T N C (token classes keep) = (t : Terminal) → T t → LeavesAre N C (keep t)
KeepsLeaves T N C (valued c v) = Unit {0}
KeepsLeaves T N C (version c v) = Unit {0}
KeepsLeaves T N C (both a b) = KeepsLeaves T N C a × KeepsLeaves T N C b
KeepsLeaves T N C (either a b) = KeepsLeaves T N C a × KeepsLeaves T N C b
KeepsLeaves T N C (maybe a) = KeepsLeaves T N C a
KeepsLeaves T N C (many a) = KeepsLeaves T N C a
KeepsLeaves T N C (numbered k c a) = KeepsLeaves T N C a
KeepsLeaves T N C (prefix_trees n arity a) = KeepsLeaves T N C a
KeepsLeaves T N C (named action a) = KeepsLeaves T N C a ×
    ((place : ℕ) (x : Tree) → LeavesAre N C x → LeavesAre N C (action place x))
KeepsLeaves T N C (inside o k c) = Unit {0}

module _ (T : Terminal → Type 0) (N C : ℕ → Type 0) where
  split : (us vs : List Terminal) → TokensAre T (us ++ vs) → TokensAre T us × TokensAre T vs
  split [] vs h = (tt, h)
  split (u ∷ us) vs h = let more = split us vs h.1 in ((h.0, more.0), more.1)

  parts : (us vs ts : List Terminal) → ts ≡ us ++ vs → TokensAre T ts → TokensAre T us × TokensAre T vs
  parts us vs ts e h = split us vs (subst (λ xs. TokensAre T xs) e h)

  within : (s t : Terminal) (us ts : List Terminal) → ts ≡ s ∷ (us ++ t ∷ []) → TokensAre T ts → TokensAre T us
  within s t us ts e h = (split us (t ∷ []) (subst (λ xs. TokensAre T xs) e h).1).0

  items_are : (p : ℕ) (x : Tree) → LeavesAre N C x → LeavesAre N C (to_items p x)
  items_are p (pair x xs) h = h
  items_are p x h = tt

  pub repeated_keeps : (a : Ebnf) → KeepsLeaves T N C a → KeepsLeaves T N C (repeated a)
  repeated_keeps a k = ((k, k), items_are)

  module _
      (counted : (t : Terminal) → T t → N t.value)
      (G : Grammar)
      (bodies : (k : ℕ) → KeepsLeaves T N C (G.body k))
    where
      pub leaves_are : {e : Ebnf} {x : Tree} {ts : List Terminal} → Derives G e x ts → KeepsLeaves T N C e →
          TokensAre T ts → LeavesAre N C x
      leaves_are (is_token {t = t} h) k s = k t s.0
      leaves_are (is_valued h q) k s = tt
      leaves_are (is_version {t = t} h q) k s = counted t s.0
      leaves_are (is_both {us = us} {vs = vs} {ts = ts} d1 d2 q) k s =
          let p = parts us vs ts q s in (leaves_are d1 k.0 p.0, leaves_are d2 k.1 p.1)
      leaves_are (is_left d) k s = leaves_are d k.0 s
      leaves_are (is_right d) k s = leaves_are d k.1 s
      leaves_are is_none k s = tt
      leaves_are (is_some d) k s = leaves_are d k s
      leaves_are is_nil k s = tt
      leaves_are (is_more {us = us} {vs = vs} {ts = ts} d1 d2 q) k s =
          let p = parts us vs ts q s in (leaves_are d1 k p.0, leaves_are d2 k p.1)
      leaves_are is_no_number k s = tt
      leaves_are (is_next_number {us = us} {vs = vs} {ts = ts} d1 d2 q) k s =
          let p = parts us vs ts q s in (leaves_are d1 ((tt, k), λ place x h. h) p.0, leaves_are d2 k p.1)
      leaves_are is_no_tree k s = tt
      leaves_are (is_next_node {us = us} {vs = vs} {ts = ts} d1 d2 q) k s =
          let p = parts us vs ts q s in (leaves_are d1 k p.0, leaves_are d2 k p.1)
      leaves_are (is_named {place = p} {x = x} d q) k s = k.1 p x (leaves_are d k.0 s)
      leaves_are (is_inside {k = n} s t {us = us} {ts = ts} hs d ht q) k h =
          leaves_are d (bodies n) (within s t us ts q h)
