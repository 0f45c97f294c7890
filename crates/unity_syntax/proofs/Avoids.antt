-- Forms that avoid some classes have no tokens of these.
use Rattle.std.proofs.Common.{◌≡◌, ℕ, Bool, true, false, not, ◌&&◌, List, [], ◌∷◌, ◌++◌, refl, ap, ◌∙◌}
use Rattle.std.specs.List.{list_all}
use Rattle.std.proofs.lemmas.Bool.{and_parts}
use Rattle.std.proofs.lemmas.List.Folds.{list_all-append}
use Rattle.grammar_theory.specs.Ebnf.{Terminal, Tree, Ebnf, token, valued, version, both, either, maybe, many, numbered}
use Rattle.grammar_theory.specs.Ebnf.{named, prefix_trees, inside, Grammar, has, Derives, is_token, is_valued}
use Rattle.grammar_theory.specs.Ebnf.{is_version, is_both, is_left, is_right, is_none, is_some, is_nil, is_more}
use Rattle.grammar_theory.specs.Ebnf.{is_no_number, is_next_number, is_no_tree, is_next_node, is_named, is_inside}
use Rattle.grammar_theory.specs.LookAhead.{apart}
use Rattle.grammar_theory.proofs.Classes.{apart_has, not_true}

-- no token of the form is of these classes, where `within` says whether brackets may stand in it
abbrev pub avoids : Bool → List ℕ → Ebnf → Bool
avoids within os (token cs keep) = apart cs os
avoids within os (valued c v) = not (has os c)
avoids within os (version c v) = not (has os c)
avoids within os (both a b) = avoids within os a && avoids within os b
avoids within os (either a b) = avoids within os a && avoids within os b
avoids within os (maybe a) = avoids within os a
avoids within os (many a) = avoids within os a
avoids within os (numbered k c a) = not (has os c) && avoids within os a
avoids within os (prefix_trees n arity a) = avoids within os a
avoids within os (named action a) = avoids within os a
avoids within os (inside o k c) = within && (not (has os o) && not (has os c))

abbrev pub AreNot : List ℕ → List Terminal → Type 0
AreNot os ts = list_all (λ (t : Terminal). not (has os t.class)) ts ≡ true

join : (os : List ℕ) (us vs ts : List Terminal) → AreNot os us → AreNot os vs → ts ≡ us ++ vs → AreNot os ts
join os us vs ts h k e =
    ap (list_all (λ (t : Terminal). not (has os t.class))) e
    ∙ list_all-append (λ (t : Terminal). not (has os t.class)) us vs
    ∙ ap (λ b. b && list_all (λ (t : Terminal). not (has os t.class)) vs) h ∙ k

of_one : (os : List ℕ) (t : Terminal) → has os t.class ≡ false → AreNot os (t ∷ [])
of_one os t h = ap (λ b. not b && true) h

of_class : (os : List ℕ) (t : Terminal) (c : ℕ) → t.class ≡ c → not (has os c) ≡ true → AreNot os (t ∷ [])
of_class os t c e h = of_one os t (ap (has os) e ∙ not_true (has os c) h)

module _ {G : Grammar} (within : Bool) (os : List ℕ)
    (bodies : (k : ℕ) → within ≡ true → avoids within os (G.body k) ≡ true) where
  pub are_not : {e : Ebnf} {x : Tree} {ts : List Terminal} → Derives G e x ts → avoids within os e ≡ true → AreNot os ts
  are_not (is_token {classes = cs} {t = t} h) k = of_one os t (apart_has cs os t.class k h)
  are_not (is_valued {c = c} {t = t} h q) k = of_class os t c h k
  are_not (is_version {c = c} {t = t} h q) k = of_class os t c h k
  are_not (is_both {a = a} {b = b} {us = us} {vs = vs} {ts = ts} d1 d2 q) k =
      let p = and_parts (avoids within os a) (avoids within os b) k in
      join os us vs ts (are_not d1 p.0) (are_not d2 p.1) q
  are_not (is_left {a = a} {b = b} d) k = are_not d (and_parts (avoids within os a) (avoids within os b) k).0
  are_not (is_right {a = a} {b = b} d) k = are_not d (and_parts (avoids within os a) (avoids within os b) k).1
  are_not is_none k = refl
  are_not (is_some d) k = are_not d k
  are_not is_nil k = refl
  are_not (is_more {us = us} {vs = vs} {ts = ts} d1 d2 q) k =
      join os us vs ts (are_not d1 k) (are_not d2 k) q
  are_not is_no_number k = refl
  are_not (is_next_number {us = us} {vs = vs} {ts = ts} d1 d2 q) k =
      join os us vs ts (are_not d1 k) (are_not d2 k) q
  are_not is_no_tree k = refl
  are_not (is_next_node {us = us} {vs = vs} {ts = ts} d1 d2 q) k =
      join os us vs ts (are_not d1 k) (are_not d2 k) q
  are_not (is_named d q) k = are_not d k
  are_not (is_inside {opening = o} {k = n} {closing = c} s t {us = us} {ts = ts} hs d ht q) k =
      let p = and_parts within (not (has os o) && not (has os c)) k in
      let r = and_parts (not (has os o)) (not (has os c)) p.1 in
      join os (s ∷ []) (us ++ t ∷ []) ts (of_class os s o hs r.0)
      (join os us (t ∷ []) (us ++ t ∷ []) (are_not d (bodies n p.0)) (of_class os t c ht r.1) refl) q
