-- How the tokens of a form begin.
use Rattle.std.proofs.Common.{◌≡◌, ℕ, suc, Bool, true, false, cond, ◌&&◌, ◌||◌, eqb, List, [], ◌∷◌, ◌++◌, refl, arith}
use Rattle.std.proofs.Common.{◌+◌, ◌≤◌, ◌<◌}
use Rattle.grammar_theory.specs.Ebnf.{Terminal, place_of, Tree, Ebnf, Derives, Grammar, has, is_token, is_valued}
use Rattle.grammar_theory.specs.Ebnf.{is_version}
use Rattle.grammar_theory.specs.Ebnf.{is_both, is_left, is_right, is_none, is_some, is_nil, is_more, is_no_number}
use Rattle.grammar_theory.specs.Ebnf.{is_next_number}
use Rattle.grammar_theory.specs.Ebnf.{is_no_tree, is_next_node, is_named, is_inside}
use Rattle.grammar_theory.specs.LookAhead.{empties, first}
use Rattle.grammar_theory.specs.Reader.{count}
use Rattle.grammar_theory.proofs.Classes.{or_left, or_right, has_left, has_right, has_itself}

-- Tokens begin with one of the classes, or there are none, which may be.
abbrev pub Starts : Bool → List ℕ → List Terminal → Type 0
Starts may_be_empty classes [] = may_be_empty ≡ true
Starts may_be_empty classes (t ∷ ts) = has classes t.class ≡ true

starts_both : (ea eb : Bool) (fa fb : List ℕ) (us vs : List Terminal) → Starts ea fa us → Starts eb fb vs → Starts
    (ea && eb) (cond ea (fa ++ fb) fa) (us ++ vs)
starts_both true eb fa fb [] [] h k = k
starts_both true eb fa fb [] (v ∷ vs) h k = has_right fa fb v.class k
starts_both false eb fa fb [] vs h k = cc
starts_both true eb fa fb (u ∷ us) vs h k = has_left fa fb u.class h
starts_both false eb fa fb (u ∷ us) vs h k = h

starts_left : (ea eb : Bool) (fa fb : List ℕ) (ts : List Terminal) → Starts ea fa ts → Starts (ea || eb) (fa ++ fb) ts
starts_left ea eb fa fb [] h = or_left ea eb h
starts_left ea eb fa fb (t ∷ ts) h = has_left fa fb t.class h

starts_right : (ea eb : Bool) (fa fb : List ℕ) (ts : List Terminal) → Starts eb fb ts → Starts (ea || eb) (fa ++ fb) ts
starts_right ea eb fa fb [] h = or_right ea eb h
starts_right ea eb fa fb (t ∷ ts) h = has_right fa fb t.class h

starts_maybe : (e : Bool) (f : List ℕ) (ts : List Terminal) → Starts e f ts → Starts true f ts
starts_maybe e f [] h = refl
starts_maybe e f (t ∷ ts) h = h

starts_more : (e : Bool) (f : List ℕ) (us vs : List Terminal) → Starts e f us → Starts true f vs → Starts true f
    (us ++ vs)
starts_more e f [] vs h k = k
starts_more e f (u ∷ us) vs h k = h

starts_node : (e v w : Bool) (f : List ℕ) (us vs : List Terminal) → Starts e f us → Starts (v || e) f vs → Starts
    (w || e) f (us ++ vs)
starts_node e v w f [] [] h k = or_right w e h
starts_node e v w f [] (t ∷ vs) h k = k
starts_node e v w f (u ∷ us) vs h k = h

pub starts : {G : Grammar} {e : Ebnf} {x : Tree} {ts : List Terminal} → Derives G e x ts → Starts (empties e) (first e)
    ts
starts (is_token h) = h
starts (is_valued {c = c} {t = t} h q) = has_itself c t.class h
starts (is_version {c = c} {t = t} h q) = has_itself c t.class h
starts (is_both {a = a} {b = b} {us = us} {vs = vs} d1 d2 s) = rw s
    (starts_both (empties a) (empties b) (first a) (first b) us vs (starts d1) (starts d2))
starts (is_left {a = a} {b = b} {ts = ts} d) = starts_left (empties a) (empties b) (first a) (first b) ts (starts d)
starts (is_right {a = a} {b = b} {ts = ts} d) = starts_right (empties a) (empties b) (first a) (first b) ts (starts d)
starts is_none = refl
starts (is_some {a = a} {ts = ts} d) = starts_maybe (empties a) (first a) ts (starts d)
starts is_nil = refl
starts (is_more {a = a} {us = us} {vs = vs} d1 d2 s) = rw s (starts_more (empties a) (first a) us vs (starts d1)
    (starts d2))
starts is_no_number = refl
starts (is_next_number {k = k} {c = c} {a = a} {us = us} {vs = vs} d1 d2 s) = rw s
    (starts_more false (c ∷ []) us vs (starts d1) (starts d2))
starts is_no_tree = refl
starts (is_next_node {n = n} {arity = arity} {a = a} {x = x} {us = us} {vs = vs} d1 d2 s) = rw s
    (starts_node (empties a) (eqb (n + arity x) 0) (eqb (suc n) 0) (first a) us vs (starts d1) (starts d2))
starts (is_named d p) = starts d
starts (is_inside {opening = o} s t hs d ht e) = rw e (has_itself o s.class hs)

-- what is never empty takes something
pub shorter : (f : List ℕ) (us vs : List Terminal) → Starts false f us → count vs < count (us ++ vs)
shorter f [] vs h = cc
shorter f (u ∷ []) vs h = omega arith
shorter f (u ∷ v ∷ us) vs h = omega (arith, further us)
  where
    further : (us : List Terminal) → count vs ≤ count (us ++ vs)
    further [] = omega arith
    further (u ∷ us) = omega (arith, further us)

-- what is never empty begins where the whole list does
pub place_front : (f : List ℕ) (us rest : List Terminal) → Starts false f us → place_of (us ++ rest) ≡ place_of us
place_front f [] rest h = cc
place_front f (u ∷ us) rest h = refl
