-- What a form derives is read, unless too many brackets are open.
use Rattle.std.proofs.Common.{◌≡◌, ℕ, zero, suc, Bool, true, false, cond, not, ◌&&◌, ◌||◌, eqb, List, [], ◌∷◌, ◌++◌}
use Rattle.std.proofs.Common.{refl, sym, ◌∙◌, ap, subst, append_assoc, eq-eqb, ◌+◌, inl, inr, Ok}
use Rattle.grammar_theory.specs.Ebnf.{Terminal, Tree, unit, numeral, pair, left, right, none, some, more, Ebnf, both}
use Rattle.grammar_theory.specs.Ebnf.{many}
use Rattle.grammar_theory.specs.Ebnf.{numbered, prefix_trees, inside, numbered_item, Derives, Grammar, has, is_token}
use Rattle.grammar_theory.specs.Ebnf.{is_valued}
use Rattle.grammar_theory.specs.Ebnf.{is_version, is_both, is_left, is_right, is_none, is_some, is_nil, is_more}
use Rattle.grammar_theory.specs.Ebnf.{is_no_number}
use Rattle.grammar_theory.specs.Ebnf.{is_next_number, is_no_tree, is_next_node, is_named, is_inside}
use Rattle.grammar_theory.specs.LookAhead.{apart, empties, first, last, good, IsGrammar}
use Rattle.grammar_theory.specs.Reader.{Read, ◌>>=◌, begins, one_if, take_if, version_if, check_version, as_tree, skip}
use Rattle.grammar_theory.specs.Reader.{after}
use Rattle.grammar_theory.specs.Reader.{after_number, and_then_by, some_missing, missing, closed, opened, below, read}
use Rattle.grammar_theory.specs.Outcomes.{HasSome, Lawful}
use Rattle.grammar_theory.specs.Laws.{IsReadAs}
use Rattle.grammar_theory.proofs.Classes.{and_left, and_right, not_true, apart_begins, none_left, none_right}
use Rattle.grammar_theory.proofs.Classes.{has_itself}
use Rattle.grammar_theory.proofs.Starts.{Starts, starts, place_front}
use Rattle.grammar_theory.proofs.SomeTokens.{some_of, plain_some, trees_there}
use Rattle.grammar_theory.proofs.Repeat.{IsRepetition, repeat_more, repeat_stop}
use Rattle.grammar_theory.proofs.Lawful.{good_both, good_either, good_many, good_trees, many_repeats, numbered_repeats}
use Rattle.grammar_theory.proofs.Lawful.{trees_repeat, read_lawful}

reads_after : (f : Tree → Tree) (r : Read Tree) (x : Tree) (rest : List Terminal) → IsReadAs r x rest → IsReadAs
    (after f r)
    (f x) rest
reads_after f r x rest (inl e) = inl (ap (after f) e)
reads_after f r x rest (inr d) = inr (d.0, ap (after f) d.1)

reads_then : (g : Tree → List Terminal → Read Tree) (j : Tree → Tree → Tree) (r : Read Tree) (x y : Tree)
    (mid rest : List Terminal) → IsReadAs r x mid → IsReadAs (g x mid) y rest → IsReadAs (and_then_by g j r) (j x y)
    rest
reads_then g j r x y mid rest (inl e) (inl q) = inl (ap (and_then_by g j) e ∙ ap (after (j x)) q)
reads_then g j r x y mid rest (inl e) (inr d) = inr (d.0, ap (and_then_by g j) e ∙ ap (after (j x)) d.1)
reads_then g j r x y mid rest (inr d) q = inr (d.0, ap (and_then_by g j) d.1)

reads_same : {r s : Read Tree} {x : Tree} {rest : List Terminal} → s ≡ r → IsReadAs r x rest → IsReadAs s x rest
reads_same {x = x} {rest = rest} e h = let P : Read Tree → Type 0 = λ v. IsReadAs v x rest in subst P (sym e) h

-- tokens that aren't none begin the longer ones
starts_front : (v : Bool) (f : List ℕ) (us rest : List Terminal) → Starts v f us → v ≡ false → begins f (us ++ rest) ≡
    true
starts_front v f [] rest h q = cc
starts_front v f (u ∷ us) rest h q = h

-- what follows lets the first part end
follow : (v : Bool) (f l m : List ℕ) (vs rest : List Terminal) → Starts v f vs → apart f l ≡ true → begins
    (cond v (l ++ m) m) rest ≡ false → begins l (vs ++ rest) ≡ false
follow v f l m [] rest h q s =
    let w : begins (l ++ m) rest ≡ false = subst (λ b. begins (cond b (l ++ m) m) rest ≡ false) h s in none_left l m
    rest w
follow v f l m (t ∷ ts) rest h q s = apart_begins f l (t ∷ ts ++ rest) q h

second : (v : Bool) (l m : List ℕ) (rest : List Terminal) → begins (cond v (l ++ m) m) rest ≡ false → begins m rest ≡
    false
second true l m rest s = none_right l m rest s
second false l m rest s = s

-- in a repetition
follow_many : (f l : List ℕ) (vs rest : List Terminal) → Starts true f vs → apart f l ≡ true → begins (f ++ l) rest ≡
    false → begins l (vs ++ rest) ≡ false
follow_many f l [] rest h q s = none_right f l rest s
follow_many f l (t ∷ ts) rest h q s = apart_begins f l (t ∷ ts ++ rest) q h

-- in trees
follow_trees : (v : Bool) (f l : List ℕ) (vs rest : List Terminal) → Starts v f vs → apart f l ≡ true → begins l rest ≡
    false → begins l (vs ++ rest) ≡ false
follow_trees v f l [] rest h q s = s
follow_trees v f l (t ∷ ts) rest h q s = apart_begins f l (t ∷ ts ++ rest) q h

-- the second of two, where it may be empty
right_starts : (v : Bool) (f g l m : List ℕ) (vs rest : List Terminal) → Starts v g vs → apart g f ≡ true → begins
    (cond v (f ++ (l ++ m)) (l ++ m)) rest ≡ false → begins f (vs ++ rest) ≡ false
right_starts v f g l m [] rest h q s = let w : begins (f ++ (l ++ m)) rest ≡ false = subst
    (λ b. begins (cond b (f ++ (l ++ m)) (l ++ m)) rest ≡ false) h s in none_left f (l ++ m) rest w
right_starts v f g l m (t ∷ ts) rest h q s = apart_begins g f (t ∷ ts ++ rest) q h

either_last : (v : Bool) (f l m : List ℕ) (rest : List Terminal) → begins (cond v (f ++ (l ++ m)) (l ++ m)) rest ≡ false
    → (begins l rest ≡ false) × (begins m rest ≡ false)
either_last true f l m rest s = let w : begins (l ++ m) rest ≡ false = none_right f (l ++ m) rest s in
    (none_left l m rest w, none_right l m rest w)
either_last false f l m rest s = (none_left l m rest s, none_right l m rest s)

-- an item after its number
apart_none : (xs : List ℕ) → apart xs [] ≡ true
apart_none [] = refl
apart_none (x ∷ xs) = apart_none xs

and_true : (a b : Bool) → a ≡ true → b ≡ true → (a && b) ≡ true
and_true a b h q = ap (λ v. v && b) h ∙ q

pub good_item : (G : Grammar) (k c : ℕ) (a : Ebnf) → good G a ≡ true → good G (numbered_item k c a) ≡ true
good_item G k c a h = and_true (good G a && apart (first a) []) true
    (and_true (good G a) (apart (first a) []) h (apart_none (first a))) refl

item_last : (v : Bool) (l : List ℕ) (rest : List Terminal) → begins l rest ≡ false → begins (cond v l l) rest ≡ false
item_last true l rest h = h
item_last false l rest h = h

good_trees_any : (G : Grammar) (n m : ℕ) (arity : Tree → ℕ) (a : Ebnf) → good G (prefix_trees n arity a) ≡ true → good G
    (prefix_trees m arity a) ≡ true
good_trees_any G n m arity a h = ap (λ b. good G a && (not (empties a) && (apart (first a) (last a) && b)))
    (trees_there m n arity a) ∙ h

-- brackets
abbrev shut_or : ℕ → (List Terminal → Read Tree) → ℕ → List Terminal → Read Tree → Read Tree
shut_or levels f c at r = r >>= λ x. opened levels (closed f c) at x.1

reads_closed : (f : List Terminal → Read Tree) (c : ℕ) (t : Terminal) (us rest : List Terminal) (x : Tree) → t.class ≡ c
    → IsReadAs (f (us ++ (t ∷ rest))) x (t ∷ rest) → IsReadAs (closed f c (us ++ (t ∷ rest))) x rest
reads_closed f c t us rest x h (inl e) = inl (ap (λ r. r >>= λ x. skip c x.1 >>= λ z. Ok (x.0, z.1)) e ∙ ap
    (λ b. as_tree (λ t. unit) (one_if b t rest) >>= λ z. Ok (x, z.1)) (has_itself c t.class h))
reads_closed f c t us rest x h (inr d) = inr (d.0, ap (λ r. r >>= λ x. skip c x.1 >>= λ z. Ok (x.0, z.1)) d.1)

reads_version : (any : Bool) (c : ℕ) (vs : List ℕ) (t : Terminal) (rest : List Terminal) → t.class ≡ c →
    (any || has vs t.value) ≡ true → IsReadAs (as_tree (λ t. numeral t.value) (check_version any vs (take_if (λ t. eqb
    t.class c) (t ∷ rest))))
    (numeral t.value) rest
reads_version any c vs t rest h q = inl (ap (λ b. as_tree (λ t. numeral t.value) (check_version any vs (one_if b t
    rest)))
    (eq-eqb t.class c h) ∙ ap (λ b. as_tree (λ t. numeral t.value) (version_if b t rest)) q)

module _ (G : Grammar) (is : IsGrammar G) where
  pub has_body : (k : ℕ) → HasSome G (G.body k)
  has_body k = plain_some G (G.body k) (is.bodies_plain k)

  pub reader_lawful : (n : ℕ) (e : Ebnf) → good G e ≡ true → Lawful G e (read G n e)
  reader_lawful = read_lawful G has_body is.bodies_good

  -- the repetitions that good forms are
  pub many_read : (n : ℕ) (a : Ebnf) → good G (many a) ≡ true → IsRepetition G (λ k. many a) (λ k. a) (λ k. read G n a)
      (λ k. begins (first a)) (λ k x. k)
  many_read n a h = let g = good_many G a h in many_repeats G a (read G n a) (reader_lawful n a g.good_) g.full

  pub numbered_read : (n c : ℕ) (a : Ebnf) → good G a ≡ true → IsRepetition G (λ k. numbered k c a)
      (λ k. numbered_item k c a) (after_number c (read G n a)) (λ k. begins (c ∷ [])) (λ k x. suc k)
  numbered_read n c a h = numbered_repeats G c a (read G n a) (reader_lawful n a h) (some_of G has_body a h)

  pub trees_read : (n m : ℕ) (arity : Tree → ℕ) (a : Ebnf) → good G (prefix_trees m arity a) ≡ true → IsRepetition G
      (λ k. prefix_trees k arity a) (λ k. a) (λ k. read G n a) some_missing (missing arity)
  trees_read n m arity a h = let g = good_trees G m arity a h in trees_repeat G m arity a (read G n a)
      (reader_lawful n a g.good_) g.full g.plain_

  pub complete : {e : Ebnf} {x : Tree} {ts : List Terminal} → Derives G e x ts → good G e ≡ true → (n : ℕ)
      (rest : List Terminal) → begins (last e) rest ≡ false → IsReadAs (read G n e (ts ++ rest)) x rest
  complete (is_token {keep = keep} {t = t} h) g n rest s = inl (ap (λ b. as_tree keep (one_if b t rest)) h)
  complete (is_valued {c = c} {v = v} {t = t} h q) g n rest s = inl
      (ap (λ b. as_tree (λ t. unit) (one_if b t rest)) (and_true (eqb t.class c) (eqb t.value v) (eq-eqb t.class c h)
      (eq-eqb t.value v q)))
  complete (is_version {c = c} {vs = vs} {t = t} h q) g n rest s = reads_version G.any_version c vs t rest h q
  complete (is_both {a = a} {b = b} {x = x} {y = y} {us = us} {vs = vs} d1 d2 q) g n rest s =
      let w = good_both G a b g in
      let h1 : IsReadAs (read G n a (us ++ (vs ++ rest))) x (vs ++ rest) = complete d1 w.good_first n (vs ++ rest)
      (follow (empties b) (first b) (last a) (last b) vs rest (starts d2) w.apart_ s) in
      let h2 : IsReadAs (read G n b (vs ++ rest)) y rest = complete d2 w.good_second n rest
      (second (empties b) (last a) (last b) rest s) in
      reads_same (ap (read G n (both a b)) (ap (λ w. w ++ rest) q ∙ append_assoc us vs rest))
      (reads_then (λ x. read G n b) pair (read G n a (us ++ (vs ++ rest))) x y (vs ++ rest) rest h1 h2)
  complete (is_left {a = a} {b = b} {x = x} {ts = ts} d) g n rest s =
      let w = good_either G a b g in
      let h : IsReadAs (read G n a (ts ++ rest)) x rest = complete d w.good_left n rest
      (either_last (empties b) (first a) (last a) (last b) rest s).0 in
      reads_same (ap (λ v. cond v (after left (read G n a (ts ++ rest))) (after right (read G n b (ts ++ rest))))
      (starts_front (empties a) (first a) ts rest (starts d) w.full))
      (reads_after left (read G n a (ts ++ rest)) x rest h)
  complete (is_right {a = a} {b = b} {x = x} {ts = ts} d) g n rest s =
      let w = good_either G a b g in
      let h : IsReadAs (read G n b (ts ++ rest)) x rest = complete d w.good_right n rest
      (either_last (empties b) (first a) (last a) (last b) rest s).1 in
      reads_same (ap (λ v. cond v (after left (read G n a (ts ++ rest))) (after right (read G n b (ts ++ rest))))
      (right_starts (empties b) (first a) (first b) (last a) (last b) ts rest (starts d) w.apart_ s))
      (reads_after right (read G n b (ts ++ rest)) x rest h)
  complete (is_none {a = a}) g n rest s = inl (ap (λ v. cond v (after some (read G n a rest)) (Ok (none, rest)))
      (none_left (first a) (last a) rest s))
  complete (is_some {a = a} {x = x} {ts = ts} d) g n rest s =
      let full : empties a ≡ false = not_true (empties a) (and_right (good G a) (not (empties a)) g) in
      let h : IsReadAs (read G n a (ts ++ rest)) x rest = complete d (and_left (good G a) (not (empties a)) g) n rest
      (none_right (first a) (last a) rest s) in
      reads_same (ap (λ v. cond v (after some (read G n a (ts ++ rest))) (Ok (none, ts ++ rest)))
      (starts_front (empties a) (first a) ts rest (starts d) full))
      (reads_after some (read G n a (ts ++ rest)) x rest h)
  complete (is_nil {a = a}) g n rest s = inl (repeat_stop G (λ k. many a) (λ k. a) (λ k. read G n a)
      (λ k. begins (first a)) (λ k x. k) (many_read n a g) 0 rest (none_left (first a) (last a) rest s))
  complete (is_more {a = a} {x = x} {xs = xs} {us = us} {vs = vs} d1 d2 q) g n rest s =
      let w = good_many G a g in
      let h1 : IsReadAs (read G n a (us ++ (vs ++ rest))) x (vs ++ rest) = complete d1 w.good_ n (vs ++ rest)
      (follow_many (first a) (last a) vs rest (starts d2) w.apart_ s) in
      let h2 : IsReadAs (read G n (many a) (vs ++ rest)) xs rest = complete d2 g n rest s in
      reads_same (ap (read G n (many a)) (ap (λ w. w ++ rest) q ∙ append_assoc us vs rest) ∙ repeat_more G (λ k. many a)
      (λ k. a) (λ k. read G n a) (λ k. begins (first a)) (λ k x. k) (many_read n a g) 0 (us ++ (vs ++ rest))
      (starts_front (empties a) (first a) us (vs ++ rest) (starts d1) w.full))
      (reads_then (λ x. read G n (many a)) more (read G n a (us ++ (vs ++ rest))) x xs (vs ++ rest) rest h1 h2)
  complete (is_no_number {k = k} {c = c} {a = a}) g n rest s = inl
      (repeat_stop G (λ k. numbered k c a) (λ k. numbered_item k c a) (after_number c (read G n a))
      (λ k. begins (c ∷ [])) (λ k x. suc k) (numbered_read n c a (and_left (good G a) (not (has (last a) c)) g)) k rest
      (none_left (c ∷ []) (last a) rest s))
  complete (is_next_number {k = k} {c = c} {a = a} {x = x} {xs = xs} {us = us} {vs = vs} d1 d2 q) g n rest s =
      let ga : good G a ≡ true = and_left (good G a) (not (has (last a) c)) g in
      let w : apart (c ∷ []) (last a) ≡ true = and_true (not (has (last a) c)) true
      (and_right (good G a) (not (has (last a) c)) g) refl in
      let l : begins (last a) (vs ++ rest) ≡ false = follow_many (c ∷ []) (last a) vs rest (starts d2) w s in
      let h1 : IsReadAs (read G n (numbered_item k c a) (us ++ (vs ++ rest))) x (vs ++ rest) = complete d1
      (good_item G k c a ga) n (vs ++ rest) (item_last (empties a) (last a) (vs ++ rest) l) in
      let h2 : IsReadAs (read G n (numbered (suc k) c a) (vs ++ rest)) xs rest = complete d2 g n rest s in
      reads_same (ap (read G n (numbered k c a)) (ap (λ w. w ++ rest) q ∙ append_assoc us vs rest) ∙ repeat_more G
      (λ k. numbered k c a) (λ k. numbered_item k c a) (after_number c (read G n a)) (λ k. begins (c ∷ []))
      (λ k x. suc k) (numbered_read n c a ga) k (us ++ (vs ++ rest))
      (starts_front false (c ∷ []) us (vs ++ rest) (starts d1) refl))
      (reads_then (λ x. read G n (numbered (suc k) c a)) more (read G n (numbered_item k c a) (us ++ (vs ++ rest))) x xs
      (vs ++ rest) rest h1 h2)
  complete (is_no_tree {arity = arity} {a = a}) g n rest s = inl
      (repeat_stop G (λ k. prefix_trees k arity a) (λ k. a) (λ k. read G n a) some_missing (missing arity)
      (trees_read n zero arity a g) zero rest refl)
  complete (is_next_node {n = k} {arity = arity} {a = a} {x = x} {xs = xs} {us = us} {vs = vs} d1 d2 q) g n rest s =
      let w = good_trees G (suc k) arity a g in
      let h1 : IsReadAs (read G n a (us ++ (vs ++ rest))) x (vs ++ rest) = complete d1 w.good_ n (vs ++ rest)
      (follow_trees (empties (prefix_trees (k + arity x) arity a)) (first a) (last a) vs rest (starts d2)
      w.apart_ s) in
      let h2 : IsReadAs (read G n (prefix_trees (k + arity x) arity a) (vs ++ rest)) xs rest = complete d2
      (good_trees_any G (suc k) (k + arity x) arity a g) n rest s in
      reads_same (ap (read G n (prefix_trees (suc k) arity a)) (ap (λ w. w ++ rest) q ∙ append_assoc us vs rest) ∙
      repeat_more G (λ k. prefix_trees k arity a) (λ k. a) (λ k. read G n a) some_missing (missing arity)
      (trees_read n (suc k) arity a g) (suc k) (us ++ (vs ++ rest)) refl)
      (reads_then (λ x. read G n (prefix_trees (k + arity x) arity a)) more (read G n a (us ++ (vs ++ rest))) x xs
      (vs ++ rest) rest h1 h2)
  complete (is_named {action = m} {place = p} {a = a} {x = x} {ts = ts} d q) g n rest s =
      let full : empties a ≡ false = not_true (empties a) (and_right (good G a) (not (empties a)) g) in
      let h : IsReadAs (read G n a (ts ++ rest)) x rest = complete d (and_left (good G a) (not (empties a)) g) n rest s
      in
      reads_same (ap (λ w. after (m w) (read G n a (ts ++ rest)))
      (place_front (first a) ts rest (subst (λ v. Starts v (first a) ts) full (starts d)) ∙ sym q))
      (reads_after (m p) (read G n a (ts ++ rest)) x rest h)
  complete (is_inside {opening = o} {k = k} {closing = c} v t {x = x} {us = us} hs d ht q) g zero rest s =
      inr (
        v ∷ (us ++ (t ∷ rest)),
        ap (read G zero (inside o k c))
            (ap (λ w. w ++ rest) q ∙ ap (λ w. v ∷ w) (append_assoc us (t ∷ []) rest)) ∙ ap
            (λ b. shut_or zero (below G zero k) c (v ∷ (us ++ (t ∷ rest)))
            (as_tree (λ t. unit) (one_if b v (us ++ (t ∷ rest))))) (has_itself o v.class hs),
      )
  complete (is_inside {opening = o} {k = k} {closing = c} v t {x = x} {us = us} hs d ht q) g (suc n) rest s =
      let h : IsReadAs (read G n (G.body k) (us ++ (t ∷ rest))) x (t ∷ rest) = complete d (is.bodies_good k) n
      (t ∷ rest)
      (subst (λ w. has (last (G.body k)) w ≡ false) (sym ht) (not_true (has (last (G.body k)) c) g)) in
      reads_same (ap (read G (suc n) (inside o k c)) (ap (λ w. w ++ rest) q ∙ ap (λ w. v ∷ w)
      (append_assoc us (t ∷ []) rest)) ∙ ap (λ b. shut_or (suc n) (read G n (G.body k)) c (v ∷ (us ++ (t ∷ rest)))
      (as_tree (λ t. unit) (one_if b v (us ++ (t ∷ rest))))) (has_itself o v.class hs))
      (reads_closed (read G n (G.body k)) c t us rest x ht h)
