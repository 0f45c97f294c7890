-- Where any version may stand, the reader answers as before, unless it refused a version.
use Rattle.std.proofs.Common.{◌≡◌, ℕ, zero, suc, Bool, true, false, cond, ◌&&◌, ◌||◌, eqb, List, [], ◌∷◌, refl, sym}
use Rattle.std.proofs.Common.{◌∙◌, ap, subst, ◌⊎◌, inl, inr, Ok, Err}
use Rattle.grammar_theory.specs.Ebnf.{Terminal, place_of, Tree, numeral, pair, left, right, none, some, nil, more, node}
use Rattle.grammar_theory.specs.Ebnf.{Ebnf}
use Rattle.grammar_theory.specs.Ebnf.{token, valued, version, both, either, maybe, many, numbered, prefix_trees, named}
use Rattle.grammar_theory.specs.Ebnf.{inside}
use Rattle.grammar_theory.specs.Ebnf.{Grammar, of_any_version, has}
use Rattle.grammar_theory.specs.LookAhead.{first, good, paired, IsGrammar}
use Rattle.grammar_theory.specs.Reader.{Read, OtherVersion, ◌>>=◌, begins, take_if, take_number, version_if}
use Rattle.grammar_theory.specs.Reader.{check_version}
use Rattle.grammar_theory.specs.Reader.{as_tree, skip, after, after_number, and_then, and_then_by, repeat, count}
use Rattle.grammar_theory.specs.Reader.{some_missing}
use Rattle.grammar_theory.specs.Reader.{missing, closed, opened, reading, below, read}

-- the second is the first, unless that refused a version
abbrev pub Alike : Read Tree → Read Tree → Type 0
Alike r s = (s ≡ r) ⊎ ((at : List Terminal) × (r ≡ Err (OtherVersion at)))

alike_after : (f : Tree → Tree) (r s : Read Tree) → Alike r s → Alike (after f r) (after f s)
alike_after f r s (inl e) = inl (ap (after f) e)
alike_after f r s (inr d) = inr (d.0, ap (after f) d.1)

alike_then : (f g : Tree → List Terminal → Read Tree) (j : Tree → Tree → Tree) →
    ((x : Tree) (us : List Terminal) → Alike (f x us) (g x us)) → (r s : Read Tree) → Alike r s → Alike
    (and_then_by f j r) (and_then_by g j s)
alike_then f g j h (Ok p) s (inl e) = let P : Read Tree → Type 0 = λ v. Alike (after (j p.0) (f p.0 p.1)) v in subst P
    (sym (ap (and_then_by g j) e)) (alike_after (j p.0) (f p.0 p.1) (g p.0 p.1) (h p.0 p.1))
alike_then f g j h (Err d) s (inl e) = inl (ap (and_then_by g j) e)
alike_then f g j h r s (inr d) = inr (d.0, ap (and_then_by f j) d.1)

alike_cond : (v : Bool) (r s p q : Read Tree) → Alike r s → Alike p q → Alike (cond v r p) (cond v s q)
alike_cond true r s p q h k = h
alike_cond false r s p q h k = k

alike_repeat : (f g : ℕ → List Terminal → Read Tree) (goes_on : ℕ → List Terminal → Bool) (next : ℕ → Tree → ℕ) →
    ((k : ℕ) (us : List Terminal) → Alike (f k us) (g k us)) → (turns k : ℕ) (ts : List Terminal) → Alike
    (repeat f goes_on next turns k ts) (repeat g goes_on next turns k ts)
alike_repeat f g goes_on next h zero k ts = inl refl
alike_repeat f g goes_on next h (suc m) k ts = alike_cond (goes_on k ts)
    (and_then_by (λ x. repeat f goes_on next m (next k x)) more (f k ts))
    (and_then_by (λ x. repeat g goes_on next m (next k x)) more (g k ts)) (Ok (nil, ts)) (Ok (nil, ts))
    (alike_then (λ x. repeat f goes_on next m (next k x)) (λ x. repeat g goes_on next m (next k x)) more
    (λ x. alike_repeat f g goes_on next h m (next k x)) (f k ts) (g k ts) (h k ts)) (inl refl)

abbrev close_after : ℕ → Read Tree → Read Tree
close_after c r = r >>= λ x. skip c x.1 >>= λ z. Ok (x.0, z.1)

alike_close : (c : ℕ) (r s : Read Tree) → Alike r s → Alike (close_after c r) (close_after c s)
alike_close c r s (inl e) = inl (ap (close_after c) e)
alike_close c r s (inr d) = inr (d.0, ap (close_after c) d.1)

alike_opened : (f g : List Terminal → Read Tree) (c levels : ℕ) →
    ((n : ℕ) → levels ≡ suc n → (us : List Terminal) → Alike (f us) (g us)) → (at ts : List Terminal) → Alike
    (opened levels (closed f c) at ts) (opened levels (closed g c) at ts)
alike_opened f g c zero h at ts = inl refl
alike_opened f g c (suc n) h at ts = alike_close c (f ts) (g ts) (h n refl ts)

alike_inside : (f g : List Terminal → Read Tree) (c levels : ℕ) →
    ((n : ℕ) → levels ≡ suc n → (us : List Terminal) → Alike (f us) (g us)) → (ts : List Terminal) (r : Read Tree) →
    Alike (r >>= λ x. opened levels (closed f c) ts x.1) (r >>= λ x. opened levels (closed g c) ts x.1)
alike_inside f g c levels h ts (Ok p) = alike_opened f g c levels h ts p.1
alike_inside f g c levels h ts (Err d) = inl refl

alike_version_if : (t : Terminal) (ts : List Terminal) (b : Bool) → Alike
    (as_tree (λ t. numeral t.value) (version_if b t ts)) (as_tree (λ t. numeral t.value) (version_if true t ts))
alike_version_if t ts true = inl refl
alike_version_if t ts false = inr (t ∷ ts, refl)

alike_version : (any : Bool) (vs : List ℕ) (r : Read Terminal) → Alike
    (as_tree (λ t. numeral t.value) (check_version any vs r)) (as_tree (λ t. numeral t.value) (check_version true vs r))
alike_version any vs (Ok p) = alike_version_if p.0 p.1 (any || has vs p.0.value)
alike_version any vs (Err d) = inl refl

module _ (G : Grammar) where
  abbrev Any : Grammar
  Any = of_any_version G

  reading_alike : (levels : ℕ) (w z : ℕ → List Terminal → Read Tree) →
      ((n : ℕ) → levels ≡ suc n → (k : ℕ) (us : List Terminal) → Alike (w k us) (z k us))
      → (e : Ebnf) (ts : List Terminal) → Alike (reading G levels w e ts) (reading Any levels z e ts)
  reading_alike levels w z inner (token classes keep) ts = inl refl
  reading_alike levels w z inner (valued c v) ts = inl refl
  reading_alike levels w z inner (version c vs) ts = alike_version G.any_version vs (take_if (λ t. eqb t.class c) ts)
  reading_alike levels w z inner (both a b) ts = alike_then (λ x. reading G levels w b) (λ x. reading Any levels z b)
      pair (λ x. reading_alike levels w z inner b) (reading G levels w a ts) (reading Any levels z a ts)
      (reading_alike levels w z inner a ts)
  reading_alike levels w z inner (either a b) ts = alike_cond (begins (first a) ts)
      (after left (reading G levels w a ts)) (after left (reading Any levels z a ts))
      (after right (reading G levels w b ts)) (after right (reading Any levels z b ts))
      (alike_after left (reading G levels w a ts) (reading Any levels z a ts) (reading_alike levels w z inner a ts))
      (alike_after right (reading G levels w b ts) (reading Any levels z b ts) (reading_alike levels w z inner b ts))
  reading_alike levels w z inner (maybe a) ts = alike_cond (begins (first a) ts) (after some (reading G levels w a ts))
      (after some (reading Any levels z a ts)) (Ok (none, ts)) (Ok (none, ts))
      (alike_after some (reading G levels w a ts) (reading Any levels z a ts) (reading_alike levels w z inner a ts))
      (inl refl)
  reading_alike levels w z inner (many a) ts = alike_repeat (λ k. reading G levels w a) (λ k. reading Any levels z a)
      (λ k. begins (first a)) (λ k x. k) (λ k. reading_alike levels w z inner a) (suc (count ts)) 0 ts
  reading_alike levels w z inner (numbered k c a) ts = alike_repeat (after_number c (reading G levels w a))
      (after_number c (reading Any levels z a)) (λ k. begins (c ∷ [])) (λ k x. suc k)
      (λ k us. alike_after (node k (place_of us)) (and_then (reading G levels w a) pair (take_number c k us))
      (and_then (reading Any levels z a) pair (take_number c k us))
      (alike_then (λ x. reading G levels w a) (λ x. reading Any levels z a) pair
      (λ x. reading_alike levels w z inner a) (take_number c k us) (take_number c k us) (inl refl)))
      (suc (count ts)) k ts
  reading_alike levels w z inner (prefix_trees n arity a) ts = alike_repeat (λ k. reading G levels w a)
      (λ k. reading Any levels z a) some_missing (missing arity) (λ k. reading_alike levels w z inner a)
      (suc (count ts)) n ts
  reading_alike levels w z inner (named m a) ts = alike_after (m (place_of ts)) (reading G levels w a ts)
      (reading Any levels z a ts) (reading_alike levels w z inner a ts)
  reading_alike levels w z inner (inside o k c) ts = alike_inside (w k) (z k) c levels (λ n q us. inner n q k us) ts
      (skip o ts)

  below_alike : (n k : ℕ) (us : List Terminal) → Alike (below G n k us) (below Any n k us)
  below_alike zero k us = inl refl
  below_alike (suc n) k us = reading_alike n (below G n) (below Any n) (λ m q. below_alike n) (G.body k) us

  pub read_alike : (n : ℕ) (e : Ebnf) (ts : List Terminal) → Alike (read G n e ts) (read Any n e ts)
  read_alike n e ts = reading_alike n (below G n) (below Any n) (λ m q. below_alike n) e ts

  -- the grammar is as good
  and_same : {a b c d : Bool} → a ≡ b → c ≡ d → (a && c) ≡ (b && d)
  and_same {b = b} {c = c} p q = ap (λ v. v && c) p ∙ ap (λ v. b && v) q

  pub good_any : (e : Ebnf) → good Any e ≡ good G e
  good_any (token classes keep) = refl
  good_any (valued c v) = refl
  good_any (version c vs) = refl
  good_any (both a b) = and_same (good_any a) (and_same (good_any b) refl)
  good_any (either a b) = and_same (good_any a) (and_same (good_any b) refl)
  good_any (maybe a) = and_same (good_any a) refl
  good_any (many a) = and_same (good_any a) refl
  good_any (numbered k c a) = and_same (good_any a) refl
  good_any (prefix_trees n arity a) = and_same (good_any a) refl
  good_any (named m a) = and_same (good_any a) refl
  good_any (inside o k c) = refl

  paired_any : (e : Ebnf) → paired Any e ≡ paired G e
  paired_any (token classes keep) = refl
  paired_any (valued c v) = refl
  paired_any (version c vs) = refl
  paired_any (both a b) = and_same (paired_any a) (paired_any b)
  paired_any (either a b) = and_same (paired_any a) (paired_any b)
  paired_any (maybe a) = paired_any a
  paired_any (many a) = paired_any a
  paired_any (numbered k c a) = and_same refl (paired_any a)
  paired_any (prefix_trees n arity a) = paired_any a
  paired_any (named m a) = paired_any a
  paired_any (inside o k c) = refl

  pub grammar_any : IsGrammar G → IsGrammar Any
  grammar_any is = record {
    bodies_good = λ k. good_any (G.body k) ∙ is.bodies_good k;
    bodies_plain = is.bodies_plain;
    bodies_paired = λ k. paired_any (G.body k) ∙ is.bodies_paired k;
  }
