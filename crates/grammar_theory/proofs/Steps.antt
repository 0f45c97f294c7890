-- What the steps of a parser's code read.
use Rattle.std.proofs.Common.{◌||◌, eq-eqb, eqb-true, ◌≡◌, ◌≢◌, ℕ, zero, suc, Bool, true, false, not, ◌&&◌, eqb, List}
use Rattle.std.proofs.Common.{[], ◌∷◌, ◌++◌, refl, sym, ◌∙◌, ap, subst, arith, ◌-◌, ◌<◌, ◌≤◌, Ok, Err}
use Rattle.grammar_theory.specs.Ebnf.{Terminal, place_of, Tree, unit, numeral, pair, version, nil, more, Ebnf, many}
use Rattle.grammar_theory.specs.Ebnf.{numbered}
use Rattle.grammar_theory.specs.Ebnf.{prefix_trees, inside, numbered_item, to_items, repeated, Grammar, has}
use Rattle.grammar_theory.specs.LookAhead.{empties, first, last, good, IsGrammar}
use Rattle.grammar_theory.specs.Reader.{Read, Unexpected, OtherVersion, TooDeep, take_number, ◌>>=◌, begins, one_if}
use Rattle.grammar_theory.specs.Reader.{as_tree}
use Rattle.grammar_theory.specs.Reader.{skip, after, after_number, and_then, and_then_by, some_missing, missing, count}
use Rattle.grammar_theory.specs.Reader.{closed}
use Rattle.grammar_theory.specs.Reader.{read}
use Rattle.grammar_theory.specs.Outcomes.{Outcome}
use Rattle.grammar_theory.proofs.Classes.{and_left, or_right, has_itself}
use Rattle.grammar_theory.proofs.Tokens.{version_reads}
use Rattle.grammar_theory.proofs.Repeat.{takes_at, repeat_more, repeat_stop}
use Rattle.grammar_theory.proofs.Complete.{reader_lawful, many_read, numbered_read, trees_read}

-- Brackets, with a level left and with none.
pub inside_some : (G : Grammar) (n o k c : ℕ) (ts : List Terminal) → 0 < n → read G n (inside o k c) ts ≡
    (skip o ts >>= λ x. closed (read G (n - 1) (G.body k)) c x.1)
inside_some G zero o k c ts h = absurd (omega arith)
inside_some G (suc n) o k c ts h = let e : suc n - 1 ≡ n = omega arith in ap
    (λ m. skip o ts >>= λ x. closed (read G m (G.body k)) c x.1) (sym e)

pub inside_none : (G : Grammar) (n o k c : ℕ) (ts : List Terminal) → n ≡ 0 → read G n (inside o k c) ts ≡
    (skip o ts >>= λ x. Err (TooDeep ts))
inside_none G zero o k c ts h = refl
inside_none G (suc n) o k c ts h = absurd (omega arith)

-- a test that fails
differs : (a b : ℕ) → a ≢ b → eqb a b ≡ false
differs a b h = go (eqb a b) refl
  where
    go : (v : Bool) → eqb a b ≡ v → v ≡ false
    go true q = absurd (h (eqb-true a b q))
    go false q = refl

begins_not : (c : ℕ) (t : Terminal) → has (c ∷ []) t.class ≡ false → eqb t.class c ≡ false
begins_not c t h = differs t.class c (λ e. let q : has (c ∷ []) t.class ≡ true = has_itself c t.class e in cc)

-- A number that must be this one: it is, it is another, and there is none.
module _ (c v : ℕ) where
  pub number_here : (t : Terminal) (ts : List Terminal) → t.class ≡ c → t.value ≡ v → take_number c v (t ∷ ts) ≡ Ok
      (unit, ts)
  number_here t ts h q = ap (λ b. as_tree (λ t. unit) (one_if (b && eqb t.value v) t ts)) (eq-eqb t.class c h) ∙ ap
      (λ b. as_tree (λ t. unit) (one_if b t ts)) (eq-eqb t.value v q)

  pub number_other : (t : Terminal) (ts : List Terminal) → t.class ≡ c → t.value ≢ v → take_number c v (t ∷ ts) ≡ Err
      (Unexpected (t ∷ ts))
  number_other t ts h q = ap (λ b. as_tree (λ t. unit) (one_if (b && eqb t.value v) t ts)) (eq-eqb t.class c h) ∙ ap
      (λ b. as_tree (λ t. unit) (one_if b t ts)) (differs t.value v q)

  pub number_missing : (ts : List Terminal) → begins (c ∷ []) ts ≡ false → take_number c v ts ≡ Err (Unexpected ts)
  number_missing [] h = refl
  number_missing (t ∷ ts) h = ap (λ b. as_tree (λ t. unit) (one_if (b && eqb t.value v) t ts)) (begins_not c t h)

-- A version: it is one of these, it is another, and there is no number.
module _ (G : Grammar) (n c : ℕ) (vs : List ℕ) where
  pub version_here : (t : Terminal) (ts : List Terminal) → t.class ≡ c → has vs t.value ≡ true → read G n (version c vs)
      (t ∷ ts) ≡ Ok (numeral t.value, ts)
  version_here t ts h q = version_reads G c vs t ts true true (eq-eqb t.class c h)
      (or_right G.any_version (has vs t.value) q)

  pub version_other : (t : Terminal) (ts : List Terminal) → G.any_version ≡ false → t.class ≡ c →
      has vs t.value ≡ false → read G n (version c vs) (t ∷ ts) ≡ Err (OtherVersion (t ∷ ts))
  version_other t ts a h q = version_reads G c vs t ts true false (eq-eqb t.class c h)
      (ap (λ b. b || has vs t.value) a ∙ q)

  pub version_missing : (ts : List Terminal) → begins (c ∷ []) ts ≡ false → read G n (version c vs) ts ≡ Err
      (Unexpected ts)
  version_missing [] h = refl
  version_missing (t ∷ ts) h = version_reads G c vs t ts false (G.any_version || has vs t.value) (begins_not c t h) refl

module _ (G : Grammar) (is : IsGrammar G) (n : ℕ) where
  -- Braces: one item more, none, and a fault in an item.
  module _ (a : Ebnf) (h : good G (many a) ≡ true) (ts : List Terminal) where
    pub many_more : begins (first a) ts ≡ true → read G n (many a) ts ≡ and_then (read G n (many a)) more
        (read G n a ts)
    many_more b = repeat_more G (λ k. many a) (λ k. a) (λ k. read G n a) (λ k. begins (first a)) (λ k x. k)
        (many_read G is n a h) 0 ts b

    pub many_stop : begins (first a) ts ≡ false → read G n (many a) ts ≡ Ok (nil, ts)
    many_stop b = repeat_stop G (λ k. many a) (λ k. a) (λ k. read G n a) (λ k. begins (first a)) (λ k x. k)
        (many_read G is n a h) 0 ts b

  -- Braces with numbers.
  module _ (k c : ℕ) (a : Ebnf) (h : good G (numbered k c a) ≡ true) (ts : List Terminal) where
    pub numbered_more : begins (c ∷ []) ts ≡ true → read G n (numbered k c a) ts ≡ and_then
        (read G n (numbered (suc k) c a)) more (read G n (numbered_item k c a) ts)
    numbered_more b = repeat_more G (λ k. numbered k c a) (λ k. numbered_item k c a) (after_number c (read G n a))
        (λ k. begins (c ∷ [])) (λ k x. suc k) (numbered_read G is n c a (and_left (good G a) (not (has (last a) c)) h))
        k ts b

    pub numbered_stop : begins (c ∷ []) ts ≡ false → read G n (numbered k c a) ts ≡ Ok (nil, ts)
    numbered_stop b = repeat_stop G (λ k. numbered k c a) (λ k. numbered_item k c a) (after_number c (read G n a))
        (λ k. begins (c ∷ [])) (λ k x. suc k) (numbered_read G is n c a (and_left (good G a) (not (has (last a) c)) h))
        k ts b

  -- Trees in prefix order.
  module _ (need : ℕ) (arity : Tree → ℕ) (a : Ebnf) (h : good G (prefix_trees need arity a) ≡ true) (ts : List Terminal)
    where
      pub trees_more : some_missing need ts ≡ true → read G n (prefix_trees need arity a) ts ≡ and_then_by
          (λ x. read G n (prefix_trees (missing arity need x) arity a)) more (read G n a ts)
      trees_more b = repeat_more G (λ k. prefix_trees k arity a) (λ k. a) (λ k. read G n a) some_missing (missing arity)
          (trees_read G is n need arity a h) need ts b

      pub trees_stop : some_missing need ts ≡ false → read G n (prefix_trees need arity a) ts ≡ Ok (nil, ts)
      trees_stop b = repeat_stop G (λ k. prefix_trees k arity a) (λ k. a) (λ k. read G n a) some_missing (missing arity)
          (trees_read G is n need arity a h) need ts b

-- what is left is no longer
count_append : (us vs : List Terminal) → count vs ≤ count (us ++ vs)
count_append [] vs = omega arith
count_append (u ∷ us) vs = omega (arith, count_append us vs)

shorter_at : (G : Grammar) (e : Ebnf) (f : List Terminal → Read Tree) (ts : List Terminal) (r : Read Tree) → Outcome G e
    f ts r → (x : Tree) (rest : List Terminal) → r ≡ Ok (x, rest) → count rest ≤ count ts
shorter_at G e f ts (Ok (y, end)) o x rest h =
    let q0 : ◌≡◌ {A = Tree × List Terminal} (y, end) (x, rest) = cc in
    let q : end ≡ rest = ap (λ (p : Tree × List Terminal). p.1) q0 in
    subst (λ v. count v ≤ count ts) q (subst (λ v. count end ≤ count v) (sym o.split) (count_append o.taken end))
shorter_at G e f ts (Err d) o x rest h = cc

module _ (G : Grammar) (is : IsGrammar G) (e : Ebnf) (h : good G e ≡ true) (n : ℕ) (ts : List Terminal) (x : Tree)
    (rest : List Terminal) where
  -- What a form leaves is no longer than the tokens, and shorter where the form may not be empty.
  pub read_no_longer : read G n e ts ≡ Ok (x, rest) → count rest ≤ count ts
  read_no_longer q = shorter_at G e (read G n e) ts (read G n e ts) (reader_lawful G is n e h ts) x rest q

  pub read_shorter : empties e ≡ false → read G n e ts ≡ Ok (x, rest) → count rest < count ts
  read_shorter full q = takes_at G e (read G n e) full ts (read G n e ts) (reader_lawful G is n e h ts) x rest q

skip_at : (t : Terminal) (ts : List Terminal) (v : Bool) (x : Tree) (rest : List Terminal) → as_tree (λ t. unit)
    (one_if v t ts) ≡ Ok (x, rest) → count rest < suc (count ts)
skip_at t ts true x rest h = let q0 : ◌≡◌ {A = Tree × List Terminal} (unit, ts) (x, rest) = cc in
    let q : ts ≡ rest = ap (λ (p : Tree × List Terminal). p.1) q0 in let w : count ts ≡ count rest = ap count q in omega
    arith
skip_at t ts false x rest h = cc

-- A token that is dropped is one less.
pub skip_shorter : (c : ℕ) (ts : List Terminal) (x : Tree) (rest : List Terminal) → skip c ts ≡ Ok (x, rest) → count
    rest < count ts
skip_shorter c [] x rest h = cc
skip_shorter c (t ∷ ts) x rest h = skip_at t ts (has (c ∷ []) t.class) x rest h

more_pair : (p : ℕ) (g : List Terminal → Read Tree) (r : Read Tree) → after (to_items p) (and_then g pair r) ≡ and_then
    g more r
more_pair p g (Ok x) = go (g x.1)
  where
    go : (r : Read Tree) → after (to_items p) (after (pair x.0) r) ≡ after (more x.0) r
    go (Ok y) = refl
    go (Err d) = refl
more_pair p g (Err d) = refl

-- Once or more often is any number of times, where it begins.
pub read_repeated : (G : Grammar) → IsGrammar G → (a : Ebnf) → good G (many a) ≡ true → (n : ℕ) (ts : List Terminal) →
    begins (first a) ts ≡ true → read G n (repeated a) ts ≡ read G n (many a) ts
read_repeated G is a h n ts q = more_pair (place_of ts) (read G n (many a)) (read G n a ts) ∙ sym
    (many_more G is n a h ts q)
