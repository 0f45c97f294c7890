-- The reader of brackets is lawful, with a level left and with none.
use Rattle.std.proofs.Common.{◌≡◌, ℕ, zero, suc, Bool, true, false, List, [], ◌∷◌, ◌++◌, refl, sym, ◌∙◌, ap, subst, Ok}
use Rattle.std.proofs.Common.{Err}
use Rattle.grammar_theory.specs.Ebnf.{Terminal, Tree, unit, leaf, numeral, choice, pair, left, right, none, some, nil}
use Rattle.grammar_theory.specs.Ebnf.{more, node}
use Rattle.grammar_theory.specs.Ebnf.{Ebnf, fixed, both, inside, Derives, Grammar, of_any_version, has, is_token}
use Rattle.grammar_theory.specs.Ebnf.{is_both}
use Rattle.grammar_theory.specs.Ebnf.{is_inside}
use Rattle.grammar_theory.specs.LookAhead.{sample_token}
use Rattle.grammar_theory.specs.Reader.{Read, TooDeep, ◌>>=◌, one_if, as_tree, skip, after, and_then, closed, opened}
use Rattle.grammar_theory.specs.Answers.{Opens}
use Rattle.grammar_theory.specs.Outcomes.{HasSome, Outcome, Lawful}
use Rattle.grammar_theory.proofs.Classes.{has_itself, has_one}
use Rattle.grammar_theory.proofs.Parts.{Joins, joined}
use Rattle.grammar_theory.proofs.Tokens.{single}

pub fixed_some : (G : Grammar) (c : ℕ) → HasSome G (fixed c)
fixed_some G c = record {
  tree = unit;
  tokens = sample_token c 0 ∷ [];
  derives = is_token {keep = λ t. unit}
      {t = sample_token c 0} (has_itself c c refl);
}

pub fixed_lawful : (G : Grammar) (c : ℕ) → Lawful G (fixed c) (skip c)
fixed_lawful G c = single G (fixed c) (λ t. has (c ∷ []) t.class) (λ t. unit) (fixed_some G c)
    (λ t h. is_token {keep = λ t. unit} h)

-- the tree of what stands in brackets
abbrev inner_of : Tree → Tree
inner_of unit = unit
inner_of (leaf p w) = unit
inner_of (numeral n) = unit
inner_of (choice c) = unit
inner_of (pair x y) = x
inner_of (left x) = unit
inner_of (right x) = unit
inner_of none = unit
inner_of (some x) = unit
inner_of nil = unit
inner_of (more x y) = unit
inner_of (node k p x) = unit

-- a token of the class, where the tokens are one fixed token
record IsOne (c : ℕ) (ts : List Terminal) : Type 0 where
  at : Terminal
  class_is : at.class ≡ c
  is : ts ≡ at ∷ []

one_fixed : {G : Grammar} {c : ℕ} {x : Tree} {ts : List Terminal} → Derives G (fixed c) x ts → IsOne c ts
one_fixed {c = c} (is_token {t = t} h) = record { at = t; class_is = has_one c t.class h; is = refl }

derives_inside : {G : Grammar} {a : Ebnf} {o k c : ℕ} → G.body k ≡ a → (us ws : List Terminal) → IsOne o us → (y : Tree)
    (vs : List Terminal) → Derives G (both a (fixed c)) y vs → ws ≡ us ++ vs → Derives G (inside o k c) (inner_of y) ws
derives_inside {G = G} {c = c} q us ws one y vs (is_both {x = x} {us = body} {vs = end} d1 d2 s) e =
    let last = one_fixed d2 in
    is_inside one.at last.at one.class_is (subst (λ (b : Ebnf). Derives G b x body) (sym q) d1) last.class_is
    (e ∙ ap (λ v. v ++ vs) one.is ∙ ap (λ v. one.at ∷ v) (s ∙ ap (λ v. body ++ v) last.is))

pub joins_inside : (G : Grammar) (o k c : ℕ) → Joins G (fixed o) (λ x. both (G.body k) (fixed c)) (inside o k c)
    (λ x y. inner_of y)
joins_inside G o k c x y us vs ws d1 d2 s = derives_inside refl us ws (one_fixed d1) y vs d2 s

abbrev closing : (List Terminal → Read Tree) → ℕ → List Terminal → Read Tree
closing f c ts = and_then (skip c) pair (f ts)

abbrev kept : Tree → Read Tree → Read Tree
kept x r = r >>= λ z. Ok (x, z.1)

closed_same : (c : ℕ) (x : Tree) (r : Read Tree) → kept x r ≡ after inner_of (after (pair x) r)
closed_same c x (Ok p) = refl
closed_same c x (Err d) = refl

contents_same : (c : ℕ) (r : Read Tree) → (r >>= λ y. kept y.0 (skip c y.1)) ≡ after inner_of (and_then (skip c) pair r)
contents_same c (Ok p) = closed_same c p.0 (skip c p.1)
contents_same c (Err d) = refl

abbrev inside_reader : (List Terminal → Read Tree) → ℕ → Read Tree → Read Tree
inside_reader f c r = r >>= λ x. closed f c x.1

opened_same : (f : List Terminal → Read Tree) (c : ℕ) (r : Read Tree) → inside_reader f c r ≡ and_then (closing f c)
    (λ x y. inner_of y) r
opened_same f c (Ok p) = contents_same c (f p.1)
opened_same f c (Err d) = refl

module _ (G : Grammar) (f : List Terminal → Read Tree) (o k c : ℕ) (inner : Lawful G (G.body k) f)
    (one : HasSome G (G.body k)) where
  closing_lawful : Lawful G (both (G.body k) (fixed c)) (closing f c)
  closing_lawful ts = joined (record {
    joins = λ x y us vs ws d1 d2 s. is_both d1 d2 s;
    joins_any = λ x y us vs ws d1 d2 s. is_both d1 d2 s;
    rest = λ x. fixed_some G c;
    same = λ us t was now e. refl;
  }) (f ts) (inner ts) (λ x rest q. fixed_lawful G c rest)

  closing_some : HasSome G (both (G.body k) (fixed c))
  closing_some = let y = fixed_some G c in record {
    tree = pair one.tree y.tree;
    tokens = one.tokens ++ y.tokens;
    derives = is_both one.derives y.derives refl;
  }

  pub inside_lawful : Lawful G (inside o k c) (λ ts. inside_reader f c (skip o ts))
  inside_lawful ts = subst (λ r. Outcome G (inside o k c) (λ ts. inside_reader f c (skip o ts)) ts r)
      (sym (opened_same f c (skip o ts)))
      (joined (record {
        joins = joins_inside G o k c;
        joins_any = joins_inside (of_any_version G) o k c;
        rest = λ x. closing_some;
        same = λ us t was now e. opened_same f c (skip o (us ++ t ∷ now));
      }) (skip o ts) (fixed_lawful G o ts) (λ x rest q. closing_lawful rest))

-- no level is left
abbrev shut : List Terminal → Read Tree → Read Tree
shut ts r = r >>= λ x. Err (TooDeep ts)

abbrev shut_reader : ℕ → List Terminal → Read Tree
shut_reader o ts = shut ts (skip o ts)

module _ (G : Grammar) (o k c : ℕ) (one : HasSome G (G.body k)) where
  shut_open : (t : Terminal) → t.class ≡ o → Opens G (inside o k c) (t ∷ [])
  shut_open t h = record {
    tree = one.tree;
    rest = one.tokens ++ sample_token c 0 ∷ [];
    derives = is_inside t
        (sample_token c 0) h one.derives refl refl;
  }

  shut_none : Opens G (inside o k c) []
  shut_none = record {
    tree = one.tree;
    rest = sample_token o 0 ∷ (one.tokens ++ sample_token c 0 ∷ []);
    derives =
        is_inside (sample_token o 0) (sample_token c 0) refl one.derives refl refl;
  }

  shut_at : (t : Terminal) (ts : List Terminal) (b : Bool) → has (o ∷ []) t.class ≡ b → Outcome G (inside o k c)
      (shut_reader o) (t ∷ ts) (shut (t ∷ ts) (as_tree (λ t. unit) (one_if b t ts)))
  shut_at t ts true q = record {
    front = [];
    at = t;
    later = ts;
    rest_is = refl;
    split = refl;
    opens = shut_open t
        (has_one o t.class q);
  }
  shut_at t ts false q = record {
    front = [];
    split = refl;
    opens = shut_none;
    local = λ s was now h. let w : t ≡ s = cc in
        let q' : has (o ∷ []) s.class ≡ false = subst (λ (v : Terminal). has (o ∷ []) v.class ≡ false) w q in ap
        (λ b. shut (s ∷ now) (as_tree (λ t. unit) (one_if b s now))) q';
  }

  shut_lawful : Lawful G (inside o k c) (shut_reader o)
  shut_lawful [] = record { front = []; split = refl; opens = shut_none; local = λ t was now h. cc }
  shut_lawful (t ∷ ts) = shut_at t ts (has (o ∷ []) t.class) refl

pub opened_lawful : (G : Grammar) (o k c : ℕ) (levels : ℕ) (within : ℕ → List Terminal → Read Tree)
    → ((n : ℕ) → levels ≡ suc n → (k : ℕ) → Lawful G (G.body k) (within k)) → ((k : ℕ) → HasSome G (G.body k))
    → Lawful G (inside o k c) (λ ts. skip o ts >>= λ x. opened levels (closed (within k) c) ts x.1)
opened_lawful G o k c zero within inner one = shut_lawful G o k c (one k)
opened_lawful G o k c (suc n) within inner one = inside_lawful G (within k) o k c (inner n refl k) (one k)
