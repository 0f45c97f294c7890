-- Every good form's reader is lawful, at any number of levels.
use Rattle.std.proofs.Common.{◌≡◌, ℕ, zero, suc, Bool, true, false, cond, not, ◌&&◌, eqb, List, [], ◌∷◌, ◌++◌, refl}
use Rattle.std.proofs.Common.{sym, ◌∙◌, ap, subst, eqb-true, Ok}
use Rattle.grammar_theory.specs.Ebnf.{Terminal, place_of, Tree, unit, pair, left, right, none, some, nil, more, node}
use Rattle.grammar_theory.specs.Ebnf.{Ebnf, token}
use Rattle.grammar_theory.specs.Ebnf.{valued, version, both, either, maybe, many, numbered, prefix_trees, named, inside}
use Rattle.grammar_theory.specs.Ebnf.{numbered_item, Derives, Grammar, of_any_version, has, is_token, is_valued}
use Rattle.grammar_theory.specs.Ebnf.{is_both, is_left}
use Rattle.grammar_theory.specs.Ebnf.{is_right, is_none, is_some, is_nil, is_more, is_no_number, is_next_number}
use Rattle.grammar_theory.specs.Ebnf.{is_no_tree}
use Rattle.grammar_theory.specs.Ebnf.{is_next_node, is_named}
use Rattle.grammar_theory.specs.LookAhead.{apart, empties, first, last, plain, good}
use Rattle.grammar_theory.specs.Reader.{Read, begins, take_number, after, after_number, and_then, some_missing, missing}
use Rattle.grammar_theory.specs.Reader.{reading}
use Rattle.grammar_theory.specs.Reader.{below, read}
use Rattle.grammar_theory.specs.Outcomes.{HasSome, Outcome, Lawful}
use Rattle.grammar_theory.proofs.Classes.{and_left, and_right, not_true, begins_same, place_same}
use Rattle.grammar_theory.proofs.Starts.{Starts, starts, place_front}
use Rattle.grammar_theory.proofs.Parts.{seen, Joins, joined}
use Rattle.grammar_theory.proofs.SomeTokens.{some_of, plain_some, trees_some}
use Rattle.grammar_theory.proofs.Tokens.{single, version_lawful}
use Rattle.grammar_theory.proofs.Repeat.{IsRepetition, repeat_lawful}
use Rattle.grammar_theory.proofs.Inside.{opened_lawful}

either_lawful : (G : Grammar) (a b : Ebnf) (f g : List Terminal → Read Tree) → Lawful G a f → Lawful G b g
    → (ts : List Terminal) (v : Bool) → begins (first a) ts ≡ v
    → Outcome G (either a b) (λ ts. cond (begins (first a) ts) (after left (f ts)) (after right (g ts))) ts
    (cond v (after left (f ts)) (after right (g ts)))
either_lawful G a b f g lf lg ts true h = seen (record {
  tree = λ x us rest e d. is_left d;
  turns = λ x us d. record { tree = left x; derives = is_left d };
  turns_any = λ x us d. record { tree = left x; derives = is_left d };
  same = λ us t was now e. let q : begins (first a) (us ++ t ∷ now) ≡ true = sym (begins_same (first a) us t was now) ∙
      ap (begins (first a)) (sym e) ∙ h in ap (λ v. cond v (after left (f (us ++ t ∷ now)))
      (after right (g (us ++ t ∷ now)))) q;
}) (f ts) (lf ts)
either_lawful G a b f g lf lg ts false h = seen (record {
  tree = λ x us rest e d. is_right d;
  turns = λ x us d. record { tree = right x; derives = is_right d };
  turns_any = λ x us d. record { tree = right x; derives = is_right d };
  same = λ us t was now e. let q : begins (first a) (us ++ t ∷ now) ≡ false = sym (begins_same (first a) us t was now) ∙
      ap (begins (first a)) (sym e) ∙ h in ap (λ v. cond v (after left (f (us ++ t ∷ now)))
      (after right (g (us ++ t ∷ now)))) q;
}) (g ts) (lg ts)

maybe_lawful : (G : Grammar) (a : Ebnf) (f : List Terminal → Read Tree) → Lawful G a f
    → (ts : List Terminal) (v : Bool) → begins (first a) ts ≡ v
    → Outcome G (maybe a) (λ ts. cond (begins (first a) ts) (after some (f ts)) (Ok (none, ts))) ts
    (cond v (after some (f ts)) (Ok (none, ts)))
maybe_lawful G a f lf ts true h = seen (record {
  tree = λ x us rest e d. is_some d;
  turns = λ x us d. record { tree = some x; derives = is_some d };
  turns_any = λ x us d. record { tree = some x; derives = is_some d };
  same = λ us t was now e. let q : begins (first a) (us ++ t ∷ now) ≡ true = sym (begins_same (first a) us t was now) ∙
      ap (begins (first a)) (sym e) ∙ h in ap (λ v. cond v (after some (f (us ++ t ∷ now))) (Ok (none, us ++ t ∷ now)))
      q;
}) (f ts) (lf ts)
maybe_lawful G a f lf ts false h = record {
  taken = [];
  split = refl;
  tree = is_none;
  local = λ t was now e. let q : begins (first a) (t ∷ was) ≡ false = subst (λ v. begins (first a) v ≡ false) e h in ap
      (λ v. cond v (after some (f (t ∷ now))) (Ok (none, t ∷ now))) q;
}

named_lawful : (G : Grammar) (m : ℕ → Tree → Tree) (a : Ebnf) (f : List Terminal → Read Tree) → Lawful G a f → empties a
    ≡ false
    → Lawful G (named m a) (λ ts. after (m (place_of ts)) (f ts))
named_lawful G m a f lf full ts = seen {h = λ x. after (m (place_of x)) (f x)} {g = m (place_of ts)} (record {
  tree = λ x us rest e d. is_named {action = m} d (ap place_of e ∙ place_front (first a) us rest
      (subst (λ v. Starts v (first a) us) full (starts d)));
  turns = λ x us d. record { tree = m (place_of us) x; derives = is_named {action = m} d refl };
  turns_any = λ x us d. record { tree = m (place_of us) x; derives = is_named {action = m} d refl };
  same = λ us t was now e. ap (λ p. after (m p) (f (us ++ t ∷ now)))
      (sym (place_same us t was now) ∙ ap place_of (sym e));
}) (f ts) (lf ts)

both_lawful : (G : Grammar) (a b : Ebnf) (f g : List Terminal → Read Tree) → Lawful G a f → Lawful G b g → HasSome G b →
    Lawful G (both a b) (λ ts. and_then g pair (f ts))
both_lawful G a b f g lf lg one ts = joined (record {
  joins = λ x y us vs ws d1 d2 s. is_both d1 d2 s;
  joins_any = λ x y us vs ws d1 d2 s. is_both d1 d2 s;
  rest = λ x. one;
  same = λ us t was now e. refl;
}) (f ts) (lf ts) (λ x rest q. lg rest)

valued_lawful : (G : Grammar) (c v : ℕ) → Lawful G (valued c v) (take_number c v)
valued_lawful G c v = single G (valued c v) (λ t. eqb t.class c && eqb t.value v) (λ t. unit)
    (plain_some G (valued c v) refl)
    (λ t h. is_valued (eqb-true t.class c (and_left (eqb t.class c) (eqb t.value v) h))
    (eqb-true t.value v (and_right (eqb t.class c) (eqb t.value v) h)))

-- the repetitions
pub many_repeats : (G : Grammar) (a : Ebnf) (f : List Terminal → Read Tree) → Lawful G a f → empties a ≡ false →
    IsRepetition G (λ k. many a) (λ k. a) (λ k. f) (λ k. begins (first a)) (λ k x. k)
many_repeats G a f lf full = record {
  lawful = λ k. lf;
  full = λ k. full;
  has_some = λ k. record { tree = nil; tokens = []; derives = is_nil };
  same = λ k. begins_same (first a);
  ends = λ k ts h. is_nil;
  goes = λ k ts h x y us vs ws d1 d2 s. is_more d1 d2 s;
  goes_any = λ k ts h x y us vs ws d1 d2 s. is_more d1 d2 s;
}

numbered_item_lawful : (G : Grammar) (c : ℕ) (a : Ebnf) (f : List Terminal → Read Tree) → Lawful G a f → HasSome G a →
    (k : ℕ) → Lawful G (numbered_item k c a) (after_number c f k)
numbered_item_lawful G c a f lf one k = named_lawful G (node k) (both (valued c k) a)
    (λ ts. and_then f pair (take_number c k ts)) (both_lawful G (valued c k) a (take_number c k) f (valued_lawful G c k)
    lf one) refl

pub numbered_repeats : (G : Grammar) (c : ℕ) (a : Ebnf) (f : List Terminal → Read Tree) → Lawful G a f → HasSome G a →
    IsRepetition G (λ k. numbered k c a) (λ k. numbered_item k c a) (after_number c f) (λ k. begins (c ∷ []))
    (λ k x. suc k)
numbered_repeats G c a f lf one = record {
  lawful = numbered_item_lawful G c a f lf one;
  full = λ k. refl;
  has_some = λ k. record { tree = nil; tokens = []; derives = is_no_number };
  same = λ k. begins_same (c ∷ []);
  ends = λ k ts h. is_no_number;
  goes = λ k ts h x y us vs ws d1 d2 s. is_next_number d1 d2 s;
  goes_any = λ k ts h x y us vs ws d1 d2 s. is_next_number d1 d2 s;
}

trees_end : (G : Grammar) (arity : Tree → ℕ) (a : Ebnf) (k : ℕ) (ts : List Terminal) → some_missing k ts ≡ false →
    Derives G (prefix_trees k arity a) nil []
trees_end G arity a zero ts h = is_no_tree
trees_end G arity a (suc k) ts h = cc

trees_go : (G : Grammar) (arity : Tree → ℕ) (a : Ebnf) (k : ℕ) (ts : List Terminal) → some_missing k ts ≡ true → Joins G
    a (λ x. prefix_trees (missing arity k x) arity a) (prefix_trees k arity a) more
trees_go G arity a zero ts h = cc
trees_go G arity a (suc k) ts h = λ x y us vs ws d1 d2 s. is_next_node d1 d2 s

missing_same : (k : ℕ) (us vs : List Terminal) → some_missing k us ≡ some_missing k vs
missing_same zero us vs = refl
missing_same (suc k) us vs = refl

pub trees_repeat : (G : Grammar) (n : ℕ) (arity : Tree → ℕ) (a : Ebnf) (f : List Terminal → Read Tree) → Lawful G a f →
    empties a ≡ false → plain (prefix_trees n arity a) ≡ true → IsRepetition G (λ k. prefix_trees k arity a) (λ k. a)
    (λ k. f) some_missing (missing arity)
trees_repeat G n arity a f lf full p = record {
  lawful = λ k. lf;
  full = λ k. full;
  has_some = trees_some G n arity a p;
  same = λ k us t was now. missing_same k (us ++ t ∷ was) (us ++ t ∷ now);
  ends = trees_end G arity a;
  goes = trees_go G arity a;
  goes_any = trees_go (of_any_version G) arity a;
}

-- what `good` says of the parts of forms
pub record GoodTrees (G : Grammar) (n : ℕ) (arity : Tree → ℕ) (a : Ebnf) : Type 0 where
  pub good_ : good G a ≡ true
  pub full : empties a ≡ false
  pub apart_ : apart (first a) (last a) ≡ true
  pub plain_ : plain (prefix_trees n arity a) ≡ true

pub good_trees : (G : Grammar) (n : ℕ) (arity : Tree → ℕ) (a : Ebnf) → good G (prefix_trees n arity a) ≡ true →
    GoodTrees G n arity a
good_trees G n arity a h =
    let h1 : (not (empties a) && (apart (first a) (last a) && plain (prefix_trees n arity a))) ≡ true = and_right
    (good G a) (not (empties a) && (apart (first a) (last a) && plain (prefix_trees n arity a))) h in
    let h2 : (apart (first a) (last a) && plain (prefix_trees n arity a)) ≡ true = and_right (not (empties a))
    (apart (first a) (last a) && plain (prefix_trees n arity a)) h1 in
    record {
      good_ = and_left (good G a) (not (empties a) && (apart (first a) (last a) && plain (prefix_trees n arity a))) h;
      full = not_true (empties a) (and_left (not (empties a))
          (apart (first a) (last a) && plain (prefix_trees n arity a)) h1);
      apart_ = and_left (apart (first a) (last a)) (plain (prefix_trees n arity a)) h2;
      plain_ = and_right (apart (first a) (last a)) (plain (prefix_trees n arity a)) h2;
    }

pub record GoodMany (G : Grammar) (a : Ebnf) : Type 0 where
  pub good_ : good G a ≡ true
  pub full : empties a ≡ false
  pub apart_ : apart (first a) (last a) ≡ true

pub good_many : (G : Grammar) (a : Ebnf) → good G (many a) ≡ true → GoodMany G a
good_many G a h =
    let h1 : (not (empties a) && apart (first a) (last a)) ≡ true = and_right (good G a)
    (not (empties a) && apart (first a) (last a)) h in
    record {
      good_ = and_left (good G a) (not (empties a) && apart (first a) (last a)) h;
      full = not_true (empties a) (and_left (not (empties a)) (apart (first a) (last a)) h1);
      apart_ = and_right (not (empties a)) (apart (first a) (last a)) h1;
    }

pub record GoodEither (G : Grammar) (a b : Ebnf) : Type 0 where
  pub good_left : good G a ≡ true
  pub good_right : good G b ≡ true
  pub full : empties a ≡ false
  pub apart_ : apart (first b) (first a) ≡ true

pub good_either : (G : Grammar) (a b : Ebnf) → good G (either a b) ≡ true → GoodEither G a b
good_either G a b h =
    let h1 : (good G b && (not (empties a) && apart (first b) (first a))) ≡ true = and_right (good G a)
    (good G b && (not (empties a) && apart (first b) (first a))) h in
    let h2 : (not (empties a) && apart (first b) (first a)) ≡ true = and_right (good G b)
    (not (empties a) && apart (first b) (first a)) h1 in
    record {
      good_left = and_left (good G a) (good G b && (not (empties a) && apart (first b) (first a))) h;
      good_right = and_left (good G b) (not (empties a) && apart (first b) (first a)) h1;
      full = not_true (empties a) (and_left (not (empties a)) (apart (first b) (first a)) h2);
      apart_ = and_right (not (empties a)) (apart (first b) (first a)) h2;
    }

pub record GoodBoth (G : Grammar) (a b : Ebnf) : Type 0 where
  pub good_first : good G a ≡ true
  pub good_second : good G b ≡ true
  pub apart_ : apart (first b) (last a) ≡ true

pub good_both : (G : Grammar) (a b : Ebnf) → good G (both a b) ≡ true → GoodBoth G a b
good_both G a b h =
    let h1 : (good G b && apart (first b) (last a)) ≡ true = and_right (good G a) (good G b && apart (first b) (last a))
    h in
    record {
      good_first = and_left (good G a) (good G b && apart (first b) (last a)) h;
      good_second = and_left (good G b) (apart (first b) (last a)) h1;
      apart_ = and_right (good G b) (apart (first b) (last a)) h1;
    }

module _ (G : Grammar) (one : (k : ℕ) → HasSome G (G.body k)) where
  lawful : (levels : ℕ) (within : ℕ → List Terminal → Read Tree) →
      ((n : ℕ) → levels ≡ suc n → (k : ℕ) → Lawful G (G.body k) (within k))
      → (e : Ebnf) → good G e ≡ true → Lawful G e (reading G levels within e)
  lawful levels within inner (token classes keep) h = single G (token classes keep) (λ t. has classes t.class) keep
      (some_of G one (token classes keep) h) (λ t q. is_token {keep = keep} q)
  lawful levels within inner (valued c v) h = valued_lawful G c v
  lawful levels within inner (version c vs) h = version_lawful G c vs (plain_some G (version c vs) h)
  lawful levels within inner (both a b) h =
      let g = good_both G a b h in
      both_lawful G a b (reading G levels within a) (reading G levels within b)
      (lawful levels within inner a g.good_first) (lawful levels within inner b g.good_second)
      (some_of G one b g.good_second)
  lawful levels within inner (either a b) h =
      let g = good_either G a b h in
      λ ts. either_lawful G a b (reading G levels within a) (reading G levels within b)
      (lawful levels within inner a g.good_left) (lawful levels within inner b g.good_right) ts
      (begins (first a) ts) refl
  lawful levels within inner (maybe a) h = λ ts. maybe_lawful G a (reading G levels within a)
      (lawful levels within inner a (and_left (good G a) (not (empties a)) h)) ts (begins (first a) ts) refl
  lawful levels within inner (many a) h =
      let g = good_many G a h in
      repeat_lawful G (λ k. many a) (λ k. a) (λ k. reading G levels within a) (λ k. begins (first a)) (λ k x. k)
      (many_repeats G a (reading G levels within a) (lawful levels within inner a g.good_) g.full) 0
  lawful levels within inner (numbered k c a) h =
      let ga : good G a ≡ true = and_left (good G a) (not (has (last a) c)) h in
      repeat_lawful G (λ k. numbered k c a) (λ k. numbered_item k c a) (after_number c (reading G levels within a))
      (λ k. begins (c ∷ [])) (λ k x. suc k) (numbered_repeats G c a (reading G levels within a)
      (lawful levels within inner a ga) (some_of G one a ga)) k
  lawful levels within inner (prefix_trees n arity a) h =
      let g = good_trees G n arity a h in
      repeat_lawful G (λ k. prefix_trees k arity a) (λ k. a) (λ k. reading G levels within a) some_missing
      (missing arity) (trees_repeat G n arity a (reading G levels within a) (lawful levels within inner a g.good_)
      g.full g.plain_) n
  lawful levels within inner (named m a) h = named_lawful G m a (reading G levels within a)
      (lawful levels within inner a (and_left (good G a) (not (empties a)) h))
      (not_true (empties a) (and_right (good G a) (not (empties a)) h))
  lawful levels within inner (inside o k c) h = opened_lawful G o k c levels within inner one

  module _ (fine : (k : ℕ) → good G (G.body k) ≡ true) where
    below_lawful : (n : ℕ) (k : ℕ) → Lawful G (G.body k) (below G (suc n) k)
    below_lawful zero k = lawful zero (below G zero) (λ n e. cc) (G.body k) (fine k)
    below_lawful (suc n) k = lawful (suc n) (below G (suc n)) (λ m e. below_lawful n) (G.body k) (fine k)

    pub read_lawful : (n : ℕ) (e : Ebnf) → good G e ≡ true → Lawful G e (read G n e)
    read_lawful zero e h = lawful zero (below G zero) (λ n q. cc) e h
    read_lawful (suc n) e h = lawful (suc n) (below G (suc n)) (λ m q. below_lawful n) e h
