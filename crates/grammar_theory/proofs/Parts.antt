-- A reader made of one reader, or of two, has the outcomes that these have.
use Rattle.std.proofs.Common.{◌≡◌, List, [], ◌∷◌, ◌++◌, refl, sym, ◌∙◌, ap, subst, append_assoc, Ok, Err}
use Rattle.grammar_theory.specs.Ebnf.{Terminal, Tree, Ebnf, Derives, Grammar, of_any_version}
use Rattle.grammar_theory.specs.Reader.{Unexpected, OtherVersion, TooDeep, Read, after, and_then_by}
use Rattle.grammar_theory.specs.Answers.{Opens}
use Rattle.grammar_theory.specs.Outcomes.{HasSome, Took, Outcome}
use Rattle.grammar_theory.proofs.Versions.{derives_any, some_any}

pub record SomeTree (G : Grammar) (e : Ebnf) (ts : List Terminal) : Type 0 where
  pub tree : Tree
  pub derives : Derives G e tree ts

-- The tokens of one form are tokens of another.
abbrev pub Turns : Grammar → Ebnf → Ebnf → Type 0
Turns G a e = (x : Tree) (us : List Terminal) → Derives G a x us → SomeTree G e us

pub record Seen (G : Grammar) (a e : Ebnf) (f h : List Terminal → Read Tree) (g : Tree → Tree) (ts : List Terminal) :
    Type 0 where
  pub tree : (x : Tree) (us rest : List Terminal) → ts ≡ us ++ rest → Derives G a x us → Derives G e (g x) us
  pub turns : Turns G a e
  pub turns_any : Turns (of_any_version G) a e
  pub same : (us : List Terminal) (t : Terminal) (was now : List Terminal) → ts ≡ us ++ t ∷ was → h (us ++ t ∷ now) ≡
      after g (f (us ++ t ∷ now))

opens_seen : {G : Grammar} {a e : Ebnf} {p : List Terminal} → Turns G a e → Opens G a p → Opens G e p
opens_seen {p = p} any o = let s = any o.tree (p ++ o.rest) o.derives in record
    { tree = s.tree; rest = o.rest; derives = s.derives }

pub seen : {G : Grammar} {a e : Ebnf} {f h : List Terminal → Read Tree} {g : Tree → Tree} {ts : List Terminal} → Seen G
    a e f h g ts → (r : Read Tree) → Outcome G a f ts r → Outcome G e h ts (after g r)
seen {h = h} {g = g} s (Ok (x, rest)) o = record {
  taken = o.taken;
  split = o.split;
  tree = s.tree x o.taken rest o.split o.tree;
  local = λ t was now e. s.same o.taken t was now (o.split ∙ ap (λ r. o.taken ++ r) e) ∙ ap (after g)
      (o.local t was now e);
}
seen {h = h} {g = g} s (Err (Unexpected rest)) o = record {
  front = o.front;
  split = o.split;
  opens = opens_seen s.turns o.opens;
  local = λ t was now e. s.same o.front t was now (o.split ∙ ap (λ r. o.front ++ r) e) ∙ ap (after g)
      (o.local t was now e);
}
seen {h = h} {g = g} s (Err (OtherVersion rest)) o = record {
  front = o.front;
  at = o.at;
  later = o.later;
  rest_is = o.rest_is;
  split = o.split;
  opens = opens_seen s.turns o.opens;
  other = opens_seen s.turns_any o.other;
  local = λ now. s.same o.front o.at o.later now (o.split ∙ ap (λ r. o.front ++ r) o.rest_is) ∙ ap (after g)
      (o.local now);
}
seen s (Err (TooDeep rest)) o = record {
  front = o.front;
  at = o.at;
  later = o.later;
  rest_is = o.rest_is;
  split = o.split;
  opens = opens_seen s.turns o.opens;
}

-- The tokens of a form and of one that its tree decides are tokens of a third.
abbrev pub Joins : Grammar → Ebnf → (Tree → Ebnf) → Ebnf → (Tree → Tree → Tree) → Type 0
Joins G a b e j = (x y : Tree) (us vs ws : List Terminal) → Derives G a x us → Derives G (b x) y vs → ws ≡ us ++ vs →
    Derives G e (j x y) ws

pub record Joined (G : Grammar) (a : Ebnf) (b : Tree → Ebnf) (e : Ebnf) (f : List Terminal → Read Tree)
    (g : Tree → List Terminal → Read Tree) (h : List Terminal → Read Tree) (j : Tree → Tree → Tree) (ts : List Terminal)
    : Type 0 where
  pub joins : Joins G a b e j
  pub joins_any : Joins (of_any_version G) a b e j
  pub rest : (x : Tree) → HasSome G (b x)
  pub same : (us : List Terminal) (t : Terminal) (was now : List Terminal) → ts ≡ us ++ t ∷ was → h (us ++ t ∷ now) ≡
      and_then_by g j (f (us ++ t ∷ now))

-- the first reader does the same where the second goes on with other tokens
onward : (f : List Terminal → Read Tree) (x : Tree) (us rest : List Terminal) →
    ((t : Terminal) (was now : List Terminal) → rest ≡ t ∷ was → f (us ++ t ∷ now) ≡ Ok (x, t ∷ now))
    → (vs : List Terminal) (t : Terminal) (was now : List Terminal) → rest ≡ vs ++ t ∷ was → f (us ++ (vs ++ t ∷ now)) ≡
    Ok (x, vs ++ t ∷ now)
onward f x us rest local [] t was now e = local t was now e
onward f x us rest local (v ∷ vs) t was now e = local v (vs ++ t ∷ was) (vs ++ t ∷ now) e

module _ (G : Grammar) (a : Ebnf) (b : Tree → Ebnf) (e : Ebnf) (j : Tree → Tree → Tree) (joins : Joins G a b e j) where
  -- after the first form, the second's beginnings are open
  opens_second : (x : Tree) (us p : List Terminal) → Derives G a x us → Opens G (b x) p → Opens G e (us ++ p)
  opens_second x us p d o = record {
    tree = j x o.tree;
    rest = o.rest;
    derives = joins x o.tree us (p ++ o.rest)
        ((us ++ p) ++ o.rest) d o.derives (append_assoc us p o.rest);
  }

  -- and so with one more token
  opens_second_at : (x : Tree) (us p : List Terminal) (t : Terminal) → Derives G a x us → Opens G (b x) (p ++ t ∷ []) →
      Opens G e ((us ++ p) ++ t ∷ [])
  opens_second_at x us p t d o = subst (λ w. Opens G e w) (sym (append_assoc us p (t ∷ [])))
      (opens_second x us (p ++ t ∷ []) d o)

  -- the first form's beginnings are open
  opens_first : ((x : Tree) → HasSome G (b x)) → (p : List Terminal) → Opens G a p → Opens G e p
  opens_first rest p o = let r = rest o.tree in record {
    tree = j o.tree r.tree;
    rest = o.rest ++ r.tokens;
    derives =
        joins o.tree r.tree (p ++ o.rest) r.tokens (p ++ (o.rest ++ r.tokens)) o.derives r.derives
        (sym (append_assoc p o.rest r.tokens));
  }

module _ {G : Grammar} {a : Ebnf} {b : Tree → Ebnf} {e : Ebnf} {f : List Terminal → Read Tree}
    {g : Tree → List Terminal → Read Tree} {h : List Terminal → Read Tree} {j : Tree → Tree → Tree} {ts : List Terminal}
    (s : Joined G a b e f g h j ts) where
  joined_local : (x : Tree) (us rest : List Terminal) → ts ≡ us ++ rest →
      ((t : Terminal) (was now : List Terminal) → rest ≡ t ∷ was → f (us ++ t ∷ now) ≡ Ok (x, t ∷ now))
      → (vs : List Terminal) (t : Terminal) (was now : List Terminal) → rest ≡ vs ++ t ∷ was → h ((us ++ vs) ++ t ∷ now)
      ≡ after (j x) (g x (vs ++ t ∷ now))
  joined_local x us rest split local vs t was now e =
      s.same (us ++ vs) t was now (split ∙ ap (λ r. us ++ r) e ∙ sym (append_assoc us vs (t ∷ was)))
      ∙ ap (λ w. and_then_by g j (f w)) (append_assoc us vs (t ∷ now))
      ∙ ap (and_then_by g j) (onward f x us rest local vs t was now e)

  joined_second : (x : Tree) (rest : List Terminal) → Took G a f ts x rest → (r : Read Tree) → Outcome G (b x) (g x)
      rest r → Outcome G e h ts (after (j x) r)
  joined_second x rest k (Ok (y, end)) o = record {
    taken = k.taken ++ o.taken;
    split = k.split ∙ ap (λ r. k.taken ++ r) o.split ∙ sym (append_assoc k.taken o.taken end);
    tree = s.joins x y k.taken o.taken (k.taken ++ o.taken) k.tree o.tree refl;
    local = λ t was now q. joined_local x k.taken rest k.split k.local o.taken t was now
        (o.split ∙ ap (λ r. o.taken ++ r) q) ∙ ap (after (j x)) (o.local t was now q);
  }
  joined_second x rest k (Err (Unexpected end)) o = record {
    front = k.taken ++ o.front;
    split = k.split ∙ ap (λ r. k.taken ++ r) o.split ∙ sym (append_assoc k.taken o.front end);
    opens = opens_second G a b e j s.joins x k.taken o.front k.tree o.opens;
    local = λ t was now q. joined_local x k.taken rest k.split k.local o.front t was now
        (o.split ∙ ap (λ r. o.front ++ r) q) ∙ ap (after (j x)) (o.local t was now q);
  }
  joined_second x rest k (Err (OtherVersion end)) o = record {
    front = k.taken ++ o.front;
    at = o.at;
    later = o.later;
    rest_is = o.rest_is;
    split = k.split ∙ ap (λ r. k.taken ++ r) o.split ∙ sym (append_assoc k.taken o.front end);
    opens = opens_second G a b e j s.joins x k.taken o.front k.tree o.opens;
    other = opens_second_at (of_any_version G) a b e j s.joins_any x k.taken o.front o.at (derives_any k.tree) o.other;
    local = λ now. joined_local x k.taken rest k.split k.local o.front o.at o.later now
        (o.split ∙ ap (λ r. o.front ++ r) o.rest_is) ∙ ap (after (j x)) (o.local now);
  }
  joined_second x rest k (Err (TooDeep end)) o = record {
    front = k.taken ++ o.front;
    at = o.at;
    later = o.later;
    rest_is = o.rest_is;
    split = k.split ∙ ap (λ r. k.taken ++ r) o.split ∙ sym (append_assoc k.taken o.front end);
    opens = opens_second_at G a b e j s.joins x k.taken o.front o.at k.tree o.opens;
  }

  pub joined : (r : Read Tree) → Outcome G a f ts r → ((x : Tree) (rest : List Terminal) → Took G a f ts x rest →
      Outcome G (b x) (g x) rest (g x rest)) → Outcome G e h ts (and_then_by g j r)
  joined (Ok (x, rest)) o second = joined_second x rest o (g x rest) (second x rest o)
  joined (Err (Unexpected rest)) o second = record {
    front = o.front;
    split = o.split;
    opens = opens_first G a b e j s.joins s.rest o.front o.opens;
    local = λ t was now q. s.same o.front t was now (o.split ∙ ap (λ r. o.front ++ r) q) ∙ ap (and_then_by g j)
        (o.local t was now q);
  }
  joined (Err (OtherVersion rest)) o second = record {
    front = o.front;
    at = o.at;
    later = o.later;
    rest_is = o.rest_is;
    split = o.split;
    opens = opens_first G a b e j s.joins s.rest o.front o.opens;
    other = opens_first (of_any_version G) a b e j s.joins_any (λ x. some_any (s.rest x)) (o.front ++ o.at ∷ [])
        o.other;
    local = λ now. s.same o.front o.at o.later now (o.split ∙ ap (λ r. o.front ++ r) o.rest_is) ∙ ap (and_then_by g j)
        (o.local now);
  }
  joined (Err (TooDeep rest)) o second = record {
    front = o.front;
    at = o.at;
    later = o.later;
    rest_is = o.rest_is;
    split = o.split;
    opens = opens_first G a b e j s.joins s.rest (o.front ++ o.at ∷ []) o.opens;
  }
