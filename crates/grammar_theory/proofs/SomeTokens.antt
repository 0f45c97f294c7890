-- Each good form has some tokens.
use Rattle.std.proofs.Common.{◌≡◌, ℕ, zero, suc, Bool, true, false, cond, not, ◌&&◌, ◌||◌, eqb, List, [], ◌∷◌, ◌++◌}
use Rattle.std.proofs.Common.{refl, sym, ◌∙◌, ap, subst, arith, ◌+◌, eq-eqb, eqb-true, Option, Some, None}
use Rattle.std.specs.Prelude.{is_some as is_there, option_map}
use Rattle.grammar_theory.specs.Ebnf.{Terminal, place_of, Tree, unit, numeral, pair, left, right, none, nil, Ebnf}
use Rattle.grammar_theory.specs.Ebnf.{token, valued}
use Rattle.grammar_theory.specs.Ebnf.{version, both, either, maybe, many, numbered, prefix_trees, named, inside}
use Rattle.grammar_theory.specs.Ebnf.{Derives, Grammar}
use Rattle.grammar_theory.specs.Ebnf.{has, is_token, is_valued, is_version, is_both, is_left, is_right, is_none, is_nil}
use Rattle.grammar_theory.specs.Ebnf.{is_no_number, is_no_tree, is_next_node, is_named, is_inside}
use Rattle.grammar_theory.specs.LookAhead.{apart, empties, first, last, sample_token, token_of, pair_of, either_of}
use Rattle.grammar_theory.specs.LookAhead.{copies}
use Rattle.grammar_theory.specs.LookAhead.{if_passes, sample, plain, good}
use Rattle.grammar_theory.specs.Outcomes.{HasSome}
use Rattle.grammar_theory.proofs.Classes.{and_left, and_right, or_left, or_right}

-- The tree is one of the form, of tokens at place 0.
pub record Sampled (G : Grammar) (e : Ebnf) (x : Tree) : Type 0 where
  pub tokens : List Terminal
  pub derives : Derives G e x tokens
  pub at_start : place_of tokens ≡ 0

sampled_as : {G : Grammar} {e : Ebnf} {x y : Tree} → Sampled G e y → y ≡ x → Sampled G e x
sampled_as {G = G} {e = e} s q = subst (λ z. Sampled G e z) q s

same_some : (x y : Tree) → ◌≡◌ {A = Option Tree} (Some x) (Some y) → x ≡ y
same_some x y q = cc

place_append : (us vs : List Terminal) → place_of us ≡ 0 → place_of vs ≡ 0 → place_of (us ++ vs) ≡ 0
place_append [] vs h k = k
place_append (u ∷ us) vs h k = h

-- a form's sample passes the test
abbrev Samples : Grammar → Ebnf → (Tree → Bool) → Option Tree → Type 0
Samples G e test o = (x : Tree) → o ≡ Some x → Sampled G e x × (test x ≡ true)

tested : (G : Grammar) (e : Ebnf) (test : Tree → Bool) (o : Option Tree) → ((x : Tree) → o ≡ Some x → Sampled G e x) →
    Samples G e test (if_passes test o)
tested G e test None f x q = cc
tested G e test (Some y) f x q = go (test y) refl q
  where
    go : (b : Bool) → test y ≡ b → ◌≡◌ {A = Option Tree} (cond b (Some y) None) (Some x) → Sampled G e x ×
        (test x ≡ true)
    go true h q = let w : y ≡ x = same_some y x q in (sampled_as (f y refl) w, subst (λ z. test z ≡ true) w h)
    go false h q = cc

one_sampled : (G : Grammar) (e : Ebnf) (test : Tree → Bool) (y : Tree) → Sampled G e y → Samples G e test
    (if_passes test (Some y))
one_sampled G e test y s = tested G e test (Some y) (λ x q. sampled_as s (same_some y x q))

token_sampled : (G : Grammar) (classes : List ℕ) (keep : Terminal → Tree) (test : Tree → Bool) → Samples G
    (token classes keep) test (if_passes test (token_of classes keep))
token_sampled G [] keep test x q = cc
token_sampled G (c ∷ cs) keep test x q = one_sampled G (token (c ∷ cs) keep) test (keep (sample_token c 0))
    (record {
      tokens = sample_token c 0 ∷ [];
      derives = is_token {classes = c ∷ cs} {keep = keep} {t = sample_token c 0}
          (ap (λ b. b || has cs c) (eq-eqb c c refl));
      at_start = refl;
    }) x q

both_sampled : (G : Grammar) (a b : Ebnf) (any : Tree → Bool) (oa ob : Option Tree) → Samples G a any oa → Samples G b
    any ob → (x : Tree) → pair_of oa ob ≡ Some x → Sampled G (both a b) x
both_sampled G a b any None ob f g x q = cc
both_sampled G a b any (Some y) None f g x q = cc
both_sampled G a b any (Some y) (Some z) f g x q = let s = (f y refl).0 in let t = (g z refl).0 in sampled_as
    (record {
      tokens = s.tokens ++ t.tokens;
      derives = is_both s.derives t.derives refl;
      at_start = place_append
          s.tokens t.tokens s.at_start t.at_start;
    }) (same_some (pair y z) x q)

either_sampled : (G : Grammar) (a b : Ebnf) (test : Tree → Bool) (oa ob : Option Tree) → Samples G a
    (λ x. test (left x)) oa → Samples G b (λ x. test (right x)) ob → Samples G (either a b) test (either_of oa ob)
either_sampled G a b test (Some y) ob f g x q =
    let s = f y refl in let w : left y ≡ x = same_some (left y) x q in (
      sampled_as (record { tokens = s.0.tokens; derives = is_left s.0.derives; at_start = s.0.at_start }) w,
      subst
          (λ z. test z ≡ true) w s.1,
    )
either_sampled G a b test None None f g x q = cc
either_sampled G a b test None (Some z) f g x q =
    let s = g z refl in let w : right z ≡ x = same_some (right z) x q in (
      sampled_as (record { tokens = s.0.tokens; derives = is_right s.0.derives; at_start = s.0.at_start }) w,
      subst
          (λ z. test z ≡ true) w s.1,
    )

copies_sampled : (G : Grammar) (arity : Tree → ℕ) (a : Ebnf) (x : Tree) → Sampled G a x → arity x ≡ 0 → (n : ℕ) →
    Sampled G (prefix_trees n arity a) (copies n x)
copies_sampled G arity a x s h zero = record { tokens = []; derives = is_no_tree; at_start = refl }
copies_sampled G arity a x s h (suc n) =
    let r = copies_sampled G arity a x s h n in
    let e : n ≡ n + arity x = omega (arith, h) in
    record {
      tokens = s.tokens ++ r.tokens;
      derives = is_next_node s.derives (subst (λ m. Derives G (prefix_trees m arity a) (copies n x) r.tokens) e
          r.derives) refl;
      at_start = place_append s.tokens r.tokens s.at_start r.at_start;
    }

trees_sampled : (G : Grammar) (n : ℕ) (arity : Tree → ℕ) (a : Ebnf) (oa : Option Tree) → Samples G a
    (λ x. eqb (arity x) 0) oa → (x : Tree) → option_map (copies n) oa ≡ Some x → Sampled G (prefix_trees n arity a) x
trees_sampled G n arity a None f x q = cc
trees_sampled G n arity a (Some y) f x q = let s = f y refl in sampled_as
    (copies_sampled G arity a y s.0 (eqb-true (arity y) 0 s.1) n) (same_some (copies n y) x q)

named_sampled : (G : Grammar) (m : ℕ → Tree → Tree) (a : Ebnf) (test : Tree → Bool) (oa : Option Tree) → Samples G a
    (λ x. test (m 0 x)) oa → Samples G (named m a) test (option_map (m 0) oa)
named_sampled G m a test None f x q = cc
named_sampled G m a test (Some y) f x q =
    let s = f y refl in let w : m 0 y ≡ x = same_some (m 0 y) x q in (
      sampled_as (record {
        tokens = s.0.tokens;
        derives = is_named {action = m} {place = 0} s.0.derives
            (sym s.0.at_start);
        at_start = s.0.at_start;
      }) w,
      subst (λ z. test z ≡ true) w s.1,
    )

pub sampled : (G : Grammar) (e : Ebnf) (test : Tree → Bool) → Samples G e test (sample e test)
sampled G (token classes keep) test x q = token_sampled G classes keep test x q
sampled G (valued c v) test x q = one_sampled G (valued c v) test unit
    (record { tokens = sample_token c v ∷ []; derives = is_valued {t = sample_token c v} refl refl; at_start = refl }) x
    q
sampled G (version c []) test x q = cc
sampled G (version c (v ∷ vs)) test x q = one_sampled G (version c (v ∷ vs)) test (numeral v)
    (record {
      tokens = sample_token c v ∷ [];
      derives = is_version {c = c} {vs = v ∷ vs} {t = sample_token c v} refl
          (or_right G.any_version (eqb v v || has vs v) (or_left (eqb v v) (has vs v) (eq-eqb v v refl)));
      at_start = refl;
    }) x q
sampled G (both a b) test x q = tested G (both a b) test (pair_of (sample a (λ x. true)) (sample b (λ x. true)))
    (both_sampled G a b (λ x. true) (sample a (λ x. true)) (sample b (λ x. true)) (sampled G a (λ x. true))
    (sampled G b (λ x. true))) x q
sampled G (either a b) test x q = either_sampled G a b test (sample a (λ x. test (left x)))
    (sample b (λ x. test (right x))) (sampled G a (λ x. test (left x))) (sampled G b (λ x. test (right x))) x q
sampled G (maybe a) test x q = one_sampled G (maybe a) test none
    (record { tokens = []; derives = is_none; at_start = refl }) x q
sampled G (many a) test x q = one_sampled G (many a) test nil
    (record { tokens = []; derives = is_nil; at_start = refl }) x q
sampled G (numbered k c a) test x q = one_sampled G (numbered k c a) test nil
    (record { tokens = []; derives = is_no_number; at_start = refl }) x q
sampled G (prefix_trees n arity a) test x q = tested G (prefix_trees n arity a) test
    (option_map (copies n) (sample a (λ x. eqb (arity x) 0)))
    (trees_sampled G n arity a (sample a (λ x. eqb (arity x) 0)) (sampled G a (λ x. eqb (arity x) 0))) x q
sampled G (named m a) test x q = named_sampled G m a test (sample a (λ x. test (m 0 x)))
    (sampled G a (λ x. test (m 0 x))) x q
sampled G (inside o k c) test x q = cc

some_there : (G : Grammar) (e : Ebnf) (test : Tree → Bool) (o : Option Tree) → Samples G e test o → is_there o ≡ true →
    HasSome G e
some_there G e test None f h = cc
some_there G e test (Some x) f h = let s = (f x refl).0 in record { tree = x; tokens = s.tokens; derives = s.derives }

pub plain_some : (G : Grammar) (e : Ebnf) → plain e ≡ true → HasSome G e
plain_some G e h = some_there G e (λ x. true) (sample e (λ x. true)) (sampled G e (λ x. true)) h

-- whether there is a node with no subtree doesn't depend on how many trees there are
trees_there_at : (n m : ℕ) (o : Option Tree) → is_there (if_passes (λ x. true) (option_map (copies n) o)) ≡ is_there
    (if_passes (λ x. true) (option_map (copies m) o))
trees_there_at n m None = refl
trees_there_at n m (Some x) = refl

pub trees_there : (n m : ℕ) (arity : Tree → ℕ) (a : Ebnf) → plain (prefix_trees n arity a) ≡ plain
    (prefix_trees m arity a)
trees_there n m arity a = trees_there_at n m (sample a (λ x. eqb (arity x) 0))

pub trees_some : (G : Grammar) (n : ℕ) (arity : Tree → ℕ) (a : Ebnf) → plain (prefix_trees n arity a) ≡ true → (m : ℕ) →
    HasSome G (prefix_trees m arity a)
trees_some G n arity a h m = plain_some G (prefix_trees m arity a) (trees_there m n arity a ∙ h)

pub some_of : (G : Grammar) → ((k : ℕ) → HasSome G (G.body k)) → (e : Ebnf) → good G e ≡ true → HasSome G e
some_of G inner (token classes keep) h = plain_some G (token classes keep) h
some_of G inner (valued c v) h = plain_some G (valued c v) refl
some_of G inner (version c vs) h = plain_some G (version c vs) h
some_of G inner (both a b) h =
    let x = some_of G inner a (and_left (good G a) (good G b && apart (first b) (last a)) h) in
    let y = some_of G inner b (and_left (good G b) (apart (first b) (last a))
    (and_right (good G a) (good G b && apart (first b) (last a)) h)) in
    record { tree = pair x.tree y.tree; tokens = x.tokens ++ y.tokens; derives = is_both x.derives y.derives refl }
some_of G inner (either a b) h =
    let x = some_of G inner a (and_left (good G a) (good G b && (not (empties a) && apart (first b) (first a))) h) in
    record { tree = left x.tree; tokens = x.tokens; derives = is_left x.derives }
some_of G inner (maybe a) h = record { tree = none; tokens = []; derives = is_none }
some_of G inner (many a) h = record { tree = nil; tokens = []; derives = is_nil }
some_of G inner (numbered k c a) h = record { tree = nil; tokens = []; derives = is_no_number }
some_of G inner (prefix_trees n arity a) h =
    let p : plain (prefix_trees n arity a) ≡ true = and_right (apart (first a) (last a))
    (plain (prefix_trees n arity a)) (and_right (not (empties a))
    (apart (first a) (last a) && plain (prefix_trees n arity a))
    (and_right (good G a) (not (empties a) && (apart (first a) (last a) && plain (prefix_trees n arity a))) h))
    in
    plain_some G (prefix_trees n arity a) p
some_of G inner (named m a) h = let x = some_of G inner a (and_left (good G a) (not (empties a)) h) in record
    { tree = m (place_of x.tokens) x.tree; tokens = x.tokens; derives = is_named {action = m} x.derives refl }
some_of G inner (inside o k c) h =
    let x = inner k in
    record {
      tree = x.tree;
      tokens = sample_token o 0 ∷ (x.tokens ++ sample_token c 0 ∷ []);
      derives = is_inside
          (sample_token o 0) (sample_token c 0) refl x.derives refl refl;
    }
