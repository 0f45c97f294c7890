-- The levels that the reader has left are those that the brackets leave, by counting.
use Rattle.std.proofs.Common.{◌≡◌, ℕ, zero, suc, Bool, true, false, cond, not, ◌&&◌, ◌||◌, eqb, List, [], ◌∷◌, refl}
use Rattle.std.proofs.Common.{sym, ◌∙◌, ap, subst, arith, eqb-true, Ok, Err, Option, Some}
use Rattle.grammar_theory.specs.Ebnf.{Terminal, place_of, Tree, unit, numeral, pair, left, right, none, some, nil, more}
use Rattle.grammar_theory.specs.Ebnf.{node}
use Rattle.grammar_theory.specs.Ebnf.{Ebnf, token, valued, version, both, either, maybe, many, numbered, prefix_trees}
use Rattle.grammar_theory.specs.Ebnf.{named}
use Rattle.grammar_theory.specs.Ebnf.{inside, Grammar, has}
use Rattle.grammar_theory.specs.LookAhead.{apart, first, neutral, paired}
use Rattle.grammar_theory.specs.Reader.{Read, Unexpected, OtherVersion, TooDeep, ◌>>=◌, begins, one_if, take_one}
use Rattle.grammar_theory.specs.Reader.{take_if}
use Rattle.grammar_theory.specs.Reader.{take_number, version_if, check_version, as_tree, skip, after, after_number}
use Rattle.grammar_theory.specs.Reader.{and_then}
use Rattle.grammar_theory.specs.Reader.{and_then_by, repeat, count, some_missing, missing, closed, opened, reading}
use Rattle.grammar_theory.specs.Reader.{below, read}
use Rattle.grammar_theory.specs.Answers.{overfull, deeper}
use Rattle.grammar_theory.proofs.Classes.{and_left, and_right, not_true, apart_has, has_itself, has_one}

abbrev pub Level : {A : Type 0} → Grammar → ℕ → List Terminal → Read A → Type 0
Level g n ts (Ok p) = overfull g n ts ≡ overfull g n p.1
Level g n ts (Err (Unexpected rest)) = (k : ℕ) × (overfull g n ts ≡ overfull g k rest)
Level g n ts (Err (OtherVersion rest)) = (k : ℕ) × (overfull g n ts ≡ overfull g k rest)
Level g n ts (Err (TooDeep rest)) = overfull g n ts ≡ Some rest

level_after : (g : Grammar) (n : ℕ) (ts : List Terminal) (f : Tree → Tree) (r : Read Tree) → Level g n ts r → Level g n
    ts (after f r)
level_after g n ts f (Ok p) h = h
level_after g n ts f (Err (Unexpected rest)) h = h
level_after g n ts f (Err (OtherVersion rest)) h = h
level_after g n ts f (Err (TooDeep rest)) h = h

level_tree : (g : Grammar) (n : ℕ) (ts : List Terminal) (f : Terminal → Tree) (r : Read Terminal) → Level g n ts r →
    Level g n ts (as_tree f r)
level_tree g n ts f (Ok p) h = h
level_tree g n ts f (Err (Unexpected rest)) h = h
level_tree g n ts f (Err (OtherVersion rest)) h = h
level_tree g n ts f (Err (TooDeep rest)) h = h

level_from : {A : Type 0} (g : Grammar) (n : ℕ) (ts us : List Terminal) → overfull g n ts ≡ overfull g n us →
    (r : Read A) → Level g n us r → Level g n ts r
level_from g n ts us e (Ok p) h = e ∙ h
level_from g n ts us e (Err (Unexpected rest)) h = (h.0, e ∙ h.1)
level_from g n ts us e (Err (OtherVersion rest)) h = (h.0, e ∙ h.1)
level_from g n ts us e (Err (TooDeep rest)) h = e ∙ h

level_then : (g : Grammar) (n : ℕ) (ts : List Terminal) (f : Tree → List Terminal → Read Tree) (j : Tree → Tree → Tree)
    (r : Read Tree) → Level g n ts r → ((x : Tree) (us : List Terminal) → Level g n us (f x us)) → Level g n ts
    (and_then_by f j r)
level_then g n ts f j (Ok p) h k = level_from g n ts p.1 h (after (j p.0) (f p.0 p.1))
    (level_after g n p.1 (j p.0) (f p.0 p.1) (k p.0 p.1))
level_then g n ts f j (Err (Unexpected rest)) h k = h
level_then g n ts f j (Err (OtherVersion rest)) h k = h
level_then g n ts f j (Err (TooDeep rest)) h k = h

-- tokens
abbrev step : Grammar → ℕ → Terminal → List Terminal → Bool → Bool → Option (List Terminal)
step g n t ts opens closes = cond opens (deeper n (λ m. overfull g m ts) (t ∷ ts))
    (cond closes (overfull g (suc n) ts) (overfull g n ts))

step_neutral : (g : Grammar) (n : ℕ) (t : Terminal) (ts : List Terminal) (classes : List ℕ) → neutral g classes ≡ true →
    has classes t.class ≡ true → overfull g n (t ∷ ts) ≡ overfull g n ts
step_neutral g n t ts classes h q =
    ap (λ v. step g n t ts v (has g.closing t.class)) (apart_has classes g.opening t.class
    (and_left (apart classes g.opening) (apart classes g.closing) h) q)
    ∙ ap (step g n t ts false) (apart_has classes g.closing t.class
    (and_right (apart classes g.opening) (apart classes g.closing) h) q)

one_level : (g : Grammar) (n : ℕ) (classes : List ℕ) → neutral g classes ≡ true → (t : Terminal) (ts : List Terminal)
    (v : Bool) → (v ≡ true → has classes t.class ≡ true) → Level g n (t ∷ ts) (one_if v t ts)
one_level g n classes h t ts true q = step_neutral g n t ts classes h (q refl)
one_level g n classes h t ts false q = (n, refl)

token_level : (g : Grammar) (n : ℕ) (classes : List ℕ) → neutral g classes ≡ true → (passes : Terminal → Bool) →
    ((t : Terminal) → passes t ≡ true → has classes t.class ≡ true) → (ts : List Terminal) → Level g n ts
    (take_if passes ts)
token_level g n classes h passes q [] = (n, refl)
token_level g n classes h passes q (t ∷ ts) = one_level g n classes h t ts (passes t) (q t)

number_level : (g : Grammar) (n c v : ℕ) → neutral g (c ∷ []) ≡ true → (ts : List Terminal) → Level g n ts
    (take_number c v ts)
number_level g n c v h ts = level_tree g n ts (λ t. unit) (take_if (λ t. eqb t.class c && eqb t.value v) ts)
    (token_level g n (c ∷ []) h (λ t. eqb t.class c && eqb t.value v)
    (λ t q. has_itself c t.class (eqb-true t.class c (and_left (eqb t.class c) (eqb t.value v) q))) ts)

version_at_level : (g : Grammar) (n c : ℕ) → neutral g (c ∷ []) ≡ true → (any : Bool) (vs : List ℕ) (t : Terminal)
    (ts : List Terminal) (b d : Bool) → (b ≡ true → has (c ∷ []) t.class ≡ true) → Level g n (t ∷ ts)
    (one_if b t ts >>= λ x. version_if d t x.1)
version_at_level g n c h any vs t ts true true q = step_neutral g n t ts (c ∷ []) h (q refl)
version_at_level g n c h any vs t ts true false q = (n, refl)
version_at_level g n c h any vs t ts false d q = (n, refl)

version_same : (any : Bool) (vs : List ℕ) (t : Terminal) (ts : List Terminal) (b : Bool) → check_version any vs
    (one_if b t ts) ≡ (one_if b t ts >>= λ x. version_if (any || has vs t.value) t x.1)
version_same any vs t ts true = refl
version_same any vs t ts false = refl

version_level : (g : Grammar) (n c : ℕ) → neutral g (c ∷ []) ≡ true → (any : Bool) (vs : List ℕ) (ts : List Terminal) →
    Level g n ts (check_version any vs (take_if (λ t. eqb t.class c) ts))
version_level g n c h any vs [] = (n, refl)
version_level g n c h any vs (t ∷ ts) =
    let P : Read Terminal → Type 0 = λ r. Level g n (t ∷ ts) r in
    subst P (sym (version_same any vs t ts (eqb t.class c))) (version_at_level g n c h any vs t ts (eqb t.class c)
    (any || has vs t.value) (λ q. has_itself c t.class (eqb-true t.class c q)))

cond_level : (g : Grammar) (n : ℕ) (ts : List Terminal) (v : Bool) (r s : Read Tree) → Level g n ts r → Level g n ts s →
    Level g n ts (cond v r s)
cond_level g n ts true r s h k = h
cond_level g n ts false r s h k = k

repeat_level : (g : Grammar) (n : ℕ) (item : ℕ → List Terminal → Read Tree) (goes_on : ℕ → List Terminal → Bool)
    (next : ℕ → Tree → ℕ) → ((k : ℕ) (us : List Terminal) → Level g n us (item k us)) → (turns k : ℕ)
    (ts : List Terminal) → Level g n ts (repeat item goes_on next turns k ts)
repeat_level g n item goes_on next h zero k ts = refl
repeat_level g n item goes_on next h (suc m) k ts = cond_level g n ts (goes_on k ts)
    (and_then_by (λ x. repeat item goes_on next m (next k x)) more (item k ts)) (Ok (nil, ts))
    (level_then g n ts (λ x. repeat item goes_on next m (next k x)) more (item k ts) (h k ts)
    (λ x. repeat_level g n item goes_on next h m (next k x))) refl

-- brackets
step_open : (g : Grammar) (n : ℕ) (t : Terminal) (ts : List Terminal) → has g.opening t.class ≡ true → overfull g n
    (t ∷ ts) ≡ deeper n (λ m. overfull g m ts) (t ∷ ts)
step_open g n t ts h = ap (λ v. step g n t ts v (has g.closing t.class)) h

step_close : (g : Grammar) (n : ℕ) (t : Terminal) (ts : List Terminal) → has g.opening t.class ≡ false → has g.closing
    t.class ≡ true → overfull g n (t ∷ ts) ≡ overfull g (suc n) ts
step_close g n t ts h k = ap (λ v. step g n t ts v (has g.closing t.class)) h ∙ ap (step g n t ts false) k

abbrev kept : Tree → Read Tree → Read Tree
kept x r = r >>= λ z. Ok (x, z.1)

close_at : (g : Grammar) (n c : ℕ) → has g.closing c ≡ true → has g.opening c ≡ false → (at ts : List Terminal) →
    overfull g (suc n) at ≡ overfull g n ts → (x : Tree) (t : Terminal) (us : List Terminal) → ts ≡ t ∷ us → (v : Bool)
    → has (c ∷ []) t.class ≡ v → Level g (suc n) at (kept x (as_tree (λ t. unit) (one_if v t us)))
close_at g n c h k at ts e x t us q true w = let same : t.class ≡ c = has_one c t.class w in e ∙ ap (overfull g n) q ∙
    step_close g n t us (subst (λ v. has g.opening v ≡ false) (sym same) k)
    (subst (λ v. has g.closing v ≡ true) (sym same) h)
close_at g n c h k at ts e x t us q false w = (n, e ∙ ap (overfull g n) q)

close_level : (g : Grammar) (n c : ℕ) → has g.closing c ≡ true → has g.opening c ≡ false → (at : List Terminal)
    (x : Tree) (ts : List Terminal) → overfull g (suc n) at ≡ overfull g n ts → Level g (suc n) at (kept x (skip c ts))
close_level g n c h k at x [] e = (n, e)
close_level g n c h k at x (t ∷ ts) e = close_at g n c h k at (t ∷ ts) e x t ts refl (has (c ∷ []) t.class) refl

closed_level : (g : Grammar) (n c : ℕ) → has g.closing c ≡ true → has g.opening c ≡ false → (at ts : List Terminal) →
    overfull g (suc n) at ≡ overfull g n ts → (r : Read Tree) → Level g n ts r → Level g (suc n) at
    (r >>= λ x. kept x.0 (skip c x.1))
closed_level g n c h k at ts e (Ok p) q = close_level g n c h k at p.0 p.1 (e ∙ q)
closed_level g n c h k at ts e (Err (Unexpected rest)) q = (q.0, e ∙ q.1)
closed_level g n c h k at ts e (Err (OtherVersion rest)) q = (q.0, e ∙ q.1)
closed_level g n c h k at ts e (Err (TooDeep rest)) q = e ∙ q

abbrev open_reader : ℕ → (List Terminal → Read Tree) → List Terminal → Read Tree → Read Tree
open_reader levels f ts r = r >>= λ x. opened levels f ts x.1

module _ (g : Grammar) (o c : ℕ) (ho : has g.opening o ≡ true) (hc : has g.closing c ≡ true)
    (hn : has g.opening c ≡ false) where
  open_at : (levels : ℕ) (f : List Terminal → Read Tree) → ((n : ℕ) → levels ≡ suc n → (us : List Terminal) → Level g n
      us (f us))
      → (t : Terminal) (ts : List Terminal) (v : Bool) → has (o ∷ []) t.class ≡ v → Level g levels (t ∷ ts)
      (open_reader levels (closed f c) (t ∷ ts) (as_tree (λ t. unit) (one_if v t ts)))
  open_at levels f inner t ts false q = (levels, refl)
  open_at zero f inner t ts true q = step_open g zero t ts (subst (λ v. has g.opening v ≡ true)
      (sym (has_one o t.class q)) ho)
  open_at (suc n) f inner t ts true q = closed_level g n c hc hn (t ∷ ts) ts
      (step_open g (suc n) t ts (subst (λ v. has g.opening v ≡ true) (sym (has_one o t.class q)) ho)) (f ts)
      (inner n refl ts)

  open_level : (levels : ℕ) (f : List Terminal → Read Tree) →
      ((n : ℕ) → levels ≡ suc n → (us : List Terminal) → Level g n us (f us))
      → (ts : List Terminal) → Level g levels ts (open_reader levels (closed f c) ts (skip o ts))
  open_level levels f inner [] = (levels, refl)
  open_level levels f inner (t ∷ ts) = open_at levels f inner t ts (has (o ∷ []) t.class) refl

module _ (G : Grammar) where
  reading_level : (levels : ℕ) (within : ℕ → List Terminal → Read Tree) →
      ((n : ℕ) → levels ≡ suc n → (k : ℕ) (us : List Terminal) → Level G n us (within k us))
      → (e : Ebnf) → paired G e ≡ true → (ts : List Terminal) → Level G levels ts (reading G levels within e ts)
  reading_level levels within inner (token classes keep) h ts = level_tree G levels ts keep (take_one classes ts)
      (token_level G levels classes h (λ t. has classes t.class) (λ t q. q) ts)
  reading_level levels within inner (valued c v) h ts = number_level G levels c v h ts
  reading_level levels within inner (version c vs) h ts = level_tree G levels ts (λ t. numeral t.value)
      (check_version G.any_version vs (take_if (λ t. eqb t.class c) ts)) (version_level G levels c h G.any_version vs
      ts)
  reading_level levels within inner (both x y) h ts = level_then G levels ts (λ t. reading G levels within y) pair
      (reading G levels within x ts) (reading_level levels within inner x (and_left (paired G x) (paired G y) h) ts)
      (λ t. reading_level levels within inner y (and_right (paired G x) (paired G y) h))
  reading_level levels within inner (either x y) h ts = cond_level G levels ts (begins (first x) ts)
      (after left (reading G levels within x ts)) (after right (reading G levels within y ts))
      (level_after G levels ts left (reading G levels within x ts)
      (reading_level levels within inner x (and_left (paired G x) (paired G y) h) ts))
      (level_after G levels ts right (reading G levels within y ts)
      (reading_level levels within inner y (and_right (paired G x) (paired G y) h) ts))
  reading_level levels within inner (maybe x) h ts = cond_level G levels ts (begins (first x) ts)
      (after some (reading G levels within x ts)) (Ok (none, ts))
      (level_after G levels ts some (reading G levels within x ts) (reading_level levels within inner x h ts)) refl
  reading_level levels within inner (many x) h ts = repeat_level G levels (λ k. reading G levels within x)
      (λ k. begins (first x)) (λ k x. k) (λ k. reading_level levels within inner x h) (suc (count ts)) 0 ts
  reading_level levels within inner (numbered k c x) h ts = repeat_level G levels
      (after_number c (reading G levels within x)) (λ k. begins (c ∷ [])) (λ k x. suc k)
      (λ k us. level_after G levels us (node k (place_of us))
      (and_then (reading G levels within x) pair (take_number c k us))
      (level_then G levels us (λ y. reading G levels within x) pair (take_number c k us)
      (number_level G levels c k (and_left (neutral G (c ∷ [])) (paired G x) h) us)
      (λ y. reading_level levels within inner x (and_right (neutral G (c ∷ [])) (paired G x) h))))
      (suc (count ts)) k ts
  reading_level levels within inner (prefix_trees n arity x) h ts = repeat_level G levels
      (λ k. reading G levels within x) some_missing (missing arity) (λ k. reading_level levels within inner x h)
      (suc (count ts)) n ts
  reading_level levels within inner (named m x) h ts = level_after G levels ts (m (place_of ts))
      (reading G levels within x ts) (reading_level levels within inner x h ts)
  reading_level levels within inner (inside o k c) h ts =
      let h2 : (has G.closing c && not (has G.opening c)) ≡ true = and_right (has G.opening o)
      (has G.closing c && not (has G.opening c)) h in
      open_level G o c (and_left (has G.opening o) (has G.closing c && not (has G.opening c)) h)
      (and_left (has G.closing c) (not (has G.opening c)) h2)
      (not_true (has G.opening c) (and_right (has G.closing c) (not (has G.opening c)) h2)) levels (within k)
      (λ n q us. inner n q k us) ts

  module _ (fine : (k : ℕ) → paired G (G.body k) ≡ true) where
    below_level : (n k : ℕ) (us : List Terminal) → Level G n us (below G (suc n) k us)
    below_level zero k = reading_level zero (below G zero) (λ n q. cc) (G.body k) (fine k)
    below_level (suc n) k = reading_level (suc n) (below G (suc n))
        (λ m q k us. let e : n ≡ m = omega arith in subst (λ v. Level G v us (below G (suc n) k us)) e
        (below_level n k us)) (G.body k) (fine k)

    pub read_level : (n : ℕ) (e : Ebnf) → paired G e ≡ true → (ts : List Terminal) → Level G n ts (read G n e ts)
    read_level zero e h = reading_level zero (below G zero) (λ n q. cc) e h
    read_level (suc n) e h = reading_level (suc n) (below G (suc n))
        (λ m q k us. let e : n ≡ m = omega arith in subst (λ v. Level G v us (below G (suc n) k us)) e
        (below_level n k us)) e h
