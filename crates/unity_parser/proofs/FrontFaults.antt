-- A fault stays where it is, whatever follows the next token that opens no bracket.
use Rattle.std.proofs.Common.{◌≡◌, ℕ, zero, suc, ◌≤◌, Bool, true, false, if◌then◌else◌, List, []}
use Rattle.std.proofs.Common.{◌∷◌}
use Rattle.std.proofs.Common.{◌++◌, Option, Some, None, refl, sym, ap, ◌∙◌, subst, arith}
use Rattle.std.proofs.lemmas.List.{append-nil, append_cancel_right}
use Rattle.grammar_theory.specs.Ebnf.{Terminal, Ebnf, Grammar, of_any_version, has}
use Rattle.grammar_theory.specs.Reader.{Unexpected, OtherVersion, TooDeep, count}
use Rattle.grammar_theory.specs.Answers.{Allowed, FirstBadAt, overfull, deeper, NoneBefore}
use Rattle.unity_parser.specs.Fronts.{FaultStays}

-- ---- brackets

-- How a front counts: it has a bracket too many, or leaves so many levels for what follows.
data Counted (g : Grammar) (levels : ℕ) (front : List Terminal) : Type 0 where
  too_many : (at : Terminal) (later : List Terminal)
      → ((us : List Terminal) → overfull g levels (front ++ us) ≡ Some (at ∷ (later ++ us))) → Counted g levels front
  leaves : (left : ℕ) → ((us : List Terminal) → overfull g levels (front ++ us) ≡ overfull g left us)
      → Counted g levels front

counted : (g : Grammar) (front : List Terminal) (levels : ℕ) → Counted g levels front
counted g [] levels = leaves levels (λ us. refl)
counted g (t ∷ ts) levels = at (has g.opening t.class) refl (has g.closing t.class) refl levels (counted g ts)
  where
    at : (o : Bool) → has g.opening t.class ≡ o → (c : Bool) → has g.closing t.class ≡ c → (levels : ℕ)
        → ((n : ℕ) → Counted g n ts) → Counted g levels (t ∷ ts)
    at true e c f zero ih = too_many t ts (λ us. rw e refl)
    at true e c f (suc n) ih = elim (ih n) [
      | too_many b later h ↦ too_many b later (λ us. rw e (h us))
      | leaves left h ↦ leaves left (λ us. rw e (h us))
    ]
    at false e true f n ih = elim (ih (suc n)) [
      | too_many b later h ↦ too_many b later (λ us. rw (e, f) (h us))
      | leaves left h ↦ leaves left (λ us. rw (e, f) (h us))
    ]
    at false e false f n ih = elim (ih n) [
      | too_many b later h ↦ too_many b later (λ us. rw (e, f) (h us))
      | leaves left h ↦ leaves left (λ us. rw (e, f) (h us))
    ]

count_more : (xs ys : List Terminal) → count ys ≤ count (xs ++ ys)
count_more [] ys = omega arith
count_more (x ∷ xs) ys = omega (arith, count_more xs ys)

-- what is too many stands among the tokens
overfull_inside : (g : Grammar) (ts : List Terminal) (levels : ℕ) (at : List Terminal) → overfull g levels ts ≡ Some at
    → count at ≤ count ts
overfull_inside g [] levels at e = let no : ⊥ = cc in absurd no
overfull_inside g (t ∷ ts) levels at e = go (has g.opening t.class) (has g.closing t.class) levels e
    (λ n k. overfull_inside g ts n at k)
  where
    go : (o c : Bool) (levels : ℕ) →
        (if o then deeper levels (λ n. overfull g n ts) (t ∷ ts)
        else (if c then overfull g (suc levels) ts else overfull g levels ts)) ≡ Some at →
        ((n : ℕ) → overfull g n ts ≡ Some at → count at ≤ count ts) → count at ≤ count (t ∷ ts)
    go true c zero e ih = let same : t ∷ ts ≡ at = cc in subst (λ xs. count xs ≤ count (t ∷ ts)) same (omega arith)
    go true c (suc n) e ih = omega (arith, ih n e)
    go false true n e ih = omega (arith, ih (suc n) e)
    go false false n e ih = omega (arith, ih n e)

-- no bracket before the rest is too many, whatever the rest
none_before_any : (g : Grammar) (levels : ℕ) (before rest other : List Terminal)
    → NoneBefore g levels (before ++ rest) rest → NoneBefore g levels (before ++ other) other
none_before_any g levels before rest other none = go (counted g before levels)
  where
    go : Counted g levels before → NoneBefore g levels (before ++ other) other
    go (too_many b later h) = λ at e.
        let past : count (b ∷ (later ++ rest)) ≤ count rest = none (b ∷ (later ++ rest)) (h rest) in
        absurd (omega (arith, past, count_more later rest))
    go (leaves left h) = λ at e. overfull_inside g other left at (sym (h other) ∙ e)

-- where a front has no bracket too many, none stands before the rest
pub none_before : (g : Grammar) (levels : ℕ) (front rest : List Terminal) → overfull g levels front ≡ None
    → NoneBefore g levels (front ++ rest) rest
none_before g levels front rest none = go (counted g front levels)
  where
    go : Counted g levels front → NoneBefore g levels (front ++ rest) rest
    go (too_many b later h) = absurd (differ (sym none ∙ ap (overfull g levels) (sym (append-nil front)) ∙ h []))
      where
        differ : {xs : List Terminal} → ◌≡◌ {A = Option (List Terminal)} None (Some xs) → ⊥
        differ e = cc
    go (leaves left h) = λ at e. overfull_inside g rest left at (sym (h rest) ∙ e)

-- ---- the next token

module _ (g : Grammar) (e : Ebnf) (before more us vs : List Terminal) (w : Terminal) where
  -- the first token of the rest is the same
  first_same : (more : List Terminal) (at : Terminal) (later : List Terminal) → more ++ w ∷ us ≡ at ∷ later
      → (other : List Terminal) × (more ++ w ∷ vs ≡ at ∷ other)
  first_same [] at later h = let same : w ≡ at = cc in (vs, ap (λ t. t ∷ vs) same)
  first_same (m ∷ ms) at later h = let same : m ≡ at = cc in (ms ++ w ∷ vs, ap (λ t. t ∷ (ms ++ w ∷ vs)) same)

  allowed_any : Allowed g e (before ++ (more ++ w ∷ us)) (more ++ w ∷ us)
      → Allowed g e (before ++ (more ++ w ∷ vs)) (more ++ w ∷ vs)
  allowed_any a =
      let next = first_same more a.at a.later a.rest_is in
      let front_is : before ≡ a.front = append_cancel_right before a.front (more ++ w ∷ us) a.split in
      record {
        front = a.front;
        at = a.at;
        later = next.0;
        rest_is = next.1;
        split = ap (λ xs. xs ++ (more ++ w ∷ vs)) front_is;
        opens = a.opens;
      }

some_left : (more us : List Terminal) (w : Terminal) → more ++ w ∷ us ≡ [] → ⊥
some_left [] us w h = cc
some_left (m ∷ ms) us w h = cc

first_bad_any : (g : Grammar) (e : Ebnf) (before more us vs : List Terminal) (w : Terminal)
    → FirstBadAt g e (before ++ (more ++ w ∷ us)) (more ++ w ∷ us)
    → FirstBadAt g e (before ++ (more ++ w ∷ vs)) (more ++ w ∷ vs)
first_bad_any g e before more us vs w b =
    let front_is : before ≡ b.front = append_cancel_right before b.front (more ++ w ∷ us) b.split in
    record {
      front = b.front;
      split = ap (λ xs. xs ++ (more ++ w ∷ vs)) front_is;
      opens = b.opens;
      next = λ a. b.next (allowed_any g e before more vs us w a);
      no_end = λ none. absurd (some_left more vs w none);
    }

-- ---- brackets too many

-- a bracket too many before a token that opens none is so whatever follows that
overfull_any : (g : Grammar) (levels : ℕ) (before more us vs : List Terminal) (w : Terminal)
    → has g.opening w.class ≡ false → overfull g levels (before ++ (more ++ w ∷ us)) ≡ Some (more ++ w ∷ us)
    → overfull g levels (before ++ (more ++ w ∷ vs)) ≡ Some (more ++ w ∷ vs)
overfull_any g levels before more us vs w shut e = go (counted g before levels)
  where
    same_left : (left : ℕ) (more : List Terminal) → overfull g left (more ++ w ∷ us) ≡ Some (more ++ w ∷ us)
        → overfull g left (more ++ w ∷ vs) ≡ Some (more ++ w ∷ vs)
    same_left left [] h = absurd (shut_goes_on (has g.closing w.class) refl)
      where
        shut_goes_on : (c : Bool) → has g.closing w.class ≡ c → ⊥
        shut_goes_on true f =
            let inside = overfull_inside g us (suc left) (w ∷ us) (rw (shut, f) at h) in omega (arith, inside)
        shut_goes_on false f =
            let inside = overfull_inside g us left (w ∷ us) (rw (shut, f) at h) in omega (arith, inside)
    same_left left (m ∷ ms) h = at (has g.opening m.class) (has g.closing m.class) left h
      where
        at : (o c : Bool) (left : ℕ) →
            (if o then deeper left (λ n. overfull g n (ms ++ w ∷ us)) (m ∷ (ms ++ w ∷ us))
            else (if c then overfull g (suc left) (ms ++ w ∷ us) else overfull g left (ms ++ w ∷ us)))
            ≡ Some (m ∷ (ms ++ w ∷ us)) →
            (if o then deeper left (λ n. overfull g n (ms ++ w ∷ vs)) (m ∷ (ms ++ w ∷ vs))
            else (if c then overfull g (suc left) (ms ++ w ∷ vs) else overfull g left (ms ++ w ∷ vs)))
            ≡ Some (m ∷ (ms ++ w ∷ vs))
        at true c zero h = refl
        at true c (suc n) h = absurd (omega (arith, overfull_inside g (ms ++ w ∷ us) n (m ∷ (ms ++ w ∷ us)) h))
        at false true n h = absurd (omega (arith, overfull_inside g (ms ++ w ∷ us) (suc n) (m ∷ (ms ++ w ∷ us)) h))
        at false false n h = absurd (omega (arith, overfull_inside g (ms ++ w ∷ us) n (m ∷ (ms ++ w ∷ us)) h))

    go : Counted g levels before → overfull g levels (before ++ (more ++ w ∷ vs)) ≡ Some (more ++ w ∷ vs)
    go (too_many b later h) =
        let same : b ∷ (later ++ (more ++ w ∷ us)) ≡ more ++ w ∷ us = some_same (sym (h (more ++ w ∷ us)) ∙ e) in
        absurd (omega (arith, ap count same, count_more later (more ++ w ∷ us)))
      where
        some_same : {xs ys : List Terminal} → ◌≡◌ {A = Option (List Terminal)} (Some xs) (Some ys) → xs ≡ ys
        some_same p = cc
    go (leaves left h) = h (more ++ w ∷ vs) ∙ same_left left more (sym (h (more ++ w ∷ us)) ∙ e)

-- ---- the law

pub fault_stays : FaultStays
fault_stays g levels e (Unexpected old) before more us vs w shut fault = (
  first_bad_any g e before more us vs w fault.0,
  λ a. fault.1 (allowed_any (of_any_version g) e before more vs us w a),
  none_before_any g levels before (more ++ w ∷ us) (more ++ w ∷ vs) fault.2,
)
fault_stays g levels e (OtherVersion old) before more us vs w shut fault = (
  first_bad_any g e before more us vs w fault.0,
  allowed_any (of_any_version g) e before more us vs w fault.1,
  none_before_any g levels before (more ++ w ∷ us) (more ++ w ∷ vs) fault.2,
)
fault_stays g levels e (TooDeep old) before more us vs w shut fault = (
  allowed_any g e before more us vs w fault.0,
  overfull_any g levels before more us vs w shut fault.1,
)
