-- A repetition, in a state that each item changes, is lawful where its items are.
use Rattle.std.proofs.Common.{◌≡◌, ℕ, zero, suc, Bool, true, false, cond, List, [], ◌∷◌, ◌++◌, refl, sym, ◌∙◌, ap}
use Rattle.std.proofs.Common.{subst, arith, ◌<◌, Ok, Err}
use Rattle.grammar_theory.specs.Ebnf.{Terminal, Tree, nil, more, Ebnf, Derives, Grammar, of_any_version}
use Rattle.grammar_theory.specs.LookAhead.{empties, first}
use Rattle.grammar_theory.specs.Reader.{Read, after, and_then_by, repeat, repeat_all, count}
use Rattle.grammar_theory.specs.Outcomes.{HasSome, Took, Outcome, Lawful}
use Rattle.grammar_theory.proofs.Starts.{Starts, starts, shorter}
use Rattle.grammar_theory.proofs.Parts.{Joins, Joined, joined}

-- what a reader that takes something leaves is shorter
pub takes_at : (G : Grammar) (a : Ebnf) (f : List Terminal → Read Tree) → empties a ≡ false → (ts : List Terminal)
    (r : Read Tree) → Outcome G a f ts r → (x : Tree) (rest : List Terminal) → r ≡ Ok (x, rest) → count rest < count ts
takes_at G a f full ts (Ok (y, end)) o x rest h =
    let q0 : ◌≡◌ {A = Tree × List Terminal} (y, end) (x, rest) = cc in
    let q : end ≡ rest = ap (λ (p : Tree × List Terminal). p.1) q0 in
    let s : Starts false (first a) o.taken = subst (λ v. Starts v (first a) o.taken) full (starts o.tree) in
    let l : count end < count (o.taken ++ end) = shorter (first a) o.taken end s in
    subst (λ v. count v < count ts) q (subst (λ v. count end < count v) (sym o.split) l)
takes_at G a f full ts (Err d) o x rest h = cc

-- In the state k the form `form k` is read: an item `part k` as long as it goes on, and then in the next state.
pub record IsRepetition (G : Grammar) (form part : ℕ → Ebnf) (item : ℕ → List Terminal → Read Tree)
    (goes_on : ℕ → List Terminal → Bool) (next : ℕ → Tree → ℕ) : Type 0 where
  pub lawful : (k : ℕ) → Lawful G (part k) (item k)
  pub full : (k : ℕ) → empties (part k) ≡ false
  pub has_some : (k : ℕ) → HasSome G (form k)
  pub same : (k : ℕ) (us : List Terminal) (t : Terminal) (was now : List Terminal) → goes_on k (us ++ t ∷ was) ≡ goes_on
      k (us ++ t ∷ now)
  pub ends : (k : ℕ) (ts : List Terminal) → goes_on k ts ≡ false → Derives G (form k) nil []
  pub goes : (k : ℕ) (ts : List Terminal) → goes_on k ts ≡ true → Joins G (part k) (λ x. form (next k x)) (form k) more
  pub goes_any : (k : ℕ) (ts : List Terminal) → goes_on k ts ≡ true → Joins (of_any_version G) (part k)
      (λ x. form (next k x)) (form k) more

module _ (G : Grammar) (form part : ℕ → Ebnf) (item : ℕ → List Terminal → Read Tree)
    (goes_on : ℕ → List Terminal → Bool) (next : ℕ → Tree → ℕ) (is : IsRepetition G form part item goes_on next) where
  takes : (k : ℕ) (w : List Terminal) (x : Tree) (rest : List Terminal) → item k w ≡ Ok (x, rest) → count rest < count w
  takes k w x rest h = takes_at G (part k) (item k) (is.full k) w (item k w) (is.lawful k w) x rest h

  turns_step : (n m k : ℕ) (w : List Terminal) (b : Bool) (r : Read Tree) → item k w ≡ r
      → ((j : ℕ) (v : List Terminal) → count v < count w → repeat item goes_on next n j v ≡ repeat item goes_on next m j
      v)
      → cond b (and_then_by (λ x. repeat item goes_on next n (next k x)) more r) (Ok (nil, w)) ≡ cond b
      (and_then_by (λ x. repeat item goes_on next m (next k x)) more r) (Ok (nil, w))
  turns_step n m k w false r q ih = refl
  turns_step n m k w true (Ok (x, v)) q ih = ap (after (more x)) (ih (next k x) v (takes k w x v q))
  turns_step n m k w true (Err d) q ih = refl

  -- turns that are enough all do the same
  turns : (n m k : ℕ) (w : List Terminal) → count w < n → count w < m → repeat item goes_on next n k w ≡ repeat item
      goes_on next m k w
  turns zero m k w h l = absurd (omega arith)
  turns (suc n) zero k w h l = absurd (omega arith)
  turns (suc n) (suc m) k w h l = turns_step n m k w (goes_on k w) (item k w) refl
      (λ j v q. turns n m j v (omega arith) (omega arith))

  abbrev rep : ℕ → List Terminal → Read Tree
  rep k w = repeat_all item goes_on next k w

  onward : (k : ℕ) (w : List Terminal) (r : Read Tree) → item k w ≡ r → and_then_by
      (λ x. repeat item goes_on next (count w) (next k x)) more r ≡ and_then_by (λ x. rep (next k x)) more r
  onward k w (Ok (x, v)) q = let l : count v < count w = takes k w x v q in ap (after (more x))
      (turns (count w) (suc (count v)) (next k x) v (omega arith) (omega arith))
  onward k w (Err d) q = refl

  pub repeat_more : (k : ℕ) (w : List Terminal) → goes_on k w ≡ true → rep k w ≡ and_then_by (λ x. rep (next k x)) more
      (item k w)
  repeat_more k w h = ap (λ b. cond b (and_then_by (λ x. repeat item goes_on next (count w) (next k x)) more (item k w))
      (Ok (nil, w))) h ∙ onward k w (item k w) refl

  pub repeat_stop : (k : ℕ) (w : List Terminal) → goes_on k w ≡ false → rep k w ≡ Ok (nil, w)
  repeat_stop k w h = ap (λ b. cond b (and_then_by (λ x. repeat item goes_on next (count w) (next k x)) more (item k w))
      (Ok (nil, w))) h

  repeat_here : (k : ℕ) (w : List Terminal) → goes_on k w ≡ false → Took G (form k) (rep k) w nil w
  repeat_here k w h = record {
    taken = [];
    split = refl;
    tree = is.ends k w h;
    local = λ t was now e. let q : goes_on k (t ∷ was) ≡ false = subst (λ v. goes_on k v ≡ false) e h in repeat_stop k
        (t ∷ now) (sym (is.same k [] t was now) ∙ q);
  }

  repeat_joined : (k : ℕ) (w : List Terminal) → goes_on k w ≡ true → Joined G (part k) (λ x. form (next k x)) (form k)
      (item k) (λ x. rep (next k x)) (rep k) more w
  repeat_joined k w h = record {
    joins = is.goes k w h;
    joins_any = is.goes_any k w h;
    rest = λ x. is.has_some (next k x);
    same = λ us t was now e. repeat_more k (us ++ t ∷ now) (sym (is.same k us t was now) ∙ ap (goes_on k) (sym e) ∙ h);
  }

  repeat_step : (k : ℕ) (w : List Terminal) (b : Bool) → goes_on k w ≡ b →
      ((j : ℕ) (v : List Terminal) → count v < count w → Outcome G (form j) (rep j) v (rep j v)) → Outcome G (form k)
      (rep k) w (rep k w)
  repeat_step k w true h ih = subst (λ r. Outcome G (form k) (rep k) w r) (sym (repeat_more k w h))
      (joined (repeat_joined k w h) (item k w) (is.lawful k w)
      (λ x rest o. ih (next k x) rest (takes_at G (part k) (item k) (is.full k) w (Ok (x, rest)) o x rest refl)))
  repeat_step k w false h ih = subst (λ r. Outcome G (form k) (rep k) w r) (sym (repeat_stop k w h)) (repeat_here k w h)

  repeat_outcome : (n k : ℕ) (w : List Terminal) → count w < n → Outcome G (form k) (rep k) w (rep k w)
  repeat_outcome zero k w h = absurd (omega arith)
  repeat_outcome (suc n) k w h = repeat_step k w (goes_on k w) refl (λ j v l. repeat_outcome n j v (omega arith))

  pub repeat_lawful : (k : ℕ) → Lawful G (form k) (rep k)
  repeat_lawful k w = repeat_outcome (suc (count w)) k w (omega arith)
