-- The reader's answer for a whole list of tokens is exact, and a list has one tree at most.
use Rattle.std.proofs.Common.{◌≡◌, ℕ, zero, suc, Bool, true, false, cond, List, [], ◌∷◌, ◌++◌, refl, sym, ◌∙◌, ap}
use Rattle.std.proofs.Common.{subst, arith, append_assoc, append-nil, inl, inr, ◌≤◌, ◌<◌, Ok, Err, Some}
use Rattle.std.proofs.lemmas.List.{append_cancel_right}
use Rattle.grammar_theory.specs.Ebnf.{Terminal, Tree, Ebnf, Derives, Grammar, of_any_version, has}
use Rattle.grammar_theory.specs.LookAhead.{good, IsGrammar, IsForm}
use Rattle.grammar_theory.specs.Reader.{Read, Unexpected, OtherVersion, TooDeep, ◌>>=◌, count, read, ended, read_whole}
use Rattle.grammar_theory.specs.Answers.{Allowed, deeper, overfull, NoneBefore, IsReadAnswer}
use Rattle.grammar_theory.specs.Outcomes.{Took, Outcome}
use Rattle.grammar_theory.specs.Laws.{IsReadAs}
use Rattle.grammar_theory.proofs.Versions.{allowed_any}
use Rattle.grammar_theory.proofs.VersionReader.{Alike, read_alike, good_any, grammar_any}
use Rattle.grammar_theory.proofs.Complete.{reader_lawful, complete}
use Rattle.grammar_theory.proofs.Levels.{Level, read_level}

-- what is overfull is a part of the tokens
suffix_step : (g : Grammar) (n : ℕ) (t : Terminal) (ts at : List Terminal) →
    ((m : ℕ) → overfull g m ts ≡ Some at → (count at ≤ count ts) × (m < count ts)) → (v w : Bool)
    → cond v (deeper n (λ m. overfull g m ts) (t ∷ ts)) (cond w (overfull g (suc n) ts) (overfull g n ts)) ≡ Some at →
    (count at ≤ suc (count ts)) × (n < suc (count ts))
suffix_step g zero t ts at ih true w h = let e : t ∷ ts ≡ at = cc in
    (let q : count (t ∷ ts) ≡ count at = ap count e in omega arith, omega arith)
suffix_step g (suc n) t ts at ih true w h = let q : (count at ≤ count ts) × (n < count ts) = ih n h in
    (omega arith, omega arith)
suffix_step g n t ts at ih false true h = let q : (count at ≤ count ts) × (suc n < count ts) = ih (suc n) h in
    (omega arith, omega arith)
suffix_step g n t ts at ih false false h = let q : (count at ≤ count ts) × (n < count ts) = ih n h in
    (omega arith, omega arith)

pub suffix : (g : Grammar) (n : ℕ) (ts at : List Terminal) → overfull g n ts ≡ Some at → (count at ≤ count ts) ×
    (n < count ts)
suffix g n [] at h = cc
suffix g n (t ∷ ts) at h = suffix_step g n t ts at (λ m. suffix g m ts at) (has g.opening t.class)
    (has g.closing t.class) h

-- The reader doesn't take the tokens to their end.
abbrev NotRead : Read Tree → Type 0
NotRead r = (y : Tree) → ¬ IsReadAs r y []

not_ok : (r : Read Tree) (x : Tree) (t : Terminal) (ts : List Terminal) → r ≡ Ok (x, t ∷ ts) → NotRead r
not_ok r x t ts h y (inl e) = let q : ◌≡◌ {A = Tree × List Terminal} (y, []) (x, t ∷ ts) = cc in
    let w : ◌≡◌ {A = List Terminal} [] (t ∷ ts) = ap (λ (p : Tree × List Terminal). p.1) q in cc
not_ok r x t ts h y (inr d) = let e : r ≡ Err (TooDeep d.0) = d.1 in cc

not_unexpected : (r : Read Tree) (ts : List Terminal) → r ≡ Err (Unexpected ts) → NotRead r
not_unexpected r ts h y (inl e) = cc
not_unexpected r ts h y (inr d) = let e : r ≡ Err (TooDeep d.0) = d.1 in cc

not_version : (r : Read Tree) (ts : List Terminal) → r ≡ Err (OtherVersion ts) → NotRead r
not_version r ts h y (inl e) = cc
not_version r ts h y (inr d) = let e : r ≡ Err (TooDeep d.0) = d.1 in cc

alike_ok : (r s : Read Tree) (x : Tree) (t : Terminal) (ts : List Terminal) → Alike r s → r ≡ Ok (x, t ∷ ts) → NotRead s
alike_ok r s x t ts (inl e) h = not_ok s x t ts (e ∙ h)
alike_ok r s x t ts (inr d) h = let e : r ≡ Err (OtherVersion d.0) = d.1 in cc

alike_unexpected : (r s : Read Tree) (ts : List Terminal) → Alike r s → r ≡ Err (Unexpected ts) → NotRead s
alike_unexpected r s ts (inl e) h = not_unexpected s ts (e ∙ h)
alike_unexpected r s ts (inr d) h = let e : r ≡ Err (OtherVersion d.0) = d.1 in cc

same_tree : (r : Read Tree) (x y : Tree) → IsReadAs r x [] → IsReadAs r y [] →
    ((at : List Terminal) → r ≡ Err (TooDeep at) → ⊥) → x ≡ y
same_tree r x y (inl e) (inl q) h = let w : ◌≡◌ {A = Tree × List Terminal} (x, []) (y, []) = cc in ap
    (λ (p : Tree × List Terminal). p.0) w
same_tree r x y (inl e) (inr d) h = absurd (h d.0 d.1)
same_tree r x y (inr d) q h = absurd (h d.0 d.1)

module _ (G : Grammar) (is : IsGrammar G) (e : Ebnf) (ge : good G e ≡ true) where
  pub reads_all : (n : ℕ) (x : Tree) (ts : List Terminal) → Derives G e x ts → IsReadAs (read G n e ts) x []
  reads_all n x ts d = let P : List Terminal → Type 0 = λ v. IsReadAs (read G n e v) x [] in subst P (append-nil ts)
      (complete G is d ge n [] refl)

  -- no token is allowed at which the reader doesn't go on
  not_allowed : (n : ℕ) (ts front rest : List Terminal) → ts ≡ front ++ rest →
      ((t : Terminal) (was now : List Terminal) → rest ≡ t ∷ was → NotRead (read G n e (front ++ t ∷ now))) → ¬ Allowed
      G e ts rest
  not_allowed n ts front rest split stops a =
      let same : a.front ≡ front = append_cancel_right a.front front rest (sym a.split ∙ split) in
      let d : Derives G e a.opens.tree (front ++ a.at ∷ a.opens.rest) = subst (λ v. Derives G e a.opens.tree v)
      (append_assoc a.front (a.at ∷ []) a.opens.rest ∙ ap (λ v. v ++ a.at ∷ a.opens.rest) same) a.opens.derives
      in
      stops a.at a.later a.opens.rest a.rest_is a.opens.tree (reads_all n a.opens.tree (front ++ a.at ∷ a.opens.rest) d)

module _ (G : Grammar) (is : IsGrammar G) (e : Ebnf) (form : IsForm G e) where
  -- nor in any version
  not_allowed_any : (n : ℕ) (ts front rest : List Terminal) → ts ≡ front ++ rest →
      ((t : Terminal) (was now : List Terminal) → rest ≡ t ∷ was → NotRead
      (read (of_any_version G) n e (front ++ t ∷ now))) → ¬ Allowed (of_any_version G) e ts rest
  not_allowed_any = not_allowed (of_any_version G) (grammar_any G is) e (good_any G e ∙ form.is_good)

  before : (n k : ℕ) (ts rest : List Terminal) → overfull G n ts ≡ overfull G k rest → NoneBefore G n ts rest
  before n k ts rest h at q = (suffix G k rest at (sym h ∙ q)).0

  at_ok : (n : ℕ) (ts : List Terminal) (x : Tree) (rest : List Terminal) → Took G e (read G n e) ts x rest → overfull G
      n ts ≡ overfull G n rest → IsReadAnswer G n e ts (ended x rest)
  at_ok n ts x [] o l = (subst (λ v. Derives G e x v) (sym (o.split ∙ append-nil o.taken)) o.tree, l)
  at_ok n ts x (t ∷ rest) o l =
      let none : ¬ Allowed (of_any_version G) e ts (t ∷ rest) = not_allowed_any n ts o.taken (t ∷ rest) o.split
      (λ s was now q. alike_ok (read G n e (o.taken ++ s ∷ now))
      (read (of_any_version G) n e (o.taken ++ s ∷ now)) x s now (read_alike G n e (o.taken ++ s ∷ now))
      (o.local s was now q)) in (
        record {
          front = o.taken;
          split = o.split;
          opens = record {
            tree = x;
            rest = [];
            derives = subst (λ v. Derives G e x v) (sym (append-nil o.taken)) o.tree;
          };
          next = λ a. none (allowed_any a);
          no_end = λ q. cc;
        },
        none,
        before n n ts (t ∷ rest) l,
      )

  at_any : (n : ℕ) (ts : List Terminal) (r : Read Tree) → read G n e ts ≡ r → Outcome G e (read G n e) ts r → Level G n
      ts r → IsReadAnswer G n e ts (r >>= λ x. ended x.0 x.1)
  at_any n ts (Ok (x, rest)) r o l = at_ok n ts x rest o l
  at_any n ts (Err (Unexpected rest)) r o l =
      let none : ¬ Allowed (of_any_version G) e ts rest = not_allowed_any n ts o.front rest o.split
      (λ t was now q. alike_unexpected (read G n e (o.front ++ t ∷ now))
      (read (of_any_version G) n e (o.front ++ t ∷ now)) (t ∷ now) (read_alike G n e (o.front ++ t ∷ now))
      (o.local t was now q)) in (
        record {
          front = o.front;
          split = o.split;
          opens = o.opens;
          next = λ a. none (allowed_any a);
          no_end = λ q x d. not_unexpected (read G n e ts) rest r x (reads_all G is e form.is_good n x ts d);
        },
        none,
        before n l.0 ts rest l.1,
      )
  at_any n ts (Err (OtherVersion rest)) r o l = (
    record {
      front = o.front;
      split = o.split;
      opens = o.opens;
      next = not_allowed G is e form.is_good n ts o.front rest o.split
          (λ t was now q. let same : o.at ≡ t = first_same o.at t o.later was (sym o.rest_is ∙ q) in not_version
          (read G n e (o.front ++ t ∷ now)) (o.at ∷ now) (ap (λ s. read G n e (o.front ++ s ∷ now)) (sym same) ∙ o.local
          now));
      no_end = λ q x d. let w : rest ≡ o.at ∷ o.later = o.rest_is in cc;
    },
    record { front = o.front; at = o.at; later = o.later; rest_is = o.rest_is; split = o.split; opens = o.other },
    before n l.0 ts rest l.1,
  )
    where
      first_same : (s t : Terminal) (ss ts : List Terminal) → s ∷ ss ≡ t ∷ ts → s ≡ t
      first_same s t ss ts h = cc
  at_any n ts (Err (TooDeep rest)) r o l = (o, l)

  pub exact : (n : ℕ) (ts : List Terminal) → IsReadAnswer G n e ts (read_whole G n e ts)
  exact n ts = at_any n ts (read G n e ts) refl (reader_lawful G is n e form.is_good ts)
      (read_level G is.bodies_paired n e form.is_paired ts)

  never_deep : (ts at : List Terminal) (r : Read Tree) → r ≡ Err (TooDeep at) → Level G (count ts) ts r → ⊥
  never_deep ts at r q l = let P : Read Tree → Type 0 = λ v. Level G (count ts) ts v in
      let h : overfull G (count ts) ts ≡ Some at = subst P q l in
      let w : (count at ≤ count ts) × (count ts < count ts) = suffix G (count ts) ts at h in omega arith

  pub unique : (x y : Tree) (ts : List Terminal) → Derives G e x ts → Derives G e y ts → x ≡ y
  unique x y ts d1 d2 = same_tree (read G (count ts) e ts) x y (reads_all G is e form.is_good (count ts) x ts d1)
      (reads_all G is e form.is_good (count ts) y ts d2) (λ at q. never_deep ts at (read G (count ts) e ts) q
      (read_level G is.bodies_paired (count ts) e form.is_paired ts))
