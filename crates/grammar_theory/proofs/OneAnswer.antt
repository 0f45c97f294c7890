-- A list of tokens has one exact answer at most.
use Rattle.std.proofs.Common.{◌≡◌, ℕ, List, [], ◌∷◌, ◌++◌, refl, sym, ◌∙◌, ap, subst, arith, append_assoc, ◌⊎◌, inl}
use Rattle.std.proofs.Common.{inr, ◌≤◌, ◌<◌, Ok, Err, Result, Option, Some, None}
use Rattle.grammar_theory.specs.Ebnf.{Terminal, Tree, Ebnf, Derives, Grammar, of_any_version}
use Rattle.grammar_theory.specs.LookAhead.{IsGrammar, IsForm}
use Rattle.grammar_theory.specs.Reader.{Fault, Unexpected, OtherVersion, TooDeep, count}
use Rattle.grammar_theory.specs.Answers.{Opens, Allowed, FirstBadAt, overfull, NoneBefore, IsReadFault, IsReadAnswer}
use Rattle.grammar_theory.proofs.Theorems.{unique}

-- One rest begins before another front ends.
record Before (front rest front' rest' : List Terminal) : Type 0 where
  at : Terminal
  mid : List Terminal
  front_is : front' ≡ front ++ at ∷ mid
  rest_is : rest ≡ at ∷ (mid ++ rest')

before_next : (t : Terminal) {f r f' r' : List Terminal} → Before f r f' r' → Before (t ∷ f) r (t ∷ f') r'
before_next t b = record { at = b.at; mid = b.mid; front_is = ap (λ v. t ∷ v) b.front_is; rest_is = b.rest_is }

compare : (f r f' r' : List Terminal) → f ++ r ≡ f' ++ r' → (r ≡ r') ⊎ (Before f r f' r' ⊎ Before f' r' f r)
compare [] r [] r' h = inl h
compare [] r (t ∷ f') r' h = inr (inl (record { at = t; mid = f'; front_is = refl; rest_is = h }))
compare (t ∷ f) r [] r' h = inr (inr (record { at = t; mid = f; front_is = refl; rest_is = sym h }))
compare (t ∷ f) r (s ∷ f') r' h =
    let q : f ++ r ≡ f' ++ r' = cc in let w : t ≡ s = cc in
    go (compare f r f' r' q) w
  where
    go : (r ≡ r') ⊎ (Before f r f' r' ⊎ Before f' r' f r) → t ≡ s → (r ≡ r') ⊎
        (Before (t ∷ f) r (s ∷ f') r' ⊎ Before (s ∷ f') r' (t ∷ f) r)
    go (inl e) w = inl e
    go (inr (inl b)) w = inr (inl (subst (λ (u : Terminal). Before (t ∷ f) r (u ∷ f') r') w (before_next t b)))
    go (inr (inr b)) w = inr (inr (subst (λ (u : Terminal). Before (u ∷ f') r' (t ∷ f) r) w (before_next t b)))

before_shorter : (f r f' r' : List Terminal) → Before f r f' r' → count r' < count r
before_shorter f r f' r' b = let q : count r ≡ count (b.at ∷ (b.mid ++ r')) = ap count b.rest_is in omega
    (arith, q, further b.mid)
  where
    further : (us : List Terminal) → count r' ≤ count (us ++ r')
    further [] = omega arith
    further (u ∷ us) = omega (arith, further us)

opens_shorter : (G : Grammar) (e : Ebnf) (f p : List Terminal) → Opens G e (f ++ p) → Opens G e f
opens_shorter G e f p o = record {
  tree = o.tree;
  rest = p ++ o.rest;
  derives = subst (λ v. Derives G e o.tree v)
      (append_assoc f p o.rest) o.derives;
}

module _ (G : Grammar) (e : Ebnf) (ts : List Terminal) where
  -- what stands before open tokens is allowed
  allowed_before : (f r f' r' : List Terminal) → ts ≡ f ++ r → Before f r f' r' → Opens G e f' → Allowed G e ts r
  allowed_before f r f' r' split b o = record {
    front = f;
    at = b.at;
    later = b.mid ++ r';
    rest_is = b.rest_is;
    split = split;
    opens = opens_shorter G e (f ++ b.at ∷ []) b.mid (subst (λ v. Opens G e v)
        (b.front_is ∙ sym (append_assoc f (b.at ∷ []) b.mid)) o);
  }

  not_derived : (x : Tree) (rest : List Terminal) → Derives G e x ts → FirstBadAt G e ts rest → ⊥
  not_derived x [] d b = b.no_end refl x d
  not_derived x (t ∷ rest) d b = b.next (record {
    front = b.front;
    at = t;
    later = rest;
    rest_is = refl;
    split = b.split;
    opens = record {
      tree = x;
      rest = rest;
      derives = subst (λ v. Derives G e x v)
          (b.split ∙ sym (append_assoc b.front (t ∷ []) rest)) d;
    };
  })

  same_bad : (r s : List Terminal) → FirstBadAt G e ts r → FirstBadAt G e ts s → r ≡ s
  same_bad r s a b = go (compare a.front r b.front s (sym a.split ∙ b.split))
    where
      go : (r ≡ s) ⊎ (Before a.front r b.front s ⊎ Before b.front s a.front r) → r ≡ s
      go (inl q) = q
      go (inr (inl w)) = absurd (a.next (allowed_before a.front r b.front s a.split w b.opens))
      go (inr (inr w)) = absurd (b.next (allowed_before b.front s a.front r b.split w a.opens))

  -- a bracket too many that is allowed stands before the first bad token, or nowhere
  bad_or_deep : (levels : ℕ) (r s : List Terminal) → FirstBadAt G e ts r → NoneBefore G levels ts r → Allowed G e ts s →
      overfull G levels ts ≡ Some s → ⊥
  bad_or_deep levels r s a n b q = go (compare a.front r b.front s (sym a.split ∙ b.split))
    where
      go : (r ≡ s) ⊎ (Before a.front r b.front s ⊎ Before b.front s a.front r) → ⊥
      go (inl p) = a.next (subst (λ v. Allowed G e ts v) (sym p) b)
      go (inr (inl w)) = a.next (allowed_before a.front r b.front s a.split w
          (opens_shorter G e b.front (b.at ∷ []) b.opens))
      go (inr (inr w)) = let l : count s ≤ count r = n s q in
          let m : count r < count s = before_shorter b.front s a.front r w in omega arith

  same_fault : (levels : ℕ) (a b : Fault) → IsReadFault G levels e ts a → IsReadFault G levels e ts b → a ≡ b
  same_fault levels (Unexpected r) (Unexpected s) h k = ap Unexpected (same_bad r s h.0 k.0)
  same_fault levels (Unexpected r) (OtherVersion s) h k = absurd
      (h.1 (subst (λ v. Allowed (of_any_version G) e ts v) (same_bad s r k.0 h.0) k.1))
  same_fault levels (Unexpected r) (TooDeep s) h k = absurd (bad_or_deep levels r s h.0 h.2 k.0 k.1)
  same_fault levels (OtherVersion r) (Unexpected s) h k = absurd
      (k.1 (subst (λ v. Allowed (of_any_version G) e ts v) (same_bad r s h.0 k.0) h.1))
  same_fault levels (OtherVersion r) (OtherVersion s) h k = ap OtherVersion (same_bad r s h.0 k.0)
  same_fault levels (OtherVersion r) (TooDeep s) h k = absurd (bad_or_deep levels r s h.0 h.2 k.0 k.1)
  same_fault levels (TooDeep r) (Unexpected s) h k = absurd (bad_or_deep levels s r k.0 k.2 h.0 h.1)
  same_fault levels (TooDeep r) (OtherVersion s) h k = absurd (bad_or_deep levels s r k.0 k.2 h.0 h.1)
  same_fault levels (TooDeep r) (TooDeep s) h k = let q : r ≡ s = same_some r s (sym h.1 ∙ k.1) in ap TooDeep q
    where
      same_some : (r s : List Terminal) → ◌≡◌ {A = Option (List Terminal)} (Some r) (Some s) → r ≡ s
      same_some r s q = cc

  no_fault : (levels : ℕ) (x : Tree) (d : Fault) → Derives G e x ts → overfull G levels ts ≡ None → IsReadFault G levels
      e
      ts d → ⊥
  no_fault levels x (Unexpected r) d o h = not_derived x r d h.0
  no_fault levels x (OtherVersion r) d o h = not_derived x r d h.0
  no_fault levels x (TooDeep r) d o h = let q : overfull G levels ts ≡ Some r = h.1 in cc

  pub one_answer : IsGrammar G → IsForm G e → (levels : ℕ) (a b : Result Tree Fault) → IsReadAnswer G levels e ts a →
      IsReadAnswer G levels e ts b → a ≡ b
  one_answer is form levels (Ok x) (Ok y) h k = ap Ok (unique G is e form x y ts h.0 k.0)
  one_answer is form levels (Ok x) (Err d) h k = absurd (no_fault levels x d h.0 h.1 k)
  one_answer is form levels (Err d) (Ok y) h k = absurd (no_fault levels y d k.0 k.1 h)
  one_answer is form levels (Err c) (Err d) h k = ap Err (same_fault levels c d h k)
