-- What a window holds of the bytes to come, and what is left of them after a drop.
use Rattle.std.proofs.Common.{◌≡◌, ℕ, ◌+◌, ◌-◌, ◌<◌, ◌≤◌, Bool, true, false, List, [], ◌∷◌, ◌++◌}
use Rattle.std.proofs.Common.{length, take, drop, Option, Some, None, refl, sym, ap, ◌∙◌, subst, arith, append_assoc}
use Rattle.std.specs.List.{list_all, prefix_len}
use Rattle.std.specs.Io.KnownBytes.{Keeps, Consumes, IsAtEnd, prepend_known}
use Rattle.std.proofs.KnownBytes.{Consumes-nil, Consumes-trans, Consumes-kept}
use Rattle.std.proofs.lemmas.List.{take_all, take-append-le, drop-append-le, take-append-drop, length-append}
use Rattle.std.proofs.lemmas.List.{length-take, length-take-le, append-nil}
use Rattle.std.proofs.lemmas.List.Sums.{prefix_len-le-length}
use Rattle.unity_base.specs.declared.window.Window.{Window}
use Rattle.unity_base.specs.Window.{held, coming, window_bytes, HasRead, HasDropped, HasPassed}
use Rattle.unity_base.specs.Window.{PassesLimit}
use Rattle.unity_lexer.specs.declared.stretches.Run.{Run}
use Rattle.unity_lexer.specs.Windows.{goes_on, IsKnown, RunEndsAt, RunHalts, HasTaken, HasRun, HasKept}
use Rattle.unity_lexer.proofs.Longest.{and_left, and_right, both, front_passes}

-- ---- told bytes

-- what is told of the bytes to come begins with those held
pub known : (xs : List ℕ) (left : Option (List ℕ)) (bytes : List ℕ) → prepend_known xs left ≡ Some bytes
    → (more : List ℕ) × (left ≡ Some more) × (bytes ≡ xs ++ more)
known xs None bytes e = let no : ⊥ = cc in absurd no
known xs (Some more) bytes e = let same : bytes ≡ xs ++ more = cc in (more, refl, same)

-- and with those that may be looked at
pub shown : (w : Window) (left : Option (List ℕ)) (bytes : List ℕ) → coming w left ≡ Some bytes
    → (more : List ℕ) × (bytes ≡ window_bytes w ++ more)
shown w left bytes e =
    let told = known (held w) left bytes e in
    let k = w.limit - w.at in (
      drop k (held w) ++ told.0,
      told.2 ∙ ap (λ xs. xs ++ told.0) (sym (take-append-drop k (held w)))
          ∙ append_assoc (take k (held w)) (drop k (held w)) told.0,
    )

-- within the limit all that is held may be looked at
pub all_shown : (w : Window) → w.at + length (held w) ≤ w.limit → window_bytes w ≡ held w
all_shown w inside = take_all (w.limit - w.at) (held w) (omega arith)

-- past the limit, so is all that comes
pub passes_limit : (w : Window) (left : Option (List ℕ)) → w.limit < w.at + length (held w)
    → PassesLimit w (coming w left)
passes_limit w None past = tt
passes_limit w (Some more) past = omega (arith, length-append (held w) more)

-- what was consumed was told
pub consumed_told : (before after : Option (List ℕ)) (front bytes : List ℕ) → Consumes before after front
    → before ≡ Some bytes → (rest : List ℕ) × (after ≡ Some rest) × (bytes ≡ front ++ rest)
consumed_told None after front bytes p e = let no : ⊥ = cc in absurd no
consumed_told (Some x) None front bytes p e = absurd p
consumed_told (Some x) (Some y) front bytes p e = let same : bytes ≡ x = cc in (y, refl, same ∙ p)

pub kept_told : (before after : Option (List ℕ)) (bytes : List ℕ) → Keeps before after → before ≡ Some bytes
    → after ≡ Some bytes
kept_told None after bytes p e = let no : ⊥ = cc in absurd no
kept_told (Some x) None bytes p e = absurd p
kept_told (Some x) (Some y) bytes p e = ap (λ xs. Some xs) p ∙ e

-- ---- what was taken

dropped : (left : Option (List ℕ)) (xs ys : List ℕ) (count : ℕ) → ys ≡ drop count xs
    → Consumes (prepend_known xs left) (prepend_known ys left) (take count xs)
dropped None xs ys count e = tt
dropped (Some more) xs ys count e =
    ap (λ l. l ++ more) (sym (take-append-drop count xs)) ∙ append_assoc (take count xs) (drop count xs) more
    ∙ ap (λ l. take count xs ++ (l ++ more)) (sym e)

pub taken_none : (w : Window) (left : Option (List ℕ)) → HasTaken w w left left []
taken_none w left = record { consumes = Consumes-nil (coming w left); at = omega arith; limit = refl }

pub taken_read : (u v w : Window) (a b c : Option (List ℕ)) (xs : List ℕ) → HasTaken u v a b xs → HasRead v w b c
    → HasTaken u w a c xs
taken_read u v w a b c xs t r = record {
  consumes = Consumes-kept _ _ _ xs t.consumes r.keeps;
  at = r.at ∙ t.at;
  limit = r.limit ∙ t.limit;
}

pub taken_then : (u v w : Window) (a b c : Option (List ℕ)) (xs ys : List ℕ) → HasTaken u v a b xs
    → HasTaken v w b c ys → HasTaken u w a c (xs ++ ys)
taken_then u v w a b c xs ys t s = record {
  consumes = Consumes-trans _ _ _ xs ys t.consumes s.consumes;
  at = let first = t.at in let then = s.at in omega (arith, length-append xs ys);
  limit = s.limit ∙ t.limit;
}

pub taken_front : (v w : Window) (left : Option (List ℕ)) (n : ℕ) → HasDropped v w n → n ≤ length (held v)
    → HasTaken v w left left (take n (held v))
taken_front v w left n d fits = record {
  consumes = dropped left (held v) (held w) n d.rest;
  at = let moved = d.at in omega (arith, length-take-le n (held v) fits);
  limit = d.limit;
}

pub taken_passed : (u v : Window) (a b : Option (List ℕ)) (xs : List ℕ) → HasTaken u v a b xs → HasPassed u v a b
taken_passed u v a b xs t = record { dropped = xs; consumes = t.consumes; at = t.at; limit = t.limit }

pub passed_taken : (u v : Window) (a b : Option (List ℕ)) (p : HasPassed u v a b) → HasTaken u v a b p.dropped
passed_taken u v a b p = record { consumes = p.consumes; at = p.at; limit = p.limit }

pub shown_fits : (w : Window) → length (window_bytes w) ≤ length (held w)
shown_fits w = omega (arith, length-take (w.limit - w.at) (held w))

pub shown_inside : (w : Window) → w.at + length (window_bytes w) ≤ w.limit
shown_inside w = let inside = w.in_limit in omega (arith, length-take (w.limit - w.at) (held w))

take_shown : (w : Window) (n : ℕ) → n ≤ length (window_bytes w) → take n (window_bytes w) ≡ take n (held w)
take_shown w n short =
    let k = w.limit - w.at in
    sym (ap (take n) (sym (take-append-drop k (held w))) ∙ take-append-le n (take k (held w)) (drop k (held w)) short)

-- where so many were dropped, they are dropped of what is told
pub dropped_told : (v w : Window) (left : Option (List ℕ)) (n : ℕ) (bytes : List ℕ) → HasDropped v w n
    → n ≤ length (held v) → coming v left ≡ Some bytes → coming w left ≡ Some (drop n bytes)
dropped_told v w left n bytes d fits e =
    let told = known (held v) left bytes e in
    ap (λ l. prepend_known (held w) l) told.1
    ∙ ap (λ xs. Some (xs ++ told.0)) d.rest
    ∙ ap (λ xs. Some xs) (sym (drop-append-le n (held v) told.0 fits) ∙ ap (drop n) (sym told.2))

-- ---- runs

pub all_append : (p : ℕ → Bool) (xs ys : List ℕ) → list_all p xs ≡ true → list_all p ys ≡ true
    → list_all p (xs ++ ys) ≡ true
all_append p [] ys h k = k
all_append p (x ∷ xs) ys h k = both _ _ (and_left _ _ h) (all_append p xs ys (and_right _ _ h) k)

pub run_none : (r : Run) (w : Window) (left : Option (List ℕ)) → HasRun r w w left left
run_none r w left = record { dropped = []; taken = taken_none w left; passes = refl }

pub run_read : (r : Run) (u v w : Window) (a b c : Option (List ℕ)) → HasRun r u v a b → HasRead v w b c
    → HasRun r u w a c
run_read r u v w a b c h q = record {
  dropped = h.dropped;
  taken = taken_read u v w a b c h.dropped h.taken q;
  passes = h.passes;
}

-- the bytes that go on with a run
stretch_passes : (r : Run) (w : Window) (n : ℕ) → n ≡ prefix_len (goes_on r) (window_bytes w)
    → list_all (goes_on r) (take n (held w)) ≡ true
stretch_passes r w n e =
    let short : n ≤ length (window_bytes w) = omega (arith, e, prefix_len-le-length (goes_on r) (window_bytes w)) in
    let same : take n (window_bytes w) ≡ take n (held w) = take_shown w n short in
    subst (λ xs. list_all (goes_on r) xs ≡ true) same
    (subst (λ m. list_all (goes_on r) (take m (window_bytes w)) ≡ true) (sym e)
    (front_passes (goes_on r) (window_bytes w)))

pub stretch_fits : (r : Run) (w : Window) (n : ℕ) → n ≡ prefix_len (goes_on r) (window_bytes w)
    → n ≤ length (window_bytes w)
stretch_fits r w n e = omega (arith, e, prefix_len-le-length (goes_on r) (window_bytes w))

pub run_turn : (r : Run) (u v w x : Window) (a b c : Option (List ℕ)) (n : ℕ) → HasRun r u v a b → HasRead v w b c
    → n ≡ prefix_len (goes_on r) (window_bytes w) → HasDropped w x n → HasRun r u x a c
run_turn r u v w x a b c n h q e d =
    let fits : n ≤ length (held w) = omega (arith, stretch_fits r w n e, shown_fits w) in
    record {
      dropped = h.dropped ++ take n (held w);
      taken = taken_then u w x a c c h.dropped (take n (held w)) (taken_read u v w a b c h.dropped h.taken q)
          (taken_front w x c n d fits);
      passes = all_append (goes_on r) h.dropped (take n (held w)) h.passes (stretch_passes r w n e);
    }

-- and what is kept of it
pub kept_none : (r : Run) (w : Window) (left : Option (List ℕ)) (kept : List ℕ) → HasKept r w w left left kept kept
unfolding run_none
kept_none r w left kept = record { of_run = run_none r w left; appended = sym (append-nil kept) }

pub kept_read : (r : Run) (u v w : Window) (a b c : Option (List ℕ)) (kept now : List ℕ) → HasKept r u v a b kept now
    → HasRead v w b c → HasKept r u w a c kept now
unfolding run_read
kept_read r u v w a b c kept now h q = record {
  of_run = run_read r u v w a b c h.of_run q;
  appended = h.appended;
}

pub kept_turn : (r : Run) (u v w x : Window) (a b c : Option (List ℕ)) (n : ℕ) (kept now more : List ℕ)
    → HasKept r u v a b kept now → HasRead v w b c → n ≡ prefix_len (goes_on r) (window_bytes w) → HasDropped w x n
    → more ≡ now ++ take n (held w) → HasKept r u x a c kept more
unfolding run_turn
kept_turn r u v w x a b c n kept now more h q e d f = record {
  of_run = run_turn r u v w x a b c n h.of_run q e d;
  appended = f ∙ ap (λ xs. xs ++ take n (held w)) h.appended ∙ append_assoc kept _ _;
}

-- a run ends where none of the bytes that may be looked at goes on with it
pub halts : (r : Run) (w : Window) (left : Option (List ℕ)) → IsKnown w left
    → prefix_len (goes_on r) (window_bytes w) ≡ 0 → RunHalts r w left
halts r w left end none = λ inside.
    at (held w) end (subst (λ xs. prefix_len (goes_on r) xs ≡ 0) (all_shown w inside) none)
  where
    at : (xs : List ℕ) → (xs ≡ [] → IsAtEnd left) → prefix_len (goes_on r) xs ≡ 0 → RunEndsAt r xs left
    at [] k z = k refl
    at (b ∷ xs) k z = here (goes_on r b) refl
      where
        here : (t : Bool) → goes_on r b ≡ t → goes_on r b ≡ false
        here false h = h
        here true h =
            let one : 1 + prefix_len (goes_on r) xs ≡ 0 = rw h at z in
            absurd (omega arith)
