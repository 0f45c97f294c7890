-- What a window holds, and what is to come, after a read, a drop and several of them.
use Rattle.std.proofs.Common.{◌≡◌, ℕ, ◌+◌, ◌-◌, ◌≤◌, List, [], ◌++◌, length, take, drop, slice_range}
use Rattle.std.proofs.Common.{Option, Some, None}
use Rattle.std.proofs.Common.{refl, sym, ap, ◌∙◌, arith, append_assoc, take-append-drop}
use Rattle.std.proofs.lemmas.List.{append-nil, take_at, drop_at, take-append-le, drop-append-le}
use Rattle.std.proofs.lemmas.List.{drop-take, drop-drop, length-take-le, length-drop, length-append}
use Rattle.std.specs.Io.KnownBytes.{Keeps, Consumes, prepend_known}
use Rattle.std.proofs.KnownBytes.{Consumes-nil, Consumes-trans, Consumes-kept}
use borrow.Rule.Slice.PartMut.{put_mid, post_of}
use lib.Seq.{take-add}
use Rattle.unity_base.specs.declared.window.Window.{Window}
use Rattle.unity_base.specs.Window.{held, HasRead, HasDropped, HasPassed}

-- ---- parts of a buffer

-- a buffer written over from `end` on, and looked at n further
pub grown : (xs ys : List ℕ) (start end k n : ℕ) → start ≤ end → end ≤ length xs → n ≤ length ys
    → slice_range (put_mid end k xs ys) start (end + n) ≡ slice_range xs start end ++ take n ys
grown xs ys start end k n ordered within fits =
    let front = length-take-le end xs within in
    let part = drop start (take end xs) in
    let len : length part ≡ end - start = omega (arith, length-drop start (take end xs)) in
    let sum : end + n - start ≡ (end - start) + n = omega arith in
    let parts : end ≡ start + (end - start) = omega arith in
    let same : part ≡ take (end - start) (drop start xs) =
    ap (λ j. drop start (take j xs)) parts ∙ drop-take start (end - start) xs in
    let after = ys ++ post_of end k xs in
    ap (take (end + n - start)) (drop-append-le start (take end xs) after (omega arith))
    ∙ ap (λ j. take j (part ++ after)) sum ∙ take-add (end - start) n (part ++ after)
    ∙ (rw (take_at part after _ len, drop_at part after _ len, take-append-le n ys (post_of end k xs) fits, same) refl)

pub kept : (xs ys : List ℕ) (start end k : ℕ) → start ≤ end → end ≤ length xs
    → slice_range (put_mid end k xs ys) start end ≡ slice_range xs start end
kept xs ys start end k ordered within =
    let none : end ≡ end + 0 = omega arith in
    ap (slice_range (put_mid end k xs ys) start) none ∙ grown xs ys start end k 0 ordered within (omega arith)
    ∙ append-nil _

pub consumed : (xs : List ℕ) (start end count : ℕ) → start + count ≤ end
    → slice_range xs (start + count) end ≡ drop count (slice_range xs start end)
consumed xs start end count inside =
    let parts : end - start ≡ count + (end - (start + count)) = omega arith in
    sym (ap (λ j. drop count (take j (drop start xs))) parts ∙ drop-take count _ (drop start xs)
    ∙ ap (take (end - (start + count))) (drop-drop count start xs))

-- ---- bytes before those of a source

-- what the source gave stands behind what was held
joined : (a b : Option (List ℕ)) (xs ys more : List ℕ) → Consumes a b more → ys ≡ xs ++ more
    → Keeps (prepend_known xs a) (prepend_known ys b)
joined None b xs ys more p e = tt
joined (Some x) None xs ys more p e = absurd p
joined (Some x) (Some y) xs ys more p e =
    ap (λ (l : List ℕ). l ++ y) e ∙ append_assoc xs more y ∙ ap (λ (l : List ℕ). xs ++ l) (sym p)

-- a source that kept its bytes gave none
pub none_given : (a b : Option (List ℕ)) → Keeps a b → Consumes a b []
none_given a b p = Consumes-kept a a b [] (Consumes-nil a) p

pub dropped : (a : Option (List ℕ)) (xs ys : List ℕ) (count : ℕ) → ys ≡ drop count xs
    → Consumes (prepend_known xs a) (prepend_known ys a) (take count xs)
dropped None xs ys count e = tt
dropped (Some x) xs ys count e =
    ap (λ (l : List ℕ). l ++ x) (sym (take-append-drop count xs)) ∙ append_assoc (take count xs) (drop count xs) x
    ∙ ap (λ (l : List ℕ). take count xs ++ (l ++ x)) (sym e)

-- ---- a window after calls

pub HasRead-more : (u v : Window) (a b : Option (List ℕ)) (more : List ℕ) → held v ≡ held u ++ more
    → Consumes a b more → v.at ≡ u.at → v.limit ≡ u.limit → HasRead u v a b
HasRead-more u v a b more e p same_at same_limit = record {
  begins = ap (take (length (held u))) e ∙ take_at (held u) more _ refl;
  keeps = joined a b (held u) (held v) more p e;
  at = same_at;
  limit = same_limit;
}

-- some bytes held were dropped, and then more were read
pub HasPassed-turn : (u v w x : Window) (a b c : Option (List ℕ)) (count : ℕ) → count ≤ length (held v)
    → HasPassed u v a b → HasDropped v w count → HasRead w x b c → HasPassed u x a c
HasPassed-turn u v w x a b c count fits p q r =
    let front = take count (held v) in
    let all = length-append p.dropped front in
    let some = length-take-le count (held v) fits in
    let first = p.at in
    let then = q.at in
    let last = r.at in record {
      dropped = p.dropped ++ front;
      consumes = Consumes-kept _ _ _ _ (Consumes-trans _ _ _ _ _ p.consumes
          (dropped b (held v) (held w) count q.rest)) r.keeps;
      at = omega arith;
      limit = r.limit ∙ (q.limit ∙ p.limit);
    }
