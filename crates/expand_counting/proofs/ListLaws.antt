-- The instances of nested ranges, one number of a range after another.
use Rattle.std.proofs.Common.{◌≡◌, ℕ, zero, suc, ◌+◌, ◌-◌, ◌<◌, ◌≤◌, ℤ, pos, ◌+ℤ◌, List, [], ◌∷◌, ◌++◌, length}
use Rattle.std.proofs.Common.{get_or, take, drop, append_assoc, append-nil, refl, sym, ap, ◌∙◌, subst, arith}
use Rattle.std.proofs.lemmas.Int.{ints}
use Rattle.std.proofs.lemmas.List.{take_rest}
use Rattle.std.specs.List.{flat_map}
use Rattle.expand_counting.specs.declared.ranges.NestRange.{NestRange}
use Rattle.expand_counting.specs.declared.ranges.Interval.{Interval}
use Rattle.expand_counting.specs.Nests.{count_up, between, instances}
use Rattle.expand_counting.specs.Conditions.{Spans}

list_more : (f : ℤ → List (List ℤ)) (low : ℤ) (i n : ℕ) → i < n →
    flat_map f (count_up (low +ℤ pos i) (n - i)) ≡ f (low +ℤ pos i) ++ flat_map f
    (count_up (low +ℤ pos (i + 1)) (n - (i + 1)))
list_more f low i n h =
    let e : n - i ≡ suc (n - (i + 1)) = omega arith in
    let d : (low +ℤ pos i) +ℤ pos 1 ≡ low +ℤ pos (i + 1) = omega (arith, ints) in
    ap (λ m. flat_map f (count_up (low +ℤ pos i) m)) e
    ∙ ap (λ z. f (low +ℤ pos i) ++ flat_map f (count_up z (n - (i + 1)))) d

pub list_next : (f : ℤ → List (List ℤ)) (low : ℤ) (i n : ℕ) (now new whole : List (List ℤ)) → i < n →
    now ++ flat_map f (count_up (low +ℤ pos i) (n - i)) ≡ whole → new ≡ now ++ f (low +ℤ pos i) →
    new ++ flat_map f (count_up (low +ℤ pos (i + 1)) (n - (i + 1))) ≡ whole
list_next f low i n now new whole h w e =
    ap (λ xs. xs ++ flat_map f (count_up (low +ℤ pos (i + 1)) (n - (i + 1)))) e
    ∙ append_assoc now (f (low +ℤ pos i)) (flat_map f (count_up (low +ℤ pos (i + 1)) (n - (i + 1))))
    ∙ ap (λ xs. now ++ xs) (sym (list_more f low i n h)) ∙ w

pub list_first : (f : ℤ → List (List ℤ)) (low : ℤ) (n : ℕ) (old : List (List ℤ)) →
    old ++ flat_map f (count_up (low +ℤ pos 0) (n - 0)) ≡ old ++ flat_map f (count_up low n)
list_first f low n old =
    let e : low +ℤ pos 0 ≡ low = omega (arith, ints) in
    let d : n - 0 ≡ n = omega arith in
    ap (λ z. old ++ flat_map f (count_up z (n - 0))) e ∙ ap (λ m. old ++ flat_map f (count_up low m)) d

pub list_end : (f : ℤ → List (List ℤ)) (low : ℤ) (i n : ℕ) (now whole : List (List ℤ)) → n ≤ i →
    now ++ flat_map f (count_up (low +ℤ pos i) (n - i)) ≡ whole → now ≡ whole
list_end f low i n now whole h w =
    let e : n - i ≡ 0 = omega arith in
    sym (append-nil now) ∙ ap (λ m. now ++ flat_map f (count_up (low +ℤ pos i) m)) (sym e) ∙ w

-- the instances of the first range and of those inside it
pub list_holds : (rs : List NestRange) (vs : List ℤ) (i : Interval) (d : NestRange) (old new : List (List ℤ)) →
    1 ≤ length rs → Spans vs (get_or rs 0 d) i →
    new ≡ old ++ flat_map (λ z. instances (take (length rs - 1) (drop 1 rs)) (vs ++ z ∷ [])) (between i.low i.high) →
    new ≡ old ++ instances rs vs
list_holds [] vs i d old new h s e = absurd (let l : 1 ≤ 0 = h in omega arith)
list_holds (r ∷ rs) vs i d old new h s e =
    let same : take (length (r ∷ rs) - 1) (drop 1 (r ∷ rs)) ≡ rs = take_rest (r ∷ rs) 1 in
    e ∙ ap (λ xs. old ++ flat_map (λ z. instances xs (vs ++ z ∷ [])) (between i.low i.high)) same
    ∙ ap (λ zs. old ++ flat_map (λ z. instances rs (vs ++ z ∷ [])) zs) (sym s.0)
