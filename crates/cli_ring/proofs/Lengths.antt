-- How long a text with a number is.
use Rattle.std.proofs.Common.{◌≡◌, ◌+◌, ◌*◌, ◌-◌, ℕ, suc, Bool, true, false, cond, nat_eq, List, [], ◌∷◌, ◌++◌}
use Rattle.std.proofs.Common.{length, decimal, refl, ap, ◌∙◌, arith}
use Rattle.std.specs.List.{flat_map}
use Rattle.std.proofs.lemmas.List.{length-append}
use Rattle.cli_ring.specs.Rings.{mark, put_for, program_text, proof_text, ring_bytes}
use Rattle.cli_ring.specs.Laws.{RingsHaveLengths}

-- how many bytes are the mark, and how many are not
marks : List ℕ → ℕ
marks [] = 0
marks (b ∷ rest) = cond (nat_eq b mark) (suc (marks rest)) (marks rest)

others : List ℕ → ℕ
others [] = 0
others (b ∷ rest) = cond (nat_eq b mark) (others rest) (suc (others rest))

filled_length : (number text : List ℕ) →
    length (flat_map (put_for number) text) ≡ others text + marks text * length number
unfolding marks others
filled_length number [] = omega arith
filled_length number (b ∷ rest) = go (nat_eq b mark) (filled_length number rest)
  where
    go : (is : Bool) → length (flat_map (put_for number) rest) ≡ others rest + marks rest * length number →
        length (cond is number (b ∷ []) ++ flat_map (put_for number) rest) ≡
        cond is (others rest) (suc (others rest)) + cond is (suc (marks rest)) (marks rest) * length number
    go true h =
        length-append number (flat_map (put_for number) rest) ∙ ap (λ k. length number + k) h
        ∙ omega arith
    go false h = omega (arith, h)

ring_others : others (program_text ++ proof_text) ≡ 464
unfolding others
ring_others = refl

ring_marks : marks (program_text ++ proof_text) ≡ 8
unfolding marks
ring_marks = refl

pub rings_have_lengths : RingsHaveLengths
unfolding ring_bytes
rings_have_lengths n =
    filled_length (decimal (n - 1)) (program_text ++ proof_text)
    ∙ ap (λ k. k + marks (program_text ++ proof_text) * length (decimal (n - 1))) ring_others
    ∙ ap (λ k. 464 + k * length (decimal (n - 1))) ring_marks
