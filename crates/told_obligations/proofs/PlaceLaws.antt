-- Lines of a text, counted on.
use Rattle.std.proofs.Common.{◌≡◌, ◌+◌, ◌-◌, ◌≤◌, ◌++◌, ℕ, List, sym, ap, ◌∙◌, length, take, drop, filter, nat_eq}
use Rattle.std.proofs.Common.{arith}
use Rattle.std.proofs.lemmas.Grind.{common_steps}
use Rattle.std.proofs.lemmas.List.{take-append-drop, drop-take}
use Rattle.std.proofs.lemmas.List.Elements.{filter-append}
use Rattle.std.proofs.lemmas.List.{length-append}
use Rattle.told_obligations.specs.Places.{line_ends}

pub ends_both : (xs ys : List ℕ) → line_ends (xs ++ ys) ≡ line_ends xs + line_ends ys
ends_both xs ys =
    ap length (filter-append (λ byte. nat_eq byte 10) xs ys)
    ∙ length-append (filter (λ byte. nat_eq byte 10) xs) (filter (λ byte. nat_eq byte 10) ys)

-- the bytes before a place, and then those up to a later one
pub ends_on : (bytes : List ℕ) (at next : ℕ) → at ≤ next →
    line_ends (take at bytes) + line_ends (take (next - at) (drop at bytes)) ≡ line_ends (take next bytes)
ends_on bytes at next h =
    let more : at + (next - at) ≡ next = omega (arith, h) in
    let front : take at (take next bytes) ≡ take at bytes = grind (arith, common_steps) in
    let back : drop at (take next bytes) ≡ take (next - at) (drop at bytes) =
    ap (λ n. drop at (take n bytes)) (sym more) ∙ drop-take at (next - at) bytes in
    sym (ap line_ends (sym (take-append-drop at (take next bytes))) ∙ ends_both (take at (take next bytes)) (drop at (take next bytes))
    ∙ ap (λ xs. line_ends xs + line_ends (drop at (take next bytes))) front
    ∙ ap (λ xs. line_ends (take at bytes) + line_ends xs) back)
