-- What a search answers with a budget that suffices.
use Rattle.std.proofs.Common.{◌≡◌, ℕ, ◌+◌, ◌<◌, ◌≤◌, List, [], ◌∷◌, ◌++◌, map, ap, arith}
use Rattle.std.specs.Prelude.{sum}
use Rattle.std.proofs.lemmas.Grind.{common_steps}
use Rattle.obligations.specs.declared.branches.Obligation.{Obligation}
use Rattle.obligations.specs.Plain.{enough}
use Rattle.proof_script.specs.Laws.{EnoughSuffices}
use Rattle.proof_script.specs.Proving.{enough_for}
use Rattle.proof_plans.specs.Reaching.{reach_of, reached}

sum_first : (n : ℕ) (ns : List ℕ) → sum (n ∷ ns) ≡ n + sum ns
sum_first n ns = grind (arith, common_steps)

front_sum : (size : Obligation → ℕ) (front rest : List Obligation) (o : Obligation) →
    sum (map size front) + size o ≤ sum (map size (front ++ o ∷ rest))
front_sum size [] rest o =
    let e = sum_first (size o) (map size rest) in
    none (size o) (sum (map size (o ∷ rest))) (sum (map size rest)) e
  where
    none : (n all more : ℕ) → all ≡ n + more → sum [] + n ≤ all
    none n all more e = grind (arith, common_steps, e)
front_sum size (p ∷ front) rest o =
    let e = sum_first (size p) (map size front) in
    let g = sum_first (size p) (map size (front ++ o ∷ rest)) in
    let h = front_sum size front rest o in
    omega (arith, e, g, h)

pub suffices : EnoughSuffices
suffices d budget program step number all short =
    let s = short.0 in
    let less : budget < enough_for s.comes.front + enough s.obligation = s.short in
    let parts = ap enough_for s.comes.parts in
    let part = front_sum enough s.comes.front s.comes.rest s.obligation in
    too_much budget (enough_for s.comes.front) (enough s.obligation)
    (enough_for (reached (reach_of d)).obligations)
    (enough_for (s.comes.front ++ s.obligation ∷ s.comes.rest)) less part parts all
  where
    too_much : (budget first one all same : ℕ) → budget < first + one → first + one ≤ same → all ≡ same →
        all ≤ budget → ⊥
    too_much budget first one all same a b c d = absurd (omega (arith, a, b, c, d))
