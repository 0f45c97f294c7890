-- Chains, node by node.
use Rattle.std.proofs.Common.{◌≡◌, ℕ, zero, suc, ◌+◌, ◌≤◌, ◌<◌, ℤ, pos, Bool, true, List, [], ◌∷◌, ◌++◌, drop, length}
use Rattle.std.proofs.Common.{get_or, arith, refl, sym, ap, subst, ◌∙◌}
use Rattle.std.proofs.Math.Seq.{drop-cons}
use Rattle.obligations.specs.declared.branches.Fact.{Fact}
use Rattle.obligations.specs.declared.certificates.Node.{Node}
use Rattle.certificate_rules.specs.Sums.{is_divisible}
use Rattle.certificate_rules.specs.Refutation.{opens, made_sum}
use Rattle.linear_prover.specs.Chains.{nulls, total_pairs, Closes, IsRoundStep, AddsRound}

pub nulls_more : (n : ℕ) → nulls (n + 1) ≡ nulls n ++ pos 0 ∷ []
nulls_more n = let one : n + 1 ≡ suc n = omega arith in ap nulls one ∙ more n
  where
    more : (n : ℕ) → pos 0 ∷ nulls n ≡ nulls n ++ pos 0 ∷ []
    more zero = refl
    more (suc n) = ap (λ zs. pos 0 ∷ zs) (more n)

pub round-closes : (count : ℕ) (nodes : List Node) (i : ℕ) (d : ℤ) (ps : List (ℤ × ℕ)) (old new : List Fact) → i <
    length nodes →
    Node.Round d ps ≡ get_or nodes i (Node.Round d ps) → AddsRound count d ps old new → Closes count new
    (drop (i + 1) nodes) → Closes count old (drop i nodes)
round-closes count nodes i d ps old new h e r c =
    let one : i + 1 ≡ suc i = omega arith in
    let rest : Closes count (old ++ r.fact ∷ []) (drop (suc i) nodes) = subst
    (λ fs. Closes count fs (drop (suc i) nodes)) r.added (subst (λ n. Closes count new (drop n nodes)) one c) in
    subst (Closes count old) (sym (drop-cons nodes i (Node.Round d ps) h ∙ ap (λ n. n ∷ drop (suc i) nodes) (sym e))) (
      r.round.line,
      r.round.total,
      r.round.divisible,
      subst (λ f. Closes count (old ++ f ∷ []) (drop (suc i) nodes))
          r.round.rounded rest,
    )

pub sum-closes : (count : ℕ) (nodes : List Node) (i : ℕ) (ps : List (ℤ × ℕ)) (facts : List Fact) → i < length nodes →
    length nodes ≤ i + 1 →
    Node.Sum ps ≡ get_or nodes i (Node.Sum ps) → made_sum (total_pairs count facts ps) ≡ opens [] → Closes count facts
    (drop i nodes)
sum-closes count nodes i ps facts h l e c =
    subst (Closes count facts) (sym (drop-cons nodes i (Node.Sum ps) h ∙ ap (λ n. n ∷ drop (suc i) nodes) (sym e) ∙ ap
    (λ ns. Node.Sum ps ∷ ns) (none nodes (suc i) (omega arith)))) c
  where
    none : (ns : List Node) (n : ℕ) → length ns ≤ n → drop n ns ≡ []
    none [] zero h = refl
    none [] (suc n) h = refl
    none (m ∷ ns) zero h = absurd (omega arith)
    none (m ∷ ns) (suc n) h = none ns n (omega arith)

pub ruleset closing_laws = (round-closes, sum-closes)
