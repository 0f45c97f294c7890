use Rattle.std.proofs.Common.{◌+◌, pos, ◌+ℤ◌, Some, ap, sym, subst, ◌∙◌, arith, w64, ◌≡◌, ◌≤◌, ℕ}
use Rattle.std.proofs.lemmas.Int.{to_z-of_z}
use Rattle.core_terms.specs.Folding.{truth_of}
use Rattle.leadsto_rules.specs.Disjunctions.{instance_at}
use Rattle.leadsto_rules.proofs.AnyLaws.{settled, any_settled, or_true, or_false}
use Rattle.leadsto_rules.proofs.disjunctions.known_with.Goals as goal

pub returns-then-first-clause-truth : goal.returns-then-first-clause-truth
returns-then-first-clause-truth c =
    let b = c.in_ok-first.first in
    let s = c.in_ok-more.more in
    let known = subst (λ z. (k : ℕ) → k ≤ s.reach → truth_of (instance_at c.args.i.now (z +ℤ pos k)) ≡ Some s.holds)
    (to_z-of_z w64 c.args.number c.ranges.number) c.in_ok-more.ensures.truth in
    any_settled (instance_at c.args.i.now) s.holds c.args.d.now.whole b c.args.number s.reach (s.reach + 1)
    (omega arith) (sym c.requires.truth ∙ c.in_ok-first.was) known
    ∙ ap settled (or_true b s.holds c.if-first.true)

pub returns-else-first-clause-truth : goal.returns-else-first-clause-truth
returns-else-first-clause-truth c =
    let b = c.in_ok-first.first in
    let s = c.in_ok-more.more in
    let known = subst (λ z. (k : ℕ) → k ≤ s.reach → truth_of (instance_at c.args.i.now (z +ℤ pos k)) ≡ Some s.holds)
    (to_z-of_z w64 c.args.number c.ranges.number) c.in_ok-more.ensures.truth in
    any_settled (instance_at c.args.i.now) s.holds c.args.d.now.whole b c.args.number s.reach (s.reach + 1)
    (omega arith) (sym c.requires.truth ∙ c.in_ok-first.was) known
    ∙ ap settled (or_false b s.holds c.if-first.false)
