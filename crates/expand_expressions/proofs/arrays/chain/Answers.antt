use Rattle.std.proofs.Common.{◌≡◌, ◌+◌, ◌-◌, ◌+ℤ◌, pos, ap, sym, ◌∙◌, arith}
use Rattle.core_terms.specs.declared.trees.CTerm.TheVariants.{Const, Slot}
use Rattle.core_terms.specs.Folding.{choice_term, zero_form, difference_term}
use Rattle.expand_rules.specs.Forming.{chain}
use Rattle.expand_expressions.proofs.Elements.{chain_more}
use Rattle.expand_expressions.proofs.arrays.chain.Goals as goal

pub loop-k-preserved : goal.loop-k-preserved
loop-k-preserved c =
    let e = c.args.index.now.term in
    let low = c.args.ends.lo in
    let k = c.loop-k.k in
    let n = c.args.count in
    let old = c.loop-k.invariant in
    let tree : c.in_ok-term-2.term ≡ chain e (low +ℤ pos (n - (k + 1))) (c.args.first + (n - (k + 1))) (k + 1) =
    c.in_ok-term-2.ensures.tree
    ∙ ap (λ z. choice_term (zero_form (difference_term e (Const z))) (Slot c.place_above-place.result.slot)
    c.loop-k.term) c.place_above-place.ensures.at
    ∙ ap (λ m. choice_term (zero_form (difference_term e (Const (low +ℤ pos (n - (k + 1)))))) (Slot m) c.loop-k.term)
    c.place_above-place.ensures.slot
    ∙ ap (λ t. choice_term (zero_form (difference_term e (Const (low +ℤ pos (n - (k + 1))))))
    (Slot (c.args.first + (n - (k + 1)))) t) old.0
    ∙ sym (chain_more e low c.args.first n k c.loop-k-test.true) in
    let own = c.in_ok-term-2.ensures.own in
    let most = c.in_ok-term-2.ensures.most in
    let bound = c.place_above-place.ensures.bound in
    let own_before = old.2 in
    let most_before = old.3 in
    (tree, c.in_ok-term-2.ensures.known, omega (arith, own, own_before), omega (arith, most, bound, most_before))
