use Rattle.std.proofs.Common.{◌≡◌, ℕ, pos, ◌+◌, ◌∷◌, drop, slice_index_or, to_z, of_z, w64, refl, sym, ap, ◌∙◌}
use Rattle.std.proofs.Common.{subst, arith}
use Rattle.std.proofs.lemmas.Int.{to_z-of_z}
use Rattle.std.proofs.lemmas.List.{drop_more}
use mir.Syntax.{w128}
use Rattle.certificate_machine.specs.Terms.{add_terms}
use Rattle.certificate_machine.proofs.TermLaws.{ToPut, put-first, put-next, put-begun}
use Rattle.certificate_machine.proofs.wide.Wide.put_all.Goals as goal

pub loop-term-init : goal.loop-term-init
loop-term-init c =
    let k : to_z w128 (of_z w128 (to_z w64 (of_z w64 c.args.constant))) ≡ to_z w64 (of_z w64 c.args.constant) =
    grind (arith, to_z-of_z) in record {
      factors = refl;
      left = put-begun c.args.terms.now c.args.self.now.line.factors c.requires.rising c.requires.inside
          c.requires.zero;
      constant = k;
    }

pub loop-term-preserved : goal.loop-term-preserved
loop-term-preserved c =
    let ts = c.args.terms.now in
    let i = c.loop-term.term-index in
    let zs = c.loop-term.self.line.factors in
    let rest = drop (i + 1) ts in
    let there = c.loop-term-test.true in
    let more : drop i ts ≡ slice_index_or ts i (0, pos 0) ∷ rest = drop_more ts i (0, pos 0) (omega (arith, there)) in
    let left = put-next (slice_index_or ts i (0, pos 0)) rest zs
    (subst (λ us. ToPut us zs) more c.loop-term.invariant.left) in record {
      factors = ap (add_terms rest) c.put.ensures.factors ∙ sym (ap (λ us. add_terms us zs) more)
          ∙ c.loop-term.invariant.factors;
      left = subst (ToPut rest) (sym c.put.ensures.factors) left;
      constant = c.put.ensures.constant ∙ c.loop-term.invariant.constant;
    }
