use Rattle.std.proofs.Common.{◌≡◌, List, Ok, subst}
use Rattle.unity_syntax.specs.declared.expression.Expr.{Expr}
use Rattle.meaning_documents.specs.Names.{variable_named}
use Rattle.expand_rules.specs.Forming.{as_number, formed, unwritten_count}
use Rattle.expand_rules.specs.Assigning.{beside, exactly, target_effect, index_formed, paired_effect}
use Rattle.expand_expressions.specs.Places.{scope}
use Rattle.expand_expressions.specs.Sound.{of_truth}
use Rattle.expand_assignments.specs.Adding.{Adds}
use Rattle.expand_assignments.proofs.AddLaws.{adds_one, adds_second, marked}
use Rattle.expand_assignments.proofs.alternatives.guarded.Goals as goal

pub returns : goal.returns
returns c =
    let s = scope c.args.known.now c.args.env.now in
    let t = of_truth c.args.c.now in
    let b = c.args.c.now.exact in
    let old = c.args.effect.now in
    let first = c.args.first.now in
    let e = c.args.values.now.first in
    let x = target_effect (variable_named first.name.text s.variables) (index_formed s first.index) t
    (as_number (formed e s)) (unwritten_count e s) in
    let y = paired_effect s c.args.rest.now c.args.values.now.rest t in
    let both : c.further_pairs.new.effect ≡ beside old (beside x y) =
    adds_second (Ok tt) old c.target.new.effect c.further_pairs.new.effect x y c.in_ok-target.ensures
    (subst (λ (es : List Expr). Adds (Ok tt) c.target.new.effect c.further_pairs.new.effect
    (paired_effect s c.args.rest.now es t)) c.as_slice.ensures c.in_ok-further_pairs.ensures) in
    adds_one c.count_one.result old c.mark.new.effect c.count_one.new.effect (exactly b (beside x y))
    (marked b old c.further_pairs.new.effect c.mark.new.effect (beside x y) both c.mark.ensures) c.count_one.ensures
