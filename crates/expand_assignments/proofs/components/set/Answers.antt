use Rattle.std.proofs.Common.{◌∷◌, List, Err, Ok, map, fold}
use Rattle.std.proofs.lemmas.Result.{err_from_is_err_and}
use Rattle.meaning_documents.specs.Writes.{alternatives}
use Rattle.expand_rules.specs.declared.effects.Effect.{Effect}
use Rattle.expand_rules.specs.Assigning.{alternative_effect, beside, nothing}
use Rattle.expand_expressions.specs.Places.{scope}
use Rattle.expand_assignments.proofs.AddLaws.{halts_one_more, adds_all_beside, adds_one}
use Rattle.expand_assignments.proofs.components.set.Goals as goal

pub returns-in_err-all_alternatives : goal.returns-in_err-all_alternatives
returns-in_err-all_alternatives c =
    let p = err_from_is_err_and c.from_residual.result c.from_residual.ensures.1 in
    let es : List Effect = map (alternative_effect (scope c.args.known.now c.args.env.now)
    (c.args.first.now ∷ c.args.rest.now)) (alternatives c.args.alts.now.values c.args.alts.now.condition) in
    let f = c.in_err-all_alternatives.field-0.0 in
    rw (p.1, p.2) (halts_one_more f c.args.effect.now (fold beside nothing es)
    (adds_all_beside (Err f) c.args.effect.now c.all_alternatives.new.effect es c.requires.counted
    c.in_err-all_alternatives.ensures))

pub returns : goal.returns
returns c =
    let es : List Effect = map (alternative_effect (scope c.args.known.now c.args.env.now)
    (c.args.first.now ∷ c.args.rest.now)) (alternatives c.args.alts.now.values c.args.alts.now.condition) in
    adds_one c.count_one.result c.args.effect.now c.all_alternatives.new.effect c.count_one.new.effect
    (fold beside nothing es)
    (adds_all_beside (Ok tt) c.args.effect.now c.all_alternatives.new.effect es c.requires.counted
    c.in_ok-all_alternatives.ensures)
    c.count_one.ensures
