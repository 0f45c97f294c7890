use Rattle.std.proofs.Common.{◌≡◌, ap, ◌∙◌, rules, to_z, of_z, w64}
use Rattle.meaning_states.specs.Division.{divisor}
use Rattle.leadsto_rules.specs.Lines.{difference_line, multiple_line}
use Rattle.leadsto_rules.proofs.PartLaws.{on_true_weaker}
use Rattle.leadsto_rules.proofs.lines.take_rest.Goals as goal

pub returns-then-multiply : goal.returns-then-multiply
returns-then-multiply c =
    let same : to_z w64 (of_z w64 c.divisor_of.result) ≡ divisor c.args.k = search rules in
    on_true_weaker _ _ c.subtract.result
    (λ e. e ∙ ap (λ m. difference_line c.args.line.now m) (c.if-multiply.ensures
    ∙ ap (λ d. multiple_line d c.args.quotient) same)) c.subtract.ensures
