use Rattle.std.proofs.Common.{rules, sym, subst, ◌∙◌, w64, FitsSigned}
use Rattle.std.proofs.lemmas.Int.{to_z-of_z}
use Rattle.leadsto_rules.specs.Stretches.{PutsNumber}
use Rattle.leadsto_rules.proofs.PartLaws.{on-Param, on_true_given}
use Rattle.leadsto_rules.proofs.stretches.param_line.Goals as goal

pub returns-then-name-start : goal.returns-then-name-start
returns-then-name-start c args reach puts =
    let fits : FitsSigned w64 c.args.start.now.number = search rules in
    on_true_given _ c.known_line.result
    (on-Param args c.args.start.now.number reach c.args.name c.known_line.new.line
    (subst (λ n. PutsNumber n args) (sym c.if-name-start.true) puts)
    (c.known_line.ensures.value ∙ to_z-of_z w64 c.args.start.now.number fits) c.known_line.ensures.slope)
