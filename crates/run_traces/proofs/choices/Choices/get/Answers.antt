use Rattle.std.proofs.Common.{Some, slice_get, sym, ap, ◌∙◌}
use Rattle.run_traces.specs.declared.choices.Choices.{Choices}
use Rattle.run_traces.specs.Choices.{choices_of}
use Rattle.run_traces.proofs.TraceLaws.{turns_at, turns_past}
use Rattle.run_traces.proofs.choices.Choices.get.Goals as goal

pub returns-then-step-count-clause-choice : goal.returns-then-step-count-clause-choice
returns-then-step-count-clause-choice c =
    ap (λ n. Some n) c.round_robin.ensures ∙ sym (turns_at c.args.k c.in-Turns.count c.args.step c.if-step-count.true)
    ∙ ap (λ (x : Choices). slice_get (choices_of c.args.k x) c.args.step) (sym c.in-Turns.is)

pub returns-else-step-count-clause-choice : goal.returns-else-step-count-clause-choice
returns-else-step-count-clause-choice c =
    sym (turns_past c.args.k c.in-Turns.count c.args.step c.if-step-count.false)
    ∙ ap (λ (x : Choices). slice_get (choices_of c.args.k x) c.args.step) (sym c.in-Turns.is)
