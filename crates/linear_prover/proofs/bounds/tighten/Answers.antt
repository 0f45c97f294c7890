use Rattle.std.proofs.Common.{Some, sym, ap, ◌∙◌}
use Rattle.obligations.specs.Reach.{tighter}
use Rattle.linear_prover.specs.Tables.{bound_in}
use Rattle.linear_prover.proofs.BoundLaws.{tightened}
use Rattle.linear_prover.proofs.bounds.tighten.Goals as goal

pub returns-then-variable-len-clause-tells : goal.returns-then-variable-len-clause-tells
returns-then-variable-len-clause-tells c v h =
    tightened c.args.table.now c.replace.new.self c.args.fact.now c.args.place c.in-Some.variable v c.args.side.now
    c.tighter_bound-tight.result (sym c.as_slice.ensures ∙ c.in-Some.ensures) h c.replace.ensures.rest
    (c.tighter_bound-tight.ensures
    ∙ ap (λ b. tighter b (Some c.own_bound-own.result)) (c.bound_of.ensures ∙ ap (λ t. bound_in t c.in-Some.variable)
    c.as_slice-then-variable-len.ensures)
    ∙ ap (λ b. tighter (bound_in c.args.table.now c.in-Some.variable) (Some b)) c.own_bound-own.ensures)
