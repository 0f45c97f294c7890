use Rattle.std.proofs.Common.{◌∙◌, arith}
use Rattle.obligations.proofs.ScopeLaws.{room-number, scope-done}
use Rattle.obligations.proofs.scopes.scope_of.Goals as goal

pub next_variable-next-requires : goal.next_variable-next-requires
next_variable-next-requires c =
    room-number c.args.vs.now c.as_slice.result.now c.more.count c.args.added c.requires.own
    (c.as_slice.ensures ∙ c.more.invariant.made) (grind arith) c.requires.added

pub returns-clause-variables : goal.returns-clause-variables
returns-clause-variables c =
    let few = c.more.invariant.few in let bound = c.requires.added in
    scope-done c.args.vs.now c.more.all c.more.count c.requires.own (omega (arith, few, bound)) c.more.invariant.made
