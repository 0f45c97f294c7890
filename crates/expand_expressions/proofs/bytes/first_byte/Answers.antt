use Rattle.std.proofs.Common.{[], None, sym, ◌∙◌}
use Rattle.names_rules.specs.Scope.{Scope}
use Rattle.expand_expressions.proofs.FirstBytes.{read_first}
use Rattle.expand_expressions.proofs.bytes.first_byte.Goals as goal

pub returns : goal.returns
returns c =
    let s : Scope = record { names = []; params = []; bounds = []; pending = []; program = None } in
    sym (c.place.ensures s) ∙ read_first c.args.e.now s
