use Rattle.std.proofs.Common.{[]}
use Rattle.expand_expressions.specs.Places.{bound_names}
use Rattle.expand_statements.specs.Visiting.{scope_among}
use Rattle.expand_statements.proofs.StatedLaws.{gives_statements}
use Rattle.expand_statements.proofs.building.push_statements.Goals as goal

pub returns : goal.returns
returns c =
    gives_statements c.push_all.result c.push_all.new.list c.args.list.now c.args.words.now
    (scope_among c.args.known.now []) c.args.items.now (bound_names c.outside.result) c.outside.ensures
    c.requires.faultless c.push_all.ensures
