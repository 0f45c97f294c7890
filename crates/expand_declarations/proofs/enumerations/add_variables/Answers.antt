use Rattle.std.proofs.Common.{ap, ◌+◌, drop}
use Rattle.std.specs.List.{flat_map}
use Rattle.names_rules.specs.Scope.{entries}
use Rattle.expand_declarations.specs.Start.{var_words}
use Rattle.expand_declarations.proofs.LayoutLaws.{drop_item}
use Rattle.expand_declarations.proofs.StartLaws.{words_more}
use Rattle.expand_declarations.proofs.enumerations.add_variables.Goals as goal

pub loop-v-preserved : goal.loop-v-preserved
loop-v-preserved c = let i = c.loop-v.v-index in let vs = c.args.vs.now in
    words_more (entries c.loop-v.values) (entries c.add_variable.new.values) (entries c.args.values.now)
    (var_words c.v-item.result) (flat_map var_words (drop (i + 1) vs)) (flat_map var_words (drop i vs))
    (flat_map var_words vs) c.loop-v.invariant
    (ap (flat_map var_words) (drop_item vs i c.v-item.result c.loop-v-test.true c.v-item.is))
    c.in_ok-add_variable.ensures
