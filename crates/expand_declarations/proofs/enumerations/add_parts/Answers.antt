use Rattle.std.proofs.Common.{ap, ◌+◌, drop}
use Rattle.names_rules.specs.Scope.{entries}
use Rattle.expand_declarations.specs.Start.{part_words, enumeration_words}
use Rattle.expand_declarations.proofs.LayoutLaws.{drop_item}
use Rattle.expand_declarations.proofs.StartLaws.{words_more}
use Rattle.expand_declarations.proofs.enumerations.add_parts.Goals as goal

pub loop-part-preserved : goal.loop-part-preserved
loop-part-preserved c = let i = c.loop-part.part-index in let parts = c.args.parts.now in
    words_more (entries c.loop-part.values) (entries c.add_part.new.values) (entries c.args.values.now)
    (part_words c.part-item.result) (enumeration_words (drop (i + 1) parts)) (enumeration_words (drop i parts))
    (enumeration_words parts) c.loop-part.invariant
    (ap enumeration_words (drop_item parts i c.part-item.result c.loop-part-test.true c.part-item.is))
    c.in_ok-add_part.ensures
