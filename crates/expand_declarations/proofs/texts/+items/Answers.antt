use Rattle.names_rules.specs.Scope.{seen_keys}
use Rattle.std.specs.List.{flat_map}
use Rattle.expand_declarations.specs.Texts.{item_texts, items_texts}
use Rattle.expand_declarations.proofs.WordLaws.{items-texts, both_added}
use Rattle.expand_declarations.proofs.texts.+items.Goals as goal

pub add_items-returns : goal.add_items-returns
add_items-returns t c = both_added c.add_further.result (seen_keys c.args.words.now) (seen_keys c.add_item.new.words)
    (seen_keys c.add_further.new.words) (item_texts c.args.x.now.first) (flat_map item_texts c.args.x.now.rest)
    (items_texts c.args.x.now) c.in_ok-add_item.ensures (items-texts c.args.x.now) c.add_further.ensures
