use Rattle.std.proofs.Common.{ap, ◌∙◌, ◌+◌, sym, drop, [], ◌∷◌, pos, add-one}
use Rattle.expand_expressions.specs.from_meaning_documents.Setting.{with_places}
use Rattle.names_rules.specs.Scope.{entries}
use Rattle.expand_declarations.proofs.LayoutLaws.{drop_item}
use Rattle.expand_declarations.proofs.StartLaws.{words_more}
use Rattle.expand_declarations.proofs.enumerations.add_further.Goals as goal

pub loop-i-preserved : goal.loop-i-preserved
loop-i-preserved c = let i = c.loop-i.i in let names = c.args.names.now in let word = c.index-names-i.result in
    words_more (entries c.loop-i.values) (entries c.add_word.new.values) (entries c.args.values.now)
    ((word.text, pos (i + 1)) ∷ []) (with_places (i + 1 + 1) (drop (i + 1) names)) (with_places (i + 1) (drop i names))
    (with_places 1 names) c.loop-i.invariant
    (ap (with_places (i + 1)) (drop_item names i word c.loop-i-test.true c.index-names-i.is)
    ∙ ap (λ j. (word.text, pos (i + 1)) ∷ with_places j (drop (i + 1) names)) (sym (add-one (i + 1))))
    c.in_ok-add_word.ensures
