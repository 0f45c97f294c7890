use Rattle.std.proofs.Common.{◌≡◌, OnOk, List, [], ◌∷◌, pos, sym, subst}
use Rattle.unity_syntax.specs.declared.name.Name.{Name}
use Rattle.unity_syntax.specs.declared.declaration.Plain.{Plain}
use Rattle.expand_expressions.specs.from_meaning_documents.Setting.{plain_words, with_places}
use Rattle.names_rules.specs.Scope.{entries}
use Rattle.expand_declarations.specs.Start.{with_words}
use Rattle.expand_declarations.proofs.StartLaws.{words_both}
use Rattle.expand_declarations.proofs.enumerations.add_plain.Goals as goal

pub returns-in_ok-add_word-in-Words : goal.returns-in_ok-add_word-in-Words
returns-in_ok-add_word-in-Words c = let r = c.add_further.result in let old = entries c.args.values.now in
    let middle = entries c.add_word.new.values in let new = entries c.add_further.new.values in
    subst (λ (p : Plain). OnOk r (new ≡ with_words old (plain_words p))) (sym c.in-Words.is)
    (words_both r old middle new ((c.in-Words.first.text, pos 0) ∷ []) (with_places 1 c.in-Words.rest)
    c.in_ok-add_word-in-Words.ensures
    (subst (λ (names : List Name). OnOk r (new ≡ with_words middle (with_places 1 names))) c.as_slice.ensures
    c.add_further.ensures))
