use Rattle.std.proofs.Common.{◌≡◌, ◌∙◌, ap, pos, rules, to_z, of_z, w64}
use Rattle.std.specs.Prelude.{unwrap_or}
use Rattle.names_rules.specs.Scope.{entries}
use Rattle.expand_declarations.proofs.StartLaws.{number-found}
use Rattle.expand_declarations.proofs.start.word_value.Goals as goal

pub returns : goal.returns
returns c = let z = c.unwrap_or.result in let number : to_z w64 (of_z w64 z) ≡ z = search rules in
    number ∙ c.unwrap_or.ensures ∙ ap (λ y. unwrap_or y (pos 0)) c.find_word.ensures
    ∙ number-found (entries c.args.values.now) c.args.name.now.text
