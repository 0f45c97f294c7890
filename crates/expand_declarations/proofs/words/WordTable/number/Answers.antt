use Rattle.std.proofs.Common.{ℕ, ap, ◌∙◌, List, Option}
use Rattle.std.specs.Prelude.{position, unwrap_or}
use Rattle.std.specs.Str.{bytes_eq}
use Rattle.expand_declarations.proofs.WordLaws.{seen, position_seen}
use Rattle.expand_declarations.specs.WordNumbers.{word_number}
use Rattle.expand_declarations.proofs.words.WordTable.number.Goals as goal

pub returns-in-None : goal.returns-in-None
returns-in-None c = ap (λ (place : Option ℕ). unwrap_or place 0)
    (c.in-None.ensures.index ∙ position_seen (bytes_eq c.as_slice.result.now) c.self.inside.words.keys
    ∙ ap (λ (text : List ℕ). position (bytes_eq text) (seen c.self.inside.words.keys)) c.as_slice.ensures)
    ∙ ap (λ words. word_number words c.args.name.now.text) c.self.view_is

pub returns-in-Some : goal.returns-in-Some
returns-in-Some c = ap (λ (place : Option ℕ). unwrap_or place 0)
    (c.in-Some.ensures.index ∙ position_seen (bytes_eq c.as_slice.result.now) c.self.inside.words.keys
    ∙ ap (λ (text : List ℕ). position (bytes_eq text) (seen c.self.inside.words.keys)) c.as_slice.ensures)
    ∙ ap (λ words. word_number words c.args.name.now.text) c.self.view_is
