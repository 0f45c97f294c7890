use Rattle.std.proofs.Common.{◌∙◌, ◌++◌, ◌∷◌, ◌<◌, List, ℕ, suc, length, take, drop, ap, subst, sym}
use Rattle.unity_cli.specs.Answer.Check.{Checked}
use Rattle.plain_quotients.proofs.lemmas_from_upgraded_texts.Documents.{number_is_inside}
use Rattle.unity_cli.proofs.Upgraded.{checked_upgraded, upgraded_of}
use Rattle.unity_cli.proofs.upgrade.upgrade_document.Goals as goal

pub with_two-requires : goal.with_two-requires
with_two-requires c =
    subst (λ n. n < length c.args.bytes.items) (sym (c.number_of-place.ensures ∙ c.requires.number_is))
    (number_is_inside c.args.bytes.items c.requires.document c.requires.read.reading.is_document)

pub returns-in-Done : goal.returns-in-Done
returns-in-Done c =
    upgraded_of c.args.bytes.items c.with_two.result.items c.in_ok-answer.answer.text.items c.requires.document
    c.requires.read
    (subst (λ s. Checked c.args.bytes.items s c.in_ok-answer.answer.text.items) c.in-Done.is
    (subst (λ (b : List ℕ). Checked b c.in_ok-answer.answer.status c.in_ok-answer.answer.text.items)
    c.deref.ensures.value c.in_ok-answer.ensures))
    (c.with_two.ensures
    ∙ ap (λ (n : ℕ). take n c.args.bytes.items ++ 50 ∷ drop (suc n) c.args.bytes.items)
    (c.number_of-place.ensures ∙ c.requires.number_is))

pub returns-in_default : goal.returns-in_default
returns-in_default c =
    checked_upgraded c.args.bytes.items c.in_ok-answer.answer.status c.in_ok-answer.answer.text.items
    c.requires.document c.requires.read
    (subst (λ (b : List ℕ). Checked b c.in_ok-answer.answer.status c.in_ok-answer.answer.text.items)
    c.deref.ensures.value c.in_ok-answer.ensures)
    c.in_default.not-Done
