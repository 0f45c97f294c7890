use Rattle.std.proofs.Common.{sym, ap, ◌∙◌}
use Rattle.wp_substitution.specs.Memos.{known_at}
use Rattle.wp_substitution.proofs.memos.Memo.form.Goals as goal

pub returns-in-Some-clause-known : goal.returns-in-Some-clause-known
returns-in-Some-clause-known c =
    c.requires.known.forms c.args.id.place c.in-Some.known
    (sym (ap (λ n. known_at c.args.self.now.forms n) c.index.ensures) ∙ sym c.form_at.ensures ∙ c.in-Some.is)
