use Rattle.std.proofs.Common.{Some, refl, ap, ◌∙◌}
use Rattle.std.specs.Prelude.{slice_set}
use Rattle.wp_substitution.proofs.MemoLaws.{remembers_form}
use Rattle.wp_substitution.proofs.memos.Memo.set_form.Goals as goal

pub returns-clause-known : goal.returns-clause-known
returns-clause-known c =
    let set = c.replace.ensures.rest ∙ ap (λ n. slice_set c.args.self.now.forms n (Some c.args.known))
    c.index.ensures in
    remembers_form c.args.chains.now c.args.pool.now c.args.self.now _ c.args.id.place c.args.known c.requires.known
    c.requires.place c.requires.form refl set refl
