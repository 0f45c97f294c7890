use Rattle.std.proofs.Common.{◌∙◌}
use Rattle.wp_substitution.proofs.MemoLaws.{remembers_none}
use Rattle.wp_substitution.proofs.memos.Memo.new.Goals as goal

pub returns-clause-known : goal.returns-clause-known
returns-clause-known c =
    λ chains. remembers_none chains c.args.pool.now _ c.mark-mark.ensures.fits
    (c.in_ok-forms.ensures.count ∙ c.form_count.ensures) (c.in_ok-terms.ensures.count ∙ c.term_count.ensures)
    c.in_ok-forms.ensures.unknown c.in_ok-terms.ensures.unknown
