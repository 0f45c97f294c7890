use Rattle.std.proofs.Common.{◌≡◌, false, IfErr, sym, ◌∙◌, subst}
use Rattle.std.proofs.lemmas.Option.{get_or_from_slice_get}
use Rattle.obligations.specs.declared.making.TooLargeError.{TooLargeError}
use Rattle.obligations.specs.Variables.{obligation_of, slot_ranges}
use Rattle.obligations.specs.Obligations.{is_within_limits}
use Rattle.obligations.proofs.making.make_in.Goals as goal

pub returns-clause-too_large : goal.returns-clause-too_large
returns-clause-too_large c =
    λ f there.
    let forms = c.args.pool.now.forms in
    let same = sym (get_or_from_slice_get forms c.args.id.place c.in_ok-form.field-0 f c.in_ok-form.ensures)
    ∙ get_or_from_slice_get forms c.args.id.place f f there in
    subst (λ g. IfErr c.make.result (λ e. e ≡ TooLargeError.TooLarge →
    is_within_limits (obligation_of g (slot_ranges c.args.slots.now) c.args.params.now) ≡ false)) same
    c.make.ensures.too_large
