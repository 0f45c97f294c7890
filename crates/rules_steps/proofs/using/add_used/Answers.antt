use Rattle.std.proofs.Common.{◌++◌, ◌∷◌, [], sym, ap, ◌∙◌}
use Rattle.core_terms.specs.declared.trees.CForm.{CForm}
use Rattle.rules_steps.proofs.UsingLaws.{use_is}
use Rattle.rules_steps.proofs.using.add_used.Goals as goal

pub returns-in_ok-push-in-Some : goal.returns-in_ok-push-in-Some
returns-in_ok-push-in-Some c = (
  c.in-Some.record.now,
  use_is c.args.program c.args.book.now c.args.r.now c.in-Some.record.now c.in-Some.ensures c.if-record-program.false
      (sym c.is_invariant.ensures ∙ c.if-not-is_invariant.false) (c.is_empty.ensures.0 c.if-not-is_empty.false),
  c.in_ok-push-in-Some.ensures.ok
      ∙ ap (λ (f : CForm). c.args.forms.now ++ f ∷ []) c.in_ok-copy_form-in-Some.ensures,
)
