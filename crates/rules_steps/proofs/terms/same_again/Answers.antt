use Rattle.std.proofs.Common.{◌++◌, [], ◌∙◌, refl, append-nil}
use Rattle.fair_rounds.specs.declared.records.Record.{Record}
use Rattle.safety_rules.specs.Answers.{site_of}
use Rattle.safety_rules.proofs.AnswerLaws.{rule_given}
use Rattle.rules_steps.proofs.terms.same_again.Goals as goal

pub returns : goal.returns
returns c =
    let a : Record = c.args.a.now in
    rule_given (tt {0}) (site_of c.args.pl.now) a.kind a.p a.q c.in_ok-held_form.field-0 c.in_ok-held_form-2.field-0
    a.under (c.as_slice.result.now ++ []) a.helper c.in_ok-copied_helper.field-0 [] [] c.new.result c.conclude.result
    c.in_ok-held_form.ensures c.in_ok-held_form-2.ensures (append-nil c.as_slice.result.now ∙ c.as_slice.ensures)
    c.in_ok-copied_helper.ensures refl (c.new.ensures, refl) c.conclude.ensures
