use Rattle.std.proofs.Common.{List, sym, ap, ◌∙◌}
use Rattle.core_terms.specs.declared.trees.CForm.{CForm}
use Rattle.core_terms.specs.declared.programs.CProgram.{CProgram}
use Rattle.core_terms.specs.declared.documents.Ref.{Ref}
use Rattle.fair_rounds.specs.declared.records.Record.{Record}
use Rattle.safety_rules.specs.from_rules_table.Walk.{used}
use Rattle.rules_steps.specs.Using.{Uses, use_of}
use Rattle.rules_steps.proofs.UsingLaws.{handed_back, after_these, used_next, used_fails, used_end, none_before}
use Rattle.rules_steps.proofs.UsingLaws.{fails_used}
use Rattle.rules_steps.proofs.using.used.Goals as goal

pub loop-r-init : goal.loop-r-init
loop-r-init c =
    ap (λ (fs : List CForm). after_these fs (used c.args.program.now c.args.book.now c.args.refs.now))
    c.new-forms.ensures
    ∙ none_before (used c.args.program.now c.args.book.now c.args.refs.now)

pub returns-in_err-add_used : goal.returns-in_err-add_used
returns-in_err-add_used c =
    let p : CProgram = c.args.program.now in
    let book : List Record = c.args.book.now in
    let refs : List Ref = c.args.refs.now in
    handed_back (λ r. Uses r (used p book refs)) c.from_residual.result c.in_err-add_used.field-0.0
    c.from_residual.ensures.1
    (fails_used (Unit {0}) c.in_err-add_used.field-0.0 c.loop-r.forms c.add_used.new.forms
    (use_of p.name book c.r-item.result) (used p book refs)
    (λ code e. sym c.loop-r.invariant
    ∙ used_fails p book refs c.loop-r.r-index c.r-item.result c.loop-r.forms code c.loop-r-test.true c.r-item.is e)
    c.in_err-add_used.ensures)

pub loop-r-preserved : goal.loop-r-preserved
loop-r-preserved c =
    used_next c.args.program.now c.args.book.now c.args.refs.now c.loop-r.r-index c.r-item.result c.loop-r.forms
    c.add_used.new.forms c.in_ok-add_used.ensures.0 c.loop-r-test.true c.r-item.is c.in_ok-add_used.ensures.1
    c.in_ok-add_used.ensures.2
    ∙ c.loop-r.invariant

pub returns : goal.returns
returns c =
    sym c.loop-r.invariant
    ∙ used_end c.args.program.now c.args.book.now c.args.refs.now c.loop-r.r-index c.loop-r.forms c.loop-r-test.false
