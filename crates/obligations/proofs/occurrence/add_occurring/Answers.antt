use Rattle.std.proofs.Common.{ap, ◌∙◌, ◌++◌, length}
use Rattle.std.proofs.lemmas.Result.{on_ok_weaker}
use Rattle.obligations.specs.Variables.{form_has, picked}
use Rattle.obligations.proofs.OccurrenceLaws.{marks-long, marks-pick}
use Rattle.obligations.proofs.occurrence.add_occurring.Goals as goal

pub add_all_marked-requires : goal.add_all_marked-requires
add_all_marked-requires c =
    ap length c.as_slice.ensures
    ∙ marks-long (λ n. form_has c.args.param n c.args.form.now) c.args.ranges.now c.in_ok-marks.marks
    c.mark_form.new.marks c.in_ok-marks.ensures c.mark_form.ensures

pub returns : goal.returns
returns c =
    on_ok_weaker c.add_all_marked.result
    (λ e. e ∙ ap (λ vs. c.args.variables.now ++ vs)
    (ap (λ ms. picked c.args.param ms c.args.ranges.now) c.as_slice.ensures
    ∙ marks-pick c.args.form.now c.args.param c.args.ranges.now c.in_ok-marks.marks c.mark_form.new.marks
    c.in_ok-marks.ensures c.mark_form.ensures))
    c.add_all_marked.ensures
