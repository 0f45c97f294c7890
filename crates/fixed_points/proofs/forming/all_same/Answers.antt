use Rattle.std.proofs.Common.{List, ap, map, sym, ◌∙◌}
use Rattle.std.proofs.lemmas.List.{at_drop_all}
use Rattle.std.proofs.lemmas.Result.{IfOk-weaker}
use Rattle.core_terms.specs.declared.programs.CWrite.{CWrite}
use Rattle.wp_substitution.specs.Joined.{or_top, joined_all}
use Rattle.wp_substitution.proofs.JoinedLaws.{joined_is}
use Rattle.fixed_points.specs.FixedForms.{same_value}
use Rattle.fixed_points.proofs.forming.all_same.Goals as goal

pub returns-clause-tree : goal.returns-clause-tree
returns-clause-tree c =
    let last = at_drop_all (λ (ws : List CWrite). joined_all c.loop-w.all.whole (map same_value ws)) c.args.writes.now
    c.loop-w.w-index c.loop-w-test.false in
    let tree = ap or_top (sym last ∙ c.loop-w.invariant.0
    ∙ ap (λ w. joined_all w (map same_value c.args.writes.now)) c.new-all.ensures.whole)
    ∙ joined_is (map same_value c.args.writes.now) in
    IfOk-weaker c.into_form.result _ _ (λ f h. h ∙ tree) c.into_form.ensures
