use Rattle.std.proofs.Common.{◌≡◌, ◌+◌, [], ◌∙◌, List, Some, ap, length, map, slice_get, subst, sym}
use Rattle.trace_watch.specs.declared.case.Case.{Case}
use Rattle.trace_watch.specs.Cases.{environments, reading_of}
use Rattle.trace_watch.specs.Waiting.{CaseStands, CasesStand}
use Rattle.trace_watch.proofs.LookLaws.{get_map, length_pushed, pushed_case}
use Rattle.trace_watch.proofs.making.cases_of.Goals as goal

pub loop-number-preserved : goal.loop-number-preserved
loop-number-preserved c =
    let envs = environments c.args.claim.now.params in
    let reading = reading_of c.args.p.now c.args.claim.now in
    let k = length c.args.p.now.statements in
    let values : slice_get (environments c.args.claim.now.params) c.loop-number.number
    ≡ Some c.case_values.new.into =
    ap (λ ps. slice_get (environments ps) c.loop-number.number) (sym c.as_slice-in-loop-number.ensures)
    ∙ c.case_values.ensures in (
      ap length c.in_ok-push.ensures.items ∙ length_pushed c.loop-number.made.items c.new.result
          ∙ ap (λ n. n + 1) c.loop-number.invariant.0,
      subst (λ (cs : List Case). CasesStand k cs (map reading envs) [] []) (sym c.in_ok-push.ensures.items)
          (pushed_case k (map reading envs) c.loop-number.made.items c.loop-number.number c.new.result
          (reading c.case_values.new.into) (sym c.loop-number.invariant.0)
          (get_map reading envs c.loop-number.number c.case_values.new.into values)
          (subst (λ n. CaseStands n c.new.result (reading c.case_values.new.into) [] []) c.len.ensures
          (c.new.ensures (reading c.case_values.new.into) (sym c.helper_place-helper.ensures)))
          c.loop-number.invariant.1),
    )
