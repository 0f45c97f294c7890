use Rattle.std.proofs.Common.{◌≡◌, ◌+◌, ◌<◌, ◌≤◌, ◌∙◌, Some, ap, arith, length, map, slice_get, slice_set, get_or}
use Rattle.std.proofs.Common.{le_refl, subst, sym}
use Rattle.std.specs.Prelude.{option_to_list}
use Rattle.trace_watch.specs.Cases.{environments, reading_of}
use Rattle.trace_watch.specs.Places.{system_at, instances_at, state_at}
use Rattle.trace_watch.proofs.CaseLaws.{count_is, environments_in}
use Rattle.trace_watch.proofs.LookLaws.{Looked, SawReading, before_end, get_map, looked_one, looked_all, map_length}
use Rattle.trace_watch.proofs.LookLaws.{one_below, saw_one, there}
use Rattle.trace_watch.proofs.looking.look_cases.Goals as goal

pub look_case-is_violated-requires-clause-values : goal.look_case-is_violated-requires-clause-values
look_case-is_violated-requires-clause-values c =
    environments_in c.args.claim.now.params c.loop-number.number c.case_values.new.into
    (ap (λ ps. slice_get (environments ps) c.loop-number.number) (sym c.as_slice.ensures) ∙ c.case_values.ensures)

pub look_case-is_violated-requires-clause-saw : goal.look_case-is_violated-requires-clause-saw
look_case-is_violated-requires-clause-saw c =
    let here = c.args.here.now in
    let envs = environments c.args.claim.now.params in
    let reading = reading_of here.program.now c.args.claim.now in
    let inside : c.loop-number.number < length c.loop-number.cases =
    omega (arith, c.loop-number.auto.cases, c.loop-number-test.true) in
    let values : slice_get (environments c.args.claim.now.params) c.loop-number.number
    ≡ Some c.case_values.new.into =
    ap (λ ps. slice_get (environments ps) c.loop-number.number) (sym c.as_slice.ensures) ∙ c.case_values.ensures in
    c.requires.saw c.loop-number.number
    (get_or c.loop-number.cases c.loop-number.number c.index-cases-number.result) (reading c.case_values.new.into)
    (sym (c.loop-number.invariant.0.rest c.loop-number.number (le_refl c.loop-number.number))
    ∙ there c.loop-number.cases c.loop-number.number c.index-cases-number.result inside)
    (get_map reading envs c.loop-number.number c.case_values.new.into values)

pub loop-number-preserved : goal.loop-number-preserved
loop-number-preserved c =
    let here = c.args.here.now in
    let envs = environments c.args.claim.now.params in
    let reading = reading_of here.program.now c.args.claim.now in
    let inside : c.loop-number.number < length c.loop-number.cases =
    omega (arith, c.loop-number.auto.cases, c.loop-number-test.true) in
    let values : slice_get (environments c.args.claim.now.params) c.loop-number.number
    ≡ Some c.case_values.new.into =
    ap (λ ps. slice_get (environments ps) c.loop-number.number) (sym c.as_slice.ensures) ∙ c.case_values.ensures in
    let at = there c.loop-number.cases c.loop-number.number c.index-cases-number.result inside in
    let its = get_map reading envs c.loop-number.number c.case_values.new.into values in (
      subst (λ o. Looked (instances_at here) (system_at here) (state_at here) (option_to_list c.args.choice)
          (map reading envs) c.args.cases.now
          (slice_set c.loop-number.cases c.loop-number.number c.look_case-is_violated.new.case) o
          (c.loop-number.number + 1)) (sym c.or_number-first.ensures)
          (looked_one (instances_at here) (system_at here) (state_at here) (option_to_list c.args.choice)
          (map reading envs) c.args.cases.now c.loop-number.cases c.loop-number.first c.loop-number.number
          (get_or c.loop-number.cases c.loop-number.number c.index-cases-number.result)
          c.look_case-is_violated.new.case (reading c.case_values.new.into) c.look_case-is_violated.result at its
          c.look_case-is_violated.ensures.stands c.look_case-is_violated.ensures.violated c.loop-number.invariant.0),
      one_below (SawReading (state_at here) (map reading envs)) c.loop-number.cases c.loop-number.number
          (get_or c.loop-number.cases c.loop-number.number c.index-cases-number.result)
          c.look_case-is_violated.new.case at
          (saw_one (state_at here) (map reading envs) c.loop-number.number c.look_case-is_violated.new.case
          (reading c.case_values.new.into) its c.look_case-is_violated.ensures.saw) c.loop-number.invariant.1,
      c.look_case-is_violated.ensures.trial,
    )

pub returns-clause-saw : goal.returns-clause-saw
returns-clause-saw c = λ n case r at here.
    let all : length c.loop-number.cases ≤ c.loop-number.number =
    omega (arith, c.loop-number.auto.cases, c.loop-number-test.false) in
    let inside = before_end c.loop-number.cases n case at in
    c.loop-number.invariant.1 n case (omega (arith, inside, all)) at r here

pub returns-clause-stands : goal.returns-clause-stands
returns-clause-stands c = λ states choices size h.
    let here = c.args.here.now in
    let envs = environments c.args.claim.now.params in
    let reading = reading_of here.program.now c.args.claim.now in
    let enough : length (map (reading_of c.args.here.now.program.now c.args.claim.now)
    (environments c.args.claim.now.params)) ≤ c.loop-number.number =
    omega (
      arith,
      map_length reading envs,
      count_is c.args.claim.now.params,
      c.requires.count,
      c.loop-number-test.false,
    ) in
    (looked_all (instances_at here) (system_at here) (state_at here) (option_to_list c.args.choice)
    (map reading envs) c.args.cases.now c.loop-number.cases c.loop-number.first c.loop-number.number
    c.loop-number.invariant.0 enough states choices (size, h)).0

pub returns-clause-violated : goal.returns-clause-violated
returns-clause-violated c = λ states choices size h.
    let here = c.args.here.now in
    let envs = environments c.args.claim.now.params in
    let reading = reading_of here.program.now c.args.claim.now in
    let enough : length (map (reading_of c.args.here.now.program.now c.args.claim.now)
    (environments c.args.claim.now.params)) ≤ c.loop-number.number =
    omega (
      arith,
      map_length reading envs,
      count_is c.args.claim.now.params,
      c.requires.count,
      c.loop-number-test.false,
    ) in
    (looked_all (instances_at here) (system_at here) (state_at here) (option_to_list c.args.choice)
    (map reading envs) c.args.cases.now c.loop-number.cases c.loop-number.first c.loop-number.number
    c.loop-number.invariant.0 enough states choices (size, h)).1
