use Rattle.std.proofs.Common.{List, ◌∷◌, ◌++◌, [], ap, rules, subst, sym}
use Rattle.std.specs.Prelude.{option_to_list}
use Rattle.std.specs.Option.{option_map}
use Rattle.std.proofs.lemmas.List.{places, with_items_is}
use Rattle.trace_watch.specs.declared.case.Case.{Case}
use Rattle.trace_watch.specs.Places.{before_at, instances_at, state_at}
use Rattle.trace_watch.specs.Stepping.{watched_as}
use Rattle.trace_watch.specs.Waiting.{CasesStand, CasesSaw}
use Rattle.trace_watch.specs.Violations.{violation_of}
use Rattle.trace_watch.proofs.looking.look_step.Goals as goal

pub look_cases-requires-clause-saw : goal.look_cases-requires-clause-saw
look_cases-requires-clause-saw c =
    subst (λ (cs : List Case). CasesSaw (before_at c.args.here.now) cs
    (watched_as c.args.here.now.program.now c.args.step.now).cases) (sym c.deref_mut-2.ensures.value) c.requires.saw

pub returns-in-Some-clause-saw : goal.returns-in-Some-clause-saw
returns-in-Some-clause-saw c =
    subst (λ (cs : List Case). CasesSaw (state_at c.args.here.now) cs
    (watched_as c.args.here.now.program.now c.args.step.now).cases)
    (sym (with_items_is c.args.step.now.cases c.look_cases.new.cases (search (rules, places))))
    c.look_cases.ensures.saw

pub returns-in-None-clause-saw : goal.returns-in-None-clause-saw
returns-in-None-clause-saw c =
    subst (λ (cs : List Case). CasesSaw (state_at c.args.here.now) cs
    (watched_as c.args.here.now.program.now c.args.step.now).cases)
    (sym (with_items_is c.args.step.now.cases c.look_cases.new.cases (search (rules, places))))
    c.look_cases.ensures.saw

pub returns-in-Some-clause-stands : goal.returns-in-Some-clause-stands
returns-in-Some-clause-stands c = λ states choices size h.
    let k = instances_at c.args.here.now in
    let readings = (watched_as c.args.here.now.program.now c.args.step.now).cases in
    subst (λ (cs : List Case). CasesStand k cs readings (states ++ state_at c.args.here.now ∷ [])
    (choices ++ option_to_list c.args.choice))
    (sym (with_items_is c.args.step.now.cases c.look_cases.new.cases (search (rules, places))))
    (c.look_cases.ensures.stands states choices size
    (subst (λ (cs : List Case). CasesStand k cs readings states choices) (sym c.deref_mut-2.ensures.value) h))

pub returns-in-Some-clause-violated : goal.returns-in-Some-clause-violated
returns-in-Some-clause-violated c = λ states choices size h.
    let k = instances_at c.args.here.now in
    let readings = (watched_as c.args.here.now.program.now c.args.step.now).cases in
    ap (option_map (violation_of c.args.step.now.place)) (c.in-Some.ensures.violated states choices size
    (subst (λ (cs : List Case). CasesStand k cs readings states choices) (sym c.deref_mut-2.ensures.value) h))

pub returns-in-None-clause-stands : goal.returns-in-None-clause-stands
returns-in-None-clause-stands c = λ states choices size h.
    let k = instances_at c.args.here.now in
    let readings = (watched_as c.args.here.now.program.now c.args.step.now).cases in
    subst (λ (cs : List Case). CasesStand k cs readings (states ++ state_at c.args.here.now ∷ [])
    (choices ++ option_to_list c.args.choice))
    (sym (with_items_is c.args.step.now.cases c.look_cases.new.cases (search (rules, places))))
    (c.look_cases.ensures.stands states choices size
    (subst (λ (cs : List Case). CasesStand k cs readings states choices) (sym c.deref_mut-2.ensures.value) h))

pub returns-in-None-clause-violated : goal.returns-in-None-clause-violated
returns-in-None-clause-violated c = λ states choices size h.
    let k = instances_at c.args.here.now in
    let readings = (watched_as c.args.here.now.program.now c.args.step.now).cases in
    ap (option_map (violation_of c.args.step.now.place)) (c.in-None.ensures.violated states choices size
    (subst (λ (cs : List Case). CasesStand k cs readings states choices) (sym c.deref_mut-2.ensures.value) h))
