use Rattle.std.proofs.Common.{◌∙◌, ap, refl, sym}
use Rattle.std.specs.Prelude.{option_to_list}
use Rattle.std.proofs.lemmas.List.{length-map}
use Rattle.core_terms.specs.Steps.{core_step}
use Rattle.fair_rounds.specs.Records.{holding}
use Rattle.trace_watch.specs.Cases.{reading_of}
use Rattle.trace_watch.specs.Places.{system_at, instances_at, state_at}
use Rattle.trace_watch.specs.Waiting.{verdict}
use Rattle.trace_watch.proofs.KeepLaws.{saw_now}
use Rattle.trace_watch.proofs.TraceLaws.{one_choice, reading_fails}
use Rattle.trace_watch.proofs.looking.look_case.Goals as goal

pub returns-clause-saw : goal.returns-clause-saw
returns-clause-saw c =
    saw_now c.find-found.new.self (reading_of c.args.here.now.program.now c.args.claim.now c.args.values.now)
    (state_at c.args.here.now) c.seen_here-now.result c.find-found.ensures.before c.seen_here-now.ensures

pub returns-clause-stands : goal.returns-clause-stands
returns-clause-stands c = λ states choices size h.
    let r = reading_of c.args.here.now.program.now c.args.claim.now c.args.values.now in
    c.find-found.ensures.stands (instances_at c.args.here.now) r (state_at c.args.here.now) states choices refl
    c.seen_here-now.ensures c.requires.choice size h

pub returns-clause-violated : goal.returns-clause-violated
returns-clause-violated c = λ states choices size h.
    let here = c.args.here.now in
    let r = reading_of here.program.now c.args.claim.now c.args.values.now in
    let x = system_at here in
    let seen = c.seen_here-now.ensures in
    let stands = c.find-found.ensures.stands (instances_at here) r (state_at here) states choices refl seen
    c.requires.choice size h in
    let found = c.find-found.ensures.found (instances_at here) r (state_at here) states choices refl refl seen
    c.requires.choice size h in
    c.fails.ensures.verdict
    ∙ ap (λ o. verdict c.args.claim.now.kind x (holding c.args.values.now c.args.claim.now.q) o (state_at here)
    c.find-found.result) stands.helper
    ∙ ap (verdict c.args.claim.now.kind x (holding c.args.values.now c.args.claim.now.q) r.helper (state_at here))
    found
    ∙ sym (reading_fails x (instances_at here)
    (length-map here.program.now.statements (core_step here.slots.now)) states choices
    (option_to_list c.args.choice) (one_choice c.args.choice) size (state_at here) r)
