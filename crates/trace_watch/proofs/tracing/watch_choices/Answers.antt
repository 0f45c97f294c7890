use Rattle.std.proofs.Common.{◌+◌, ◌∷◌, ◌++◌, [], ◌∙◌, ◌<◌, ◌≤◌, List, ℕ, None, Some, ap, arith, get_or, length, refl}
use Rattle.std.proofs.Common.{subst, sym, take}
use Rattle.std.specs.Prelude.{All}
use Rattle.meaning_states.specs.State.{State}
use Rattle.core_terms.specs.declared.programs.CProgram.{CProgram}
use Rattle.executor.specs.Running as runner
use Rattle.trace_watch.specs.Watching as watching
use Rattle.trace_watch.specs.Watching.{WatchStandsFor}
use Rattle.trace_watch.specs.Tracing.{Leads}
use Rattle.trace_watch.specs.Violations.{IsFirstViolation, IsUnviolated}
use Rattle.trace_watch.proofs.LookLaws.{there}
use Rattle.trace_watch.proofs.TracingLaws.{Seen, chosen_in, found_first, found_here, seen_exact, seen_first, seen_more}
use Rattle.trace_watch.proofs.TracingLaws.{stays_defined, take_end, take_length, take_more}
use Rattle.trace_watch.proofs.tracing.watch_choices.Goals as goal

pub returns-in-Some : goal.returns-in-Some
returns-in-Some c =
    found_first c.args.watch.now (runner.state_of c.args.runner.now) c.args.choices.now c.in-Some.violation
    c.requires.begun (c.in-Some.ensures (runner.state_of c.args.runner.now ∷ []) [] c.requires.begun)

pub loop-number-init : goal.loop-number-init
loop-number-init c = record {
  program = refl;
  slots = refl;
  watched = refl;
  ranges = refl;
  steps = refl;
  seen = seen_first c.args.watch.now (runner.state_of c.args.runner.now) c.requires.begun
      (sym (c.in-None.ensures (runner.state_of c.args.runner.now ∷ []) [] c.requires.begun));
}

pub returns-in-Undefined : goal.returns-in-Undefined
returns-in-Undefined c =
    let inv = c.loop-number.invariant in
    let inside : c.loop-number.number < length c.args.choices.now = omega arith in
    absurd (stays_defined c.args.watch.now c.loop-number.watch (runner.slots_of c.loop-number.runner)
    (runner.program_of c.loop-number.runner) (runner.state_of c.args.runner.now) c.args.choices.now
    c.loop-number.number (runner.state_of c.loop-number.runner) (inv.program ∙ sym c.requires.program)
    (inv.slots ∙ sym c.requires.slots) c.requires.defined
    (subst (λ (p : CProgram). All (λ d. d < length p.statements) c.args.choices.now) (sym inv.program)
    c.requires.instances)
    inside inv.seen (c.step.ensures.undefined c.in-Undefined.is))

pub returns-in-Some-step : goal.returns-in-Some-step
returns-in-Some-step c =
    let inv = c.loop-number.invariant in
    let w = c.args.watch.now in
    let x = watching.system_of w in
    let steps = watching.steps_of w in
    let start = runner.state_of c.args.runner.now in
    let cs = c.args.choices.now in
    let n = c.loop-number.number in
    let next = runner.state_of c.step.new.self in
    let inside : c.loop-number.number < length c.args.choices.now = omega arith in
    let size = take_length n cs (omega arith) in
    let chosen = chosen_in w (runner.slots_of c.loop-number.runner) (runner.program_of c.loop-number.runner)
    (get_or cs n 0) (runner.state_of c.loop-number.runner) (Some next) (inv.program ∙ sym c.requires.program)
    (inv.slots ∙ sym c.requires.slots) (c.step.ensures.done c.in-Done.is) in
    subst (λ (ds : List ℕ). (led : Leads x start ds next)
    × IsFirstViolation x steps (start ∷ led.later) ds (n + 1) c.in-Some-step.violation)
    (take_more cs n (get_or cs n 0) (there cs n 0 inside))
    (found_here x steps start (take n cs) (runner.state_of c.loop-number.runner) next (get_or cs n 0) chosen
    c.loop-number.watch c.in-Some-step.violation (n + 1) (ap (λ m. m + 1) (sym size)) inv.seen
    (seen_exact w c.loop-number.watch c.state.result.now next (get_or cs n 0) (Some c.in-Some-step.violation)
    inv.watched inv.ranges inv.steps c.state.ensures c.in-Some-step.ensures.exact))

pub loop-number-preserved : goal.loop-number-preserved
loop-number-preserved c =
    let inv = c.loop-number.invariant in
    let w = c.args.watch.now in
    let x = watching.system_of w in
    let steps = watching.steps_of w in
    let start = runner.state_of c.args.runner.now in
    let cs = c.args.choices.now in
    let n = c.loop-number.number in
    let now = runner.state_of c.loop-number.runner in
    let next = runner.state_of c.step.new.self in
    let after = c.step-in-loop-number.new.self in
    let inside : c.loop-number.number < length c.args.choices.now = omega arith in
    let chosen = chosen_in w (runner.slots_of c.loop-number.runner) (runner.program_of c.loop-number.runner)
    (get_or cs n 0) now (Some next) (inv.program ∙ sym c.requires.program)
    (inv.slots ∙ sym c.requires.slots) (c.step.ensures.done c.in-Done.is) in
    record {
      program = c.step.ensures.program ∙ inv.program;
      slots = c.step.ensures.slots ∙ inv.slots;
      watched = c.step-in-loop-number.ensures.program ∙ inv.watched;
      ranges = c.step-in-loop-number.ensures.slots ∙ inv.ranges;
      steps = c.step-in-loop-number.ensures.steps ∙ inv.steps;
      seen = subst (λ (ds : List ℕ). Seen after x steps start ds next)
          (take_more cs n (get_or cs n 0) (there cs n 0 inside))
          (seen_more x steps start (take n cs) now next (get_or cs n 0) chosen c.loop-number.watch after inv.seen
          (λ states ds stands. subst (λ (t : State). WatchStandsFor after (states ++ t ∷ [])
          (ds ++ get_or cs n 0 ∷ [])) c.state.ensures (c.step-in-loop-number.ensures.longer states ds stands))
          (seen_exact w c.loop-number.watch c.state.result.now next (get_or cs n 0) None inv.watched inv.ranges
          inv.steps c.state.ensures c.in-None-step.ensures.exact));
    }

pub returns : goal.returns
returns c =
    let seen = c.loop-number.invariant.seen in
    let x = watching.system_of c.args.watch.now in
    let steps = watching.steps_of c.args.watch.now in
    let start = runner.state_of c.args.runner.now in
    let enough : length c.args.choices.now ≤ c.loop-number.number = omega (arith, c.loop-number-test.false) in
    subst (λ (ds : List ℕ). (led : Leads x start ds (runner.state_of c.loop-number.runner))
    × IsUnviolated x steps (start ∷ led.later) ds) (take_end c.loop-number.number c.args.choices.now enough)
    (seen.led, seen.none)
