use Rattle.std.proofs.Common.{◌-◌, ◌∙◌, List, ap, drop, length, slice_get, sym, false}
use Rattle.std.specs.Option.{is_none}
use Rattle.core_terms.specs.declared.programs.CStmt.{CStmt}
use Rattle.core_terms.specs.Steps.{core_step}
use Rattle.executor.specs.Fitting.{StatementRuns}
use Rattle.fixed_points.specs.FixedPoints.{leads_to}
use Rattle.fixed_points.proofs.TellingLaws.{of_rest, of_first, some_found, none_found, fixed_found}
use Rattle.fixed_points.proofs.telling.changing.Goals as goal

pub changing_among-requires-clause-fits : goal.changing_among-requires-clause-fits
changing_among-requires-clause-fits c =
    let all : List CStmt = c.as_slice-all.result.now in
    of_first (StatementRuns c.args.slots.now) (drop c.min-from.result all)
    (of_rest (StatementRuns c.args.slots.now) all
    (λ n s e. c.requires.fits n s (ap (λ (ss : List CStmt). slice_get ss n) (sym c.as_slice-all.ensures) ∙ e))
    c.min-from.result) (length all - c.min-from.result)

pub changing_among-requires-in-None-clause-fits : goal.changing_among-requires-in-None-clause-fits
changing_among-requires-in-None-clause-fits c =
    of_first (StatementRuns c.args.slots.now) c.as_slice-all.result.now
    (λ n s e. c.requires.fits n s (ap (λ (ss : List CStmt). slice_get ss n) (sym c.as_slice-all.ensures) ∙ e))
    c.min-from.result

pub returns-in-Some : goal.returns-in-Some
returns-in-Some c =
    fixed_found c.args.slots.now c.args.p.now c.args.state.now c.as_slice-all.result.now false c.as_slice-all.ensures
    (some_found (λ (s : CStmt). leads_to (core_step c.args.slots.now s c.args.state.now) c.args.state.now)
    c.as_slice-all.result.now c.min-from.result c.in-Some.ensures.none)

pub returns-in-None : goal.returns-in-None
returns-in-None c =
    fixed_found c.args.slots.now c.args.p.now c.args.state.now c.as_slice-all.result.now
    (is_none c.changing_among-in-None.result) c.as_slice-all.ensures
    (none_found (λ (s : CStmt). leads_to (core_step c.args.slots.now s c.args.state.now) c.args.state.now)
    c.as_slice-all.result.now c.min-from.result (is_none c.changing_among-in-None.result) c.in-None.ensures.none
    c.changing_among-in-None.ensures.none)
