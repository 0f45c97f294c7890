use Rattle.std.proofs.Common.{IsTrue, length, false, sym, ap, subst, ◌∙◌, refl}
use Rattle.std.proofs.lemmas.Simd.{splat_is_map}
use Rattle.meaning_states.specs.State.{State, is_state}
use Rattle.core_terms.specs.Steps.{slot_ranges}
use Rattle.executor.specs.Preparing.{unmarked}
use Rattle.executor.proofs.StateLaws.{form_runs, form_fits, statements_fit}
use Rattle.executor.proofs.runner.Runner.new.Goals as goal

pub holds-requires-clause-slots : goal.holds-requires-clause-slots
holds-requires-clause-slots c =
    (form_runs c.args.slots.now c.args.start.now c.args.p.now.initially c.requires.start
    (form_fits c.args.slots.now c.args.p.now.initially c.requires.program.initially)).0

pub holds-requires-clause-weight : goal.holds-requires-clause-weight
holds-requires-clause-weight c =
    (form_runs c.args.slots.now c.args.start.now c.args.p.now.initially c.requires.start
    (form_fits c.args.slots.now c.args.p.now.initially c.requires.program.initially)).2

pub invariant_of-result-clause-fits : goal.invariant_of-result-clause-fits
invariant_of-result-clause-fits c =
    statements_fit c.args.slots.now c.args.p.now.statements c.requires.program.statements

pub invariant_of-result-clause-is_state : goal.invariant_of-result-clause-is_state
invariant_of-result-clause-is_state c =
    subst (λ (s : State). IsTrue (is_state (slot_ranges c.args.slots.now) s)) (sym c.in_ok-from_slice.ensures.items)
    c.requires.start

pub invariant_of-result-clause-clear : goal.invariant_of-result-clause-clear
invariant_of-result-clause-clear c =
    c.in_ok-vec.ensures.items_if_clones_equal (λ y h. h)
    ∙ splat_is_map c.args.start.now (length c.args.start.now) false refl
    ∙ ap unmarked (sym c.in_ok-from_slice.ensures.items)
