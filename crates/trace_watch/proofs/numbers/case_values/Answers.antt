use Rattle.std.proofs.Common.{◌≡◌, ◌-◌, ◌<◌, ◌/◌, ◌%◌, ◌∙◌, Some, ap, arith, get_or, length, rules, slice_get}
use Rattle.std.proofs.Common.{slice_set, subst, suc, sym, to_z, of_z}
use Rattle.std.specs.Int.{w64}
use Rattle.std.proofs.lemmas.Nat.{mod_below}
use Rattle.trace_watch.specs.Cases.{numbers_in, size_of}
use Rattle.trace_watch.proofs.CaseLaws.{CaseFrom, no_range, range_there, some_in_each, case_step, case_found}
use Rattle.trace_watch.proofs.numbers.case_values.Goals as goal

pub nonzero_rem-rest : goal.nonzero_rem-rest
nonzero_rem-rest c =
    let place = c.loop-place.place - 1 in
    let inside : c.loop-place.place - 1 < length c.args.params.now = omega arith in
    subst (λ n. 0 < n) (sym c.size_of-size.ensures)
    (some_in_each c.args.params.now place c.args.case (get_or c.args.params.now place no_range) c.requires.case
    (range_there c.args.params.now place inside))

pub number_at-requires : goal.number_at-requires
number_at-requires c =
    subst (λ n. c.loop-place.rest % c.size_of-size.result < n) c.size_of-size.ensures
    (mod_below c.loop-place.rest c.size_of-size.result (nonzero_rem-rest c))

pub loop-place-preserved : goal.loop-place-preserved
loop-place-preserved c =
    let place = c.loop-place.place - 1 in
    let inside : c.loop-place.place - 1 < length c.args.params.now = omega arith in
    let within : c.loop-place.place - 1 < length c.loop-place.into = omega (arith, c.requires.into) in
    let range = get_or c.args.params.now place no_range in
    let there = range_there c.args.params.now place inside in
    let narrow : to_z w64 (of_z w64 c.number_at.result) ≡ c.number_at.result = search rules in
    let next : c.loop-place.place ≡ suc (c.loop-place.place - 1) = omega arith in
    let rest = c.loop-place.rest in
    let less = mod_below rest (size_of range)
    (some_in_each c.args.params.now place c.args.case range c.requires.case there) in
    subst (λ n. CaseFrom c.args.params.now (slice_set c.loop-place.into place (to_z w64 (of_z w64 c.number_at.result)))
    c.args.case (rest / n) place) (sym c.size_of-size.ensures)
    (case_step c.args.params.now c.loop-place.into place range c.args.case rest
    (to_z w64 (of_z w64 c.number_at.result)) there within less
    (ap (λ n. slice_get (numbers_in range) (rest % n)) (sym c.size_of-size.ensures) ∙ c.number_at.ensures
    ∙ ap Some (sym narrow))
    (subst (λ n. CaseFrom c.args.params.now c.loop-place.into c.args.case rest n) next c.loop-place.invariant))

pub returns : goal.returns
returns c =
    let zero : c.loop-place.place ≡ 0 = omega arith in
    case_found c.args.params.now c.loop-place.into c.args.case c.loop-place.rest c.requires.case
    (subst (λ n. CaseFrom c.args.params.now c.loop-place.into c.args.case c.loop-place.rest n) zero
    c.loop-place.invariant)
