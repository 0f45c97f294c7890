use Rattle.std.proofs.Common.{◌≡◌, ◌-◌, ◌<◌, pos, ◌+ℤ◌, ◌+◌, fold, subst, sym}
use Rattle.core_terms.specs.Folding.{or_form}
use Rattle.core_terms.specs.declared.trees.CForm.{CForm}
use Rattle.meaning_executions.specs.Counting.{range_size}
use Rattle.expand_rules.specs.Assigning.{any_of, equations}
use Rattle.expand_assignments.specs.Adding.{slot_ends}
use Rattle.expand_assignments.proofs.SpreadLaws.{any_next}
use Rattle.expand_assignments.proofs.arrays.some_equal.Goals as goal

pub loop-place-preserved : goal.loop-place-preserved
loop-place-preserved c =
    let e = c.args.index.now.term in
    let low = c.args.slots.now.ends.lo in
    let n = range_size (slot_ends c.args.slots.now) in
    let i = c.loop-place.place in
    let b : i < n = subst (λ m. i < m) c.len-place-end.ensures c.loop-place-test.true in
    let whole : CForm = any_of (equations e low n) in (
      subst (λ (f : CForm). fold or_form f (equations e (low +ℤ pos (i + 1)) (n - (i + 1))) ≡ whole)
          (sym c.in_ok-form-2.ensures.form)
          (any_next e low i n c.loop-place.form whole b c.loop-place.invariant.0),
      c.in_ok-form-2.ensures.truth,
    )
