use Rattle.std.proofs.Common.{IsTrue, subst, sym, ◌∙◌}
use Rattle.std.specs.Prelude.{All}
use Rattle.std.proofs.lemmas.List.Elements.{All-push}
use Rattle.core_terms.specs.declared.programs.CWrite.{CWrite}
use Rattle.core_terms.specs.Conditions.{WriteFits, is_shown, any_place}
use Rattle.core_terms.specs.Places.{form_names_only, term_names_only}
use Rattle.examples_bounds.proofs.tables.statement_of.Goals as goal
use Rattle.examples_bounds.proofs.tables.statement_of.Goals.{then-step-slots+in_ok-write_of+in_ok-push, else-step-slots}

pub loop-step-preserved : goal.loop-step-preserved
loop-step-preserved c = elim c.if-step-slots.branch [
  | then-step-slots+in_ok-write_of+in_ok-push w ↦
      let ws = c.loop-step.writes in
      let one : CWrite = w.in_ok-write_of.field-0 in
      let shown = c.args.shown.now in
      let same = sym (w.writes-is ∙ w.in_ok-push.ensures.ok) in
      let target : IsTrue (is_shown shown one.slot) =
      subst (λ n. IsTrue (is_shown shown n)) (sym w.in_ok-write_of.ensures.slot) (c.requires.shown _
      w.if-step-slots.true) in
      record {
        fits = subst (λ us. All (WriteFits c.args.slots.now) us) same
            (All-push (WriteFits c.args.slots.now) ws one c.loop-step.invariant.fits w.in_ok-write_of.ensures.fits);
        targets = subst (λ us. All (λ (v : CWrite). IsTrue (is_shown shown v.slot)) us) same
            (All-push (λ (v : CWrite). IsTrue (is_shown shown v.slot)) ws one c.loop-step.invariant.targets target);
        conditions = subst (λ us. All (λ (v : CWrite). IsTrue (form_names_only (is_shown shown) any_place v.when)) us)
            same
            (All-push (λ (v : CWrite). IsTrue (form_names_only (is_shown shown) any_place v.when)) ws one
            c.loop-step.invariant.conditions (w.in_ok-write_of.ensures.when shown c.requires.shown));
        values = subst (λ us. All (λ (v : CWrite). IsTrue (term_names_only (is_shown shown) any_place v.value)) us) same
            (All-push (λ (v : CWrite). IsTrue (term_names_only (is_shown shown) any_place v.value)) ws one
            c.loop-step.invariant.values (w.in_ok-write_of.ensures.value shown));
      }
  | else-step-slots w ↦
      let same = sym w.writes-is in
      let shown = c.args.shown.now in
      record {
        fits = subst (λ us. All (WriteFits c.args.slots.now) us) same c.loop-step.invariant.fits;
        targets = subst (λ us. All (λ (v : CWrite). IsTrue (is_shown shown v.slot)) us) same
            c.loop-step.invariant.targets;
        conditions = subst (λ us. All (λ (v : CWrite). IsTrue (form_names_only (is_shown shown) any_place v.when)) us)
            same
            c.loop-step.invariant.conditions;
        values = subst (λ us. All (λ (v : CWrite). IsTrue (term_names_only (is_shown shown) any_place v.value)) us) same
            c.loop-step.invariant.values;
      }
]
