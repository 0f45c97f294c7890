use Rattle.std.proofs.Common.{◌≡◌, ◌++◌, ◌+◌, slice_index_or, pos, sym, subst, rules, ◌∙◌, FitsSigned, w64}
use Rattle.std.proofs.lemmas.Int.{to_z-of_z}
use Rattle.std.specs.Prelude.{All}
use Rattle.core_terms.specs.declared.documents.Arg.{Arg}
use Rattle.safety_rules.specs.Foldable.{IsFoldable}
use Rattle.safety_rules.specs.Helpers.{equation_of}
use Rattle.safety_rules.proofs.AgreeLaws.{AddsRest, rest_more, rest_past}
use Rattle.safety_rules.proofs.equations.add_equations.Goals as goal
use Rattle.safety_rules.proofs.equations.add_equations.Goals.{then-place-indices+in_ok-add_equation}
use Rattle.safety_rules.proofs.equations.add_equations.Goals.{else-place-indices}

pub loop-place-preserved : goal.loop-place-preserved
loop-place-preserved c =
    elim c.if-place-indices.branch [
      | then-place-indices+in_ok-add_equation w ↦
          let d : Arg = Arg.Number (pos 0) in
          let i = c.loop-place.place in
          let fits : FitsSigned w64 (slice_index_or c.args.indices.now i (pos 0)) = search rules in
          let is : w.add_equation.new.all ≡ c.loop-place.all
          ++ equation_of (slice_index_or c.args.args.now i d) (slice_index_or c.args.indices.now i (pos 0)) =
          subst (λ z. w.add_equation.new.all ≡ c.loop-place.all
          ++ equation_of (slice_index_or c.args.args.now i d) z)
          (to_z-of_z w64 (slice_index_or c.args.indices.now i (pos 0)) fits) w.in_ok-add_equation.ensures.forms in
          record {
            forms = rest_more c.args.args.now c.args.indices.now i d (pos 0) c.args.all.now c.loop-place.all
                c.if-place-indices.all c.loop-place-test.true w.if-place-indices.true (w.all-is ∙ is)
                c.loop-place.invariant.forms;
            foldable = subst (λ fs. All IsFoldable fs) (sym w.all-is) w.in_ok-add_equation.ensures.foldable;
          }
      | else-place-indices w ↦ record {
        forms = subst (λ fs. AddsRest c.args.args.now c.args.indices.now (c.loop-place.place + 1) c.args.all.now fs)
            (sym w.all-is)
            (rest_past c.args.args.now c.args.indices.now c.loop-place.place c.args.all.now c.loop-place.all
            w.if-place-indices.false c.loop-place.invariant.forms);
        foldable = subst (λ fs. All IsFoldable fs) (sym w.all-is) c.loop-place.invariant.foldable;
      }
    ]
