use Rattle.std.proofs.Common.{◌≡◌, ◌+◌, ◌++◌, ◌∷◌, [], List, length, subst, sym, ap, ◌∙◌, arith, length-append}
use Rattle.std.specs.Prelude.{All}
use Rattle.std.proofs.lemmas.List.Elements.{All-push}
use Rattle.core_terms.specs.declared.programs.CStmt.{CStmt}
use Rattle.core_terms.specs.Conditions.{StatementFits, NamesShown}
use Rattle.examples_bounds.specs.Tables.{AreNumbered}
use Rattle.examples_bounds.proofs.TableLaws.{labels_push}
use Rattle.examples_bounds.proofs.tables.statements_of.Goals as goal

pub loop-label-preserved : goal.loop-label-preserved
loop-label-preserved c =
    let ss = c.loop-label.statements in
    let one : CStmt = c.in_ok-statement.statement in
    let same = sym (c.in_ok-push.ensures.ok ∙ ap (λ (s : CStmt). ss ++ s ∷ []) c.in_ok-new.ensures) in
    let long : length (ss ++ one ∷ []) ≡ length ss + 1 = length-append ss (one ∷ []) in
    let sum : length (ss ++ one ∷ []) ≡ c.loop-label.label + 1 = omega (arith, long, c.loop-label.invariant.count) in
    record {
      count = subst (λ (us : List CStmt). length us ≡ c.loop-label.label + 1) same sum;
      labels = subst AreNumbered same
          (labels_push ss one c.loop-label.invariant.labels
          (c.in_ok-statement.ensures.label ∙ sym c.loop-label.invariant.count));
      fits = subst (λ us. All (StatementFits c.args.slots.now) us) same
          (All-push (StatementFits c.args.slots.now) ss one c.loop-label.invariant.fits c.in_ok-statement.ensures.fits);
      shown = subst (λ us. All (NamesShown c.args.shown.now) us) same
          (All-push (NamesShown c.args.shown.now) ss one c.loop-label.invariant.shown c.in_ok-statement.ensures.shown);
    }
