use Rattle.std.proofs.Common.{◌≤◌, ◌^◌, List, ap, sym, subst, ◌∙◌}
use Rattle.std.proofs.lemmas.Result.{IfOk-weaker}
use Rattle.core_terms.specs.declared.trees.CForm.{CForm}
use Rattle.core_terms.specs.declared.programs.CSlot.{CSlot}
use Rattle.core_terms.specs.declared.trees.Range.{Range}
use Rattle.core_terms.specs.Weights.{plain_weight}
use Rattle.rules_table.specs.Forms.{imply}
use Rattle.safety_rules.specs.Premises.{implied_by}
use Rattle.safety_rules.specs.Usable.{IsUsable, NamesExist}
use Rattle.safety_rules.proofs.UsableLaws.{all_usable, all_light, all_exist, exist_imply, imply-is}
use Rattle.safety_rules.proofs.texts.after.Goals as goal

pub joined-requires : goal.joined-requires
joined-requires c =
    all_light c.args.pl.now.slots.now c.args.pl.now.params.now c.args.pl.now.using.now
    (all_usable c.args.pl.now.slots.now c.args.pl.now.params.now c.args.pl.now.using.now c.requires.place.using)

pub returns-clause-tree : goal.returns-clause-tree
returns-clause-tree c =
    let tree = c.in_ok-imply.ensures.tree ∙ ap (λ w. implied_by w c.in_ok-q.q) c.in_ok-using.ensures.whole
    ∙ imply-is c.args.pl.now.using.now c.in_ok-q.q ∙ ap (imply c.args.pl.now.using.now) c.in_ok-q.ensures in
    IfOk-weaker c.new.result _ _ (λ f h. h ∙ tree) c.new.ensures

pub returns-clause-usable : goal.returns-clause-usable
returns-clause-usable c =
    let slots : List CSlot = c.args.pl.now.slots.now in
    let params : List Range = c.args.pl.now.params.now in
    let using : List CForm = c.args.pl.now.using.now in
    let tree = c.in_ok-imply.ensures.tree ∙ ap (λ w. implied_by w c.in_ok-q.q) c.in_ok-using.ensures.whole
    ∙ imply-is using c.in_ok-q.q ∙ ap (imply using) c.in_ok-q.ensures in
    let q_light : plain_weight c.in_ok-q.q ≤ 2 ^ 62 =
    subst (λ f. plain_weight f ≤ 2 ^ 62) (sym c.in_ok-q.ensures) c.requires.q.light in
    let whole : IsUsable slots params c.in_ok-imply.field-0 = record {
      names = subst (λ f. NamesExist slots params f) (sym tree)
          (exist_imply slots params using c.args.q.now
          (all_exist slots params using (all_usable slots params using c.requires.place.using)) c.requires.q.names);
      light = c.in_ok-imply.ensures.light q_light;
    } in
    IfOk-weaker c.new.result _ _ (λ f h. subst (λ g. IsUsable slots params g) (sym h) whole) c.new.ensures
