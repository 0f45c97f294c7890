use Rattle.std.proofs.Common.{◌++◌, ◌∷◌, [], List, sym, subst}
use Rattle.std.proofs.lemmas.List.Elements.{All-push}
use Rattle.core_terms.specs.declared.trees.Range.{Range}
use Rattle.core_terms.specs.declared.trees.CForm.{CForm}
use Rattle.core_terms.specs.declared.programs.CSlot.{CSlot}
use Rattle.safety_rules.specs.Goals.{Added}
use Rattle.safety_rules.specs.Usable.{IsUsable, NamesExist}
use Rattle.safety_rules.proofs.UsableLaws.{all_usable, all_exist, exist_imply}
use Rattle.safety_rules.proofs.weakening.add_follows.Goals as goal

pub add_goal-requires-clause-names : goal.add_goal-requires-clause-names
add_goal-requires-clause-names c =
    let slots : List CSlot = c.args.pl.now.slots.now in
    let params : List Range = c.args.pl.now.params.now in
    let using : List CForm = c.args.pl.now.using.now in
    subst (λ f. NamesExist slots params f) (sym c.in_ok-form.ensures)
    (exist_imply slots params (using ++ c.args.q.now ∷ []) c.args.r.now
    (all_exist slots params (using ++ c.args.q.now ∷ [])
    (All-push (IsUsable slots params) using c.args.q.now (all_usable slots params using c.requires.place.using)
    c.requires.q)) c.requires.r.names)

pub returns : goal.returns
returns c =
    let slots : List CSlot = c.args.pl.now.slots.now in
    let params : List Range = c.args.pl.now.params.now in
    subst (λ f. Added c.add_goal.result c.args.goals.now c.add_goal.new.goals slots params
    (f ∷ [])) c.in_ok-form.ensures
    c.add_goal.ensures
