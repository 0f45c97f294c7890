use Rattle.std.proofs.Common.{◌≤◌, ◌^◌, List, None, ap, sym, subst, ◌∙◌, arith}
use Rattle.std.proofs.lemmas.Result.{IfOk-weaker}
use Rattle.core_terms.specs.declared.trees.CForm.{CForm}
use Rattle.core_terms.specs.declared.programs.CSlot.{CSlot}
use Rattle.core_terms.specs.declared.trees.Range.{Range}
use Rattle.core_terms.specs.Weights.{plain_weight}
use Rattle.rules_table.specs.Forms.{imply}
use Rattle.safety_rules.specs.Premises.{implied_by}
use Rattle.safety_rules.specs.Usable.{IsUsable}
use Rattle.std.proofs.Common.{◌<◌, length, slice_index_or}
use Rattle.std.proofs.lemmas.List.Elements.{All-push}
use Rattle.wp_substitution.specs.Joined.{joined_all}
use Rattle.safety_rules.proofs.UsableLaws.{usable, usable_closed, all_usable, all_light, imply-is}
use Rattle.safety_rules.proofs.texts.starts.Goals as goal

pub joined-requires : goal.joined-requires
joined-requires c =
    let slots : List CSlot = c.args.pl.now.slots.now in
    let params : List Range = c.args.pl.now.params.now in
    let using : List CForm = c.args.pl.now.using.now in
    let initially : CForm = c.args.pl.now.program.now.initially in
    let are = c.as_slice.ensures ∙ c.in_ok-premises.ensures in
    all_light slots params c.as_slice.result.now
    (λ k d. subst (λ (fs : List CForm). k < length fs → IsUsable slots params (slice_index_or fs k d)) (sym are)
    (All-push (IsUsable slots params) using initially (all_usable slots params using c.requires.place.using)
    (usable_closed slots params initially c.requires.place.program.initially) k d))

pub imply-requires-clause-formula : goal.imply-requires-clause-formula
imply-requires-clause-formula c =
    let light = (usable c.args.pl.now.slots.now c.args.pl.now.params.now c.args.p.now c.requires.p).light in
    subst (λ f. plain_weight f ≤ 2 ^ 125) (sym c.in_ok-p.ensures) (omega (arith, light))

pub returns : goal.returns
returns c =
    let are = c.as_slice.ensures ∙ c.in_ok-premises.ensures in
    let whole = c.in_ok-whole.ensures.whole ∙ ap (joined_all None) are in
    let tree = ap (λ w. implied_by w c.in_ok-p.p) whole ∙ imply-is _ c.in_ok-p.p ∙ ap (imply _) c.in_ok-p.ensures in
    IfOk-weaker c.imply.result _ _ (λ f h. h ∙ tree) c.imply.ensures.tree
