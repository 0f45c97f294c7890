use Rattle.std.proofs.Common.{◌≡◌, ◌≤◌, ◌^◌, ◌++◌, ◌∷◌, [], List, map, ap, sym, subst, ◌∙◌, append_assoc, arith}
use Rattle.core_terms.specs.declared.trees.Range.{Range}
use Rattle.core_terms.specs.declared.trees.CForm.{CForm}
use Rattle.core_terms.specs.declared.programs.CSlot.{CSlot}
use Rattle.core_terms.specs.declared.programs.CStmt.{CStmt}
use Rattle.core_terms.specs.Folding.{not_form, or_form}
use Rattle.core_terms.specs.Weights.{plain_weight}
use Rattle.wp_substitution.specs.Preconditions.{wp_form}
use Rattle.rules_table.specs.Forms.{imply}
use Rattle.safety_rules.specs.Goals.{Added}
use Rattle.safety_rules.specs.Usable.{IsUsable}
use Rattle.safety_rules.proofs.UsableLaws.{usable, both_usable, light_not, light_or}
use Rattle.safety_rules.proofs.texts.add_unless.Goals as goal

pub not_form-requires : goal.not_form-requires
not_form-requires c =
    let light = (usable c.args.pl.now.slots.now c.args.pl.now.params.now c.args.q.now c.requires.q).light in
    subst (λ f. plain_weight f ≤ 2 ^ 126) (sym c.in_ok-copy_form.ensures) (omega (arith, light))

pub either-requires : goal.either-requires
either-requires c =
    let one = (usable c.args.pl.now.slots.now c.args.pl.now.params.now c.args.p.now c.requires.p).light in
    let two = (usable c.args.pl.now.slots.now c.args.pl.now.params.now c.args.q.now c.requires.q).light in
    omega (arith, one, two)

premises_are : (using first all rest : List CForm) (p n f : CForm) → first ≡ using ++ p ∷ [] → n ≡ f →
    all ≡ first ++ n ∷ [] → rest ≡ all → rest ≡ using ++ (p ∷ f ∷ [])
premises_are using first all rest p n f e g h i =
    i ∙ h ∙ ap (λ fs. fs ++ n ∷ []) e ∙ append_assoc using (p ∷ []) (n ∷ []) ∙ ap (λ x. using ++ (p ∷ x ∷ [])) g

pub add_kept-requires-clause-premises : goal.add_kept-requires-clause-premises
add_kept-requires-clause-premises c =
    let slots : List CSlot = c.args.pl.now.slots.now in
    let params : List Range = c.args.pl.now.params.now in
    let using : List CForm = c.args.pl.now.using.now in
    let p : CForm = c.args.p.now in
    let q : CForm = c.args.q.now in
    let are = premises_are using c.in_ok-premises.premises c.push.new.self c.as_slice.result.now p
    c.in_ok-not_form.field-0 (not_form q) c.in_ok-premises.ensures
    (c.in_ok-not_form.ensures.tree
    ∙ ap not_form c.in_ok-copy_form.ensures) c.in_ok-push.ensures.ok c.as_slice.ensures in
    both_usable slots params using p (not_form q) c.as_slice.result.now are c.requires.place.using
    (usable slots params p c.requires.p) (light_not slots params q (usable slots params q c.requires.q))

pub add_kept-requires-clause-q : goal.add_kept-requires-clause-q
add_kept-requires-clause-q c =
    let slots : List CSlot = c.args.pl.now.slots.now in
    let params : List Range = c.args.pl.now.params.now in
    subst (λ f. IsUsable slots params f) (sym (c.get.ensures ∙ c.in_ok-either.ensures.tree))
    (light_or slots params c.args.p.now c.args.q.now (usable slots params c.args.p.now c.requires.p)
    (usable slots params c.args.q.now c.requires.q))

pub returns : goal.returns
returns c =
    let slots : List CSlot = c.args.pl.now.slots.now in
    let params : List Range = c.args.pl.now.params.now in
    let using : List CForm = c.args.pl.now.using.now in
    let statements : List CStmt = c.args.pl.now.program.now.statements in
    let p : CForm = c.args.p.now in
    let q : CForm = c.args.q.now in
    let are = premises_are using c.in_ok-premises.premises c.push.new.self c.as_slice.result.now p
    c.in_ok-not_form.field-0 (not_form q) c.in_ok-premises.ensures
    (c.in_ok-not_form.ensures.tree
    ∙ ap not_form c.in_ok-copy_form.ensures) c.in_ok-push.ensures.ok c.as_slice.ensures in
    subst (λ ps. Added c.add_kept.result c.args.goals.now c.add_kept.new.goals slots params
    (map (λ (s : CStmt). imply ps (wp_form slots s (imply using (or_form p q)))) statements)) are
    (subst (λ f. Added c.add_kept.result c.args.goals.now c.add_kept.new.goals slots params
    (map (λ (s : CStmt). imply c.as_slice.result.now (wp_form slots s (imply using f))) statements))
    (c.get.ensures ∙ c.in_ok-either.ensures.tree) c.add_kept.ensures)
