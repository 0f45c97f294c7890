use Rattle.std.proofs.Common.{rules, w64, FitsSigned, ap, sym, ◌∙◌}
use Rattle.std.proofs.lemmas.Int.{to_z-of_z}
use Rattle.std.proofs.lemmas.Result.{on_ok_weaker}
use Rattle.std.specs.Option.{option_map}
use Rattle.core_terms.specs.declared.trees.CTerm.TheVariants.{Scale}
use Rattle.core_terms.specs.Senses.{divided_node}
use Rattle.obligations.specs.Settling.{within, first_ite}
use Rattle.obligations.proofs.TreeLaws.{choice-in-first, choice-in-second, choice-in-multiple, choice-in-divided}
use Rattle.obligations.proofs.TreeLaws.{ite-Ite}
use Rattle.obligations.proofs.first_choice.+choices.Goals as goal

pub look-returns-in-Ite : goal.look-returns-in-Ite
look-returns-in-Ite t c =
    on_ok_weaker c.put_choice.result
    (λ h. h ∙ sym (ap first_ite c.in-Ite.is ∙ ite-Ite c.in-Ite.c c.in-Ite.a c.in-Ite.b)) c.put_choice.ensures

pub look_in_multiple-returns-in-Ok : goal.look_in_multiple-returns-in-Ok
look_in_multiple-returns-in-Ok t c =
    let fits : FitsSigned w64 c.args.k = search rules in
    let part = c.in-Ok.ensures ∙ ap first_ite c.get.ensures in
    on_ok_weaker c.put_in_multiple.result
    (λ h. h ∙ ap (λ z. option_map (within (λ x. Scale z x)) c.look.new.found)
    (to_z-of_z w64 c.args.k fits)
    ∙ choice-in-multiple c.args.k c.args.a.now c.look.new.found part) c.put_in_multiple.ensures

pub look_in_divided-returns-in-Ok : goal.look_in_divided-returns-in-Ok
look_in_divided-returns-in-Ok t c =
    let fits : FitsSigned w64 c.args.k = search rules in
    let part = c.in-Ok.ensures ∙ ap first_ite c.get.ensures in
    on_ok_weaker c.put_in_divided.result
    (λ h. h ∙ ap (λ z. option_map (within (λ x. divided_node c.args.which x z)) c.look.new.found)
    (to_z-of_z w64 c.args.k fits)
    ∙ choice-in-divided c.args.which c.args.a.now c.args.k c.look.new.found part) c.put_in_divided.ensures

pub look_on-returns-then-is_some : goal.look_on-returns-then-is_some
look_on-returns-then-is_some t c =
    on_ok_weaker c.put_in_first.result
    (λ h. h ∙ choice-in-first c.args.which c.args.a.now c.args.b.now c.args.found.now c.requires.first
    (sym c.is_some.ensures ∙ c.if-is_some.true)) c.put_in_first.ensures

pub look_on-returns-in-Ok : goal.look_on-returns-in-Ok
look_on-returns-in-Ok t c =
    let second = c.in-Ok.ensures ∙ ap first_ite c.get.ensures in
    on_ok_weaker c.put_in_second.result
    (λ h. h ∙ choice-in-second c.args.which c.args.a.now c.args.b.now c.args.found.now c.look.new.found
    c.requires.first (sym c.is_some.ensures ∙ c.if-is_some.false) second) c.put_in_second.ensures
