use Rattle.std.proofs.Common.{rules, w64, FitsSigned, ap, sym, ◌∙◌}
use Rattle.std.proofs.lemmas.Int.{to_z-of_z}
use Rattle.std.proofs.lemmas.Result.{on_ok_weaker}
use Rattle.std.specs.Option.{option_map}
use Rattle.core_terms.specs.declared.trees.CTerm.TheVariants.{Scale}
use Rattle.core_terms.specs.Senses.{divided_node}
use Rattle.obligations.specs.Settling.{taken_within, first_taken, or_whole}
use Rattle.obligations.proofs.TakenLaws.{taken-in-first, taken-in-second, taken-in-multiple, taken-in-divided}
use Rattle.obligations.proofs.TakenLaws.{whole_divided}
use Rattle.obligations.proofs.first_quotient.+quotients.Goals as goal

pub look_in_multiple-returns-in-Ok : goal.look_in_multiple-returns-in-Ok
look_in_multiple-returns-in-Ok t c =
    let fits : FitsSigned w64 c.args.k = search rules in
    let part = c.in-Ok.ensures ∙ ap (first_taken c.args.v) c.get.ensures in
    on_ok_weaker c.put_in_multiple.result
    (λ h. h ∙ ap (λ z. option_map (taken_within (λ x. Scale z x)) c.look.new.found)
    (to_z-of_z w64 c.args.k fits)
    ∙ taken-in-multiple c.args.v c.args.k c.args.a.now c.look.new.found part) c.put_in_multiple.ensures

pub look_in_divided-returns-in-Ok : goal.look_in_divided-returns-in-Ok
look_in_divided-returns-in-Ok t c =
    let fits : FitsSigned w64 c.args.k = search rules in
    let part = c.in-Ok.ensures ∙ ap (first_taken c.args.v) c.get.ensures in
    on_ok_weaker c.put_in_divided.result
    (λ h. h ∙ ap (λ z. or_whole (λ x. divided_node c.args.which x z) c.look.new.found
    (whole_divided c.args.which c.args.v c.args.a.now z)) (to_z-of_z w64 c.args.k fits)
    ∙ taken-in-divided c.args.v c.args.which c.args.a.now c.args.k c.look.new.found part) c.put_in_divided.ensures

pub look_on-returns-then-is_some : goal.look_on-returns-then-is_some
look_on-returns-then-is_some t c =
    on_ok_weaker c.put_in_first.result
    (λ h. h ∙ taken-in-first c.args.v c.args.which c.args.a.now c.args.b.now c.args.found.now c.requires.first
    (sym c.is_some.ensures ∙ c.if-is_some.true)) c.put_in_first.ensures

pub look_on-returns-in-Ok : goal.look_on-returns-in-Ok
look_on-returns-in-Ok t c =
    let second = c.in-Ok.ensures ∙ ap (first_taken c.args.v) c.get.ensures in
    on_ok_weaker c.put_in_second.result
    (λ h. h ∙ taken-in-second c.args.v c.args.which c.args.a.now c.args.b.now c.args.found.now c.look.new.found
    c.requires.first (sym c.is_some.ensures ∙ c.if-is_some.false) second) c.put_in_second.ensures
