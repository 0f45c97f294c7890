use Rattle.std.proofs.Common.{◌≡◌, ℤ, Some, None, [], ◌∷◌, MatchBool, to_z, of_z, w64, subst, arith}
use Rattle.std.proofs.lemmas.Int.{to_z-of_z}
use mir.Syntax.{w128}
use Rattle.certificate_rules.specs.Sums.{add_factors}
use Rattle.certificate_machine.proofs.SpanLaws.{spans-added}
use Rattle.certificate_machine.proofs.wide.Wide.add_at.Goals as goal

pub invariant_of-self : goal.invariant_of-self
invariant_of-self c =
    let w = c.widen.new.self in
    let zs = w.line.factors in
    let new = c.add_multiple.new.sum in
    let r = c.add_multiple.result in
    let m : to_z w64 (of_z w64 c.args.m) ≡ c.args.m = grind (arith, to_z-of_z) in
    let f : to_z w128 (of_z w128 c.args.factor) ≡ c.args.factor = grind (arith, to_z-of_z) in
    let Added : ℤ → ℤ → Type 0 = λ m f. MatchBool r (add_factors m ((c.args.place, f) ∷ []) zs ≡ Some new)
    (add_factors m ((c.args.place, f) ∷ []) zs ≡ None) in
    let added = subst (λ m. Added m c.args.factor) m
    (subst (Added (to_z w64 (of_z w64 c.args.m))) f c.add_multiple.ensures.added) in
    let s = spans-added c.args.m c.args.place c.args.factor zs new w.low w.high c.widen.ensures.inside r added
    c.add_multiple.ensures.kept (record { before = w.before; behind = w.behind; inside = w.inside }) in
    record { before = s.before; behind = s.behind; inside = s.inside }
