use Rattle.std.proofs.Common.{◌≡◌, pos, ◌*ℤ◌, insert, refl, to_z, of_z, w64, ap, ◌∙◌, arith}
use Rattle.std.proofs.lemmas.Int.{to_z-of_z}
use mir.Syntax.{w32, w128}
use Rattle.certificate_machine.specs.Terms.{rises}
use Rattle.certificate_machine.proofs.TermLaws.{term-before, term-rises, number-before, number-zero, plain-sum}
use Rattle.certificate_machine.proofs.TermLaws.{plain-fits, from-zero, on-ok}
use Rattle.certificate_machine.proofs.few.Few.put_before.Goals as goal

pub invariant_of-self : goal.invariant_of-self
invariant_of-self c =
    let f = c.args.self.now in
    let ts = f.terms.items in
    let d = c.args.m *ℤ c.args.factor in
    let m : to_z w32 (of_z w32 c.args.m) ≡ c.args.m = grind (arith, to_z-of_z) in
    let z : to_z w128 (of_z w128 c.args.factor) ≡ c.args.factor = grind (arith, to_z-of_z) in
    let same : to_z w64 (of_z w64 c.in-Some.by) ≡ c.in-Some.by = grind (arith, to_z-of_z) in
    let by = same ∙ plain-sum c.args.m _ c.args.factor _ c.in-Some.by (pos 0) m z c.in-Some.ensures.sum ∙ from-zero d in
    let put = on-ok c.insert.result (c.insert.ensures.succeeds (c.if-not-has_room.ensures refl)) c.insert.ensures.ok in
    record {
      rising = ap rises (put ∙ ap (λ n. insert ts c.args.at (c.args.place, n)) by
          ∙ term-before ts c.args.at c.args.place d c.requires.below c.requires.inside c.requires.above)
          ∙ term-rises ts c.args.place d f.rising;
    }

pub returns-in-Ok-clause-added : goal.returns-in-Ok-clause-added
returns-in-Ok-clause-added c =
    let ts = c.args.self.now.terms.items in
    let d = c.args.m *ℤ c.args.factor in
    let m : to_z w32 (of_z w32 c.args.m) ≡ c.args.m = grind (arith, to_z-of_z) in
    let z : to_z w128 (of_z w128 c.args.factor) ≡ c.args.factor = grind (arith, to_z-of_z) in
    let same : to_z w64 (of_z w64 c.in-Some.by) ≡ c.in-Some.by = grind (arith, to_z-of_z) in
    let by = same ∙ plain-sum c.args.m _ c.args.factor _ c.in-Some.by (pos 0) m z c.in-Some.ensures.sum ∙ from-zero d in
    c.in-Ok.ensures.ok ∙ ap (λ n. insert ts c.args.at (c.args.place, n)) by
    ∙ term-before ts c.args.at c.args.place d c.requires.below c.requires.inside c.requires.above

pub returns-in-Ok-clause-fits : goal.returns-in-Ok-clause-fits
returns-in-Ok-clause-fits c =
    let ts = c.args.self.now.terms.items in
    let m : to_z w32 (of_z w32 c.args.m) ≡ c.args.m = grind (arith, to_z-of_z) in
    let z : to_z w128 (of_z w128 c.args.factor) ≡ c.args.factor = grind (arith, to_z-of_z) in
    λ e. number-zero c.args.m c.args.factor ts c.args.place
    (number-before ts c.args.at c.args.place c.args.self.now.rising c.requires.below c.requires.above)
    (plain-fits c.args.m _ c.args.factor _ (pos 0) m z c.in-Some.ensures.fits)
