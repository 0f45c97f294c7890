use Rattle.std.proofs.Common.{◌≡◌, pos, ◌*ℤ◌, ◌∷◌, ◌++◌, [], to_z, of_z, w64, ap, ◌∙◌, arith}
use Rattle.std.proofs.lemmas.Int.{to_z-of_z}
use mir.Syntax.{w32, w128}
use Rattle.certificate_machine.specs.Terms.{rises}
use Rattle.certificate_machine.proofs.TermLaws.{term-last, term-rises, number-last, number-zero, plain-sum, plain-fits}
use Rattle.certificate_machine.proofs.TermLaws.{from-zero}
use Rattle.certificate_machine.proofs.few.Few.put_last.Goals as goal

pub invariant_of-self : goal.invariant_of-self
invariant_of-self c =
    let f = c.args.self.now in
    let ts = f.terms.items in
    let d = c.args.m *ℤ c.args.factor in
    let m : to_z w32 (of_z w32 c.args.m) ≡ c.args.m = grind (arith, to_z-of_z) in
    let z : to_z w128 (of_z w128 c.args.factor) ≡ c.args.factor = grind (arith, to_z-of_z) in
    let same : to_z w64 (of_z w64 c.in-Some.by) ≡ c.in-Some.by = grind (arith, to_z-of_z) in
    let by = same ∙ plain-sum c.args.m _ c.args.factor _ c.in-Some.by (pos 0) m z c.in-Some.ensures.sum ∙ from-zero d in
    record {
      rising = ap rises (c.push_reserved.ensures.items ∙ ap (λ n. ts ++ (c.args.place, n) ∷ []) by
          ∙ term-last ts c.args.place d c.requires.below) ∙ term-rises ts c.args.place d f.rising;
    }

pub returns-clause-added : goal.returns-clause-added
returns-clause-added c =
    let ts = c.args.self.now.terms.items in
    let d = c.args.m *ℤ c.args.factor in
    let m : to_z w32 (of_z w32 c.args.m) ≡ c.args.m = grind (arith, to_z-of_z) in
    let z : to_z w128 (of_z w128 c.args.factor) ≡ c.args.factor = grind (arith, to_z-of_z) in
    let same : to_z w64 (of_z w64 c.in-Some.by) ≡ c.in-Some.by = grind (arith, to_z-of_z) in
    let by = same ∙ plain-sum c.args.m _ c.args.factor _ c.in-Some.by (pos 0) m z c.in-Some.ensures.sum ∙ from-zero d in
    c.push_reserved.ensures.items ∙ ap (λ n. ts ++ (c.args.place, n) ∷ []) by
    ∙ term-last ts c.args.place d c.requires.below

pub returns-clause-fits : goal.returns-clause-fits
returns-clause-fits c =
    let ts = c.args.self.now.terms.items in
    let m : to_z w32 (of_z w32 c.args.m) ≡ c.args.m = grind (arith, to_z-of_z) in
    let z : to_z w128 (of_z w128 c.args.factor) ≡ c.args.factor = grind (arith, to_z-of_z) in
    λ e. number-zero c.args.m c.args.factor ts c.args.place (number-last ts c.args.place c.requires.below)
    (plain-fits c.args.m _ c.args.factor _ (pos 0) m z c.in-Some.ensures.fits)
