use Rattle.std.proofs.Common.{◌≡◌, ◌+ℤ◌, ◌*ℤ◌, to_z, of_z, w64, slice_set, ap, ◌∙◌, arith}
use Rattle.std.proofs.lemmas.Int.{to_z-of_z}
use mir.Syntax.{w32, w128}
use Rattle.certificate_rules.specs.Additions.{fits_added}
use Rattle.certificate_machine.specs.Terms.{rises}
use Rattle.certificate_machine.proofs.TermLaws.{term-changed, term-rises, number-there, plain-sum, plain-fits}
use Rattle.certificate_machine.proofs.few.Few.change.Goals as goal

pub set-requires-clause-rising : goal.set-requires-clause-rising
set-requires-clause-rising c =
    let ts = c.args.self.now.terms.items in
    let t = c.args.term in
    let d = c.args.m *ℤ c.args.factor in
    let m : to_z w32 (of_z w32 c.args.m) ≡ c.args.m = grind (arith, to_z-of_z) in
    let z : to_z w128 (of_z w128 c.args.factor) ≡ c.args.factor = grind (arith, to_z-of_z) in
    let n : to_z w64 (of_z w64 t.1) ≡ t.1 = grind (arith, to_z-of_z) in
    let same : to_z w64 (of_z w64 c.in-Some.total) ≡ c.in-Some.total = grind (arith, to_z-of_z) in
    let sum = same ∙ plain-sum c.args.m _ c.args.factor _ c.in-Some.total _ m z c.in-Some.ensures.sum
    ∙ ap (λ n. n +ℤ d) n in
    ap rises (ap (λ z. slice_set ts c.args.at (t.0, z)) sum
    ∙ term-changed ts c.args.at t.0 t.1 d c.requires.below c.requires.there)
    ∙ term-rises ts t.0 d c.args.self.now.rising

pub returns-in-Some-clause-added : goal.returns-in-Some-clause-added
returns-in-Some-clause-added c =
    let ts = c.args.self.now.terms.items in
    let t = c.args.term in
    let d = c.args.m *ℤ c.args.factor in
    let m : to_z w32 (of_z w32 c.args.m) ≡ c.args.m = grind (arith, to_z-of_z) in
    let z : to_z w128 (of_z w128 c.args.factor) ≡ c.args.factor = grind (arith, to_z-of_z) in
    let n : to_z w64 (of_z w64 t.1) ≡ t.1 = grind (arith, to_z-of_z) in
    let same : to_z w64 (of_z w64 c.in-Some.total) ≡ c.in-Some.total = grind (arith, to_z-of_z) in
    let sum = same ∙ plain-sum c.args.m _ c.args.factor _ c.in-Some.total _ m z c.in-Some.ensures.sum
    ∙ ap (λ n. n +ℤ d) n in
    c.set.ensures.terms ∙ ap (λ z. slice_set ts c.args.at (t.0, z)) sum
    ∙ term-changed ts c.args.at t.0 t.1 d c.requires.below c.requires.there

pub returns-in-Some-clause-fits : goal.returns-in-Some-clause-fits
returns-in-Some-clause-fits c =
    let t = c.args.term in
    let m : to_z w32 (of_z w32 c.args.m) ≡ c.args.m = grind (arith, to_z-of_z) in
    let z : to_z w128 (of_z w128 c.args.factor) ≡ c.args.factor = grind (arith, to_z-of_z) in
    let n : t.1 ≡ to_z w64 (of_z w64 t.1) = grind (arith, to_z-of_z) in
    λ e. ap (fits_added c.args.m c.args.factor)
    (number-there c.args.self.now.terms.items c.args.at t.0 t.1 c.requires.below c.requires.there ∙ n)
    ∙ plain-fits c.args.m _ c.args.factor _ _ m z c.in-Some.ensures.fits
