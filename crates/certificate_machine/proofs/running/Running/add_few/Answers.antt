use Rattle.std.proofs.Common.{◌≡◌, ◌<◌, length, to_z, of_z, w64, ◌∙◌, arith}
use Rattle.std.proofs.lemmas.Int.{to_z-of_z}
use mir.Syntax.{w32, w128}
use Rattle.certificate_machine.specs.Sums.{wide_line}
use Rattle.certificate_machine.proofs.RunningLaws.{few-inside, few-added}
use Rattle.certificate_machine.proofs.running.Running.add_few.Goals as goal

pub invariant_of-self : goal.invariant_of-self
invariant_of-self c =
    let r = c.args.self.now in
    let m : to_z w64 (of_z w64 c.args.m) ≡ c.args.m = grind (arith, to_z-of_z) in
    let is = c.in-Ok-try_from.ensures.1 in
    let short : to_z w32 (of_z w32 c.in-Ok-try_from.short) ≡ c.in-Ok-try_from.short = grind (arith, to_z-of_z) in
    let z : to_z w128 (of_z w128 c.args.factor) ≡ c.args.factor = grind (arith, to_z-of_z) in
    let few = c.if-place-places.false in
    let size = c.places.ensures in
    let there : c.args.place < length (wide_line r.wide).factors = omega (arith, few, size) in record {
      inside = λ e. few-inside r.few c.add_factor.new.self c.args.m _ c.args.place _ c.args.factor _
          c.add_factor.result (short ∙ is ∙ m) c.in-Ok.ensures.1 z c.add_factor.ensures.added
          (length (wide_line r.wide).factors) there (r.inside e);
      unused = r.unused;
    }

pub returns-in-Ok-try_from-clause-added : goal.returns-in-Ok-try_from-clause-added
returns-in-Ok-try_from-clause-added c =
    let r = c.args.self.now in
    let m : to_z w64 (of_z w64 c.args.m) ≡ c.args.m = grind (arith, to_z-of_z) in
    let is = c.in-Ok-try_from.ensures.1 in
    let short : to_z w32 (of_z w32 c.in-Ok-try_from.short) ≡ c.in-Ok-try_from.short = grind (arith, to_z-of_z) in
    let z : to_z w128 (of_z w128 c.args.factor) ≡ c.args.factor = grind (arith, to_z-of_z) in
    let few = c.if-place-places.false in
    let size = c.places.ensures in
    let there : c.args.place < length (wide_line r.wide).factors = omega (arith, few, size) in
    few-added r.few c.add_factor.new.self c.args.m _ c.args.place _ c.args.factor _
    c.add_factor.result (short ∙ is ∙ m) c.in-Ok.ensures.1 z c.add_factor.ensures.added
    r.is_few (wide_line r.wide) c.requires.few there c.add_factor.ensures.fits
