use Rattle.std.proofs.Common.{◌≡◌, ◌+◌, pos, ◌+ℤ◌, arith, w64, to_z, of_z}
use Rattle.std.proofs.lemmas.Int.{ints}
use Rattle.leadsto_rules.specs.Disjunctions.{instance_at}
use Rattle.leadsto_rules.proofs.AnyLaws.{one_joined, some_joined, all_three}
use Rattle.leadsto_rules.proofs.disjunctions.further.Goals as goal

pub returns-in-Some-clause-after : goal.returns-in-Some-clause-after
returns-in-Some-clause-after c =
    let d = c.args.d in
    let s = c.in-Some.s in
    let within = c.in-Some.ensures.reach in
    let more = c.requires.more in
    let low = c.requires.low in
    let total = c.requires.total in
    let is = c.number_after-number.ensures in
    let next : to_z w64 (of_z w64 c.number_after-number.result) ≡ c.args.low +ℤ pos c.args.d.done =
    omega (arith, ints, is, low, total, more) in
    all_three _ _ _ _ c.settled.result c.settled.ensures.whole c.settled.ensures.done c.settled.ensures.known
    (λ x a b k. record {
      whole = some_joined (instance_at c.args.i.now) c.args.low _ d.done x.done d.whole x.whole c.requires.before.some
          next c.requires.before.whole (s.reach + 1) s.holds (omega (arith, b)) c.in-Some.ensures.truth a;
      known = k;
      some = omega (arith, b);
      within = omega (arith, b, within, more);
    })

pub returns-in_ok-g-in-None-clause-after : goal.returns-in_ok-g-in-None-clause-after
returns-in_ok-g-in-None-clause-after c =
    let d = c.args.d in
    let more = c.requires.more in
    let low = c.requires.low in
    let total = c.requires.total in
    let is = c.number_after-number.ensures in
    let next : to_z w64 (of_z w64 c.number_after-number.result) ≡ c.args.low +ℤ pos c.args.d.done =
    omega (arith, ints, is, low, total, more) in
    all_three _ _ _ _ c.joined.result c.joined.ensures.whole c.joined.ensures.done c.joined.ensures.known
    (λ x a b k. record {
      whole = one_joined (instance_at c.args.i.now) c.args.low _ d.done x.done d.whole x.whole c.requires.before.some
          next c.requires.before.whole c.in_ok-g-in-None.g b c.in_ok-g-in-None.ensures.tree a;
      known = k;
      some = omega (arith, b);
      within = omega (arith, b, more);
    })
