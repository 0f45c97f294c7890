use Rattle.std.proofs.Common.{◌≡◌, ◌<◌, ◌≤◌, length, slice_index_or, pos, subst, rules, FitsSigned, w64, arith}
use Rattle.std.proofs.lemmas.Int.{to_z-of_z}
use Rattle.core_terms.specs.declared.documents.Arg.{Arg}
use Rattle.safety_rules.specs.Helpers.{arg_agrees}
use Rattle.safety_rules.proofs.AgreeLaws.{other_count, one_fails, one_passes, all_pass}
use Rattle.safety_rules.proofs.naming.agree.Goals as goal

pub returns-then-args-indices : goal.returns-then-args-indices
returns-then-args-indices c = other_count c.args.args.now c.args.indices.now c.if-args-indices.true

pub returns-then-not-arg_agrees : goal.returns-then-not-arg_agrees
returns-then-not-arg_agrees c =
    let same = c.if-args-indices.false in
    let fewer : c.loop-place.place < length c.args.args.now = c.loop-place-test.true in
    let less : c.loop-place.place < length c.args.indices.now = omega (arith, same, fewer) in
    let d : Arg = Arg.Number (pos 0) in
    let fits : FitsSigned w64 (slice_index_or c.args.indices.now c.loop-place.place (pos 0)) = search rules in
    let is : c.arg_agrees.result ≡ arg_agrees (slice_index_or c.args.args.now c.loop-place.place d)
    (slice_index_or c.args.indices.now c.loop-place.place (pos 0)) =
    subst (λ z. c.arg_agrees.result ≡ arg_agrees (slice_index_or c.args.args.now c.loop-place.place d) z)
    (to_z-of_z w64 (slice_index_or c.args.indices.now c.loop-place.place (pos 0)) fits) c.arg_agrees.ensures in
    one_fails c.args.args.now c.args.indices.now c.loop-place.place d (pos 0) c.arg_agrees.result fewer less
    is c.if-not-arg_agrees.true c.loop-place.invariant

pub loop-place-preserved : goal.loop-place-preserved
loop-place-preserved c =
    let same = c.if-args-indices.false in
    let fewer : c.loop-place.place < length c.args.args.now = c.loop-place-test.true in
    let less : c.loop-place.place < length c.args.indices.now = omega (arith, same, fewer) in
    let d : Arg = Arg.Number (pos 0) in
    let fits : FitsSigned w64 (slice_index_or c.args.indices.now c.loop-place.place (pos 0)) = search rules in
    let is : c.arg_agrees.result ≡ arg_agrees (slice_index_or c.args.args.now c.loop-place.place d)
    (slice_index_or c.args.indices.now c.loop-place.place (pos 0)) =
    subst (λ z. c.arg_agrees.result ≡ arg_agrees (slice_index_or c.args.args.now c.loop-place.place d) z)
    (to_z-of_z w64 (slice_index_or c.args.indices.now c.loop-place.place (pos 0)) fits) c.arg_agrees.ensures in
    one_passes c.args.args.now c.args.indices.now c.loop-place.place d (pos 0) c.arg_agrees.result fewer less
    is c.if-not-arg_agrees.false c.loop-place.invariant

pub returns : goal.returns
returns c =
    let same = c.if-args-indices.false in
    let past : length c.args.args.now ≤ c.loop-place.place = c.loop-place-test.false in
    let over : length c.args.indices.now ≤ c.loop-place.place = omega (arith, same, past) in
    all_pass c.args.args.now c.args.indices.now c.loop-place.place past over c.loop-place.invariant
