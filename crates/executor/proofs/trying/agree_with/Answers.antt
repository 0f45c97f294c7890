use Rattle.std.proofs.Common.{◌≡◌, ◌+◌, ◌&&◌, ◌∙◌, Some, ap, drop, false, refl, rules, subst, sym, to_z, of_z}
use Rattle.std.specs.Int.{w128}
use Rattle.std.specs.List.{list_all}
use Rattle.std.proofs.lemmas.Option.{slice_get_read}
use Rattle.meaning_states.specs.Step.{agrees}
use Rattle.core_terms.specs.Steps.{inside_writes}
use Rattle.executor.proofs.TryingLaws.{all_from}
use Rattle.executor.proofs.trying.agree_with.Goals as goal

pub agrees_with-requires-clause-fits : goal.agrees_with-requires-clause-fits
agrees_with-requires-clause-fits c =
    c.requires.fits _ _ (slice_get_read _ _ _ _ refl c.loop-write-test.true c.write-item.is)

pub returns-then-not-agrees_with : goal.returns-then-not-agrees_with
returns-then-not-agrees_with c =
    let there = slice_get_read _ _ _ _ refl c.loop-write-test.true c.write-item.is in
    let wide = to_z w128 (of_z w128 c.args.number) in
    let number : to_z w128 (of_z w128 c.args.number) ≡ c.args.number = search rules in
    subst (λ z. false ≡ list_all (agrees (Some c.args.slot, z)) (inside_writes c.args.state.now c.args.writes.now))
    number
    (ap (λ b. b && list_all (agrees (Some c.args.slot, wide))
    (inside_writes c.args.state.now (drop (c.loop-write.write-index + 1) c.args.writes.now)))
    c.if-not-agrees_with.ensures
    ∙ sym (all_from (agrees (Some c.args.slot, wide)) c.args.state.now c.args.writes.now c.loop-write.write-index _
    there)
    ∙ c.loop-write.invariant)
