use Rattle.std.proofs.Common.{◌+◌, ◌-◌, ◌++◌, ◌∙◌, ap, drop, length, List, refl, sym}
use Rattle.std.proofs.lemmas.Option.{slice_get_read}
use Rattle.meaning_states.specs.Step.{all_agree}
use Rattle.core_terms.specs.declared.programs.CWrite.{CWrite}
use Rattle.core_terms.specs.Steps.{inside_writes}
use Rattle.executor.specs.Preparing.{write_at}
use Rattle.executor.proofs.TryingLaws.{next_from, from_take, from_drop, rest_from}
use Rattle.executor.proofs.trying.agree_in_pairs.Goals as goal

pub agrees_with_later-requires-clause-fits : goal.agrees_with_later-requires-clause-fits
agrees_with_later-requires-clause-fits c =
    c.requires.fits _ _ (slice_get_read _ _ _ _ refl c.loop-place-test.true c.index-writes-place.is)

pub agrees_with_later-requires-clause-later : goal.agrees_with_later-requires-clause-later
agrees_with_later-requires-clause-later c = λ place w e.
    let there = from_drop c.args.writes.now (c.loop-place.place + 1) place w
    (from_take (drop (c.loop-place.place + 1) c.args.writes.now)
    (length c.args.writes.now - (c.loop-place.place + 1)) place w e) in
    c.requires.fits there.0 w there.1

pub returns-then-not-agrees_with_later : goal.returns-then-not-agrees_with_later
returns-then-not-agrees_with_later c =
    let there = slice_get_read _ _ _ _ refl c.loop-place-test.true c.index-writes-place.is in
    c.if-not-agrees_with_later.ensures
    ∙ ap (λ (ws : List CWrite). all_agree (write_at c.args.state.now c.index-writes-place.result
    ++ inside_writes c.args.state.now ws)) (rest_from c.args.writes.now (c.loop-place.place + 1))
    ∙ ap all_agree (sym (next_from c.args.state.now c.args.writes.now c.loop-place.place _ there))
    ∙ c.loop-place.invariant

pub loop-place-preserved : goal.loop-place-preserved
loop-place-preserved c =
    let there = slice_get_read _ _ _ _ refl c.loop-place-test.true c.index-writes-place.is in
    ap (λ (ws : List CWrite). all_agree (inside_writes c.args.state.now ws))
    (sym (rest_from c.args.writes.now (c.loop-place.place + 1)))
    ∙ c.if-not-agrees_with_later.ensures
    ∙ ap (λ (ws : List CWrite). all_agree (write_at c.args.state.now c.index-writes-place.result
    ++ inside_writes c.args.state.now ws)) (rest_from c.args.writes.now (c.loop-place.place + 1))
    ∙ ap all_agree (sym (next_from c.args.state.now c.args.writes.now c.loop-place.place _ there))
    ∙ c.loop-place.invariant
